use Rattle.std.proofs.Common.{rules}
use Rattle.sem_obtain.proofs.Granting.{given-waiting}
use Rattle.sem_obtain.proofs.upcalls.give_here.Goals as goal

-- the child is installed
pub returns-in-Some-ObtainWait-clause-row : goal.returns-in-Some-ObtainWait-clause-row
returns-in-Some-ObtainWait-clause-row c s =
    let w = c.in-Some-ObtainWait in
    given-waiting s c.args.caps.now c.install.new.caps c.args.vpes.now c.install.new.vpes c.args.park.now c.park.new.self c.args.key c.args.parent c.args.object
    w.field-0-0 w.sel (search rules) (search rules) c.install.ensures.row
