use Rattle.std.proofs.Common.{rules}
use Rattle.sem_obtain.proofs.Ending.{ended-ready}
use Rattle.sem_obtain.proofs.resumes.obtain_resume.Goals as goal

-- the capability is installed
pub returns-clause-row : goal.returns-clause-row
returns-clause-row c T s =
    let r = c.in-Some-ObtainReady in
    ended-ready T s c.args.vpe c.args.caps.now c.install.new.caps c.args.vpes.now c.install.new.vpes c.args.park.now c.clear.new.self r.key r.parent r.object
    r.sel c.answered-2.result (search rules) c.clear.ensures.states c.install.ensures.row c.answered-2.ensures
