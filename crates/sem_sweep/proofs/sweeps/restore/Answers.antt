use Rattle.std.proofs.Common.{◌≡◌, None, sym, rules}
use Rattle.sem_key.specs.CapList.{cap_of}
use Rattle.sem_sweep.proofs.Swept.{restored-absent}
use Rattle.sem_sweep.proofs.sweeps.restore.Goals as goal

-- nothing is restored where nothing is held
pub returns-else-is_some-clause-caps : goal.returns-else-is_some-clause-caps
returns-else-is_some-clause-caps c = let none : cap_of c.args.caps.now.caps c.args.root ≡ None = search rules in
    sym (restored-absent c.args.caps.now.caps c.args.root none)
