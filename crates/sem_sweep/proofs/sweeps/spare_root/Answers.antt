use Rattle.sem_sweep.proofs.Swept.{restored-kept}
use Rattle.sem_sweep.proofs.sweeps.spare_root.Goals as goal

pub returns-then-finished-clause-kept : goal.returns-then-finished-clause-kept
returns-then-finished-clause-kept c T i can = rw c.restore.ensures.caps (restored-kept T i c.args.caps.now.caps _ can)
