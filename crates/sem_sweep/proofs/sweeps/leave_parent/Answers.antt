use Rattle.sem_sweep.proofs.Swept.{unlinked-kept}
use Rattle.sem_sweep.proofs.sweeps.leave_parent.Goals as goal

pub returns-then-owner_of-kernel-clause-kept : goal.returns-then-owner_of-kernel-clause-kept
returns-then-owner_of-kernel-clause-kept c i can = rw c.unlink.ensures.gone (unlinked-kept c.args.setup.now i c.args.caps.now.caps _ _ can)
