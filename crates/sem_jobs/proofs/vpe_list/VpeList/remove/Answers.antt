use Rattle.sem_jobs.proofs.Masks.{vpes_of-clear, vpes_of-absent}
use Rattle.sem_jobs.proofs.vpe_list.VpeList.remove.Goals as goal

pub returns-then-vpe-lt-VPES : goal.returns-then-vpe-lt-VPES
returns-then-vpe-lt-VPES c = rw (← c.self.view_is) (vpes_of-clear c.self.inside.mask c.args.vpe c.if-vpe-lt-VPES.true)

-- there is no such VPE
pub returns-else-vpe-lt-VPES : goal.returns-else-vpe-lt-VPES
returns-else-vpe-lt-VPES c = rw (← c.self.view_is) (vpes_of-absent c.self.inside.mask c.args.vpe c.if-vpe-lt-VPES.false)
