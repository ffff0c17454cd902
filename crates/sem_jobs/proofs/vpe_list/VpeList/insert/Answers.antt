use Rattle.sem_jobs.proofs.Masks.{vpes_of-set}
use Rattle.sem_jobs.proofs.vpe_list.VpeList.insert.Goals as goal

pub returns : goal.returns
returns c = rw (← c.self.view_is) (vpes_of-set c.self.inside.mask c.args.vpe c.requires)
