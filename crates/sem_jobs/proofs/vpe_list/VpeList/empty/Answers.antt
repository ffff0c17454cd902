use Rattle.sem_jobs.proofs.Masks.{vpes_of-zero}
use Rattle.sem_jobs.proofs.vpe_list.VpeList.empty.Goals as goal

pub returns : goal.returns
returns c = vpes_of-zero
