use Rattle.std.proofs.Common.{arith}
use Rattle.sem_jobs.proofs.Masks.{IsVpeList-vpes_of, first-of, first-there}
use Rattle.sem_jobs.proofs.vpe_list.VpeList.first.Goals as goal

-- the lowest bit is read
pub returns-clause-first : goal.returns-clause-first
returns-clause-first c = rw (← c.self.view_is) (first-of c.self.inside.mask (omega arith))

pub returns-clause-there : goal.returns-clause-there
returns-clause-there c = rw (← c.self.view_is) (first-there c.self.inside.mask (omega arith))

pub returns-clause-list : goal.returns-clause-list
returns-clause-list c = rw (← c.self.view_is) (IsVpeList-vpes_of c.self.inside.mask)
