use Rattle.sem_bound.proofs.Bound.{costs-bounded}
use Rattle.sem_bound.proofs.Spent.{costs-limited}
use Rattle.sem_bound.proofs.bounds.costs_bounded.Goals as goal

pub returns-clause-journal : goal.returns-clause-journal
returns-clause-journal c = costs-bounded

pub returns-clause-setup : goal.returns-clause-setup
returns-clause-setup c = costs-limited
