use Rattle.sem_bound.proofs.Spent.{bounded, within-bound, limited, within-limit, never-spent}
use Rattle.sem_bound.proofs.bounds.bounded.Goals as goal

pub returns-clause-bound : goal.returns-clause-bound
returns-clause-bound c = bounded

pub returns-clause-entries : goal.returns-clause-entries
returns-clause-entries c = within-bound

pub returns-clause-setup : goal.returns-clause-setup
returns-clause-setup c = limited

pub returns-clause-limit : goal.returns-clause-limit
returns-clause-limit c = within-limit

pub returns-clause-spent : goal.returns-clause-spent
returns-clause-spent c = never-spent
