use Rattle.sem_bound.proofs.Tight.{costly-setup, costly-schedule, costly-tight}
use Rattle.sem_bound.proofs.bounds.bound_is_reached.Goals as goal

pub returns-clause-setup : goal.returns-clause-setup
returns-clause-setup c = costly-setup

pub returns-clause-schedule : goal.returns-clause-schedule
returns-clause-schedule c = costly-schedule

pub returns-clause-reached : goal.returns-clause-reached
returns-clause-reached c = costly-tight
