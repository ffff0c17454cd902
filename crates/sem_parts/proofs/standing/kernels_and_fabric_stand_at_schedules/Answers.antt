use Rattle.sem_parts.proofs.Shapes.{stand-schedule, stand-world, stand-start, stand-next, stand-after, schedule-stand}
use Rattle.sem_parts.proofs.standing.kernels_and_fabric_stand_at_schedules.Goals as goal

pub returns-clause-schedule : goal.returns-clause-schedule
returns-clause-schedule c = stand-schedule

pub returns-clause-world : goal.returns-clause-world
returns-clause-world c = stand-world

pub returns-clause-start : goal.returns-clause-start
returns-clause-start c = stand-start

pub returns-clause-step : goal.returns-clause-step
returns-clause-step c = λ T sides f g i e t is here square next. stand-next T sides f is i e t g here square next

pub returns-clause-after : goal.returns-clause-after
returns-clause-after c = schedule-stand

pub returns-clause-event : goal.returns-clause-event
returns-clause-event c = λ T sides f g i e t is here square next. stand-after T sides f i e t g is here square next
