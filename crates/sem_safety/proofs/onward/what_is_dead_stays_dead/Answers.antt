use Rattle.sem_safety.proofs.GoingOn.{after-onward, run-onward, dead-later}
use Rattle.sem_safety.proofs.onward.what_is_dead_stays_dead.Goals as goal

pub returns-clause-event : goal.returns-clause-event
returns-clause-event c = after-onward

pub returns-clause-journal : goal.returns-clause-journal
returns-clause-journal c = run-onward

pub returns-clause-dead : goal.returns-clause-dead
returns-clause-dead c = dead-later
