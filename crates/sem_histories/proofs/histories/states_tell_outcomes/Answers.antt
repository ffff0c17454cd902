use Rattle.sem_histories.proofs.SameOutcomes.{state-outcome, state-complete, state-next}
use Rattle.sem_histories.proofs.histories.states_tell_outcomes.Goals as goal

pub returns-clause-outcomes : goal.returns-clause-outcomes
returns-clause-outcomes c = state-outcome

pub returns-clause-complete : goal.returns-clause-complete
returns-clause-complete c = λ T valid J K. state-complete T J K valid

pub returns-clause-next : goal.returns-clause-next
returns-clause-next c = state-next
