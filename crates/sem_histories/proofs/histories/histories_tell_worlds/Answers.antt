use Rattle.sem_histories.proofs.SameParts.{same-worlds, parts-next}
use Rattle.sem_histories.proofs.SameOutcomes.{same-codes, parts-state, parts-complete, state-outcome}
use Rattle.sem_histories.proofs.histories.histories_tell_worlds.Goals as goal

pub returns-clause-worlds : goal.returns-clause-worlds
returns-clause-worlds c = same-worlds

pub returns-clause-codes : goal.returns-clause-codes
returns-clause-codes c = same-codes

pub returns-clause-outcomes : goal.returns-clause-outcomes
returns-clause-outcomes c = λ T J K runs runs' same. state-outcome T J K (parts-state T J K runs runs' same)

pub returns-clause-complete : goal.returns-clause-complete
returns-clause-complete c = parts-complete

pub returns-clause-next : goal.returns-clause-next
returns-clause-next c = λ T J K e runs runs' same enabled. parts-next T J K runs runs' same e

pub returns-clause-states : goal.returns-clause-states
returns-clause-states c = parts-state
