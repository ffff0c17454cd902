use Rattle.sem_query.proofs.Keeping.{held-on}
use Rattle.sem_query.proofs.laws.held_keys_stay_as_they_are.Goals as goal

pub returns : goal.returns
returns c = record { kept = λ T valid J later k c d runs was is. held-on T valid J later k c d runs was is }
