use Rattle.sem_revoke.proofs.IdleForest.{forest-held}
use Rattle.sem_revoke.proofs.rest_laws.idle_worlds_hold_the_forest.Goals as goal

pub returns : goal.returns
returns c = record { forest = forest-held }
