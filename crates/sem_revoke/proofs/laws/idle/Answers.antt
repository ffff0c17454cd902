use Rattle.sem_revoke.proofs.IdleRest.{idle-rests}
use Rattle.sem_revoke.proofs.laws.idle.Goals as goal

pub returns : goal.returns
returns c = record { rest = idle-rests }
