use Rattle.sem_revoke.proofs.DeadCapsWorlds.{dead-marked}
use Rattle.sem_revoke.proofs.rest_laws.dead_vpes_lose_what_they_hold.Goals as goal

pub returns : goal.returns
returns c = record { marked = dead-marked }
