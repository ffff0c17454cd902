use Rattle.sem_revoke.proofs.Granted.{nothing-lost}
use Rattle.sem_revoke.proofs.revocations.nothing_is_lost.Goals as goal

pub returns : goal.returns
returns c = record { kept = nothing-lost }
