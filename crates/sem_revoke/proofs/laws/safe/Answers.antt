use Rattle.sem_revoke.proofs.Safe.{all-safe}
use Rattle.sem_revoke.proofs.laws.safe.Goals as goal

pub returns : goal.returns
returns c = record { safe = all-safe }
