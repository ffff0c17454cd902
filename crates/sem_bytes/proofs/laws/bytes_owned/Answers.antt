use Rattle.sem_bytes.proofs.Lying.{all-owned}
use Rattle.sem_bytes.proofs.laws.bytes_owned.Goals as goal

pub returns : goal.returns
returns c = record { owned = all-owned }
