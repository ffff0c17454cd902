use Rattle.sem_access.proofs.Placing.{of-entries}
use Rattle.sem_bytes.proofs.laws.accesses_are_of_entries.Goals as goal

pub returns : goal.returns
returns c = of-entries
