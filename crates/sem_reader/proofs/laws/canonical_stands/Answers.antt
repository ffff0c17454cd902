use Rattle.sem_reader.proofs.Whole.{stands}
use Rattle.sem_reader.proofs.laws.canonical_stands.Goals as goal

pub returns : goal.returns
returns c = stands
