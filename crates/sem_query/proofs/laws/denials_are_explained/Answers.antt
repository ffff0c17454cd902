use Rattle.sem_query.proofs.Explaining.{explained}
use Rattle.sem_query.proofs.laws.denials_are_explained.Goals as goal

pub returns : goal.returns
returns c = record { answer = explained }
