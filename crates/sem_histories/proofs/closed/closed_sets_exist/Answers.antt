use Rattle.sem_histories.specs.Closed.{CountsAs}
use Rattle.sem_histories.proofs.Closing.{itself}
use Rattle.sem_histories.proofs.Existing.{closed-set}
use Rattle.sem_histories.proofs.closed.closed_sets_exist.Goals as goal

pub returns : goal.returns
returns c = λ by T. closed-set T (CountsAs by T) (itself by T)
