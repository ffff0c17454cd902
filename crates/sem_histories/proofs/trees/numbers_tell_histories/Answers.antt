use Rattle.sem_histories.proofs.Numbers.{numbers-parts, parts-numbers}
use Rattle.sem_histories.proofs.trees.numbers_tell_histories.Goals as goal

pub returns : goal.returns
returns c = λ T trees ns ms J K are of_J of_K. (numbers-parts T trees ns ms J K are of_J of_K, parts-numbers T trees ns ms J K are of_J of_K)
