use Rattle.sem_histories.proofs.TreeParts.{tree-start, tree-put, tree-tells}
use Rattle.sem_histories.proofs.trees.trees_tell_parts.Goals as goal

pub returns-clause-start : goal.returns-clause-start
returns-clause-start c = tree-start

pub returns-clause-put : goal.returns-clause-put
returns-clause-put c = λ nodes parts p e is. tree-put nodes parts is p e

pub returns-clause-tell : goal.returns-clause-tell
returns-clause-tell c = λ nodes parts i j is. tree-tells nodes parts is i j
