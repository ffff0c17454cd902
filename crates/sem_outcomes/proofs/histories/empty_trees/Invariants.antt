use Rattle.std.proofs.Common.{◌≡◌, [], replicate}
use Rattle.sem_outcomes.proofs.histories.empty_trees.Given as goal

-- so many trees were made, and they are empty
abbrev pub invariant-loop : goal.invariant-loop
invariant-loop l = l.trees.items ≡ replicate l.counter []
