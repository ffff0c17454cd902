use Rattle.std.proofs.Common.{◌≡◌, take}
use Rattle.sem_reader.proofs.setups.denies_from.Given as goal

-- the pairs so far
abbrev pub invariant-loop-pair : goal.invariant-loop-pair
invariant-loop-pair l = l.denies ≡ take l.pair-index l.pairs
