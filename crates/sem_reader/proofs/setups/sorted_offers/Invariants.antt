use Rattle.std.proofs.Common.{◌≡◌, ◌++◌}
use Rattle.sem_reader.proofs.setups.sorted_offers.Given as goal

-- the entries so far, and those that are left
abbrev pub invariant-loop-place : goal.invariant-loop-place
invariant-loop-place l = l.sorted.items ++ l.place-iterator ≡ l.offers.entries
