use Rattle.std.proofs.Common.{◌≡◌, not, take}
use Rattle.std.specs.List.{filter}
use Rattle.sem_grants.specs.Words.{has_word}
use Rattle.sem_audit.proofs.forests.keys_without.Given as goal

-- those of the first keys are left
abbrev pub invariant-loop-key : goal.invariant-loop-key
invariant-loop-key l = l.left.items ≡ filter (λ k. not (has_word l.words k)) (take l.key-index l.keys)
