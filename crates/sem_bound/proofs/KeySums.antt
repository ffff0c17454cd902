-- Sums over lists of keys that hold each once.
use Rattle.std.proofs.Common.{ℕ, ◌+◌, ◌≤◌, List, [], ◌∷◌, arith}
use Rattle.std.specs.List.{filter, sum_by}
use Rattle.std.proofs.lemmas.List.Sums.{sum_by-cons, sum_by-append}
use Rattle.sem_key.specs.KeyName.{KeyName, key_lt, packed}
use Rattle.sem_key.specs.KeyList.{with_key, key_set}
use Rattle.sem_key.specs.Lists.{in_turn}
use Rattle.sem_machine.proofs.Lengths.{apart-lighter, below-not_above}

module _ (w : KeyName → ℕ) where
  pub with_key-heavier : (ks : List KeyName) (k : KeyName) → sum_by w (with_key ks k) ≤ sum_by w ks + w k
  with_key-heavier ks k =
      let joined = sum_by-append w (filter (λ q. key_lt q k) ks) (k ∷ filter (λ q. key_lt k q) ks) in
      let first = sum_by-cons w k (filter (λ q. key_lt k q) ks) in
      let parts = apart-lighter w (λ q. key_lt q k) (λ q. key_lt k q)
      (λ q below. below-not_above (packed q) (packed k) below) ks in
      omega (arith, joined, first, parts)

  set-heavier : (ks found : List KeyName) →
      sum_by w (in_turn (λ k list. with_key list k) ks found) ≤ sum_by w found + sum_by w ks
  unfolding in_turn
  set-heavier [] found = omega arith
  set-heavier (k ∷ ks) found =
      let rest = set-heavier ks (with_key found k) in
      let first = with_key-heavier found k in
      let all = sum_by-cons w k ks in
      omega (arith, rest, first, all)

  -- a set of keys weighs no more than the list
  pub key_set-lighter : (ks : List KeyName) → sum_by w (key_set ks) ≤ sum_by w ks
  key_set-lighter ks = let all = set-heavier ks [] in omega (arith, all)
