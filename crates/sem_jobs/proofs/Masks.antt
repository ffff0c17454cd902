-- Masks and the VPEs for which they have a bit.
use Rattle.std.proofs.Common.{◌≡◌, ℕ, zero, suc, ◌+◌, ◌*◌, ◌%◌, ◌^◌, ◌<◌, ◌≤◌, ◌==◌, nat_lt, Bool, true, false, cond, List, [], ◌∷◌, get_or, refl, sym, ◌∙◌, ap}
use Rattle.std.proofs.Common.{subst, inl, inr, arith}
use Rattle.std.specs.List.{filter, range_with_len, AllPairs, All, Contains}
use Rattle.std.proofs.lemmas.List.Elements.{All-filter, filter_passes, All-contains, Contains-get_or}
use Rattle.std.proofs.lemmas.List.Kept.{AllPairs-filter}
use Rattle.std.proofs.lemmas.List.FromFn.{length-range_with_len, get_or-range_with_len}
use Rattle.std.proofs.lemmas.Bool.Decides.{nat_tests}
use Rattle.std.proofs.lemmas.Bool.{cases_eq, cases_lt}
use Rattle.std.proofs.lemmas.Grind.{common_steps}
use Rattle.std.specs.Int.{bit_at, bit_not, trailing_zeros}
use Rattle.std.specs.Int.Count.{trailing_of_zero}
use Rattle.std.specs.Prelude.{bit_or, bit_and}
use Rattle.std.proofs.lemmas.Nat.Bits.{bit_at-zero, bit_at_set_same, bit_at_set_other, bit_at_clear_same, bit_at_clear_other, bit_at-trailing_zeros}
use mir.Syntax.{w128}
use Rattle.sem_msg.specs.JobRows.{with_number, without_number}
use Rattle.sem_msg.specs.Masks.{has_bit}
use Rattle.sem_msg.proofs.Masks.{kept-same, kept-none}
use Rattle.sem_jobs.specs.VpeSet.{IsVpeList, members}

-- One number more, which a test keeps or not.
none-below : (v : ℕ) (t : Bool) (ws : List ℕ) → filter (λ w. nat_lt w v) ws ≡ [] → filter (λ w. nat_lt w v) (cond t (v ∷ ws) ws) ≡ []
none-below v true ws none = grind (arith, common_steps, nat_tests)
none-below v false ws none = none

all-above : (v : ℕ) (t : Bool) (ws : List ℕ) → filter (λ w. nat_lt v w) (cond t (v ∷ ws) ws) ≡ filter (λ w. nat_lt v w) ws
all-above v true ws = grind (arith, common_steps, nat_tests)
all-above v false ws = refl

one-below : (v a : ℕ) (t : Bool) (ws : List ℕ) → a < v → with_number (cond t (a ∷ ws) ws) v ≡ cond t (a ∷ with_number ws v) (with_number ws v)
one-below v a true ws lt =
    let low : nat_lt a v ≡ true = grind (arith, nat_tests) in
    let high : nat_lt v a ≡ false = grind (arith, nat_tests) in
    rw (low, high) refl
one-below v a false ws lt = refl

one-away : (v a : ℕ) (t : Bool) (ws : List ℕ) → a ≡ v → without_number (cond t (a ∷ ws) ws) v ≡ without_number ws v
one-away v a true ws same = let test : (a == v) ≡ true = grind (arith, nat_tests) in rw test refl
one-away v a false ws same = refl

one-stays : (v a : ℕ) (t : Bool) (ws : List ℕ) → (a ≡ v → ⊥) → without_number (cond t (a ∷ ws) ws) v ≡ cond t (a ∷ without_number ws v) (without_number ws v)
one-stays v a true ws differ = let test : (a == v) ≡ false = grind (arith, nat_tests) in rw test refl
one-stays v a false ws differ = refl

-- Tests on a run of numbers.
module _ (p q : ℕ → Bool) (v most : ℕ) (agree : (w : ℕ) → w < most → (w ≡ v → ⊥) → q w ≡ p w) where
  -- above v the tests agree, and all that they keep is above v
  above-below : (n a : ℕ) → v < a → filter (λ w. nat_lt w v) (filter p (range_with_len a n)) ≡ []
  above-below zero a above = refl
  above-below (suc n) a above = let tail = above-below n (a + 1) (omega arith) in grind (arith, common_steps, nat_tests)

  above-above : (n a : ℕ) → v < a → filter (λ w. nat_lt v w) (filter p (range_with_len a n)) ≡ filter p (range_with_len a n)
  above-above zero a above = refl
  above-above (suc n) a above = let tail = above-above n (a + 1) (omega arith) in grind (arith, common_steps, nat_tests)

  above-same : (n a : ℕ) → v < a → a + n ≤ most → filter q (range_with_len a n) ≡ filter p (range_with_len a n)
  above-same n a above within = kept-same p q n a (λ w low high. agree w (omega arith) (λ same. omega (arith, same)))

  -- q keeps v too
  added-here : q v ≡ true → (n : ℕ) → v + suc n ≤ most → filter q (range_with_len v (suc n)) ≡ with_number (filter p (range_with_len v (suc n))) v
  added-here set n within =
      let kept : List ℕ = filter p (range_with_len (v + 1) n) in
      let below = none-below v (p v) kept (above-below n (v + 1) (omega arith)) in
      let above = all-above v (p v) kept ∙ above-above n (v + 1) (omega arith) in
      let same = above-same n (v + 1) (omega arith) (omega arith) in
      rw (below, above, set, same) refl

  added : q v ≡ true → (n a : ℕ) → a ≤ v → v < a + n → a + n ≤ most → filter q (range_with_len a n) ≡ with_number (filter p (range_with_len a n)) v
  added set zero a low high within = absurd (omega arith)
  added set (suc n) a low high within = elim (cases_eq a v) [
    | inl here ↦ subst (λ m. filter q (range_with_len m (suc n)) ≡ with_number (filter p (range_with_len m (suc n))) v) (sym here)
        (added-here set n (omega arith))
    | inr apart ↦
        let tail = added set n (a + 1) (omega arith) (omega arith) (omega arith) in
        rw (agree a (omega arith) apart, tail) (sym (one-below v a (p a) (filter p (range_with_len (a + 1) n)) (omega arith)))
  ]

  -- q does not keep v
  removed : (v < most → q v ≡ false) → (n a : ℕ) → a + n ≤ most → filter q (range_with_len a n) ≡ without_number (filter p (range_with_len a n)) v
  removed off zero a within = refl
  removed off (suc n) a within =
      let kept : List ℕ = filter p (range_with_len (a + 1) n) in
      let tail = removed off n (a + 1) (omega arith) in
      elim (cases_eq a v) [
        | inl here ↦ rw (ap q here ∙ off (omega arith), tail) (sym (one-away v a (p a) kept here))
        | inr apart ↦ rw (agree a (omega arith) apart, tail) (sym (one-stays v a (p a) kept apart))
      ]

-- what is kept of a run
contains-kept : (p : ℕ → Bool) (v n a : ℕ) → p v ≡ true → a ≤ v → v < a + n → Contains (filter p (range_with_len a n)) v
contains-kept p v zero a pass low high = absurd (omega arith)
contains-kept p v (suc n) a pass low high = elim (cases_eq a v) [
  | inl here ↦ rw (ap p here ∙ pass) (0, omega arith, here)
  | inr apart ↦ later (p a) (filter p (range_with_len (a + 1) n)) (contains-kept p v n (a + 1) pass (omega arith) (omega arith))
]
  where
    later : (t : Bool) (ws : List ℕ) → Contains ws v → Contains (cond t (a ∷ ws) ws) v
    later true ws (k, within, same) = (suc k, omega arith, same)
    later false ws there = there

-- The VPEs of a mask.

pub vpes_of-zero : members 0 ≡ []
unfolding members
vpes_of-zero = kept-none (has_bit 0) 128 0 (λ v low high. ap (λ b. b == 1) (bit_at-zero v))

module _ (mask : ℕ) where
  pub IsVpeList-vpes_of : IsVpeList (members mask)
  unfolding members
  IsVpeList-vpes_of = record {
    rising = AllPairs-filter (λ v w. v < w) (has_bit mask) (range_with_len 0 128) (run-rises 0 128);
    below = All-filter (has_bit mask) (λ v. v < 128) (range_with_len 0 128) (run-below 0 128);
  }
    where
      run-rises : (a n : ℕ) → AllPairs (λ v w. v < w) (range_with_len a n)
      run-rises a n i j d lt within = let long = length-range_with_len a n in
          rw (get_or-range_with_len a n i d (omega arith), get_or-range_with_len a n j d (omega arith)) (omega arith)

      run-below : (a n : ℕ) → All (λ v. v < a + n) (range_with_len a n)
      run-below a n i d within = let long = length-range_with_len a n in rw (get_or-range_with_len a n i d (omega arith)) (omega arith)

  -- a VPE of the list has its bit
  pub bit-of : (v : ℕ) → Contains (members mask) v → bit_at mask v ≡ 1
  unfolding members
  bit-of v there = let test = All-contains (λ w. has_bit mask w ≡ true) (members mask) v (filter_passes (has_bit mask) (range_with_len 0 128)) there in
      grind (arith, nat_tests)

  pub below-of : (v : ℕ) → Contains (members mask) v → v < 128
  below-of v there = All-contains (λ w. w < 128) (members mask) v IsVpeList-vpes_of.below there

  -- a VPE that has its bit is in the list
  pub of-bit : (v : ℕ) → v < 128 → bit_at mask v ≡ 1 → Contains (members mask) v
  unfolding members
  of-bit v within bit = contains-kept (has_bit mask) v 128 0 (rw bit refl) (omega arith) (omega arith)

  -- a bit is set
  pub vpes_of-set : (v : ℕ) → v < 128 → members (bit_or mask (1 * 2 ^ v % 2 ^ 128)) ≡ with_number (members mask) v
  unfolding members
  vpes_of-set v within =
      let new : ℕ = bit_or mask (1 * 2 ^ v % 2 ^ 128) in
      added (has_bit mask) (has_bit new) v 128 (λ w lt differ. ap (λ b. b == 1) (bit_at_set_other w128 mask v within w differ))
      (rw (bit_at_set_same w128 mask v within) refl) 128 0 (omega arith) (omega arith) (omega arith)

  -- a bit is cleared
  pub vpes_of-clear : (v : ℕ) → v < 128 → members (bit_and mask (bit_not w128 (1 * 2 ^ v % 2 ^ 128))) ≡ without_number (members mask) v
  unfolding members
  vpes_of-clear v within =
      let new : ℕ = bit_and mask (bit_not w128 (1 * 2 ^ v % 2 ^ 128)) in
      removed (has_bit mask) (has_bit new) v 128 (λ w lt differ. ap (λ b. b == 1) (bit_at_clear_other w128 mask v within w lt differ))
      (λ lt. rw (bit_at_clear_same w128 mask v within) refl) 128 0 (omega arith)

  -- a VPE that has no bit is not there
  pub vpes_of-absent : (v : ℕ) → 128 ≤ v → members mask ≡ without_number (members mask) v
  unfolding members
  vpes_of-absent v high = removed (has_bit mask) (has_bit mask) v 128 (λ w lt differ. refl) (λ lt. absurd (omega arith)) 128 0 (omega arith)

  -- the place of the lowest bit is the least VPE
  pub first-of : mask < 2 ^ 128 → All (λ v. trailing_zeros w128 mask ≤ v) (members mask)
  first-of few k d lt =
      let v : ℕ = get_or (members mask) k d in
      let bit : bit_at mask v ≡ 1 = bit-of v (Contains-get_or (members mask) k d lt) in
      elim (cases_lt v (trailing_zeros w128 mask)) [
        | inl below ↦ elim (cases_eq mask 0) [
          | inl none ↦ let zero_bit : bit_at mask v ≡ 0 = ap (λ m. bit_at m v) none ∙ bit_at-zero v in absurd (omega (arith, bit, zero_bit))
          | inr some ↦ let low = bit_at-trailing_zeros w128 mask (omega (arith, some)) few in let zero_bit = low.2 v below in
              absurd (omega (arith, bit, zero_bit))
        ]
        | inr above ↦ above
      ]

  pub first-there : mask < 2 ^ 128 → trailing_zeros w128 mask < 128 → Contains (members mask) (trailing_zeros w128 mask)
  first-there few within = elim (cases_eq mask 0) [
    | inl none ↦ let all : trailing_zeros w128 mask ≡ 128 = ap (trailing_zeros w128) none ∙ trailing_of_zero 128 in absurd (omega (arith, within, all))
    | inr some ↦ let low = bit_at-trailing_zeros w128 mask (omega (arith, some)) few in of-bit (trailing_zeros w128 mask) within low.1
  ]
