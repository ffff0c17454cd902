-- Where a test parts elements, found by halving.
use Rattle.std.proofs.Common.{◌≡◌, ℕ, ◌+◌, ◌-◌, ◌≤◌, ◌<◌, Bool, true, false, cond, List, length, get_or, refl, sym, ◌∙◌, ap, subst, inl, inr, arith, ◌⊎◌}
use Rattle.std.specs.List.Sorted.{IsPartitionedBy, IsPartitionPoint}
use Rattle.std.proofs.lemmas.Bool.{cases_Bool}
use Rattle.std.proofs.lemmas.List.{get_or_default}

module _ {X : Type 0} (p : X → Bool) (xs : List X) where
  -- the test holds of what stands at the place
  abbrev pub HoldsAt : ℕ → Bool → Type 0
  HoldsAt i b = (d : X) → p (get_or xs i d) ≡ b

  pub found-at : (i : ℕ) (z : X) → i < length xs → HoldsAt i (p (get_or xs i z))
  found-at i z within d = ap p (get_or_default xs i d z within)

  -- the place that parts them is not before `first`, and not after `size` more
  pub record Halved (first size : ℕ) : Type 0 where
    pub low : (first ≡ 0) ⊎ HoldsAt first true
    pub high : IsPartitionedBy p xs → (k : ℕ) (d : X) → first + size ≤ k → k < length xs → p (get_or xs k d) ≡ false

  fails-from : (m : ℕ) → HoldsAt m false → IsPartitionedBy p xs → (k : ℕ) (d : X) → m ≤ k → k < length xs → p (get_or xs k d) ≡ false
  fails-from m fails parted k d from within = elim (cases_Bool (p (get_or xs k d))) [
    | inl passes ↦ let both : true ≡ false = sym (parted m k d from within passes) ∙ fails d in absurd (cc)
    | inr failing ↦ failing
  ]

  pub whole : Halved 0 (length xs)
  whole = record { low = inl refl; high = λ parted k d from within. absurd (omega (arith, from, within)) }

  -- a step, by the test of the element in the middle
  pub halved : (first size half : ℕ) (b : Bool) → half + half ≤ size → Halved first size → HoldsAt (first + half) b →
      Halved (first + cond b half 0) (size - half)
  halved first size half true le is passes = record {
    low = inr passes;
    high = λ parted k d from within. is.high parted k d (omega (arith, from, le)) within;
  }
  halved first size half false le is fails =
      let same : first ≡ first + 0 = omega arith in
      subst (λ n. Halved n (size - half)) same (record {
        low = is.low;
        high = λ parted k d from within. fails-from (first + half) fails parted k d (omega (arith, from, le)) within;
      })

  -- the same, with what the step came to
  pub halved-by : (z : X) (first size half step : ℕ) (b : Bool) → first + half < length xs → half + half ≤ size → Halved first size
      → b ≡ p (get_or xs (first + half) z) → step ≡ cond b half 0 → Halved (first + step) (size - half)
  halved-by z first size half step b within le is test came =
      subst (λ n. Halved (first + n) (size - half)) (sym (came ∙ ap (λ c. cond c half 0) test))
      (halved first size half (p (get_or xs (first + half) z)) le is (found-at (first + half) z within))

  -- the last step, by the test of the one element that is left
  pub parted-at : (first size : ℕ) (b : Bool) → size ≤ 1 → first < length xs → Halved first size → HoldsAt first b → IsPartitionedBy p xs →
      IsPartitionPoint (λ x. p x ≡ true) (λ x. p x ≡ false) xs (first + cond b 1 0)
  parted-at first size true one within is passes parted = (
    λ k d low below. parted k first d (omega (arith, below)) within (passes d),
    λ k d from few. is.high parted k d (omega (arith, from, one)) few,
  )
  parted-at first size false one within is fails parted = (
    λ k d low below. elim is.low [
      | inl none ↦ absurd (omega (arith, none, below))
      | inr passes ↦ let both : true ≡ false = sym (passes d) ∙ fails d in absurd (cc)
    ],
    λ k d from few. fails-from first fails parted k d (omega (arith, from)) few,
  )

  pub parted-by : (z : X) (first size step : ℕ) (b : Bool) → size ≤ 1 → first < length xs → Halved first size → b ≡ p (get_or xs first z) → step ≡ cond b 1 0
      → IsPartitionedBy p xs → IsPartitionPoint (λ x. p x ≡ true) (λ x. p x ≡ false) xs (first + step)
  parted-by z first size step b one within is test came parted =
      subst (λ n. IsPartitionPoint (λ x. p x ≡ true) (λ x. p x ≡ false) xs (first + n)) (sym (came ∙ ap (λ c. cond c 1 0) test))
      (parted-at first size (p (get_or xs first z)) one within is (found-at first z within) parted)
