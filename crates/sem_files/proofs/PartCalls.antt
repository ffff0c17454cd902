-- The calls of a range, extent by extent.
use Rattle.std.specs.Prelude.{map}
use Rattle.std.proofs.Common.{◌≡◌, ℕ, suc, ◌+◌, cond, [], ◌∷◌, ◌++◌, length, length-append, refl, arith, inl, inr}
use Rattle.std.specs.List.{flat_map}
use Rattle.std.proofs.lemmas.Bool.{cases_Bool}
use Rattle.std.proofs.lemmas.List.{length-map}
use Rattle.sem_msg.specs.declared.call.Call.{Call}
use Rattle.sem_files.specs.Compiled.{below, part_accessed}
use Rattle.sem_files.specs.OneMore.{touches}
use Rattle.sem_files.proofs.Lists.{range-push, flat_map-push, length-range}

-- one number more
below-more : (n : ℕ) → below (n + 1) ≡ below n ++ n ∷ []
below-more n = let next : n + 1 ≡ suc n = omega arith in let same : 0 + n ≡ n = omega arith in rw (next, range-push 0 n, same) refl

length-part : (access : ℕ → ℕ → Call) (h off len i : ℕ) → length (part_accessed access h off len i) ≡ cond (touches off len i) 2 0
length-part access h off len i =
    elim (cases_Bool (touches off len i)) [
      | inl yes' ↦ rw yes' refl
      | inr no' ↦ rw no' refl
    ]

-- the calls so far, and those of one extent more
pub parts-more : (off len i n : ℕ) → ((access : ℕ → ℕ → Call) (h : ℕ) → n ≡ length (flat_map (part_accessed access h off len) (below i))) →
    (access : ℕ → ℕ → Call) (h : ℕ) → n + cond (touches off len i) 2 0 ≡ length (flat_map (part_accessed access h off len) (below (i + 1)))
parts-more off len i n so_far access h =
    rw (below-more i, flat_map-push (part_accessed access h off len) (below i) i, length-append, ← so_far access h, length-part access h off len i) refl

-- a call for each extent
pub each-once : (f : ℕ → Call) (n : ℕ) → length (map f (below n)) ≡ n
each-once f n = rw length-map (length-range 0 n)
