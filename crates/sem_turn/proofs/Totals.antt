-- Sums over lists that are read by `get_elem?`.
use Rattle.std.proofs.Common.{◌≡◌, ◌≢◌, ℕ, zero, suc, ◌+◌, ◌≤◌, eq-eqb, ne_eqb, cond, List, [], ◌∷◌, set, refl, sym, ap, arith}
use Rattle.std.specs.Prelude.{◌==◌, sum_by}
use Rattle.std.proofs.lemmas.List.Sums.{sum_by-cons}
use mathlib.Core.Option.{some, some-injective, some-ne-none}
use lib.ListN.{get_elem?}
use Rattle.sem_turn.specs.declared.rule.Share.{Share}

module _ {A : Type 0} (f : A → ℕ) where
  -- the sum after one element was written
  pub total_set : (xs : List A) (i : ℕ) (v w : A) → get_elem? xs i ≡ some v → sum_by f (set xs i w) + f v ≡ sum_by f xs + f w
  total_set [] i v w e = absurd (some-ne-none v (sym e))
  total_set (x ∷ xs) zero v w e = let s : x ≡ v = some-injective x v e in omega (arith, ap f s, sum_by-cons f x xs, sum_by-cons f w xs)
  total_set (x ∷ xs) (suc i) v w e = omega (arith, total_set xs i v w e, sum_by-cons f x xs, sum_by-cons f x (set xs i w))

  -- an element is counted in the sum
  pub total_at : (xs : List A) (i : ℕ) (v : A) → get_elem? xs i ≡ some v → f v ≤ sum_by f xs
  total_at [] i v e = absurd (some-ne-none v (sym e))
  total_at (x ∷ xs) zero v e = let s : x ≡ v = some-injective x v e in omega (arith, ap f s, sum_by-cons f x xs)
  total_at (x ∷ xs) (suc i) v e = omega (arith, total_at xs i v e, sum_by-cons f x xs)

  -- and so are two elements at different places
  pub total_two : (xs : List A) (i j : ℕ) (v w : A) → j ≢ i → get_elem? xs i ≡ some v → get_elem? xs j ≡ some w → f v + f w ≤ sum_by f xs
  total_two [] i j v w ne e d = absurd (some-ne-none v (sym e))
  total_two (x ∷ xs) zero zero v w ne e d = absurd (ne refl)
  total_two (x ∷ xs) zero (suc j) v w ne e d = let s : x ≡ v = some-injective x v e in omega (arith, ap f s, total_at xs j w d, sum_by-cons f x xs)
  total_two (x ∷ xs) (suc i) zero v w ne e d = let s : x ≡ w = some-injective x w d in omega (arith, ap f s, total_at xs i v e, sum_by-cons f x xs)
  total_two (x ∷ xs) (suc i) (suc j) v w ne e d = omega (arith, total_two xs i j v w (λ q. ne (ap suc q)) e d, sum_by-cons f x xs)

-- what was written is read
pub set_at : {A : Type 0} (xs : List A) (i : ℕ) (v w : A) → get_elem? xs i ≡ some v → get_elem? (set xs i w) i ≡ some w
set_at [] i v w e = absurd (some-ne-none v (sym e))
set_at (x ∷ xs) zero v w e = refl
set_at (x ∷ xs) (suc i) v w e = set_at xs i v w e

-- whether a share is of kernel k, as a number
abbrev pub is_of : ℕ → Share → ℕ
is_of k p = cond (p.kernel == k) 1 0

-- how many shares are of kernel k
abbrev pub shares_of : ℕ → List Share → ℕ
shares_of k ps = sum_by (is_of k) ps

pub is_of_hit : (k : ℕ) (p : Share) → p.kernel ≡ k → is_of k p ≡ 1
is_of_hit k p e = ap (λ b. cond b 1 0) (eq-eqb p.kernel k e)

pub is_of_miss : (k : ℕ) (p : Share) → p.kernel ≢ k → is_of k p ≡ 0
is_of_miss k p ne = ap (λ b. cond b 1 0) (ne_eqb p.kernel k ne)

-- the shares of kernel k, one share after another
pub shares_of-cons : (k : ℕ) (p : Share) (ps : List Share) → shares_of k (p ∷ ps) ≡ is_of k p + shares_of k ps
shares_of-cons k p ps = sum_by-cons (is_of k) p ps
