-- Lists with one element more, and sums over lists.
use Rattle.std.proofs.Common.{◌≡◌, ℕ, zero, suc, ◌+◌, ◌<◌, ◌≤◌, inl, inr, Bool, true, false, cond, ◌||◌, List, [], ◌∷◌, ◌++◌, length, get_or, set, refl, ap}
use Rattle.std.proofs.Common.{sym, ◌∙◌, arith, append_assoc, append-nil}
use Rattle.std.specs.List.{filter, flat_map, list_any, range_with_len, sum_by}
use Rattle.std.proofs.lemmas.Bool.{cases_Bool, cases_eq}
use Rattle.std.proofs.lemmas.List.Sums.{sum_by-cons}
use Rattle.std.proofs.lemmas.List.{get_or-set_same, get_or-set_other}

or_false : (b : Bool) → (b || false) ≡ b
or_false true = refl
or_false false = refl

or_or : (a b c : Bool) → (a || (b || c)) ≡ ((a || b) || c)
or_or true b c = refl
or_or false b c = refl

pub any_more : {X : Type 0} (p : X → Bool) (xs : List X) (x : X) → list_any p (xs ++ x ∷ []) ≡ (list_any p xs || p x)
any_more p [] x = or_false (p x)
any_more p (y ∷ ys) x = ap (λ b. p y || b) (any_more p ys x) ∙ or_or (p y) (list_any p ys) (p x)

pub range-push : (a n : ℕ) → range_with_len a (suc n) ≡ range_with_len a n ++ (a + n) ∷ []
range-push a zero = let e : a + 0 ≡ a = omega arith in rw e refl
range-push a (suc n) = let e : a + suc n ≡ (a + 1) + n = omega arith in rw (e, range-push (a + 1) n) refl

pub flat_map-push : {X Y : Type 0} (h : X → List Y) (xs : List X) (x : X) → flat_map h (xs ++ x ∷ []) ≡ flat_map h xs ++ h x
flat_map-push h [] x = rw append-nil refl
flat_map-push h (y ∷ ys) x = ap (λ zs. h y ++ zs) (flat_map-push h ys x) ∙ (rw append_assoc refl)

pub length-range : (a n : ℕ) → length (range_with_len a n) ≡ n
length-range a zero = refl
length-range a (suc n) = ap suc (length-range (a + 1) n)

-- a table in which one entry is written
pub table_set : {Y : Type 0} (table : List Y) (i : ℕ) (x d : Y) (f g : ℕ → Y) → i < length table → ((u : ℕ) → get_or table u d ≡ f u) → g i ≡ x →
    ((u : ℕ) → (u ≡ i → ⊥) → g u ≡ f u) → (u : ℕ) → get_or (set table i x) u d ≡ g u
table_set table i x d f g within tells here others u =
    elim (cases_eq u i) [
      | inl same ↦ rw (same, get_or-set_same table i x d within) (sym here)
      | inr other ↦ rw (get_or-set_other table i u x d other) (tells u ∙ sym (others u other))
    ]

-- Sums over the numbers that pass a test.

abbrev sum_of : (ℕ → ℕ) → (ℕ → Bool) → List ℕ → ℕ
sum_of f p xs = sum_by f (filter p xs)

sum_of-cons : (f : ℕ → ℕ) (p : ℕ → Bool) (x : ℕ) (xs : List ℕ) → sum_of f p (x ∷ xs) ≡ cond (p x) (f x) 0 + sum_of f p xs
sum_of-cons f p x xs =
    elim (cases_Bool (p x)) [
      | inl yes' ↦ rw yes' (sum_by-cons f x (filter p xs))
      | inr no' ↦ rw no' (omega arith)
    ]

-- f and g agree wherever a number passes
pub sum_of-same : (f g : ℕ → ℕ) (p q : ℕ → Bool) (a n : ℕ) → ((u : ℕ) → a ≤ u → cond (q u) (g u) 0 ≡ cond (p u) (f u) 0) →
    sum_of g q (range_with_len a n) ≡ sum_of f p (range_with_len a n)
sum_of-same f g p q a zero same = refl
sum_of-same f g p q a (suc n) same =
    let rest = sum_of-same f g p q (a + 1) n (λ u low. same u (omega arith)) in
    sum_of-cons g q a (range_with_len (a + 1) n) ∙ (rw (same a (omega arith), rest) (sym (sum_of-cons f p a (range_with_len (a + 1) n))))

-- they agree but for one number, where g is greater by k
pub sum_of-one : (f g : ℕ → ℕ) (p : ℕ → Bool) (w k a n : ℕ) → p w ≡ true → a ≤ w → w < a + n → ((u : ℕ) → (u ≡ w → ⊥) → g u ≡ f u) → g w ≡ f w + k →
    sum_of g p (range_with_len a n) ≡ sum_of f p (range_with_len a n) + k
sum_of-one f g p w k a zero passes low high others here = absurd (omega arith)
sum_of-one f g p w k a (suc n) passes low high others here =
    let xs = range_with_len (a + 1) n in
    elim (cases_eq a w) [
      | inl same ↦
          let rest : sum_of g p xs ≡ sum_of f p xs = sum_of-same f g p p (a + 1) n (λ u above. ap (λ m. cond (p u) m 0) (others u (λ is. omega arith))) in
          let first : cond (p a) (g a) 0 ≡ f w + k = rw (same, passes) here in
          let old : cond (p a) (f a) 0 ≡ f w = rw (same, passes) refl in
          let left : sum_of g p (a ∷ xs) ≡ cond (p a) (g a) 0 + sum_of g p xs = sum_of-cons g p a xs in
          let right : sum_of f p (a ∷ xs) ≡ cond (p a) (f a) 0 + sum_of f p xs = sum_of-cons f p a xs in
          left ∙ (rw (first, rest) (rw (right, old) (omega arith)))
      | inr other ↦
          let rest : sum_of g p xs ≡ sum_of f p xs + k = sum_of-one f g p w k (a + 1) n passes (omega arith) (omega arith) others here in
          let first : cond (p a) (g a) 0 ≡ cond (p a) (f a) 0 = ap (λ m. cond (p a) m 0) (others a other) in
          let left : sum_of g p (a ∷ xs) ≡ cond (p a) (g a) 0 + sum_of g p xs = sum_of-cons g p a xs in
          let right : sum_of f p (a ∷ xs) ≡ cond (p a) (f a) 0 + sum_of f p xs = sum_of-cons f p a xs in
          left ∙ (rw (first, rest) (rw right (omega arith)))
    ]
