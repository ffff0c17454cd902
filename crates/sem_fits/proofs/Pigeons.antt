-- How many things there can be whose codes are below a number and differ.
use Rattle.std.proofs.Common.{◌≡◌, ℕ, zero, suc, ◌+◌, ◌-◌, ◌<◌, ◌≤◌, ◌⊎◌, Bool, true, false, not, List, [], ◌∷◌, length, get_or, refl, sym, ◌∙◌, subst, inl}
use Rattle.std.proofs.Common.{inr, arith}
use Rattle.std.specs.Prelude.{◌==◌, if◌then◌else◌}
use Rattle.std.specs.List.{Contains, filter, flat_map, sum_by}
use Rattle.std.proofs.lemmas.Bool.{cases_Bool, eqb-false, not-true}
use Rattle.std.proofs.lemmas.List.{get_or_default}
use Rattle.std.proofs.lemmas.List.Sums.{sum_by-append, sum_by-cons}
use Rattle.sem_key.proofs.Members.{Contains-head, Contains-tail, Contains-from_filter}
use Rattle.sem_machine.specs.Sound.{bit}
use Rattle.sem_machine.proofs.Weighing.{weigh-filter, weigh-none}

-- an element passes a test, or stays
one-more : {X : Type 0} (b : Bool) (x : X) (rest : List X) → bit b + length (if not b then x ∷ rest else rest) ≡ 1 + length rest
one-more true x rest = omega arith
one-more false x rest = omega arith

-- what passes a test, and what does not, are all
test-parts : {X : Type 0} (test : X → Bool) (xs : List X) → length xs ≡ sum_by (λ x. bit (test x)) xs + length (filter (λ x. not (test x)) xs)
test-parts test [] = refl
test-parts test (x ∷ xs) =
    let rest = test-parts test xs in
    let sums = sum_by-cons (λ y. bit (test y)) x xs in
    let more = one-more (test x) x (filter (λ y. not (test y)) xs) in
    omega (arith, rest, sums, more)

-- no more than there are codes, where no two have the same
pub pigeons : {X : Type 0} (code : X → ℕ) (n : ℕ) (xs : List X) → ((x : X) → Contains xs x → code x < n) → ((q : ℕ) → sum_by (λ x. bit (code x == q)) xs ≤ 1)
    → length xs ≤ n
pigeons code zero [] low once = omega arith
pigeons code zero (x ∷ xs) low once = let none = low x (Contains-head x xs) in absurd (omega (arith, none))
pigeons code (suc n) xs low once =
    let others = pigeons code n (filter (λ x. not (code x == n)) xs)
    (λ x among. let from = Contains-from_filter (λ y. not (code y == n)) xs x among in let below = low x from.0 in let other = eqb-false (code x) n
    (not-true (code x == n) from.1) in omega (arith, below, other))
    (λ q. let fewer = weigh-filter (λ x. bit (code x == q)) (λ x. not (code x == n)) xs in let most = once q in omega (arith, fewer, most)) in
    let parts = test-parts (λ x. code x == n) xs in
    let most = once n in
    omega (arith, others, parts, most)

-- a number is 0, or more
zero_or_more : (n : ℕ) → (n ≡ 0) ⊎ (1 ≤ n)
zero_or_more zero = inl refl
zero_or_more (suc n) = inr (omega arith)

-- a sum with no more than one part, which is no more than 1
pub one_alone : {X : Type 0} (f : X → ℕ) (d : X) (xs : List X) (k : ℕ) → ((i : ℕ) → i < length xs → f (get_or xs i d) ≤ 1)
    → ((i : ℕ) → i < length xs → 1 ≤ f (get_or xs i d) → i ≡ k) → sum_by f xs ≤ 1
one_alone f d [] k small alone = omega arith
one_alone {X = X} f d (x ∷ xs) k small alone =
    let sums = sum_by-cons f x xs in
    elim (zero_or_more (f x)) [
      | inl none ↦
          let rest = one_alone f d xs (k - 1) (λ i within. small (suc i) (omega (arith, within)))
          (λ i within some. let next = alone (suc i) (omega (arith, within)) some in omega (arith, next)) in
          omega (arith, sums, none, rest)
      | inr some ↦
          let here : 0 ≡ k = alone 0 (omega arith) some in
          let most : f x ≤ 1 = small 0 (omega arith) in
          let rest = weigh-none f xs (λ y among. elim (zero_or_more (f y)) [
            | inl none ↦ none
            | inr again ↦ absurd (later y among again here)
          ]) in
          omega (arith, sums, most, rest)
    ]
  where
    later : (y : X) → Contains xs y → 1 ≤ f y → 0 ≡ k → ⊥
    later y (i, within, same) again here = let next = alone (suc i) (omega (arith, within))
        (subst (λ z. 1 ≤ f z) (sym (get_or_default xs i d y within ∙ same)) again) in omega (arith, next, here)

-- the sum over all of several lists
pub sum-flat : {X Y : Type 0} (w : Y → ℕ) (g : X → List Y) (xs : List X) → sum_by w (flat_map g xs) ≡ sum_by (λ x. sum_by w (g x)) xs
sum-flat w g [] = refl
sum-flat w g (x ∷ xs) = let rest = sum-flat w g xs in let sums = sum_by-cons (λ y. sum_by w (g y)) x xs in let parts = sum_by-append w (g x) (flat_map g xs) in
    omega
    (arith, rest, sums, parts)

-- where each part is less, the sum is less
pub sum-less : {X : Type 0} (f g : X → ℕ) (xs : List X) → ((x : X) → Contains xs x → f x ≤ g x) → sum_by f xs ≤ sum_by g xs
sum-less f g [] less = omega arith
sum-less f g (x ∷ xs) less =
    let rest = sum-less f g xs (λ y among. less y (Contains-tail x xs y among)) in
    let here = less x (Contains-head x xs) in
    let of_f = sum_by-cons f x xs in
    let of_g = sum_by-cons g x xs in
    omega (arith, rest, here, of_f, of_g)

-- what passes a test, and what does not, as lists
pub filter-parts : {X : Type 0} (test : X → Bool) (xs : List X) → length (filter test xs) + length (filter (λ x. not (test x)) xs) ≡ length xs
filter-parts test [] = refl
filter-parts test (x ∷ xs) = let rest = filter-parts test xs in elim (cases_Bool (test x)) [
  | inl pass ↦ rw pass (omega (arith, rest))
  | inr fails ↦ rw fails
      (omega (arith, rest))
]
