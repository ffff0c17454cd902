-- Sums over lists, and what a write at one place does to them.
use Rattle.std.proofs.Common.{true, false, subst, Bool, not, inl, inr, ap, ◌≡◌, ℕ, zero, suc, ◌+◌, ◌≤◌, List, [], ◌∷◌, map, drop, get_or, replicate, Option}
use Rattle.std.proofs.Common.{slice_get, refl, arith}
use Rattle.std.specs.List.{AllPairs, Contains, filter, sum_by}
use Rattle.std.specs.Prelude.{if◌then◌else◌}
use Rattle.std.proofs.lemmas.Bool.{cases_Bool, cond-true, cond-false, cond_both}
use Rattle.std.specs.Option.{option_map_or}
use Rattle.std.proofs.lemmas.List.Sums.{sum_by-cons}
use Rattle.sem_key.specs.Lists.{change, put}
use Rattle.sem_machine.proofs.Lengths.{weigh-map_less}
use Rattle.sem_key.proofs.Members.{Contains-nil, Contains-head, Contains-tail, Contains-cons_cases}

module _ {X : Type 0} (w : X → ℕ) where
  -- the weight of what may be there
  abbrev pub of_option : Option X → ℕ
  of_option o = option_map_or w o 0

  -- what is written at a place comes in for what stood there
  pub weigh-put : (d : X) → w d ≡ 0 → (xs : List X) (i : ℕ) (x : X) → sum_by w (put d xs i x) + w (get_or xs i d) ≡ sum_by w xs + w x
  unfolding put
  weigh-put d none [] zero x = let one = sum_by-cons w x [] in omega (arith, one, none)
  weigh-put d none [] (suc i) x =
      let rest = weigh-put d none [] i x in
      let first = sum_by-cons w d (put d [] i x) in
      let nothing : w (get_or [] i d) ≡ 0 = none in
      omega (arith, rest, first, none, nothing)
  weigh-put d none (y ∷ ys) zero x =
      let new = sum_by-cons w x ys in
      let old = sum_by-cons w y ys in
      omega (arith, new, old)
  weigh-put d none (y ∷ ys) (suc i) x =
      let rest = weigh-put d none ys i x in
      let new = sum_by-cons w y (put d ys i x) in
      let old = sum_by-cons w y ys in
      omega (arith, rest, new, old)

  -- the first comes off
  pub weigh-drop : (xs : List X) → sum_by w (drop 1 xs) + of_option (slice_get xs 0) ≡ sum_by w xs
  weigh-drop [] = refl
  weigh-drop (x ∷ xs) = let all = sum_by-cons w x xs in omega (arith, all)

  -- an element weighs no more than all
  pub weigh-among : (xs : List X) (x : X) → Contains xs x → w x ≤ sum_by w xs
  weigh-among [] x among = absurd (Contains-nil x among)
  weigh-among (y ∷ ys) x among =
      let all = sum_by-cons w y ys in
      elim (Contains-cons_cases y ys x among) [
        | inl same ↦ let here : w y ≡ w x = ap w same in omega (arith, all, here)
        | inr rest ↦ let later = weigh-among ys x rest in omega (arith, all, later)
      ]

  -- changes that leave each weight leave the sum
  pub weigh-map : (f : X → X) → ((x : X) → w (f x) ≡ w x) → (xs : List X) → sum_by w (map f xs) ≡ sum_by w xs
  weigh-map f same [] = refl
  weigh-map f same (x ∷ xs) =
      let new = sum_by-cons w (f x) (map f xs) in
      let old = sum_by-cons w x xs in
      let here = same x in
      let rest = weigh-map f same xs in
      omega (arith, new, old, here, rest)

  -- where no element weighs anything, neither do all
  pub weigh-none : (xs : List X) → ((x : X) → Contains xs x → w x ≡ 0) → sum_by w xs ≡ 0
  weigh-none [] none = refl
  weigh-none (x ∷ xs) none =
      let all = sum_by-cons w x xs in
      let here = none x (Contains-head x xs) in
      let rest = weigh-none xs (λ y among. none y (Contains-tail x xs y among)) in
      omega (arith, all, here, rest)

  -- copies of what weighs nothing weigh nothing
  pub weigh-replicate : (n : ℕ) (x : X) → w x ≡ 0 → sum_by w (replicate n x) ≡ 0
  weigh-replicate zero x none = refl
  weigh-replicate (suc n) x none =
      let all = sum_by-cons w x (replicate n x) in
      let rest = weigh-replicate n x none in
      omega (arith, all, none, rest)

  -- what passes a test and what fails it weigh together what all weighs
  pub weigh-parts : (p : X → Bool) (xs : List X) → sum_by w (filter p xs) + sum_by w (filter (λ x. not (p x)) xs) ≡ sum_by w xs
  weigh-parts p [] = refl
  weigh-parts p (x ∷ xs) =
      let rest = weigh-parts p xs in
      let all = sum_by-cons w x xs in
      elim (cases_Bool (p x)) [
        | inl pass ↦
            let first : filter p (x ∷ xs) ≡ x ∷ filter p xs = cond-true (p x) (x ∷ filter p xs) (filter p xs) pass in
            let second : filter (λ x. not (p x)) (x ∷ xs) ≡ filter (λ x. not (p x)) xs =
            cond-false (not (p x)) (x ∷ filter (λ x. not (p x)) xs) (filter (λ x. not (p x)) xs) (ap not pass) in
            let one = ap (sum_by w) first in
            let two = ap (sum_by w) second in
            let kept = sum_by-cons w x (filter p xs) in
            omega (arith, rest, all, one, two, kept)
        | inr fail ↦
            let first : filter p (x ∷ xs) ≡ filter p xs = cond-false (p x) (x ∷ filter p xs) (filter p xs) fail in
            let second : filter (λ x. not (p x)) (x ∷ xs) ≡ x ∷ filter (λ x. not (p x)) xs =
            cond-true (not (p x)) (x ∷ filter (λ x. not (p x)) xs) (filter (λ x. not (p x)) xs) (ap not fail) in
            let one = ap (sum_by w) first in
            let two = ap (sum_by w) second in
            let kept = sum_by-cons w x (filter (λ x. not (p x)) xs) in
            omega (arith, rest, all, one, two, kept)
      ]

  pub weigh-filter : (p : X → Bool) (xs : List X) → sum_by w (filter p xs) ≤ sum_by w xs
  weigh-filter p xs = let parts = weigh-parts p xs in omega (arith, parts)

-- Lists of which at most one element passes a test.

pairs-head : {X : Type 0} (S : X → X → Type 0) (x : X) (xs : List X) → AllPairs S (x ∷ xs) → (y : X) → Contains xs y → S x y
pairs-head S x xs pairs y (k, within, same) = subst (S x) same (pairs zero (suc k) y (omega arith) (omega arith))

pairs-tail : {X : Type 0} (S : X → X → Type 0) (x : X) (xs : List X) → AllPairs S (x ∷ xs) → AllPairs S xs
pairs-tail S x xs pairs = λ i j d lt within. pairs (suc i) (suc j) d (omega arith) (omega arith)

module _ {X : Type 0} (w : X → ℕ) (test : X → Bool) (f : X → X) where
  change-none : (xs : List X) → ((x : X) → Contains xs x → test x ≡ false) → sum_by w (change test f xs) ≡ sum_by w xs
  change-none [] none = refl
  change-none (x ∷ xs) none =
      let rest = change-none xs (λ y among. none y (Contains-tail x xs y among)) in
      let new = sum_by-cons w (if test x then f x else x) (change test f xs) in
      let old = sum_by-cons w x xs in
      let here : w (if test x then f x else x) ≡ w x = ap w (cond-false (test x) (f x) x (none x (Contains-head x xs))) in
      omega (arith, rest, new, old, here)

  -- one element at most grows by d
  pub change-once : (d : ℕ) (xs : List X) → AllPairs (λ a b. test a ≡ true → test b ≡ false) xs → ((x : X) → test x ≡ true → w (f x) ≤ w x + d) →
      sum_by w (change test f xs) ≤ sum_by w xs + d
  change-once d [] pairs more = omega arith
  change-once d (x ∷ xs) pairs more =
      let new = sum_by-cons w (if test x then f x else x) (change test f xs) in
      let old = sum_by-cons w x xs in
      elim (cases_Bool (test x)) [
        | inl pass ↦
            let here : w (if test x then f x else x) ≡ w (f x) = ap w (cond-true (test x) (f x) x pass) in
            let grown = more x pass in
            let rest = change-none xs (λ y among. pairs-head (λ a b. test a ≡ true → test b ≡ false) x xs pairs y among pass) in
            omega (arith, new, old, here, grown, rest)
        | inr fail ↦
            let here : w (if test x then f x else x) ≡ w x = ap w (cond-false (test x) (f x) x fail) in
            let rest = change-once d xs (pairs-tail (λ a b. test a ≡ true → test b ≡ false) x xs pairs) more in
            omega (arith, new, old, here, rest)
      ]

  pub change-less : (xs : List X) → ((x : X) → w (f x) ≤ w x) → sum_by w (change test f xs) ≤ sum_by w xs
  change-less xs less = weigh-map_less w (λ x. if test x then f x else x) (λ x. cond_both (test x) (f x) x (λ y. w y ≤ w x) (λ _. less x) (λ _. omega arith)) xs
