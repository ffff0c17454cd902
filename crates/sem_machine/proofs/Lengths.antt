-- Lengths of lists of keys and numbers that hold each once, and sums over what passes a test.
use Rattle.std.proofs.Common.{◌≡◌, ℕ, ◌+◌, ◌≤◌, Bool, true, false, List, [], ◌∷◌, ◌++◌, length, map, refl, ap, inl, inr, arith}
use Rattle.std.specs.Prelude.{nat_lt, if◌then◌else◌}
use Rattle.std.specs.List.{filter, sum_by}
use Rattle.std.proofs.lemmas.Bool.{cases_Bool, cond-true, cond-false, ltb-true, false_from_ne_true}
use Rattle.std.proofs.lemmas.List.Sums.{sum_by-cons}
use Rattle.sem_key.specs.KeyName.{KeyName, key_lt, packed}
use Rattle.sem_key.specs.KeyList.{with_key, without_key, key_set}
use Rattle.sem_key.specs.Lists.{in_turn}
use Rattle.sem_msg.specs.JobRows.{with_number, without_number}

filter-first : {X : Type 0} (p : X → Bool) (x : X) (xs : List X) → p x ≡ true → filter p (x ∷ xs) ≡ x ∷ filter p xs
filter-first p x xs pass = cond-true (p x) (x ∷ filter p xs) (filter p xs) pass

filter-rest : {X : Type 0} (p : X → Bool) (x : X) (xs : List X) → p x ≡ false → filter p (x ∷ xs) ≡ filter p xs
filter-rest p x xs fail = cond-false (p x) (x ∷ filter p xs) (filter p xs) fail

pub filter-shorter : {X : Type 0} (p : X → Bool) (xs : List X) → length (filter p xs) ≤ length xs
filter-shorter p [] = omega arith
filter-shorter p (x ∷ xs) =
    let rest = filter-shorter p xs in
    elim (cases_Bool (p x)) [
      | inl pass ↦ let first = ap length (filter-first p x xs pass) in omega (arith, rest, first)
      | inr fail ↦ let first = ap length (filter-rest p x xs fail) in omega (arith, rest, first)
    ]

-- what passes the one or the other of two tests that exclude each other
pub apart-shorter : {X : Type 0} (p q : X → Bool) → ((x : X) → p x ≡ true → q x ≡ false) → (xs : List X) →
    length (filter p xs) + length (filter q xs) ≤ length xs
apart-shorter p q apart [] = omega arith
apart-shorter p q apart (x ∷ xs) =
    let rest = apart-shorter p q apart xs in
    elim (cases_Bool (p x)) [
      | inl pass ↦
          let first = ap length (filter-first p x xs pass) in
          let second = ap length (filter-rest q x xs (apart x pass)) in
          omega (arith, rest, first, second)
      | inr fail ↦
          let first = ap length (filter-rest p x xs fail) in
          elim (cases_Bool (q x)) [
            | inl yes' ↦ let second = ap length (filter-first q x xs yes') in omega (arith, rest, first, second)
            | inr no' ↦ let second = ap length (filter-rest q x xs no') in omega (arith, rest, first, second)
          ]
    ]

length-joined : {X : Type 0} (xs ys : List X) → length (xs ++ ys) ≡ length xs + length ys
length-joined [] ys = omega arith
length-joined (x ∷ xs) ys = let rest = length-joined xs ys in omega (arith, rest)

pub below-not_above : (a b : ℕ) → nat_lt a b ≡ true → nat_lt b a ≡ false
below-not_above a b below = false_from_ne_true (nat_lt b a) (λ above. omega (arith, ltb-true a b below, ltb-true b a above))

pub with_key-longer : (ks : List KeyName) (k : KeyName) → length (with_key ks k) ≤ length ks + 1
with_key-longer ks k =
    let joined = length-joined (filter (λ q. key_lt q k) ks) (k ∷ filter (λ q. key_lt k q) ks) in
    let parts = apart-shorter (λ q. key_lt q k) (λ q. key_lt k q) (λ q below. below-not_above (packed q) (packed k) below) ks in
    omega (arith, joined, parts)

pub with_number-longer : (vs : List ℕ) (v : ℕ) → length (with_number vs v) ≤ length vs + 1
with_number-longer vs v =
    let joined = length-joined (filter (λ w. nat_lt w v) vs) (v ∷ filter (λ w. nat_lt v w) vs) in
    let parts = apart-shorter (λ w. nat_lt w v) (λ w. nat_lt v w) (λ w below. below-not_above w v below) vs in
    omega (arith, joined, parts)

pub without_key-shorter : (ks : List KeyName) (k : KeyName) → length (without_key ks k) ≤ length ks
without_key-shorter ks k = filter-shorter _ ks

pub without_number-shorter : (vs : List ℕ) (v : ℕ) → length (without_number vs v) ≤ length vs
without_number-shorter vs v = filter-shorter _ vs

set-shorter : (ks found : List KeyName) → length (in_turn (λ k list. with_key list k) ks found) ≤ length found + length ks
unfolding in_turn
set-shorter [] found = omega arith
set-shorter (k ∷ ks) found =
    let rest = set-shorter ks (with_key found k) in
    let first = with_key-longer found k in
    omega (arith, rest, first)

-- a set of keys has no more than the list
pub key_set-shorter : (ks : List KeyName) → length (key_set ks) ≤ length ks
key_set-shorter ks = let all = set-shorter ks [] in omega (arith, all)

-- Sums.

-- changes that make no weight greater make the sum no greater
pub weigh-map_less : {X : Type 0} (w : X → ℕ) (f : X → X) → ((x : X) → w (f x) ≤ w x) → (xs : List X) → sum_by w (map f xs) ≤ sum_by w xs
weigh-map_less w f less [] = omega arith
weigh-map_less w f less (x ∷ xs) =
    let new = sum_by-cons w (f x) (map f xs) in
    let old = sum_by-cons w x xs in
    let here = less x in
    let rest = weigh-map_less w f less xs in
    omega (arith, new, old, here, rest)

-- what passes a test weighs what all weigh where what fails weighs nothing
pub weigh-passed : {X : Type 0} (w : X → ℕ) (p : X → Bool) (xs : List X) → sum_by w (filter p xs) ≡ sum_by (λ x. if p x then w x else 0) xs
weigh-passed w p [] = refl
weigh-passed w p (x ∷ xs) =
    let rest = weigh-passed w p xs in
    let all = sum_by-cons (λ y. if p y then w y else 0) x xs in
    elim (cases_Bool (p x)) [
      | inl pass ↦
          let first = ap (sum_by w) (filter-first p x xs pass) in
          let kept = sum_by-cons w x (filter p xs) in
          let here : (if p x then w x else 0) ≡ w x = cond-true (p x) (w x) 0 pass in
          omega (arith, rest, all, first, kept, here)
      | inr fail ↦
          let first = ap (sum_by w) (filter-rest p x xs fail) in
          let here : (if p x then w x else 0) ≡ 0 = cond-false (p x) (w x) 0 fail in
          omega (arith, rest, all, first, here)
    ]

-- what passes the one or the other of two tests that exclude each other weighs no more than all
pub apart-lighter : {X : Type 0} (w : X → ℕ) (p q : X → Bool) → ((x : X) → p x ≡ true → q x ≡ false) → (xs : List X) →
    sum_by w (filter p xs) + sum_by w (filter q xs) ≤ sum_by w xs
apart-lighter w p q apart [] = omega arith
apart-lighter w p q apart (x ∷ xs) =
    let rest = apart-lighter w p q apart xs in
    let all = sum_by-cons w x xs in
    let one = sum_by-cons w x (filter p xs) in
    let two = sum_by-cons w x (filter q xs) in
    elim (cases_Bool (p x)) [
      | inl pass ↦
          let first = ap (sum_by w) (filter-first p x xs pass) in
          let second = ap (sum_by w) (filter-rest q x xs (apart x pass)) in
          omega (arith, rest, all, one, first, second)
      | inr fail ↦
          let first = ap (sum_by w) (filter-rest p x xs fail) in
          elim (cases_Bool (q x)) [
            | inl yes' ↦ let second = ap (sum_by w) (filter-first q x xs yes') in omega (arith, rest, all, two, first, second)
            | inr no' ↦ let second = ap (sum_by w) (filter-rest q x xs no') in omega (arith, rest, all, first, second)
          ]
    ]
