-- Lists of keys in rising order: one that rises is told by its members, and sorting makes the set of the keys.
use Rattle.std.proofs.Common.{◌≡◌, ℕ, zero, suc, ◌<◌, ◌≤◌, Bool, List, [], ◌∷◌, ◌++◌, length, get_or, refl, sym, ◌∙◌, ap, subst, inl, inr, arith, ◌⊎◌}
use Rattle.std.specs.List.{All, AllPairs, Contains, filter, dedup, dedup_from}
use Rattle.std.specs.List.Sorted.{IsPermutation, IsNonDecreasingBy}
use Rattle.std.specs.Prelude.{◌==◌}
use Rattle.std.proofs.lemmas.List.Sorted.{Contains-permutation, IsPermutation-sym}
use Rattle.std.proofs.lemmas.List.Kept.{AllPairs-cons, AllPairs-filter, Contains-from_dedup}
use Rattle.std.proofs.lemmas.Bool.{cases_Bool, ltb-true, eqb-true, eqb-false, cond-true, cond-false}
use Rattle.std.proofs.lemmas.List.{get_or_default}
use Rattle.std.proofs.lemmas.List.Elements.{All-contains, All-append, Contains-get_or}
use Rattle.sem_key.specs.KeyName.{KeyName, IsValidKey, packed, key_lt}
use Rattle.sem_key.specs.KeyList.{IsRising, with_key, key_set}
use Rattle.sem_key.specs.Lists.{in_turn}
use Rattle.sem_key.proofs.KeyTests.{packed-injective}
use Rattle.sem_key.proofs.KeySets.{with_key-from, key_set-has}
use Rattle.sem_key.proofs.Members.{Contains-head, Contains-tail, Contains-nil, Contains-cons_cases, Contains-from_filter}

-- the set of a list has no others than the list
in_turn-from : (ks found : List KeyName) (a : KeyName) → Contains (in_turn (λ k list. with_key list k) ks found) a → Contains found a ⊎ Contains ks a
unfolding in_turn
in_turn-from [] found a there = inl there
in_turn-from (k ∷ ks) found a there = by_place (in_turn-from ks (with_key found k) a there)
  where
    by_place : Contains (with_key found k) a ⊎ Contains ks a → Contains found a ⊎ Contains (k ∷ ks) a
    by_place (inr later) = inr (Contains-tail k ks a later)
    by_place (inl now) = elim (with_key-from found k a now) [
      | inl same ↦ inr (subst (Contains (k ∷ ks)) same (Contains-head k ks))
      | inr before ↦ inl before
    ]

pub key_set-from : (ks : List KeyName) (a : KeyName) → Contains (key_set ks) a → Contains ks a
key_set-from ks a there = elim (in_turn-from ks [] a there) [
  | inl none ↦ absurd (Contains-nil a none)
  | inr among ↦ among
]

-- Order.

rising-tail : (k : KeyName) (ks : List KeyName) → IsRising (k ∷ ks) → IsRising ks
rising-tail k ks rises i j d lt within = rises (suc i) (suc j) d (omega arith) (omega arith)

rising-head : (k : KeyName) (ks : List KeyName) → IsRising (k ∷ ks) → (q : KeyName) → Contains ks q → packed k < packed q
rising-head k ks rises q (n, within, here) = let step : packed k < packed (get_or ks n q) = rises 0 (suc n) q (omega arith) (omega arith) in rw here at step

from_all : {P : KeyName → Type 0} (ks : List KeyName) → ((q : KeyName) → Contains ks q → P q) → All P ks
from_all ks each = λ n d lt. each (get_or ks n d) (n, lt, same n d lt)
  where
    same : (n : ℕ) (d : KeyName) → n < length ks → get_or ks n (get_or ks n d) ≡ get_or ks n d
    same n d lt = get_or_default ks n (get_or ks n d) d lt

-- lists that rise and have the same keys are the same
pub rising-same : (xs0 bs : List KeyName) → IsRising xs0 → IsRising bs → ((k : KeyName) → Contains xs0 k → Contains bs k) →
    ((k : KeyName) → Contains bs k → Contains xs0 k) → xs0 ≡ bs
rising-same [] [] up up' to from = refl
rising-same [] (b ∷ bs) up up' to from = absurd (Contains-nil b (from b (Contains-head b bs)))
rising-same (a ∷ xs0) [] up up' to from = absurd (Contains-nil a (to a (Contains-head a xs0)))
rising-same (a ∷ xs0) (b ∷ bs) up up' to from = ap (λ k. k ∷ xs0) heads
    ∙ ap (λ ks. b ∷ ks) (rising-same xs0 bs (rising-tail a xs0 up) (rising-tail b bs up') tails tails')
  where
    heads : a ≡ b
    heads = elim (Contains-cons_cases b bs a (to a (Contains-head a xs0))) [
      | inl same ↦ sym same
      | inr below ↦ elim (Contains-cons_cases a xs0 b (from b (Contains-head b bs))) [
        | inl same ↦ same
        | inr below' ↦ let lt = rising-head b bs up' a below in let lt' = rising-head a xs0 up b below' in absurd (omega arith)
      ]
    ]

    tails : (k : KeyName) → Contains xs0 k → Contains bs k
    tails k there = elim (Contains-cons_cases b bs k (to k (Contains-tail a xs0 k there))) [
      | inl same ↦ let lt = rising-head a xs0 up k there in absurd (omega (arith, ap packed heads, ap packed same))
      | inr rest ↦ rest
    ]

    tails' : (k : KeyName) → Contains bs k → Contains xs0 k
    tails' k there = elim (Contains-cons_cases a xs0 k (from k (Contains-tail b bs k there))) [
      | inl same ↦ let lt = rising-head b bs up' k there in absurd (omega (arith, ap packed heads, ap packed same))
      | inr rest ↦ rest
    ]

abbrev Before : KeyName → KeyName → Type 0
Before a b = packed a < packed b

pub AllPairs-append : {X : Type 0} (R : X → X → Type 0) (xs ys : List X) → AllPairs R xs → AllPairs R ys → ((x y : X) → Contains xs x → Contains ys y → R x y) →
    AllPairs R (xs ++ ys)
AllPairs-append R [] ys first second across = second
AllPairs-append R (x ∷ xs) ys first second across =
    AllPairs-cons R x (xs ++ ys)
    (All-append (R x) xs ys (λ k d within. first zero (suc k) d (omega arith) (omega arith))
    (λ k d within. across x (get_or ys k d) (Contains-head x xs) (Contains-get_or ys k d within)))
    (AllPairs-append R xs ys (λ i j d lt within. first (suc i) (suc j) d (omega arith) (omega arith)) second
    (λ a b in_xs in_ys. across a b (Contains-tail x xs a in_xs) in_ys))

-- the keys of the list before the key, and those after it
abbrev lower : List KeyName → KeyName → List KeyName
lower ks k = filter (λ q. key_lt q k) ks

abbrev upper : List KeyName → KeyName → List KeyName
upper ks k = filter (λ q. key_lt k q) ks

with_key-rises : (ks : List KeyName) (k : KeyName) → IsRising ks → IsRising (with_key ks k)
with_key-rises ks k rises = AllPairs-append Before (lower ks k) (k ∷ upper ks k)
    (AllPairs-filter Before (λ q. key_lt q k) ks rises)
    (AllPairs-cons Before k (upper ks k)
    (from_all {P = Before k} (upper ks k) (λ q there. ltb-true (packed k) (packed q) (Contains-from_filter (λ x. key_lt k x) ks q there).1))
    (AllPairs-filter Before (λ q. key_lt k q) ks rises))
    across
  where
    across : (x y : KeyName) → Contains (lower ks k) x → Contains (k ∷ upper ks k) y → packed x < packed y
    across x y first second =
        let low = ltb-true (packed x) (packed k) (Contains-from_filter (λ q. key_lt q k) ks x first).1 in
        elim (Contains-cons_cases k (upper ks k) y second) [
          | inl same ↦ omega (arith, ap packed same)
          | inr rest ↦ let high = ltb-true (packed k) (packed y) (Contains-from_filter (λ q. key_lt k q) ks y rest).1 in omega arith
        ]

in_turn-rises : (ks found : List KeyName) → IsRising found → IsRising (in_turn (λ k list. with_key list k) ks found)
unfolding in_turn
in_turn-rises [] found rises = rises
in_turn-rises (k ∷ ks) found rises = in_turn-rises ks (with_key found k) (with_key-rises found k rises)

pub key_set-rises : (ks : List KeyName) → IsRising (key_set ks)
key_set-rises ks = in_turn-rises ks [] (λ i j d lt within. absurd (omega arith))

-- sets of lists with the same keys are the same
pub key_set-same : (xs0 bs : List KeyName) → All IsValidKey xs0 → ((k : KeyName) → Contains xs0 k → Contains bs k) →
    ((k : KeyName) → Contains bs k → Contains xs0 k) → key_set xs0 ≡ key_set bs
key_set-same xs0 bs valid to from = rising-same (key_set xs0) (key_set bs) (key_set-rises xs0) (key_set-rises bs)
    (λ k there. key_set-has bs valid_b k (to k (key_set-from xs0 k there)))
    (λ k there. key_set-has xs0 (λ q among. All-contains IsValidKey xs0 q valid among) k (from k (key_set-from bs k there)))
  where
    valid_b : (q : KeyName) → Contains bs q → IsValidKey q
    valid_b q among = All-contains IsValidKey xs0 q valid (from q among)

-- a list that rises is its own set
pub key_set-rising : (xs0 ks : List KeyName) → All IsValidKey ks → IsRising xs0 → ((k : KeyName) → Contains xs0 k → Contains ks k) →
    ((k : KeyName) → Contains ks k → Contains xs0 k) → xs0 ≡ key_set ks
key_set-rising xs0 ks valid rises to from = rising-same xs0 (key_set ks) rises (key_set-rises ks)
    (λ k there. key_set-has ks (λ q among. All-contains IsValidKey ks q valid among) k (to k there))
    (λ k there. from k (key_set-from ks k there))

-- Without repetitions.

-- whether two keys have the same word
abbrev pub same_word : KeyName → KeyName → Bool
same_word a b = packed a == packed b

dedup-has : (k : KeyName) (xs : List KeyName) → ((q : KeyName) → Contains (k ∷ xs) q → IsValidKey q) → (q : KeyName) → Contains (k ∷ xs) q →
    Contains (dedup_from same_word k xs) q
dedup-has k [] valid q there = there
dedup-has k (x ∷ xs) valid q there = elim (cases_Bool (same_word x k)) [
  | inl dropped ↦
      let same : x ≡ k = packed-injective x k (valid x (Contains-tail k (x ∷ xs) x (Contains-head x xs))) (valid k (Contains-head k (x ∷ xs)))
      (eqb-true (packed x) (packed k) dropped) in
      let in_rest : (p : KeyName) → Contains (k ∷ x ∷ xs) p → Contains (k ∷ xs) p = λ p at. elim (Contains-cons_cases k (x ∷ xs) p at) [
        | inl here ↦ subst (Contains (k ∷ xs)) here (Contains-head k xs)
        | inr later ↦ elim (Contains-cons_cases x xs p later) [
          | inl here ↦ subst (Contains (k ∷ xs)) (sym same ∙ here) (Contains-head k xs)
          | inr rest ↦ Contains-tail k xs p rest
        ]
      ] in
      subst (λ zs. Contains zs q) (sym (cond-true (same_word x k) (dedup_from same_word k xs) (k ∷ dedup_from same_word x xs) dropped))
      (dedup-has k xs (λ p at. valid p (widened k x xs p at)) q (in_rest q there))
  | inr kept ↦ subst (λ zs. Contains zs q) (sym (cond-false (same_word x k) (dedup_from same_word k xs) (k ∷ dedup_from same_word x xs) kept))
      (elim (Contains-cons_cases k (x ∷ xs) q there) [
        | inl here ↦ subst (Contains (k ∷ dedup_from same_word x xs)) here (Contains-head k (dedup_from same_word x xs))
        | inr later ↦ Contains-tail k (dedup_from same_word x xs) q (dedup-has x xs (λ p at. valid p (Contains-tail k (x ∷ xs) p at)) q later)
      ])
]
  where
    widened : (k x : KeyName) (xs : List KeyName) (p : KeyName) → Contains (k ∷ xs) p → Contains (k ∷ x ∷ xs) p
    widened k x xs p at = elim (Contains-cons_cases k xs p at) [
      | inl here ↦ subst (Contains (k ∷ x ∷ xs)) here (Contains-head k (x ∷ xs))
      | inr later ↦ Contains-tail k (x ∷ xs) p (Contains-tail x xs p later)
    ]

-- the words of what follows are no less
abbrev IsLeast : KeyName → List KeyName → Type 0
IsLeast k xs = (q : KeyName) → Contains xs q → packed k ≤ packed q

abbrev Climbs : List KeyName → Type 0
Climbs xs = AllPairs (λ a b. packed a ≤ packed b) xs

climbs-head : (k : KeyName) (xs : List KeyName) → Climbs (k ∷ xs) → IsLeast k xs
climbs-head k xs climbs q (n, within, here) = let step : packed k ≤ packed (get_or xs n q) = climbs 0 (suc n) q (omega arith) (omega arith) in rw here at step

climbs-tail : (k : KeyName) (xs : List KeyName) → Climbs (k ∷ xs) → Climbs xs
climbs-tail k xs climbs i j d lt within = climbs (suc i) (suc j) d (omega arith) (omega arith)

dedup-rises : (k : KeyName) (xs : List KeyName) → Climbs xs → IsLeast k xs → IsRising (dedup_from same_word k xs)
dedup-rises k [] climbs least = λ i j d lt within. absurd (omega arith)
dedup-rises k (x ∷ xs) climbs least = elim (cases_Bool (same_word x k)) [
  | inl dropped ↦ subst IsRising (sym (cond-true (same_word x k) (dedup_from same_word k xs) (k ∷ dedup_from same_word x xs) dropped))
      (dedup-rises k xs (climbs-tail x xs climbs) (λ q there. least q (Contains-tail x xs q there)))
  | inr kept ↦
      let above = least x (Contains-head x xs) in
      let other = eqb-false (packed x) (packed k) kept in
      let rest = dedup-rises x xs (climbs-tail x xs climbs) (climbs-head x xs climbs) in
      subst IsRising (sym (cond-false (same_word x k) (dedup_from same_word k xs) (k ∷ dedup_from same_word x xs) kept))
      (AllPairs-cons Before k (dedup_from same_word x xs)
      (from_all {P = Before k} (dedup_from same_word x xs) (λ q there. elim (Contains-cons_cases x xs q (Contains-from_dedup same_word (x ∷ xs) q there)) [
        | inl here ↦ omega (arith, ap packed here)
        | inr later ↦ let le = climbs-head x xs climbs q later in omega arith
      ])) rest)
]

-- a list that was sorted by its words, and then rid of repetitions, is the set of the keys
pub key_set-sorted : (ks sorted done : List KeyName) → All IsValidKey ks → IsPermutation ks sorted → IsNonDecreasingBy packed sorted →
    done ≡ dedup same_word sorted → done ≡ key_set ks
key_set-sorted ks [] done valid moved climbs is = key_set-rising done ks valid (rw is (λ i j d lt within. absurd (omega arith)))
    (λ k there. absurd (Contains-nil k (rw is at there))) (λ k there. absurd (Contains-nil k (Contains-permutation ks [] k moved there)))
key_set-sorted ks (x ∷ xs) done valid moved climbs is =
    let sorted : List KeyName = x ∷ xs in
    let pairs : Climbs sorted = λ i j d lt within. climbs i j d (omega arith) within in
    let back : (q : KeyName) → Contains sorted q → Contains ks q = λ q there. Contains-permutation sorted ks q (IsPermutation-sym ks sorted moved) there in
    key_set-rising done ks valid (rw is (dedup-rises x xs (climbs-tail x xs pairs) (climbs-head x xs pairs)))
    (λ k there. back k (Contains-from_dedup same_word sorted k (rw is at there)))
    (λ k there. rw is (dedup-has x xs (λ q at. All-contains IsValidKey ks q valid (back q at)) k (Contains-permutation ks sorted k moved there)))
