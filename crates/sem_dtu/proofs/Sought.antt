-- Whether a key is one of rising keys, by a binary search for its packed word.
use Rattle.std.proofs.Common.{◌≡◌, ℕ, ◌<◌, true, false, List, length, get_or, Result, Ok, Err, sym, ◌∙◌, ap, subst, inl, inr, true≢false, arith}
use Rattle.std.specs.List.{Contains, list_any}
use Rattle.std.specs.List.Sorted.{IsSearchInRange, IsBinarySearchResult, IsNonDecreasingBy}
use Rattle.std.specs.Ordering.{nat_cmp, ordering_index}
use Rattle.std.proofs.lemmas.Cmp.{ranked}
use Rattle.std.proofs.lemmas.Bool.{cases_lt, cases_Bool, false_from_ne_true}
use Rattle.std.proofs.lemmas.Bool.Decides.{nat_tests}
use Rattle.std.proofs.lemmas.List.{get_or_default}
use Rattle.sem_key.specs.KeyName.{KeyName, packed, key_eq}
use Rattle.sem_key.specs.KeyList.{IsRising}
use Rattle.sem_key.proofs.KeyTests.{key_eq-true, key_eq-from, key_eq-same}
use Rattle.sem_key.proofs.Members.{list_any-at, list_any-some}

module _ (ks : List KeyName) (rises : IsRising ks) (k : KeyName) where
  -- the comparisons with k rise along the list, as a binary search asks
  comparisons_rise : IsNonDecreasingBy (λ q. ordering_index (nat_cmp (packed q) (packed k))) ks
  comparisons_rise i j d le in_range = elim (cases_lt i j) [
    | inl lt ↦ let rise = rises i j d lt in_range in grind (arith, nat_tests)
    | inr ge ↦ let here : i ≡ j = omega arith in let same : get_or ks i d ≡ get_or ks j d = ap (λ n. get_or ks n d) here in rw same (omega arith)
  ]

  -- where no place has the word of k, k is not there
  none : ((j : ℕ) → j < length ks → packed (get_or ks j k) ≡ packed k → get_or ks j k ≡ k → ⊥) → false ≡ list_any (key_eq k) ks
  none nowhere = sym (false_from_ne_true (list_any (key_eq k) ks) (λ some. at_place (list_any-some (key_eq k) ks some)))
    where
      at_place : (x : KeyName) × Contains ks x × (key_eq k x ≡ true) → ⊥
      at_place (x, there, test) = by_place (subst (Contains ks) (sym (key_eq-true k x test)) there)
        where
          by_place : Contains ks k → ⊥
          by_place (j, within, here) = nowhere j within (ap packed here) here

  -- the place with the word of k tells whether k is there
  found_at : (at : ℕ) (e : KeyName) → at < length ks → packed (get_or ks at k) ≡ packed k → e ≡ get_or ks at k → key_eq e k ≡ list_any (key_eq k) ks
  found_at at e within word is = elim (cases_Bool (key_eq e k)) [
    | inl same ↦
        let one : e ≡ k = key_eq-true e k same in
        let there : Contains ks k = (at, within, sym is ∙ one) in
        same ∙ sym (list_any-at (key_eq k) ks k there (key_eq-same k))
    | inr other ↦ other ∙ none (λ j in_range same_word here. elim (cases_lt j at) [
      | inl below ↦ let rise = rises j at k below within in omega arith
      | inr above ↦ elim (cases_lt at j) [
        | inl lower ↦ let rise = rises at j k lower in_range in omega arith
        | inr upper ↦
            let place : j ≡ at = omega arith in
            let one : e ≡ k = is ∙ (ap (λ n. get_or ks n k) (sym place) ∙ here) in
            true≢false (sym (key_eq-from e k one) ∙ other)
      ]
    ])
  ]

  pub sought-ok : (r : Result ℕ ℕ) (at : ℕ) (e : KeyName) → r ≡ Ok at → IsSearchInRange r (length ks) →
      IsBinarySearchResult (λ q. nat_cmp (packed q) (packed k)) ks r → e ≡ get_or ks at e → key_eq e k ≡ list_any (key_eq k) ks
  sought-ok r at e is in_range position read =
      let within : at < length ks = rw is at in_range in
      let equal : IsBinarySearchResult (λ q. nat_cmp (packed q) (packed k)) ks (Ok at) = rw is at position in
      found_at at e within (ranked _ _ _ (sym (equal k))) (read ∙ get_or_default ks at e k within)

  pub sought-err : (r : Result ℕ ℕ) (at : ℕ) → r ≡ Err at → IsBinarySearchResult (λ q. nat_cmp (packed q) (packed k)) ks r → false ≡ list_any (key_eq k) ks
  sought-err r at is position =
      let parted : IsBinarySearchResult (λ q. nat_cmp (packed q) (packed k)) ks (Err at) = rw is at position in
      none (λ j within word here. elim (cases_lt j at) [
        | inl below ↦ let less : packed (get_or ks j k) < packed k = ranked _ _ _ (sym ((parted comparisons_rise).0 j k (omega arith) below)) in omega arith
        | inr above ↦ let more : packed k < packed (get_or ks j k) = ranked _ _ _ (sym ((parted comparisons_rise).1 j k above within)) in omega arith
      ])
