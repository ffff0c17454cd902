-- What a search finds among lives in rising key order, and what an edit at that place does.
use Rattle.std.proofs.Common.{◌≡◌, ℕ, zero, suc, ◌<◌, List, [], ◌∷◌, length, get_or, Some, None, Result, Ok, Err, IfOk, IfErr, refl, sym, ap, ◌∙◌, inl, inr}
use Rattle.std.proofs.Common.{arith}
use Rattle.std.specs.List.{find, slice_get}
use Rattle.std.specs.List.Sorted.{IsSearchInRange, IsBinarySearchResult, IsNonDecreasingBy}
use Rattle.std.specs.Ordering.{nat_cmp, ordering_index}
use Rattle.std.proofs.lemmas.Cmp.{ranked}
use Rattle.std.proofs.lemmas.Bool.Decides.{nat_tests}
use Rattle.std.proofs.lemmas.Bool.{cases_lt}
use Rattle.sem_key.specs.KeyName.{KeyName, IsValidKey, packed, key_eq}
use Rattle.sem_key.proofs.KeyTests.{packed-injective, key_eq-from, key_eq-differs}
use Rattle.sem_key.proofs.OnePasses.{find-none, find-at}
use Rattle.sem_query.specs.Lives.{KeyLife}
use Rattle.sem_query.specs.Searching.{AreLives, IsLifeAt, IsGapFor}

module _ (ls : List KeyLife) (are : AreLives ls) (k : KeyName) where
  comparisons-rise : IsNonDecreasingBy (λ (l : KeyLife). ordering_index (nat_cmp (packed l.key) (packed k))) ls
  comparisons-rise i j d le within = elim (cases_lt i j) [
    | inl lt ↦ let rise = are.rising i j d lt within in grind (arith, nat_tests)
    | inr ge ↦ let here : i ≡ j = omega arith in let same : get_or ls i d ≡ get_or ls j d = ap (λ n. get_or ls n d) here in rw same (omega arith)
  ]

  -- a binary search by packed words ends at the life of the key, or at the gap for it
  pub searched : IsValidKey k → (r : Result ℕ ℕ) → IsSearchInRange r (length ls) →
      IsBinarySearchResult (λ (l : KeyLife). nat_cmp (packed l.key) (packed k)) ls r →
      record { found : IfOk r (IsLifeAt ls k); absent : IfErr r (IsGapFor ls k) }
  searched valid (Ok at) in_range equal = record {
    found = record { in_range = in_range; key = λ d. packed-injective (get_or ls at d).key k (are.valid at d in_range) valid (ranked _ _ _ (sym (equal d))) };
    absent = tt;
  }
  searched valid (Err at) in_range parted = record {
    found = tt;
    absent = record {
      in_range = in_range;
      before = λ j d low lt. ranked _ _ _ (sym ((parted comparisons-rise).0 j d low lt));
      after = λ j d le lt. ranked _ _ _ (sym ((parted comparisons-rise).1 j d le lt));
    };
  }

  -- the life at that place is the one that is found
  pub life-found : (at : ℕ) (x : KeyLife) → IsLifeAt ls k at → x ≡ get_or ls at x → find (λ l. key_eq l.key k) ls ≡ Some x
  life-found at x place is =
      find-at (λ (l : KeyLife). key_eq l.key k) ls at x
      (λ i d low lt. let less = are.rising i at d lt place.in_range in let there = place.key d in
      key_eq-differs (get_or ls i d).key k (λ same. omega (arith, less, same, ap packed there)))
      (key_eq-from (get_or ls at x).key k (place.key x))
      place.in_range
      ∙ ap Some (sym is)

  -- where there is a gap no life is found
  pub life-absent : (at : ℕ) → IsGapFor ls k at → find (λ l. key_eq l.key k) ls ≡ None
  life-absent at gap = find-none (λ (l : KeyLife). key_eq l.key k) ls (λ i d low lt. elim (cases_lt i at) [
    | inl below ↦ let less = gap.before i d low below in key_eq-differs (get_or ls i d).key k (λ same. omega (arith, less, same))
    | inr above ↦ let more = gap.after i d above lt in key_eq-differs (get_or ls i d).key k (λ same. omega (arith, more, same))
  ])

-- what stands at a place of a list
read : (ls : List KeyLife) (at : ℕ) → at < length ls → (x : KeyLife) × (slice_get ls at ≡ Some x) × ((d : KeyLife) → get_or ls at d ≡ x)
read [] at within = absurd (omega (arith, within))
read (x ∷ xs) zero within = (x, refl, λ d. refl)
read (x ∷ xs) (suc at) within = read xs at (omega arith)

-- the life that stands there is the one that is found
pub life-at : (ls : List KeyLife) → AreLives ls → (k : KeyName) (at : ℕ) → IsLifeAt ls k at → slice_get ls at ≡ find (λ l. key_eq l.key k) ls
life-at ls are k at place = let x = read ls at place.in_range in x.1 ∙ sym (life-found ls are k at x.0 place (sym (x.2 x.0)))
