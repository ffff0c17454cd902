-- What a search by the number of a VPE finds among declarations in rising order.
use Rattle.std.proofs.Common.{◌≡◌, ℕ, ◌<◌, ◌==◌, List, length, get_or, Some, None, Result, Ok, Err, refl, sym, ◌∙◌, ap, inl, inr, arith}
use Rattle.std.specs.Prelude.{AllPairs, find, IfSome}
use Rattle.std.specs.List.Sorted.{IsSearchInRange, IsBinarySearchResult, IsNonDecreasingBy}
use Rattle.std.specs.Ordering.{nat_cmp, ordering_index}
use Rattle.std.specs.Result.{result_ok}
use Rattle.std.proofs.lemmas.Cmp.{ranked}
use Rattle.std.proofs.lemmas.List.{get_or_read_under}
use Rattle.std.proofs.lemmas.Bool.Decides.{nat_tests}
use Rattle.std.proofs.lemmas.Bool.{cases_lt}
use Rattle.sem_key.proofs.OnePasses.{find-none, find-at}
use Rattle.sem_msg.specs.declared.setup.VpeDecl.{VpeDecl}

-- where a declaration of that VPE is
pub record IsDeclAt (ds : List VpeDecl) (v at : ℕ) : Type 0 where
  pub in_range : at < length ds
  pub vpe : (d : VpeDecl) → (get_or ds at d).vpe ≡ v

module _ (ds : List VpeDecl) (rise : AllPairs (λ (a b : VpeDecl). a.vpe < b.vpe) ds) (v : ℕ) where
  comparisons-rise : IsNonDecreasingBy (λ (d : VpeDecl). ordering_index (nat_cmp d.vpe v)) ds
  comparisons-rise m n d le within = elim (cases_lt m n) [
    | inl lt ↦ let rising = rise m n d lt within in grind (arith, nat_tests)
    | inr ge ↦ let here : m ≡ n = omega arith in let same : get_or ds m d ≡ get_or ds n d = ap (λ k. get_or ds k d) here in rw same (omega arith)
  ]

  pub searched : (r : Result ℕ ℕ) → IsSearchInRange r (length ds) → IsBinarySearchResult (λ (d : VpeDecl). nat_cmp d.vpe v) ds r →
      record { place : IfSome (result_ok r) (IsDeclAt ds v); absent : result_ok r ≡ None → find (λ d. d.vpe == v) ds ≡ None }
  searched (Ok at) in_range equal = record {
    place = record { in_range = in_range; vpe = λ d. ranked _ _ _ (sym (equal d)) };
    absent = λ none. absurd cc;
  }
  searched (Err at) in_range parted = record {
    place = tt;
    absent = λ none. find-none (λ (d : VpeDecl). d.vpe == v) ds (λ i d low lt. elim (cases_lt i at) [
      | inl below ↦ let less : (get_or ds i d).vpe < v = ranked _ _ _ (sym ((parted comparisons-rise).0 i d low below)) in grind (arith, nat_tests)
      | inr above ↦ let more : v < (get_or ds i d).vpe = ranked _ _ _ (sym ((parted comparisons-rise).1 i d above lt)) in grind (arith, nat_tests)
    ]);
  }

  -- the declaration at that place is the one that is found
  pub found : (at : ℕ) (x : VpeDecl) → IsDeclAt ds v at → x ≡ get_or ds at x → find (λ d. d.vpe == v) ds ≡ Some x
  found at x place is =
      find-at (λ (d : VpeDecl). d.vpe == v) ds at x
      (λ i d low lt. let less = rise i at d lt place.in_range in let there = place.vpe d in grind (arith, nat_tests))
      (let there = place.vpe x in grind (arith, nat_tests))
      place.in_range
      ∙ ap Some (sym is)

  -- so it is where it was looked for by its number
  pub guessed : (at : ℕ) (x y : VpeDecl) → at < length ds → x ≡ get_or ds at x → x.vpe ≡ v → y ≡ get_or ds at y → find (λ d. d.vpe == v) ds ≡ Some y
  guessed at x y lt is same is_too =
      found at y (record {
        in_range = lt;
        vpe = λ d. ap (λ (e : VpeDecl). e.vpe) (sym (get_or_read_under ds at (length ds) x d is lt refl)) ∙ same;
      }) is_too
