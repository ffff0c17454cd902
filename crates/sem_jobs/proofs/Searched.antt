-- What a search by ids finds among the spots of a store.
use Rattle.std.proofs.Common.{◌≡◌, ℕ, ◌<◌, ◌==◌, List, length, get_or, None, IfSome, Result, Ok, Err, sym, ◌∙◌, ap, inl, inr, arith}
use Rattle.std.specs.List.Sorted.{IsSearchInRange, IsBinarySearchResult, IsNonDecreasingBy}
use Rattle.std.specs.Ordering.{nat_cmp, ordering_index}
use Rattle.std.specs.Result.{result_ok}
use Rattle.std.proofs.lemmas.Cmp.{ranked}
use Rattle.std.proofs.lemmas.List.{get_or-map}
use Rattle.std.proofs.lemmas.Bool.Decides.{nat_tests}
use Rattle.std.proofs.lemmas.Bool.{cases_lt}
use Rattle.slab.specs.Slab.{Slab}
use Rattle.sem_msg.specs.Rows.{JobRow}
use Rattle.sem_msg.specs.JobRows.{job_of, ids_of}
use Rattle.sem_key.proofs.OnePasses.{find-none}
use Rattle.sem_jobs.specs.declared.spot.IdSpot.{IdSpot}
use Rattle.sem_jobs.specs.JobStore.{HasRisingIds, IsPlaceOf}
use Rattle.sem_jobs.specs.Stored.{some_job, row_at, rows_of, IsPlaced}
use Rattle.sem_jobs.proofs.JobPlaces.{ids-rise}
use Rattle.sem_jobs.proofs.Places.{length-rows, row-id}

-- some spot
abbrev pub some_spot : IdSpot
some_spot = record { id = 0; place = 0 }

module _ (slab : Slab JobRow) (spots : List IdSpot) (next : ℕ) (stored : HasRisingIds (ids_of (rows_of slab spots)) next × IsPlaced slab spots) where
  -- the spot has the id of the job
  id-same : (i : ℕ) (x : JobRow) (s : IdSpot) → i < length spots → (get_or (rows_of slab spots) i x).id ≡ (get_or spots i s).id
  id-same i x s lt = ap (λ (y : JobRow). y.id) (get_or-map (row_at slab) spots i s x lt) ∙ row-id slab (get_or spots i s) (stored.1.leads i s lt)

  spots-rise : (i k : ℕ) (s : IdSpot) → i < k → k < length spots → (get_or spots i s).id < (get_or spots k s).id
  spots-rise i k s lt within = rw (
    ← id-same i (some_job 0) s (omega arith),
    ← id-same k (some_job 0) s within,
  ) (ids-rise (rows_of slab spots) next stored.0 i k (some_job 0) lt (omega (arith, length-rows slab spots, within)))

  -- A binary search by ids ends at the job, or where it would stand.
  module _ (j : ℕ) where
    comparisons-rise : IsNonDecreasingBy (λ (s : IdSpot). ordering_index (nat_cmp s.id j)) spots
    comparisons-rise m n d le within = elim (cases_lt m n) [
      | inl lt ↦ let rise = spots-rise m n d lt within in grind (arith, nat_tests)
      | inr ge ↦ let here : m ≡ n = omega arith in let same : get_or spots m d ≡ get_or spots n d = ap (λ k. get_or spots k d) here in rw same (omega arith)
    ]

    pub searched : (r : Result ℕ ℕ) → IsSearchInRange r (length spots) → IsBinarySearchResult (λ (s : IdSpot). nat_cmp s.id j) spots r →
        record { place : IfSome (result_ok r) (IsPlaceOf (rows_of slab spots) j); absent : result_ok r ≡ None → job_of (rows_of slab spots) j ≡ None }
    searched (Ok at) in_range equal = record {
      place = record {
        in_range = omega (arith, length-rows slab spots, in_range);
        id = λ d. id-same at d some_spot in_range
            ∙ ranked _ _ _ (sym (equal some_spot));
      };
      absent = λ none. absurd cc;
    }
    searched (Err at) in_range parted = record {
      place = tt;
      absent = λ none. find-none (λ (x : JobRow). x.id == j) (rows_of slab spots) (λ i d low lt. let long = length-rows slab spots in
          let is = id-same i d some_spot (omega arith) in elim (cases_lt i at) [
            | inl below ↦ let less : (get_or spots i some_spot).id < j = ranked _ _ _ (sym ((parted comparisons-rise).0 i some_spot low below)) in
                grind (arith, nat_tests)
            | inr above ↦ let more : j < (get_or spots i some_spot).id = ranked _ _ _ (sym ((parted comparisons-rise).1 i some_spot above (omega arith))) in
                grind (arith, nat_tests)
          ]);
    }
