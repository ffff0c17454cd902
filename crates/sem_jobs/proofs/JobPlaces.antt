-- What is found among jobs of rising id, and what a change at that place does.
use Rattle.std.proofs.Common.{◌≡◌, ℕ, ◌+◌, ◌<◌, ◌==◌, true, false, not, List, [], ◌∷◌, ◌++◌, length, set, get_or, Some, None, option_map, refl, sym, ◌∙◌, ap}
use Rattle.std.proofs.Common.{arith}
use Rattle.std.specs.List.{AllWithin, filter, remove}
use Rattle.std.proofs.lemmas.List.{get_or-map, length-map, map-append}
use Rattle.std.proofs.lemmas.List.Quantifiers.{all_pairs_push}
use Rattle.std.proofs.Math.Seq.{map-set_same}
use Rattle.std.proofs.lemmas.List.Elements.{All-filter, All-push, All-weaker}
use Rattle.std.proofs.lemmas.List.Folds.{find-append}
use Rattle.std.proofs.lemmas.List.Kept.{AllPairs-filter}
use Rattle.std.proofs.lemmas.Bool.Decides.{nat_tests}
use Rattle.std.proofs.lemmas.Grind.{common_steps}
use Rattle.sem_msg.specs.Rows.{JobRow}
use Rattle.sem_msg.specs.JobRows.{job_of, job_changed, job_removed, waiter_removed, ids_of}
use Rattle.sem_jobs.specs.JobStore.{JobStore, HasRisingIds, IsPlaceOf}
use Rattle.sem_key.proofs.OnePasses.{find-none, find-at, change-at, change-absent, others-at, others-absent}

-- stores with the same jobs, and all else the same
pub same_jobs : (next spare : ℕ) (xs ys : List JobRow) → xs ≡ ys →
    ◌≡◌ {A = JobStore} (record { jobs = xs; next = next; spare = spare }) (record { jobs = ys; next = next; spare = spare })
same_jobs next spare xs ys same = ap (λ (zs : List JobRow). record { jobs = zs; next = next; spare = spare }) same

length-ids : (xs : List JobRow) → length (ids_of xs) ≡ length xs
length-ids xs = length-map xs (λ (x : JobRow). x.id)

id-at : (xs : List JobRow) (i : ℕ) (x : JobRow) (d : ℕ) → i < length xs → get_or (ids_of xs) i d ≡ (get_or xs i x).id
id-at xs i x d within = get_or-map (λ (x : JobRow). x.id) xs i x d within

-- jobs of the same ids
pub ids-set : (xs : List JobRow) (at : ℕ) (row new : JobRow) → row ≡ get_or xs at row → new.id ≡ row.id → ids_of (set xs at new) ≡ ids_of xs
ids-set xs at row new read same = map-set_same (λ (x : JobRow). x.id) xs at new row (same ∙ ap (λ (x : JobRow). x.id) read)

pub ids-left_by : (v : ℕ) (xs : List JobRow) → ids_of (waiter_removed v xs) ≡ ids_of xs
ids-left_by v [] = refl
ids-left_by v (x ∷ xs) = ap (λ ns. x.id ∷ ns) (ids-left_by v xs)

-- a change of a job that is not there changes nothing
pub changed-absent : (j : ℕ) (f : JobRow → JobRow) (xs : List JobRow) → job_of xs j ≡ None → job_changed j f xs ≡ xs
changed-absent j f xs none = change-absent (λ (x : JobRow). x.id == j) f xs none

-- nor is one taken out
pub removed-absent : (j : ℕ) (xs : List JobRow) → job_of xs j ≡ None → job_removed j xs ≡ xs
removed-absent j xs none = others-absent (λ (x : JobRow). x.id == j) xs none

-- a job that was changed is found as it is now
pub found-changed : (j : ℕ) (f : JobRow → JobRow) (keeps : (x : JobRow) → (f x).id ≡ x.id) (xs : List JobRow) →
    job_of (job_changed j f xs) j ≡ option_map f (job_of xs j)
found-changed j f keeps [] = refl
found-changed j f keeps (x ∷ xs) = let tail = found-changed j f keeps xs in grind (arith, common_steps, keeps x)

module _ (xs : List JobRow) (next : ℕ) (ids : HasRisingIds (ids_of xs) next) where
  pub ids-rise : (i j : ℕ) (d : JobRow) → i < j → j < length xs → (get_or xs i d).id < (get_or xs j d).id
  ids-rise i j d lt within =
      let long = length-ids xs in
      rw (← id-at xs i d 0 (omega arith), ← id-at xs j d 0 within) (ids.rising i j 0 lt (omega arith))

  -- what is left after a job was taken out still rises
  pub ids-removed : (j : ℕ) → HasRisingIds (ids_of (job_removed j xs)) next
  ids-removed j = rw (ids-filter xs) (record {
    rising = AllPairs-filter (λ m n. m < n) (λ n. not (n == j)) (ids_of xs) ids.rising;
    drawn = All-filter (λ n. not (n == j)) (λ n. n < next) (ids_of xs) ids.drawn;
  })
    where
      ids-filter : (ys : List JobRow) → ids_of (job_removed j ys) ≡ filter (λ n. not (n == j)) (ids_of ys)
      ids-filter [] = refl
      ids-filter (y ∷ ys) = let tail = ids-filter ys in grind (arith, common_steps, nat_tests)

  -- so do the ids with that of a job under the next id
  pub ids-opened : (new : JobRow) → new.id ≡ next → HasRisingIds (ids_of (xs ++ new ∷ [])) (next + 1)
  ids-opened new id = rw (map-append (λ (x : JobRow). x.id) xs (new ∷ [])) (record {
    rising = all_pairs_push (λ m n. m < n) (ids_of xs) new.id ids.rising (λ k d lt. let less = ids.drawn k d lt in omega arith);
    drawn = All-push (λ n. n < next + 1) (ids_of xs) new.id (All-weaker (λ n. n < next) (λ n. n < next + 1) (λ n less. omega arith) (ids_of xs) ids.drawn)
        (omega arith);
  })

  -- a job under the next id is found
  pub found-opened : (new : JobRow) → new.id ≡ next → job_of (xs ++ new ∷ []) next ≡ Some new
  found-opened new id =
      let none : job_of xs next ≡ None = find-none (λ (x : JobRow). x.id == next) xs (λ i d low lt. let long = length-ids xs in
      let less = ids.drawn i 0 (omega arith) in let is = id-at xs i d 0 lt in grind (arith, nat_tests)) in
      let here : (new.id == next) ≡ true = grind (arith, nat_tests) in
      rw (find-append (λ (x : JobRow). x.id == next) xs (new ∷ []), none, here) refl

  -- the job is at that place
  module _ (j at : ℕ) (place : IsPlaceOf xs j at) where
    pass-here : (d : JobRow) → ((get_or xs at d).id == j) ≡ true
    pass-here d = let is = place.id d in grind (arith, nat_tests)

    fail-before : AllWithin (λ (x : JobRow). (x.id == j) ≡ false) xs 0 at
    fail-before i d low lt = let is = place.id d in let rise = ids-rise i at d lt place.in_range in grind (arith, nat_tests)

    fail-after : AllWithin (λ (x : JobRow). (x.id == j) ≡ false) xs (at + 1) (length xs)
    fail-after i d le lt = let is = place.id d in let rise = ids-rise at i d (omega arith) lt in grind (arith, nat_tests)

    -- it is found
    pub found : (row : JobRow) → row ≡ get_or xs at row → job_of xs j ≡ Some row
    found row read = find-at (λ (x : JobRow). x.id == j) xs at row fail-before (pass-here row) place.in_range ∙ ap Some (sym read)

    -- a change of the job is a change in that place
    pub changed : (row new : JobRow) (f : JobRow → JobRow) → row ≡ get_or xs at row → new ≡ f row → set xs at new ≡ job_changed j f xs
    changed row new f read is =
        let there = change-at (λ (x : JobRow). x.id == j) f xs at row fail-before (pass-here row) fail-after place.in_range in
        rw is (ap (λ x. set xs at (f x)) read ∙ sym there)

    -- without the job, all are left but the one in that place
    pub removed : (d : JobRow) → remove xs at ≡ job_removed j xs
    removed d = sym (others-at (λ (x : JobRow). x.id == j) xs at d fail-before (pass-here d) fail-after place.in_range)
