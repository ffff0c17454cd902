-- Finishing a job, step by step.
use Rattle.std.proofs.Common.{◌≡◌, ℕ, zero, suc, ◌+◌, ◌-◌, ◌<◌, ◌≤◌, ◌==◌, Bool, true, false, List, [], ◌∷◌, length, set, get_or, Option, Some, None, IfSome}
use Rattle.std.proofs.Common.{if◌then◌else◌, refl, sym, ◌∙◌, ap, subst, arith}
use Rattle.std.specs.List.{find}
use Rattle.std.specs.Bool.{then_some}
use Rattle.std.specs.Option.{option_and_then}
use Rattle.std.proofs.lemmas.Bool.Decides.{nat_tests}
use Rattle.std.proofs.lemmas.List.{length-map, get_or_default, set-get_or}
use Rattle.std.proofs.lemmas.List.Edits.{length-remove}
use Rattle.std.proofs.lemmas.Grind.{common_steps}
use Rattle.sem_msg.specs.Rows.{JobRow}
use Rattle.sem_msg.specs.declared.state.Up.{Up}
use Rattle.sem_msg.specs.declared.state.Up.TheVariants.{Local, Remote}
use Rattle.sem_msg.specs.JobRows.{job_of, job_changed, job_removed, count_lowered, token_given_back, ids_of}
use Rattle.sem_jobs.specs.JobStore.{HasRisingIds, IsPlaceOf, is_done}
use Rattle.sem_jobs.specs.Chain.{Chain, is_last_token, next_finishing, chain}
use Rattle.sem_jobs.proofs.JobPlaces.{found-changed, changed, removed, ids-removed}

-- The place of what was found.

pub record IsFoundAt {X : Type 0} (p : X → Bool) (xs : List X) (x : X) (at : ℕ) : Type 0 where
  in_range : at < length xs
  read : x ≡ get_or xs at x
  passes : p x ≡ true

find-place : {X : Type 0} (p : X → Bool) (xs : List X) (x : X) → find p xs ≡ Some x → (at : ℕ) × IsFoundAt p xs x at
find-place p [] x found = absurd cc
find-place {X} p (y ∷ ys) x found = by_test (p y) refl (find-place p ys x)
  where
    later : (at : ℕ) × IsFoundAt p ys x at → (at : ℕ) × IsFoundAt p (y ∷ ys) x at
    later (at, is) = (suc at, record { in_range = let within = is.in_range in omega arith; read = is.read; passes = is.passes })

    by_test : (t : Bool) → p y ≡ t → (find p ys ≡ Some x → (at : ℕ) × IsFoundAt p ys x at) → (at : ℕ) × IsFoundAt p (y ∷ ys) x at
    by_test true test tail =
        let here : Some y ≡ Some x = rw test at found in
        let same : y ≡ x = cc in
        (0, record { in_range = omega arith; read = sym same; passes = rw (← same) test })
    by_test false test tail = later (tail (rw test at found))

-- the job that is found has its place
pub record HasPlace (xs : List JobRow) (j : ℕ) (x : JobRow) (at : ℕ) : Type 0 where
  pub place : IsPlaceOf xs j at
  pub read : x ≡ get_or xs at x
  pub id : x.id ≡ j

pub place-found : (xs : List JobRow) (j : ℕ) (x : JobRow) → job_of xs j ≡ Some x → (at : ℕ) × HasPlace xs j x at
place-found xs j x found = placed (find-place (λ (y : JobRow). y.id == j) xs x found)
  where
    placed : (at : ℕ) × IsFoundAt (λ (y : JobRow). y.id == j) xs x at → (at : ℕ) × HasPlace xs j x at
    placed (at, is) =
        let passes = is.passes in
        let id : x.id ≡ j = grind (arith, nat_tests) in (
          at,
          record {
            place = record { in_range = is.in_range; id = λ d. ap (λ (y : JobRow). y.id) (get_or_default xs at d x is.in_range ∙ sym is.read) ∙ id };
            read = is.read;
            id = id;
          },
        )

-- Ids.

ids-changed : (j : ℕ) (f : JobRow → JobRow) (keeps : (x : JobRow) → (f x).id ≡ x.id) (xs : List JobRow) → ids_of (job_changed j f xs) ≡ ids_of xs
ids-changed j f keeps [] = refl
ids-changed j f keeps (x ∷ xs) = let tail = ids-changed j f keeps xs in grind (arith, common_steps, keeps x)

ids-told : (up : Option Up) (xs : List JobRow) → ids_of (token_given_back up xs) ≡ ids_of xs
ids-told None xs = refl
ids-told (Some (Local j)) xs = ids-changed j (λ (x : JobRow). record x { count = x.count - 1 }) (λ x. refl) xs
ids-told (Some (Remote kernel j)) xs = refl

length-told : (up : Option Up) (xs : List JobRow) → length (token_given_back up xs) ≡ length xs
length-told None xs = refl
length-told (Some (Local j)) xs = length-map xs _
length-told (Some (Remote kernel j)) xs = refl

-- A count of 0 stays.

-- a count of 0 is no less than it was
same-count : (x : JobRow) → x.count ≡ 0 → x ≡ record x { count = x.count - 1 }
same-count x none = ap (λ (n : ℕ). record x { count = n }) (omega arith)

module _ (xs : List JobRow) (next : ℕ) (ids : HasRisingIds (ids_of xs) next) (j : ℕ) (x : JobRow) (found : job_of xs j ≡ Some x) where
  pub lowered-zero : x.count ≡ 0 → count_lowered j xs ≡ xs
  lowered-zero none = by_place (place-found xs j x found)
    where
      by_place : (at : ℕ) × HasPlace xs j x at → count_lowered j xs ≡ xs
      by_place (at, has) =
          let there : set xs at x ≡ count_lowered j xs = changed xs next ids j at has.place x x (λ (y : JobRow). record y { count = y.count - 1 }) has.read
          (same-count x none) in
          sym there ∙ (ap (set xs at) has.read ∙ set-get_or xs at x)

  -- the last token is that which leaves none
  pub last-token : 0 < x.count → is_done (job_of (count_lowered j xs) j) ≡ is_last_token (job_of xs j)
  last-token some = rw (found-changed j (λ (y : JobRow). record y { count = y.count - 1 }) (λ y. refl) xs, found) (grind (arith, nat_tests))

  -- One job is taken out.

  pub shorter : length (job_removed j xs) + 1 ≡ length xs
  shorter = by_place (place-found xs j x found)
    where
      by_place : (at : ℕ) × HasPlace xs j x at → length (job_removed j xs) + 1 ≡ length xs
      by_place (at, has) = rw (← removed xs next ids j at has.place x) (length-remove xs at has.place.in_range)

  id-found : x.id ≡ j
  id-found = by_place (place-found xs j x found)
    where
      by_place : (at : ℕ) × HasPlace xs j x at → x.id ≡ j
      by_place (at, has) = has.id

  -- a turn of the chain, with any bound
  chain-turn : (m : ℕ) → chain (suc m) (Some x) xs ≡ record {
    left = (chain m (next_finishing x.up (job_removed j xs)) (token_given_back x.up (job_removed j xs))).left;
    gone = x ∷ (chain m (next_finishing x.up (job_removed j xs)) (token_given_back x.up (job_removed j xs))).gone;
  }
  unfolding chain
  chain-turn m = rw id-found refl

  pub ids-left : HasRisingIds (ids_of (token_given_back x.up (job_removed j xs))) next
  ids-left = rw (ids-told x.up (job_removed j xs)) (ids-removed xs next ids j)

  pub length-left : length (token_given_back x.up (job_removed j xs)) + 1 ≡ length xs
  length-left = let less = shorter in let same = length-told x.up (job_removed j xs) in omega arith

-- The chain of nothing.
pub chain-none : (n : ℕ) (xs : List JobRow) → chain n None xs ≡ record { left = xs; gone = [] }
unfolding chain
chain-none zero xs = refl
chain-none (suc n) xs = refl

-- what a turn does to the whole chain
pub record IsTurn (whole rest : Chain) (x : JobRow) (xs zs : List JobRow) : Type 0 where
  pub left : whole.left ≡ rest.left
  pub gone : whole.gone ≡ x ∷ rest.gone
  pub one_less : length zs + 1 ≡ length xs

pub turned : (xs ys zs : List JobRow) (next : ℕ) (j : ℕ) (x : JobRow) (up : Option Up) (o : Option JobRow) → HasRisingIds (ids_of xs) next →
    Some x ≡ job_of xs j → ys ≡ job_removed j xs → up ≡ x.up → zs ≡ token_given_back up ys → o ≡ next_finishing up ys →
    IsTurn (chain (length xs) (job_of xs j) xs) (chain (length zs) o zs) x xs zs
turned xs ys zs next j x up o ids found left same is_told done =
    let found : job_of xs j ≡ Some x = sym found in
    let long : suc (length (token_given_back x.up (job_removed j xs))) ≡ length xs = let less = length-left xs next ids j x found in omega arith in
    rw (is_told, done, same, left, found, ← long, chain-turn xs next ids j x found (length (token_given_back x.up (job_removed j xs))))
    (record { left = refl; gone = refl; one_less = omega arith })

-- The bound: more turns than jobs change nothing.

-- the job is the one of its id
abbrev pub IsThere : List JobRow → Option JobRow → Type 0
IsThere xs o = IfSome o (λ x. job_of xs x.id ≡ Some x)

-- the job that was looked up is there
pub there-found : (xs : List JobRow) (j : ℕ) → IsThere xs (job_of xs j)
there-found xs j = of_id (job_of xs j) refl
  where
    of_id : (o : Option JobRow) → job_of xs j ≡ o → IsThere xs o
    of_id None is = tt
    of_id (Some x) is = by_place (place-found xs j x is)
      where
        by_place : (at : ℕ) × HasPlace xs j x at → job_of xs x.id ≡ Some x
        by_place (at, has) = subst (λ n. job_of xs n ≡ Some x) (sym has.id) is

-- so is the job that is finished next
there-next : (up : Option Up) (ys : List JobRow) → IsThere (token_given_back up ys) (next_finishing up ys)
there-next None ys = tt
there-next (Some (Remote kernel j)) ys = tt
there-next (Some (Local j)) ys = by_test (is_last_token (job_of ys j))
  where
    by_test : (t : Bool) → IsThere (count_lowered j ys) (if t then job_of (count_lowered j ys) j else None)
    by_test true = there-found (count_lowered j ys) j
    by_test false = tt

pub chain-more : (n m : ℕ) (next : ℕ) (o : Option JobRow) (xs : List JobRow) → HasRisingIds (ids_of xs) next → IsThere xs o → length xs ≤ n → length xs ≤ m →
    chain n o xs ≡ chain m o xs
chain-more n m next None xs ids there few few' = chain-none n xs ∙ sym (chain-none m xs)
chain-more zero m next (Some x) xs ids there few few' = let less = length-left xs next ids x.id x there in absurd (omega arith)
chain-more (suc n) zero next (Some x) xs ids there few few' = let less = length-left xs next ids x.id x there in absurd (omega arith)
chain-more (suc n) (suc m) next (Some x) xs ids there few few' =
    let less = length-left xs next ids x.id x there in
    let rest = chain-more n m next (next_finishing x.up (job_removed x.id xs)) (token_given_back x.up (job_removed x.id xs)) (ids-left xs next ids x.id x there)
    (there-next x.up (job_removed x.id xs)) (omega arith) (omega arith) in
    rw (chain-turn xs next ids x.id x there n, chain-turn xs next ids x.id x there m, rest) refl

-- What telling a job gives back.
module _ (xs ys : List JobRow) (next : ℕ) (ids : HasRisingIds (ids_of xs) next) (j : ℕ) (x : JobRow) (found : job_of xs j ≡ Some x) (same : ys
    ≡ count_lowered j xs) where
  pub next-told : 0 < x.count → (t : Bool) (o : Option ℕ) → t ≡ is_done (job_of ys j) → o ≡ then_some t j →
      option_and_then (job_of ys) o ≡ next_finishing (Some (Local j)) xs
  next-told some t o last gives = rw (gives, ← last-token xs next ids j x found some, ← same, ← last) (chosen t)
    where
      chosen : (b : Bool) → option_and_then (job_of ys) (then_some b j) ≡ (if b then job_of ys j else None)
      chosen true = refl
      chosen false = refl
