-- What opening a job does to the jobs, and what it asks of the stores.
use Rattle.std.proofs.Common.{◌≡◌, ℕ, suc, ◌+◌, ◌<◌, ◌≤◌, Bool, true, false, cond, List, [], ◌∷◌, length, get_or, Option, Some, None, refl, ap, arith}
use Rattle.std.specs.Prelude.{◌==◌, IfSome, IsSomeAnd}
use Rattle.std.specs.List.{All, AllPairs, Contains}
use Rattle.std.specs.Option.{option_map}
use Rattle.std.proofs.lemmas.Bool.{cond-true, cond-false}
use Rattle.std.proofs.lemmas.Bool.Decides.{nat_tests}
use Rattle.std.proofs.lemmas.List.Elements.{All-contains, Contains-get_or}
use Rattle.sem_key.specs.KeyName.{KeyName}
use Rattle.sem_key.specs.Capability.{Capability}
use Rattle.sem_key.specs.Region.{linked_from, children_of, all_marked}
use Rattle.sem_key.proofs.Members.{Contains-from_filter, Contains-from_flat_map}
use Rattle.sem_msg.specs.Rows.{JobRow}
use Rattle.sem_msg.specs.JobRows.{job_of, ids_of, job_opened, job_changed, keep_set, with_up, count_raised}
use Rattle.sem_msg.specs.declared.state.Up.{Up}
use Rattle.sem_msg.specs.Setup.{Setup}
use Rattle.sem_mark.specs.Marking.{LeadsHome}
use Rattle.sem_mark.specs.Walks.{HasCount}
use Rattle.sem_mark.proofs.Marks.{find-map}
use Rattle.sem_mark.proofs.SortedKeys.{key_set-from}
use Rattle.sem_machine.specs.Revokes.{HasOwner}

-- Tokens.

-- a job as it is after a change of that one or another
job_of-changed : (j m : ℕ) (f : JobRow → JobRow) → ((x : JobRow) → (f x).id ≡ x.id) → (xs : List JobRow) →
    job_of (job_changed m f xs) j ≡ option_map (λ x. cond {A = JobRow} (x.id == m) (f x) x) (job_of xs j)
job_of-changed j m f keeps xs = find-map (λ x. x.id == j) (λ x. cond {A = JobRow} (x.id == m) (f x) x) (λ x. ap (λ n. n == j) (kept (x.id == m) x)) xs
  where
    kept : (t : Bool) (x : JobRow) → (cond {A = JobRow} t (f x) x).id ≡ x.id
    kept true x = keeps x
    kept false x = refl

some-mapped : (o : Option JobRow) (g : JobRow → JobRow) (P Q : JobRow → Type 0) → ((x : JobRow) → P x → Q (g x)) → IsSomeAnd o P → IsSomeAnd (option_map g o) Q
some-mapped None g P Q each none = none
some-mapped (Some x) g P Q each is = each x is

-- one token more is out for a job
pub raised-count : (j n : ℕ) (xs : List JobRow) → HasCount xs j n → HasCount (count_raised j xs) j (n + 1)
raised-count j n xs few = rw (job_of-changed j j (λ x. record x { count = x.count + 1 }) (λ x. refl) xs)
    (some-mapped (job_of xs j) _ (λ x. x.count ≤ n) (λ x. x.count ≤ n + 1) (λ x le. more (x.id == j) x le) few)
  where
    more : (t : Bool) (x : JobRow) → x.count ≤ n → (cond {A = JobRow} t (record x { count = x.count + 1 }) x).count ≤ n + 1
    more true x le = omega arith
    more false x le = omega arith

-- and as many as before, where a job waits for another
pub adopted-count : (j m n : ℕ) (up : Up) (xs : List JobRow) → HasCount xs j n → HasCount (with_up up m xs) j n
adopted-count j m n up xs few = rw (job_of-changed j m (λ x. record x { up = Some up; keep = false }) (λ x. refl) xs)
    (some-mapped (job_of xs j) _ (λ x. x.count ≤ n) (λ x. x.count ≤ n) (λ x le. same (x.id == m) x le) few)
  where
    same : (t : Bool) (x : JobRow) → x.count ≤ n → (cond {A = JobRow} t (record x { up = Some up; keep = false }) x).count ≤ n
    same true x le = le
    same false x le = le

-- no more tokens than a bound are no more than a higher one
pub count-below : (j n m : ℕ) (xs : List JobRow) → n ≤ m → HasCount xs j n → HasCount xs j m
count-below j n m xs le = from (job_of xs j)
  where
    from : (o : Option JobRow) → IsSomeAnd o (λ x. x.count ≤ n) → IsSomeAnd o (λ x. x.count ≤ m)
    from None none = none
    from (Some x) few = omega (arith, few, le)

-- and less than what lies above it
pub count-less : (j n m : ℕ) (xs : List JobRow) → n < m → HasCount xs j n → IfSome (job_of xs j) (λ x. x.count < m)
count-less j n m xs lt = from (job_of xs j)
  where
    from : (o : Option JobRow) → IsSomeAnd o (λ x. x.count ≤ n) → IfSome o (λ x. x.count < m)
    from None none = absurd none
    from (Some x) few = omega (arith, few, lt)

-- Owners: the children of capabilities that lead home have them.
pub children-owned : (T : Setup) (caps : List Capability) (ks : List KeyName) → All (LeadsHome T) caps → All (HasOwner T) (children_of caps ks)
children-owned T caps ks home n d within =
    from (get_or (children_of caps ks) n d)
    (key_set-from (linked_from caps ks) (get_or (children_of caps ks) n d) (Contains-get_or (children_of caps ks) n d within))
  where
    from : (k : KeyName) → Contains (linked_from caps ks) k → HasOwner T k
    from k there =
        let origin = Contains-from_flat_map (λ (c : Capability). c.children) _ k there in
        All-contains (HasOwner T) origin.0.children k (All-contains (LeadsHome T) caps origin.0 home (Contains-from_filter _ caps origin.0 origin.1).0) origin.2

-- Space: marks leave as many capabilities and as many links.
pub marked-length : (ks : List KeyName) (j : ℕ) (cs : List Capability) → length (all_marked ks j cs) ≡ length cs
marked-length ks j [] = refl
marked-length ks j (c ∷ cs) = ap suc (marked-length ks j cs)

-- Keeping: a job that was just opened is told to keep its root.
module _ (next : ℕ) (root : KeyName) (up : Option Up) (ws : List ℕ) where
  last-id : (xs : List JobRow) (d : ℕ) → get_or (ids_of (job_opened next root up ws false xs)) (length xs) d ≡ next
  last-id [] d = refl
  last-id (x ∷ xs) d = last-id xs d

  one-longer : (xs : List JobRow) → length (ids_of (job_opened next root up ws false xs)) ≡ length xs + 1
  one-longer [] = refl
  one-longer (x ∷ xs) = let rest = one-longer xs in omega (arith, rest)

  pub opened-kept : (xs : List JobRow) → AllPairs (λ m n. m < n) (ids_of (job_opened next root up ws false xs)) →
      keep_set next (job_opened next root up ws false xs) ≡ job_opened next root up ws true xs
  opened-kept [] rising = ap (λ (x : JobRow). x ∷ []) (cond-true (next == next) _ _ (grind (arith, nat_tests)))
  opened-kept (x ∷ xs) rising =
      let long = one-longer xs in
      let less : x.id < get_or (ids_of (job_opened next root up ws false xs)) (length xs) 0 = rising 0 (suc (length xs)) 0 (omega arith) (omega arith) in
      let last = last-id xs 0 in
      let other : (x.id == next) ≡ false = grind (arith, nat_tests) in
      rw (cond-false (x.id == next) (record x { keep = true }) x other)
      (ap (λ (ys : List JobRow). x ∷ ys) (opened-kept xs (λ m n d lt within. rising (suc m) (suc n) d (omega arith) (omega arith))))

-- no token is out for it then
pub kept-count : (j : ℕ) (xs : List JobRow) (x : JobRow) → job_of xs j ≡ Some x → x.count ≤ 0 → HasCount (keep_set j xs) j 0
kept-count j xs x there none = rw (job_of-changed j j (λ y. record y { keep = true }) (λ y. refl) xs, there) (same (x.id == j))
  where
    same : (t : Bool) → (cond {A = JobRow} t (record x { keep = true }) x).count ≤ 0
    same true = none
    same false = none
