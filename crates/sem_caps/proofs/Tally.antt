-- How many capabilities each group of jobs has marked.
use Rattle.std.proofs.Common.{◌≡◌, ◌≢◌, ℕ, ◌+◌, ◌-◌, ◌<◌, ◌≤◌, Bool, true, false, not, cond, List, [], ◌∷◌, ◌++◌, length, map, take, drop, set, get_or}
use Rattle.std.proofs.Common.{replicate, Option, Some, None, IfSome, refl, sym, ◌∙◌, ap, inl, inr, arith, length-set, get_or-set_other, eq-eqb}
use Rattle.std.specs.Prelude.{◌==◌, count_by}
use Rattle.std.specs.List.{insert, filter, slice_get}
use Rattle.std.specs.Option.{option_map_or}
use Rattle.std.proofs.lemmas.Bool.{cases_Bool, cases_eq, eqb-true, ne_eqb, cond-true, cond-false}
use Rattle.std.proofs.lemmas.Grind.{get_or-set_at}
use Rattle.std.proofs.lemmas.List.{map-set, get_or-replicate, length-append, length-map, length-replicate}
use Rattle.std.proofs.lemmas.Option.{slice_get_within, get_or_from_slice_get}
use Rattle.std.proofs.lemmas.List.Filters.{sum_by-filter_both}
use Rattle.std.proofs.lemmas.List.Sums.{sum_by-cons, sum_by-append, sum_by-take-drop, sum_by-set, sum_by-le-sum_by, get_or-le-sum_by, length-filter}
use Rattle.std.proofs.lemmas.List.Sums.{count_by-le-length}
use Rattle.sem_key.specs.declared.object.Cap.{Cap}
use Rattle.sem_key.specs.KeyList.{IsKeyList}
use Rattle.sem_key.specs.Capability.{Capability, capability_of}
use Rattle.sem_key.specs.CapList.{keys_of, is_marked_by, marked_by}
use Rattle.sem_key.specs.KeyName.{KeyName}
use Rattle.sem_caps.specs.CapStore.{key_and_selector}
use Rattle.sem_caps.specs.Stored.{capabilities_in, IsOnlyMarked, IsTallied, mark_groups, group_of, is_marked_in, with_mark_counted, without_mark, most_keys}
use Rattle.sem_caps.proofs.RisingCaps.{length-plain, length-keys}
use Rattle.sem_caps.proofs.Inserted.{map-insert}
use Rattle.sem_caps.proofs.Links.{keys-few}
use Rattle.sem_caps.proofs.Swept.{plain-filter}
use Rattle.sem_caps.proofs.Alone.{one-passes}

-- one, if a job of the group has marked it
abbrev mark_in : ℕ → Capability → ℕ
mark_in g c = cond {A = ℕ} (is_marked_in g c) 1 0

-- the same of a mark
abbrev in_group : ℕ → Option ℕ → Bool
in_group g m = option_map_or (λ j. group_of j == g) m false

one-in : (g : ℕ) (c : Capability) (m : Option ℕ) → c.mark ≡ m → mark_in g c ≡ cond {A = ℕ} (in_group g m) 1 0
one-in g c m is = ap (λ (x : Option ℕ). cond {A = ℕ} (in_group g x) 1 0) is

own : (g job : ℕ) → g ≡ group_of job → cond {A = ℕ} (in_group g (Some job)) 1 0 ≡ 1
own g job same = cond-true {A = ℕ} (group_of job == g) 1 0 (eq-eqb (group_of job) g (sym same))

other : (g job : ℕ) → g ≢ group_of job → cond {A = ℕ} (in_group g (Some job)) 1 0 ≡ 0
other g job differs = cond-false {A = ℕ} (group_of job == g) 1 0 (ne_eqb (group_of job) g (λ same. differs (sym same)))

-- each job has a group
pub group-few : (job : ℕ) → group_of job < mark_groups
group-few job = omega arith

-- what is written for the group of a job is read there
written : (marks : List ℕ) → length marks ≡ mark_groups → (job g n : ℕ) → g ≡ group_of job → get_or (set marks (group_of job) n) g 0 ≡ n
written marks long job g n same = get_or-set_at marks (group_of job) g n 0 same (let few = group-few job in omega (arith, long, few))

-- nothing is marked
pub tallied-empty : IsTallied [] (replicate mark_groups 0)
tallied-empty = record {
  groups = length-replicate {A = ℕ} mark_groups 0;
  tallied = λ g lt. get_or-replicate {A = ℕ} mark_groups g 0 0 lt;
}

-- one capability in its place was changed
module _ (rows : List Cap) (at : ℕ) (row new : Cap) (marks : List ℕ) (within : at < length rows)
    (read : get_or (capabilities_in rows) at (capability_of row) ≡ capability_of row) (tallied : IsTallied rows marks) where
  there : at < length (capabilities_in rows)
  there = let long = length-plain rows in omega arith

  changed : (g : ℕ)
      → count_by (is_marked_in g) (capabilities_in (set rows at new)) + mark_in g (capability_of row)
      ≡ count_by (is_marked_in g) (capabilities_in rows) + mark_in g (capability_of new)
  changed g =
      let sum = sum_by-set (mark_in g) (capabilities_in rows) at (capability_of new) (capability_of row) there in
      let same = ap (mark_in g) read in
      let edited = ap (count_by (is_marked_in g)) (map-set capability_of rows at new) in
      omega (arith, sum, same, edited)

  pub tallied-same : new.mark ≡ row.mark → IsTallied (set rows at new) marks
  tallied-same same = record {
    groups = tallied.groups;
    tallied = λ g lt.
        let sum = changed g in
        let was = tallied.tallied g lt in
        let equal = one-in g (capability_of new) row.mark same in
        omega (arith, sum, was, equal);
  }

  pub tallied-more : (job : ℕ) → row.mark ≡ None → new.mark ≡ Some job → IsTallied (set rows at new) (with_mark_counted job marks)
  tallied-more job before after = record {
    groups = length-set marks (group_of job) (get_or marks (group_of job) 0 + 1) ∙ tallied.groups;
    tallied = λ g lt.
        let sum = changed g in
        let was = tallied.tallied g lt in
        let out : mark_in g (capability_of row) ≡ 0 = one-in g (capability_of row) None before in
        let into = one-in g (capability_of new) (Some job) after in
        elim (cases_eq g (group_of job)) [
          | inl same ↦
              let write = written marks tallied.groups job g (get_or marks (group_of job) 0 + 1) same in
              let one = own g job same in
              let here = ap (λ n. get_or marks n 0) same in
              omega (arith, sum, was, out, into, write, one, here)
          | inr differs ↦
              let kept = get_or-set_other marks (group_of job) g (get_or marks (group_of job) 0 + 1) 0 differs in
              let none = other g job differs in
              omega (arith, sum, was, out, into, kept, none)
        ];
  }

  pub tallied-less : new.mark ≡ None → IsTallied (set rows at new) (without_mark row.mark marks)
  tallied-less none = go row.mark refl
    where
      go : (m : Option ℕ) → row.mark ≡ m → IsTallied (set rows at new) (without_mark m marks)
      go None is = tallied-same (none ∙ sym is)
      go (Some job) is = record {
        groups = length-set marks (group_of job) (get_or marks (group_of job) 0 - 1) ∙ tallied.groups;
        tallied = λ g lt.
            let sum = changed g in
            let was = tallied.tallied g lt in
            let out = one-in g (capability_of row) (Some job) is in
            let into : mark_in g (capability_of new) ≡ 0 = one-in g (capability_of new) None none in
            elim (cases_eq g (group_of job)) [
              | inl same ↦
                  let write = written marks tallied.groups job g (get_or marks (group_of job) 0 - 1) same in
                  let one = own g job same in
                  let here = ap (λ n. get_or marks n 0) same in
                  omega (arith, sum, was, out, into, write, one, here)
              | inr differs ↦
                  let kept = get_or-set_other marks (group_of job) g (get_or marks (group_of job) 0 - 1) 0 differs in
                  let zero_one = other g job differs in
                  omega (arith, sum, was, out, into, kept, zero_one)
            ];
      }

  pub mark-counted : IfSome row.mark (λ job. 1 ≤ get_or marks (group_of job) 0)
  mark-counted = go row.mark refl
    where
      go : (m : Option ℕ) → row.mark ≡ m → IfSome m (λ job. 1 ≤ get_or marks (group_of job) 0)
      go None is = tt
      go (Some job) is =
          let le = get_or-le-sum_by (mark_in (group_of job)) (capabilities_in rows) at (capability_of row) there in
          let same = ap (mark_in (group_of job)) read in
          let some = one-in (group_of job) (capability_of row) (Some job) is in
          let one = own (group_of job) job refl in
          let was = tallied.tallied (group_of job) (group-few job) in
          omega (arith, le, same, some, one, was)

-- one capability without a mark was inserted
pub tallied-insert : (rows : List Cap) (at : ℕ) (new : Cap) (marks : List ℕ) → new.mark ≡ None → IsTallied rows marks → IsTallied (insert rows at new) marks
tallied-insert rows at new marks none tallied = record {
  groups = tallied.groups;
  tallied = λ g lt.
      let edited = ap (count_by (is_marked_in g)) (map-insert capability_of rows at new) in
      let c = capability_of new in
      let parts = sum_by-append (mark_in g) (take at (capabilities_in rows)) (c ∷ drop at (capabilities_in rows)) in
      let head = sum_by-cons (mark_in g) c (drop at (capabilities_in rows)) in
      let whole = sum_by-take-drop (mark_in g) (capabilities_in rows) at in
      let zero_here : mark_in g c ≡ 0 = one-in g c None none in
      let was = tallied.tallied g lt in
      omega (arith, edited, parts, head, whole, zero_here, was);
}

-- What one job has marked.

module _ (job : ℕ) where
  -- it is marked in the group of the job
  marked-mark : (c : Capability) → is_marked_by job c ≡ true → c.mark ≡ Some job
  marked-mark c is = go c.mark is
    where
      go : (m : Option ℕ) → option_map_or (λ j. j == job) m false ≡ true → m ≡ Some job
      go None never = absurd cc
      go (Some j) yes_it = ap Some (eqb-true j job yes_it)

  own-marked : (c : Capability) → is_marked_by job c ≡ true → mark_in (group_of job) c ≡ 1
  own-marked c is = one-in (group_of job) c (Some job) (marked-mark c is) ∙ own (group_of job) job refl

  -- no more are marked by the job than by its group
  marked-le : (cs : List Capability) → length (marked_by job cs) ≤ count_by (is_marked_in (group_of job)) cs
  marked-le cs =
      let all = length-filter (is_marked_by job) cs in
      let le = sum_by-le-sum_by (λ c. cond {A = ℕ} (is_marked_by job c) 1 0) (mark_in (group_of job)) cs each in
      omega (arith, all, le)
    where
      each : (c : Capability) → cond {A = ℕ} (is_marked_by job c) 1 0 ≤ mark_in (group_of job) c
      each c = elim (cases_Bool (is_marked_by job c)) [
        | inl here ↦ let one = cond-true {A = ℕ} (is_marked_by job c) 1 0 here in let there = own-marked c here in omega (arith, one, there)
        | inr none ↦ let zero_it = cond-false {A = ℕ} (is_marked_by job c) 1 0 none in omega (arith, zero_it)
      ]

  -- what is marked by the job is marked by its group, and by no other
  swept-own : (g : ℕ) → g ≡ group_of job → (cs : List Capability) → count_by (is_marked_in g) (marked_by job cs) ≡ length (marked_by job cs)
  swept-own g same [] = refl
  swept-own g same (c ∷ cs) = let rest = swept-own g same cs in elim (cases_Bool (is_marked_by job c)) [
    | inl here ↦
        let first = ap (count_by (is_marked_in g)) (cond-true (is_marked_by job c) (c ∷ marked_by job cs) (marked_by job cs) here) in
        let long = ap (λ (xs : List Capability). length xs) (cond-true (is_marked_by job c) (c ∷ marked_by job cs) (marked_by job cs) here) in
        let head = sum_by-cons (mark_in g) c (marked_by job cs) in
        let one = one-in g c (Some job) (marked-mark c here) ∙ own g job same in
        omega (arith, rest, first, long, head, one)
    | inr none ↦
        let first = ap (count_by (is_marked_in g)) (cond-false (is_marked_by job c) (c ∷ marked_by job cs) (marked_by job cs) none) in
        let long = ap (λ (xs : List Capability). length xs) (cond-false (is_marked_by job c) (c ∷ marked_by job cs) (marked_by job cs) none) in
        omega (arith, rest, first, long)
  ]

  swept-other : (g : ℕ) → g ≢ group_of job → (cs : List Capability) → count_by (is_marked_in g) (marked_by job cs) ≡ 0
  swept-other g differs [] = refl
  swept-other g differs (c ∷ cs) = let rest = swept-other g differs cs in elim (cases_Bool (is_marked_by job c)) [
    | inl here ↦
        let first = ap (count_by (is_marked_in g)) (cond-true (is_marked_by job c) (c ∷ marked_by job cs) (marked_by job cs) here) in
        let head = sum_by-cons (mark_in g) c (marked_by job cs) in
        let none = one-in g c (Some job) (marked-mark c here) ∙ other g job differs in
        omega (arith, rest, first, head, none)
    | inr none ↦
        let first = ap (count_by (is_marked_in g)) (cond-false (is_marked_by job c) (c ∷ marked_by job cs) (marked_by job cs) none) in
        omega (arith, rest, first)
  ]

  module _ (rows : List Cap) (marks : List ℕ) (tallied : IsTallied rows marks) where
    -- no more than are counted
    pub marked-few : length (marked_by job (capabilities_in rows)) ≤ get_or marks (group_of job) 0
    marked-few =
        let le = marked-le (capabilities_in rows) in
        let was = tallied.tallied (group_of job) (group-few job) in
        omega (arith, le, was)

    -- as many were removed as the job had marked
    pub tallied-swept : (n : ℕ) → n ≡ length (marked_by job (capabilities_in rows))
        → IsTallied (filter (λ c. not (is_marked_by job (capability_of c))) rows) (set marks (group_of job) (get_or marks (group_of job) 0 - n))
    tallied-swept n is = record {
      groups = length-set marks (group_of job) (get_or marks (group_of job) 0 - n) ∙ tallied.groups;
      tallied = λ g lt.
          let left = ap (count_by (is_marked_in g)) (plain-filter job rows) in
          let both = sum_by-filter_both (is_marked_by job) (λ c. not (is_marked_by job c)) (λ c. refl) (mark_in g) (capabilities_in rows) in
          let was = tallied.tallied g lt in
          elim (cases_eq g (group_of job)) [
            | inl same ↦
                let write = written marks tallied.groups job g (get_or marks (group_of job) 0 - n) same in
                let all = swept-own g same (capabilities_in rows) in
                let here = ap (λ k. get_or marks k 0) same in
                omega (arith, left, both, was, write, all, here, is)
            | inr differs ↦
                let kept = get_or-set_other marks (group_of job) g (get_or marks (group_of job) 0 - n) 0 differs in
                let none = swept-other g differs (capabilities_in rows) in
                omega (arith, left, both, was, kept, none)
          ];
    }

    -- there is a number for one more
    pub marks-few : IsKeyList (keys_of (capabilities_in rows)) → get_or marks (group_of job) 0 ≤ most_keys
    marks-few is_list =
        let caps = keys-few (keys_of (capabilities_in rows)) is_list in
        let long = length-keys (capabilities_in rows) in
        let le = count_by-le-length (is_marked_in (group_of job)) (capabilities_in rows) in
        let was = tallied.tallied (group_of job) (group-few job) in
        omega (arith, caps, long, le, was)

  -- so many were removed
  pub removed-count : (cs : List Capability) (before after : List (KeyName × ℕ)) → after ≡ before ++ map key_and_selector (marked_by job cs)
      → length after - length before ≡ length (marked_by job cs)
  removed-count cs before after is =
      let long = length-append before (map key_and_selector (marked_by job cs)) in
      let each = length-map (marked_by job cs) key_and_selector in
      let whole = ap (λ (xs : List (KeyName × ℕ)). length xs) is in
      omega (arith, long, each, whole)

  -- a capability that is marked, and no other
  pub alone-here : (cs : List Capability) (at : ℕ) (c : Capability) → slice_get cs at ≡ Some c → is_marked_by job c ≡ true → length (marked_by job cs) ≤ 1
      → IsOnlyMarked job cs at
  alone-here cs at c here marked few =
      let within = slice_get_within cs at c here in
      let there : is_marked_by job (get_or cs at c) ≡ true = ap (is_marked_by job) (get_or_from_slice_get cs at c c here) ∙ marked in
      let some = one-passes (is_marked_by job) cs at c within there in
      record {
        within = within;
        marked = λ d. ap (is_marked_by job) (get_or_from_slice_get cs at c d here) ∙ marked;
        one = omega (arith, some, few);
      }
