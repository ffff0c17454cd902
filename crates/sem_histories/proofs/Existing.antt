-- Every setup has a closed set: its schedules by their lengths, up to the bound.
use Rattle.std.proofs.Common.{◌≡◌, ℕ, zero, suc, ◌+◌, ◌≤◌, true, List, [], ◌∷◌, ◌++◌, length, map, get_or, sym, ap, subst, inl, inr, arith}
use Rattle.std.specs.List.{Contains, flat_map}
use Rattle.std.proofs.lemmas.Bool.{cases_eq, cases_lt}
use Rattle.std.proofs.lemmas.List.{length_push}
use Rattle.std.proofs.lemmas.List.Elements.{Contains-get_or, Contains-append_left, Contains-append_right, Contains-append_cases}
use Rattle.sem_key.proofs.Members.{Contains-head, Contains-nil, Contains-map, Contains-from_map, Contains-flat_map, Contains-from_flat_map, Contains-cons_cases}
use Rattle.sem_msg.specs.declared.entry.Entry.{Entry}
use Rattle.sem_msg.specs.declared.event.Event.{Event}
use Rattle.sem_msg.specs.Setup.{Setup, IsSetup}
use Rattle.sem_machine.specs.Machine.{is_enabled, enabled, entry_of}
use Rattle.sem_machine.specs.Schedules.{IsSchedule, world_after}
use Rattle.sem_machine.specs.Seeded.{entry_limit}
use Rattle.sem_machine.proofs.EnabledList.{enabled-exact}
use Rattle.sem_machine.proofs.Pushing.{schedule-push, schedule-empty}
use Rattle.sem_bound.proofs.Spent.{never-spent}
use Rattle.sem_histories.specs.Outcomes.{and_then}
use Rattle.sem_histories.specs.Closed.{Sameness, IsClosed}

module _ (T : Setup) where
  -- the schedules of n entries
  abbrev of_length : ℕ → List (List Entry)
  of_length zero = [] ∷ []
  of_length (suc n) = flat_map (λ J. map (and_then T J) (enabled T (world_after T J))) (of_length n)

  -- those of n entries at most
  abbrev up_to : ℕ → List (List Entry)
  up_to zero = of_length 0
  up_to (suc n) = up_to n ++ of_length (suc n)

  of-length : (n : ℕ) (J : List Entry) → Contains (of_length n) J → IsSchedule T J × (length J ≡ n)
  of-length zero J among = elim (Contains-cons_cases [] [] J among) [
    | inl same ↦ (schedule-empty T J (sym same), ap length (sym same))
    | inr none ↦ absurd (Contains-nil J none)
  ]
  of-length (suc n) J among =
      let (K, there, made) = Contains-from_flat_map (λ L. map (and_then T L) (enabled T (world_after T L))) (of_length n) J among in
      let (e, able, same) = Contains-from_map (and_then T K) (enabled T (world_after T K)) J made in
      let (runs, long) = of-length n K there in
      let grown : length (and_then T K e) ≡ length K + 1 = length_push K (entry_of T (world_after T K) e) in
      let whole : length (and_then T K e) ≡ length J = ap length same in
      (subst (IsSchedule T) same (schedule-push T K e runs ((enabled-exact T (world_after T K) e).0 able)), omega (arith, long, grown, whole))

  longer : (n : ℕ) (J : List Entry) (e : Event) → Contains (of_length n) J → is_enabled T (world_after T J) e ≡ true →
      Contains (of_length (suc n)) (and_then T J e)
  longer n J e among able = Contains-flat_map (λ L. map (and_then T L) (enabled T (world_after T L))) (of_length n) J (and_then T J e) among
      (Contains-map (and_then T J) (enabled T (world_after T J)) e ((enabled-exact T (world_after T J) e).1 able))

  -- each of them has a length, and those of each length are there
  placed : (m : ℕ) (J : List Entry) → Contains (up_to m) J → (k : ℕ) × Contains (of_length k) J × (k ≤ m)
  placed zero J among = (0, among, omega arith)
  placed (suc m) J among = elim (Contains-append_cases (up_to m) (of_length (suc m)) J among) [
    | inl before ↦ let (k, there, few) = placed m J before in (k, there, omega (arith, few))
    | inr last ↦ (suc m, last, omega arith)
  ]

  inside : (m k : ℕ) (J : List Entry) → Contains (of_length k) J → k ≤ m → Contains (up_to m) J
  inside zero k J there few = let none : k ≡ 0 = omega (arith, few) in subst (λ n. Contains (of_length n) J) none there
  inside (suc m) k J there few = elim (cases_eq k (suc m)) [
    | inl same ↦ Contains-append_right (up_to m) (of_length (suc m)) J (subst (λ n. Contains (of_length n) J) same there)
    | inr less ↦ Contains-append_left (up_to m) (of_length (suc m)) J (inside m k J there (omega (arith, few, less)))
  ]

  set-schedule : (m : ℕ) (J : List Entry) → Contains (up_to m) J → IsSchedule T J
  set-schedule m J among = let (k, there, few) = placed m J among in (of-length k J there).0

  -- none is longer than the bound allows
  onward : IsSetup T → (J : List Entry) (e : Event) → Contains (up_to (entry_limit T)) J → is_enabled T (world_after T J) e ≡ true →
      Contains (up_to (entry_limit T)) (and_then T J e)
  onward valid J e among able =
      let (k, there, few) = placed (entry_limit T) J among in
      let (runs, long) = of-length k J there in
      elim (cases_lt k (entry_limit T)) [
        | inl less ↦ inside (entry_limit T) (suc k) (and_then T J e) (longer k J e there able) (omega (arith, less))
        | inr full ↦
            let quiet : enabled T (world_after T J) ≡ [] = never-spent T valid J runs (omega (arith, full, long)) in
            absurd (Contains-nil e (subst (λ es. Contains es e) quiet ((enabled-exact T (world_after T J) e).1 able)))
      ]

  pub closed-set : (Same : Sameness) → ((J : List Entry) → Same J J) → IsSetup T → (V : List (List Entry)) × IsClosed Same T V
  closed-set Same itself valid = (
    up_to (entry_limit T),
    record {
      schedules = λ k d within. set-schedule (entry_limit T) (get_or (up_to (entry_limit T)) k d) (Contains-get_or (up_to (entry_limit T)) k d within);
      start = ([], inside (entry_limit T) 0 [] (Contains-head [] []) (omega arith), itself []);
      onward = λ J e among able. (and_then T J e, onward valid J e among able, itself (and_then T J e));
    },
  )
