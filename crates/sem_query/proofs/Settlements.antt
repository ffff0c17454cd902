-- The entry that settles a call, found step by step.
use Rattle.std.proofs.Common.{◌≡◌, ℕ, ◌+◌, ◌-◌, ◌≤◌, ◌<◌, List, length, take, get_or, Option, None, refl, sym, ap, ◌∙◌, subst, inl, inr, arith}
use Rattle.std.proofs.lemmas.Bool.{cases_eq, cases_lt, cases_order}
use Rattle.std.proofs.lemmas.List.{length-take-le, take-take}
use Rattle.std.proofs.lemmas.List.FromFn.{length-map-range_with_len, get_or-map-range_with_len}
use Rattle.sem_key.specs.declared.limits.TheConstants.{VPES}
use Rattle.sem_msg.specs.declared.entry.Entry.{Entry}
use Rattle.sem_msg.specs.declared.state.Parked.{Parked}
use Rattle.sem_msg.specs.Setup.{Setup, IsSetup}
use Rattle.sem_msg.specs.Lookups.{kernel_of}
use Rattle.sem_machine.specs.Sides.{parked}
use Rattle.sem_machine.specs.Machine.{side}
use Rattle.sem_machine.specs.Schedules.{IsSchedule, world_after}
use Rattle.sem_query.specs.Denials.{IsCallAt, IsLastCall, state_after, Settles}
use Rattle.sem_query.specs.Denials.Settles.{by_parking}
use Rattle.sem_query.specs.Parking.{states_since, IsFirstPlace}
use Rattle.sem_query.proofs.Explaining.{entry-at}
use Rattle.sem_query.proofs.ReplyCodes.{first-runs, caller-small}

-- The last call, looked for from entry n back.
module _ (J : List Entry) (v n place : ℕ) (later : (m : ℕ) → place < m → m ≤ n → ¬ IsCallAt J v m) where
  -- where entry `place` is no call either, one before it is
  pub call-before : (b : ℕ) × (b ≤ n) × IsCallAt J v b → ¬ IsCallAt J v place → 1 ≤ place
  call-before (b, by, call) other = elim (cases_order b place) [
    | inl same ↦ absurd (other (subst (IsCallAt J v) same call))
    | inr (inl before) ↦ omega (arith, before)
    | inr (inr behind) ↦ absurd (later b behind by call)
  ]

  pub later-more : ¬ IsCallAt J v place → (m : ℕ) → place - 1 < m → m ≤ n → ¬ IsCallAt J v m
  later-more other m behind by = elim (cases_eq m place) [
    | inl same ↦ λ call. other (subst (IsCallAt J v) same call)
    | inr differs ↦ later m (omega (arith, behind, differs)) by
  ]

module _ (T : Setup) (valid : IsSetup T) (J : List Entry) (runs : IsSchedule T J) where
  -- the first entries of a schedule are one
  pub front-runs : (n : ℕ) → n < length J → IsSchedule T (take n J)
  front-runs n within = let e = entry-at J n within in first-runs T valid J runs n e.0 e.1

  -- a VPE that made a call has a place
  pub called-small : (v n : ℕ) → (b : ℕ) × (b ≤ n) × IsCallAt J v b → v < VPES
  called-small v n (b, by, (e, at, act)) = caller-small T valid J runs b e at v act

-- The states since the last call, which is entry b.
module _ (T : Setup) (J : List Entry) (v n b : ℕ) (call : IsLastCall J v n b) (early : b < n) (within : n < length J) where
  abbrev states : List (Option Parked)
  states = states_since T (take n J) v b

  pub states-length : length states ≡ n - b
  states-length =
      length-map-range_with_len (λ m. state_after T (take n J) v (m + 1)) b (length (take n J) - b)
      ∙ ap (λ m. m - b) (length-take-le n J (omega (arith, within)))

  state-at : (k m : ℕ) → m < n → b + k ≡ m → get_or states k None ≡ state_after T J v (m + 1)
  state-at k m before is =
      let long = length-take-le n J (omega (arith, within)) in
      get_or-map-range_with_len (λ m. state_after T (take n J) v (m + 1)) b (length (take n J) - b) k m None (omega (arith, long, before, is)) is
      ∙ ap (λ (K : List Entry). parked (side (world_after T K) (kernel_of T v)) v) (take-take (m + 1) n J (omega (arith, before)))

  module _ (last : Option Parked) (is_last : last ≡ get_or states (n - b - 1) None) (i : ℕ) (place : IsFirstPlace states last i) where
    last-state : last ≡ state_after T J v n
    last-state =
        let same : n - 1 + 1 ≡ n = omega (arith, early) in
        is_last ∙ (state-at (n - b - 1) (n - 1) (omega (arith, early)) (omega (arith, early)) ∙ ap (state_after T J v) same)

    pub place-found : b + i < n
    place-found = elim (cases_lt (n - b - 1) i) [
      | inl behind ↦ absurd (place.first (n - b - 1) behind (sym is_last))
      | inr up_to ↦ omega (arith, early, up_to)
    ]

    pub settles-there : Settles T J v n (b + i)
    settles-there = by_parking b (b + i) call early (omega arith)
        (sym (state-at i (b + i) place-found refl) ∙ (place.found (let here = place-found in omega (arith, here, states-length)) ∙ last-state))
        (λ m from before alike. place.first (m - b) (omega (arith, from, before)) (state-at (m - b) m (let here = place-found in
        omega (arith, here, before)) (omega (arith, from)) ∙ (alike ∙ sym last-state)))
