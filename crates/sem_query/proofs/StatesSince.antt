-- A world that goes through the events of a schedule while the states are gathered in which a call is parked.
use Rattle.std.proofs.Common.{◌≡◌, ℕ, suc, ◌+◌, ◌-◌, ◌≤◌, ◌<◌, true, List, [], ◌∷◌, ◌++◌, length, map, take, drop, get_or, Option, sym, ◌∙◌, ap, subst, arith}
use Rattle.std.specs.List.{range_with_len}
use Rattle.std.proofs.lemmas.List.{take_more, take-append-drop}
use Rattle.std.proofs.lemmas.List.FromFn.{map-range_with_len_more}
use Rattle.std.proofs.Math.Seq.{drop-cons}
use Rattle.sem_msg.specs.declared.entry.Entry.{Entry}
use Rattle.sem_msg.specs.declared.state.Parked.{Parked}
use Rattle.sem_msg.specs.Setup.{Setup}
use Rattle.sem_msg.specs.Lookups.{kernel_of}
use Rattle.sem_machine.specs.Sides.{parked}
use Rattle.sem_machine.specs.Machine.{World, side, start, after, is_enabled, entry_of}
use Rattle.sem_machine.specs.Schedules.{IsSchedule, world_after}
use Rattle.sem_safety.proofs.GoingOn.{entry-enabled, run-append}
use Rattle.sem_kernel.specs.Worlds.{WorldValue}
use Rattle.sem_query.specs.Denials.{state_after}

-- the world after some entries, with its setup
abbrev world_at : Setup → List Entry → WorldValue
world_at T J = record { setup = T; world = world_after T J }

-- the states from entry b on, as far as entry `place` was reached
abbrev pub states_until : Setup → List Entry → ℕ → ℕ → ℕ → List (Option Parked)
states_until T J v b place = map (λ m. state_after T J v (m + 1)) (range_with_len b (place - b))

-- at first there are none
pub no-states : (T : Setup) (J : List Entry) (v b : ℕ) → [] ≡ states_until T J v b 0
no-states T J v b =
    let none : 0 ≡ 0 - b = omega arith in
    ap (λ n. map (λ m. state_after T J v (m + 1)) (range_with_len b n)) none

-- before entry b there are none either
pub states-same : (T : Setup) (J : List Entry) (v b place : ℕ) → place < b → states_until T J v b place ≡ states_until T J v b (place + 1)
states-same T J v b place early =
    let same : place - b ≡ place + 1 - b = omega arith in
    ap (λ n. map (λ m. state_after T J v (m + 1)) (range_with_len b n)) same

-- It has come to the entry at a place.
module _ (T : Setup) (J : List Entry) (runs : IsSchedule T J) (place : ℕ) (e : Entry) (now : WorldValue) (so_far : now ≡ world_at T (take place J))
    (within : place < length J) (at : e ≡ get_or J place e) where
  with-it : J ≡ take place J ++ e ∷ drop (suc place) J
  with-it = sym (ap (λ (xs : List Entry). take place J ++ xs) (sym (drop-cons J place e within ∙ ap (λ (x : Entry). x ∷ drop (suc place) J) (sym at)))
      ∙ take-append-drop place J)

  on : IsSchedule T (take place J) × (is_enabled T (world_after T (take place J)) e.event ≡ true) × (e ≡ entry_of T (world_after T (take place J)) e.event)
  on = entry-enabled T (take place J) (start T) e (drop (suc place) J) (subst (IsSchedule T) with-it runs)

  -- its event is enabled
  pub next-enabled : is_enabled now.setup now.world e.event ≡ true
  next-enabled = subst (λ (w : WorldValue). is_enabled w.setup w.world e.event ≡ true) (sym so_far) on.1

  -- after it one more entry is behind it
  pub next-world : (new : WorldValue) → new ≡ record { setup = now.setup; world = after now.setup now.world e.event } → new ≡ world_at T (take (place + 1) J)
  next-world new is =
      let one-more : take (place + 1) J ≡ take place J ++ e ∷ [] = take_more J place e within ∙ ap (λ (x : Entry). take place J ++ x ∷ []) (sym at) in
      is ∙ (ap (λ (w : WorldValue). record { setup = w.setup; world = after w.setup w.world e.event }) so_far
      ∙ ap (λ (W : World). record { setup = T; world = W }) (sym (ap (world_after T) one-more ∙ run-append T (take place J) (e ∷ []) (start T))))

-- and the state of the call in that world is gathered
pub states-more : (T : Setup) (J : List Entry) (v b place : ℕ) (new : WorldValue) (states : List (Option Parked)) → b ≤ place →
    new ≡ world_at T (take (place + 1) J) → states ≡ states_until T J v b place
    → states ++ parked (side new.world (kernel_of T v)) v ∷ [] ≡ states_until T J v b (place + 1)
states-more T J v b place new states from is so_far =
    let f : ℕ → Option Parked = λ m. state_after T J v (m + 1) in
    let here : b + (place - b) ≡ place = omega arith in
    let longer : place - b + 1 ≡ place + 1 - b = omega arith in
    ap (λ (w : WorldValue). states ++ parked (side w.world (kernel_of T v)) v ∷ []) is
    ∙ (ap (λ (xs : List (Option Parked)). xs ++ f place ∷ []) so_far
    ∙ (sym (map-range_with_len_more f b (place - b) place here)
    ∙ ap (λ n. map f (range_with_len b n)) longer))
