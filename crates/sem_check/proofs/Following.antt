-- A world that follows a journal, entry by entry.
use Rattle.std.proofs.Common.{◌≡◌, ℕ, ◌+◌, ◌<◌, ◌≤◌, Bool, true, false, cond, List, [], ◌∷◌, ◌++◌, length, take, get_or, Option, Some, None, refl, sym, ◌∙◌, ap}
use Rattle.std.proofs.Common.{subst}
use Rattle.std.specs.Option.{IsSome}
use Rattle.std.proofs.lemmas.Option.{slice_get-get_or, none-some, same_Some}
use Rattle.std.proofs.lemmas.List.{take_more, take_all}
use Rattle.sem_msg.specs.declared.event.Event.{Event}
use Rattle.sem_msg.specs.declared.entry.Entry.{Entry}
use Rattle.sem_msg.specs.Setup.{Setup}
use Rattle.sem_machine.specs.Machine.{World, start, after, entry_of, is_enabled}
use Rattle.sem_machine.specs.Schedules.{IsSchedule, world_after}
use Rattle.sem_kernel.specs.Worlds.{WorldValue}
use Rattle.sem_machine.proofs.Pushing.{schedule-push, schedule-empty, world_after-push}
use Rattle.sem_check.specs.Replays.{entry_made, world_value, IsStep, IsOther, IsWorldAfter, DiffersAt}

-- what an event makes, it makes as one that is enabled
pub made-some : (T : Setup) (W : World) (e : Event) (x : Entry) → entry_made T W e ≡ Some x → (is_enabled T W e ≡ true) × (entry_of T W e ≡ x)
made-some T W e x some = from (is_enabled T W e) refl some
  where
    from : (b : Bool) → is_enabled T W e ≡ b → cond b (Some (entry_of T W e)) None ≡ Some x → (is_enabled T W e ≡ true) × (entry_of T W e ≡ x)
    from true enabled made = (enabled, same_Some (entry_of T W e) x made)
    from false disabled made = absurd (none-some x made)

-- the world is the one after the first n entries, which are a schedule
pub record IsFollowing (T : Setup) (J : List Entry) (w : WorldValue) (n : ℕ) : Type 0 where
  pub schedule : IsSchedule T (take n J)
  pub world : w ≡ world_value T (take n J)

-- a world that has just booted is the one after no entry
pub start-after : (T : Setup) (w : WorldValue) → w ≡ record { setup = T; world = start T } → IsWorldAfter T [] w
start-after T w booted = record { schedule = schedule-empty T [] refl; world = booted }

pub following-start : (T : Setup) (J : List Entry) (w : WorldValue) → IsWorldAfter T [] w → IsFollowing T J w 0
following-start T J w is = record { schedule = is.schedule; world = is.world }

module _ (T : Setup) (J : List Entry) (w : WorldValue) (n : ℕ) (so_far : IsFollowing T J w n) where
  abbrev P : List Entry
  P = take n J

  made-there : (made : Option Entry) (e : Event) → made ≡ entry_made w.setup w.world e → made ≡ entry_made T (world_after T P) e
  made-there made e is = is ∙ ap (λ (v : WorldValue). entry_made v.setup v.world e) so_far.world

  -- the next entry is the one that its event makes
  pub following-more : (x : Entry) (made : Option Entry) (v : WorldValue) → n < length J → x ≡ get_or J n x → made ≡ entry_made w.setup w.world x.event →
      (IsSome made → v ≡ record { setup = w.setup; world = after w.setup w.world x.event }) → made ≡ Some x → IsFollowing T J v (n + 1)
  following-more x made v within at is moved same =
      let there = made-some T (world_after T P) x.event x (sym (made-there made x.event is) ∙ same) in
      let next : take (n + 1) J ≡ P ++ entry_of T (world_after T P) x.event ∷ [] = take_more J n x within
      ∙ ap (λ (y : Entry). P ++ y ∷ []) (sym at ∙ sym there.1) in
      let stepped : v ≡ record { setup = w.setup; world = after w.setup w.world x.event } = moved (subst (λ (o : Option Entry). IsSome o) (sym same) refl) in
      record {
        schedule = subst (IsSchedule T) (sym next) (schedule-push T P x.event so_far.schedule there.0);
        world =
            stepped
            ∙ (ap (λ (u : WorldValue). record { setup = u.setup; world = after u.setup u.world x.event }) so_far.world
            ∙ ap (λ (V : World). record { setup = T; world = V }) (sym (world_after-push T P x.event) ∙ ap (world_after T) (sym next)));
      }

  -- or it is the first that is not
  pub following-differs : (x : Entry) (made : Option Entry) → n < length J → x ≡ get_or J n x → made ≡ entry_made w.setup w.world x.event →
      (made ≡ Some x → ⊥) → DiffersAt T J n x made
  following-differs x made within at is other = record {
    there = slice_get-get_or J n x within ∙ ap Some (sym at);
    before = so_far.schedule;
    made = made-there made x.event is;
    other = other;
  }

  -- both by what a step tells
  pub following-step : (x : Entry) (v : WorldValue) → n < length J → x ≡ get_or J n x → IsStep w x v → IsFollowing T J v (n + 1)
  following-step x v within at step = following-more x (entry_made w.setup w.world x.event) v within at refl (λ some. step.world) step.made

  pub differs-there : (x : Entry) (m : ℕ) (y : Entry) (made : Option Entry) → n < length J → x ≡ get_or J n x → m ≡ n → y ≡ x → IsOther w x made →
      DiffersAt T J m y made
  differs-there x m y made within at place same is =
      subst (λ k. DiffersAt T J k y made) (sym place)
      (subst (λ (z : Entry). DiffersAt T J n z made) (sym same) (following-differs x made within at is.made is.other))

  -- the entries with the next one
  pub next-entries : (x : Entry) → n < length J → x ≡ get_or J n x → P ++ x ∷ [] ≡ take (n + 1) J
  next-entries x within at = sym (take_more J n x within ∙ ap (λ (y : Entry). P ++ y ∷ []) (sym at))

  -- the world after the entries so far, and after the next one too
  pub now-after : IsWorldAfter T P w
  now-after = record { schedule = so_far.schedule; world = so_far.world }

  pub next-after : (x : Entry) (v : WorldValue) → n < length J → x ≡ get_or J n x → IsStep w x v → IsWorldAfter T (P ++ x ∷ []) v
  next-after x v within at step =
      let is = following-step x v within at step in
      subst (λ K. IsWorldAfter T K v) (sym (next-entries x within at)) (record { schedule = is.schedule; world = is.world })

  -- no entry is left
  pub following-all : length J ≤ n → IsWorldAfter T J w
  following-all all = record {
    schedule = subst (IsSchedule T) (take_all n J all) so_far.schedule;
    world = so_far.world ∙ ap (world_value T) (take_all n J all);
  }
