-- Journals that are made step by step.
use Rattle.std.proofs.Common.{◌≡◌, true, List, [], ◌∷◌, ◌++◌, refl, sym, ◌∙◌, ap, subst}
use Rattle.sem_msg.specs.declared.entry.Entry.{Entry}
use Rattle.sem_msg.specs.declared.event.Event.{Event}
use Rattle.sem_msg.specs.Setup.{Setup}
use Rattle.sem_machine.specs.Machine.{World, start, after, entry_of, local_entry, is_enabled}
use Rattle.sem_machine.specs.Schedules.{IsRun, IsSchedule, run, world_after}
use Rattle.sem_kernel.specs.Worlds.{WorldValue}

run-push : (T : Setup) (W : World) (J : List Entry) (e : Entry) → run T W (J ++ e ∷ []) ≡ after T (run T W J) e.event
run-push T W [] e = refl
run-push T W (x ∷ xs) e = run-push T (after T W x.event) xs e

IsRun-push : (T : Setup) (W : World) (J : List Entry) (e : Entry) → IsRun T W J → is_enabled T (run T W J) e.event ≡ true → e ≡ entry_of T (run T W J) e.event →
    IsRun T W (J ++ e ∷ [])
unfolding IsRun
IsRun-push T W [] e is_run enabled makes = (enabled, makes, tt)
IsRun-push T W (x ∷ xs) e is_run enabled makes = (is_run.0, is_run.1, IsRun-push T (after T W x.event) xs e is_run.2 enabled makes)

-- a schedule, and the world to which it leads
pub record HasPlayed (T : Setup) (J : List Entry) (now : WorldValue) : Type 0 where
  pub schedule : IsSchedule T J
  pub world : now ≡ record { setup = T; world = world_after T J }

pub HasPlayed-none : (T : Setup) (J : List Entry) (now : WorldValue) → J ≡ [] → now ≡ record { setup = T; world = start T } → HasPlayed T J now
unfolding IsRun
HasPlayed-none T J now empty begun = record { schedule = rw empty tt; world = rw empty begun }

-- the entry that an event makes is of that event
entry_of-event : (T : Setup) (W : World) (event : Event) → (entry_of T W event).event ≡ event
unfolding entry_of local_entry
entry_of-event T W event = refl

-- one step more
pub HasPlayed-more : (T : Setup) (J J' : List Entry) (now new : WorldValue) (event : Event) (e : Entry) → HasPlayed T J now →
    is_enabled now.setup now.world event ≡ true → e ≡ entry_of now.setup now.world event →
    new ≡ record { setup = now.setup; world = after now.setup now.world event } → J' ≡ J ++ e ∷ [] → HasPlayed T J' new
HasPlayed-more T J J' now new event e so_far enabled makes is longer =
    let same : e.event ≡ event = ap (λ (x : Entry). x.event) makes ∙ entry_of-event now.setup now.world event in
    let at_now : is_enabled T (world_after T J) event ≡ true = rw so_far.world at enabled in
    let made_now : e ≡ entry_of T (world_after T J) event = rw so_far.world at makes in
    let at_world : is_enabled T (world_after T J) e.event ≡ true = subst (λ x. is_enabled T (world_after T J) x ≡ true) (sym same) at_now in
    let made_there : e ≡ entry_of T (world_after T J) e.event = subst (λ x. e ≡ entry_of T (world_after T J) x) (sym same) made_now in
    record {
      schedule = rw longer (IsRun-push T (start T) J e so_far.schedule at_world made_there);
      world = rw (longer, run-push T (start T) J e, same, is, so_far.world) refl;
    }
