-- A schedule that goes on by one event.
use Rattle.std.proofs.Common.{◌≡◌, true, List, [], ◌∷◌, ◌++◌, refl, sym, ◌∙◌, ap, subst}
use Rattle.std.proofs.lemmas.List.Sums.{fold-append}
use Rattle.sem_msg.specs.declared.event.Event.{Event}
use Rattle.sem_msg.specs.declared.entry.Entry.{Entry}
use Rattle.sem_msg.specs.Setup.{Setup}
use Rattle.sem_machine.specs.Machine.{World, start, after, entry_of, local_entry, is_enabled}
use Rattle.sem_machine.specs.Schedules.{IsRun, IsSchedule, run, world_after}

-- an entry names the event that made it
pub entry_of-event : (T : Setup) (W : World) (e : Event) → (entry_of T W e).event ≡ e
unfolding entry_of local_entry
entry_of-event T W e = refl

-- a run goes on by an event that is enabled after it
IsRun-push : (T : Setup) (W : World) (J : List Entry) (e : Event) → IsRun T W J → is_enabled T (run T W J) e ≡ true →
    IsRun T W (J ++ entry_of T (run T W J) e ∷ [])
unfolding IsRun
IsRun-push T W [] e is_run test = (
  subst (λ (x : Event). is_enabled T W x ≡ true) (sym (entry_of-event T W e)) test,
  ap (λ (x : Event). entry_of T W x) (sym (entry_of-event T W e)),
  tt,
)
IsRun-push T W (x ∷ xs) e is_run test = (is_run.0, is_run.1, IsRun-push T (after T W x.event) xs e is_run.2 test)

pub schedule-push : (T : Setup) (J : List Entry) (e : Event) → IsSchedule T J → is_enabled T (world_after T J) e ≡ true →
    IsSchedule T (J ++ entry_of T (world_after T J) e ∷ [])
schedule-push T J e schedule test = IsRun-push T (start T) J e schedule test

pub schedule-empty : (T : Setup) (J : List Entry) → J ≡ [] → IsSchedule T J
unfolding IsRun
schedule-empty T J none = subst (IsSchedule T) (sym none) tt

-- the world after one more event
pub world_after-push : (T : Setup) (J : List Entry) (e : Event) → world_after T (J ++ entry_of T (world_after T J) e ∷ []) ≡ after T (world_after T J) e
world_after-push T J e =
    fold-append (λ (V : World) (x : Entry). after T V x.event) (start T) J (entry_of T (world_after T J) e ∷ [])
    ∙ ap (λ (x : Event). after T (world_after T J) x) (entry_of-event T (world_after T J) e)
