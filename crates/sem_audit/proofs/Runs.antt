-- The worlds along a schedule.
use Rattle.std.proofs.Common.{◌≡◌, ℕ, zero, suc, ◌+◌, true, List, [], ◌∷◌, take, Some, refl, ap, add-one}
use Rattle.std.specs.List.{slice_get}
use Rattle.sem_msg.specs.declared.entry.Entry.{Entry}
use Rattle.sem_msg.specs.Setup.{Setup}
use Rattle.sem_machine.specs.Machine.{World, start, after, is_enabled}
use Rattle.sem_machine.specs.Schedules.{IsRun, IsSchedule, run, world_after}
use Rattle.sem_kernel.specs.Worlds.{WorldValue}

-- the event of an entry is enabled once the events before it happened
run-enabled : (T : Setup) (W : World) (J : List Entry) (i : ℕ) (e : Entry) → IsRun T W J → Some e ≡ slice_get J i →
    is_enabled T (run T W (take i J)) e.event ≡ true
unfolding IsRun
run-enabled T W [] i e is_run found = absurd cc
run-enabled T W (x ∷ xs) zero e is_run found = let same : e ≡ x = cc in rw same is_run.0
run-enabled T W (x ∷ xs) (suc i) e is_run found = run-enabled T (after T W x.event) xs i e is_run.2 found

-- the world after one event more
run-suc : (T : Setup) (W : World) (J : List Entry) (i : ℕ) (e : Entry) → Some e ≡ slice_get J i →
    run T W (take (suc i) J) ≡ after T (run T W (take i J)) e.event
run-suc T W [] i e found = absurd cc
run-suc T W (x ∷ xs) zero e found = let same : x ≡ e = cc in ap (λ (y : Entry). after T W y.event) same
run-suc T W (x ∷ xs) (suc i) e found = run-suc T (after T W x.event) xs i e found

-- A world that goes through the events of a schedule, and has come to the entry at place i.
module _ (T : Setup) (J : List Entry) (i : ℕ) (e : Entry) (now : WorldValue) (so_far : now ≡ record { setup = T; world = world_after T (take i J) })
    (found : Some e ≡ slice_get J i) where
  -- the event of that entry is enabled
  pub replayed-enabled : IsSchedule T J → is_enabled now.setup now.world e.event ≡ true
  replayed-enabled schedule = rw so_far (run-enabled T (start T) J i e schedule found)

  -- after it one more entry is behind it
  pub replayed-more : (new : WorldValue) → new ≡ record { setup = now.setup; world = after now.setup now.world e.event } →
      new ≡ record { setup = T; world = world_after T (take (i + 1) J) }
  replayed-more new is = rw (add-one, run-suc T (start T) J i e found, is, so_far) refl
