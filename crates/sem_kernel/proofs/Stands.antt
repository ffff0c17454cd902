-- Kernels and a fabric that stand at a schedule, and go on from it.
use Rattle.std.proofs.Common.{◌≡◌, true, List, [], ◌∷◌, ◌++◌, map, Result, Ok, Err, refl, sym, ◌∙◌, ap, subst}
use Rattle.std.specs.Prelude.{OnOk, OnErr}
use Rattle.std.specs.List.{range_with_len}
use Rattle.sem_msg.specs.declared.event.Event.{Event}
use Rattle.sem_msg.specs.Setup.{Setup, IsSetup}
use Rattle.sem_msg.specs.Fabric.{FabricValue}
use Rattle.sem_fabric.specs.Fabrics.{new_fabric}
use Rattle.sem_machine.specs.Machine.{after, entry_of, is_enabled}
use Rattle.sem_machine.specs.Schedules.{IsSchedule, world_after}
use Rattle.sem_machine.proofs.Pushing.{schedule-push, schedule-empty, world_after-push}
use Rattle.sem_kernel.specs.KernelValue.{KernelValue}
use Rattle.sem_kernel.specs.Worlds.{world_of, AreKernelsOf, WorldValue, booted}
use Rattle.sem_kernel.specs.Standing.{StandsAt}
use Rattle.sem_kernel.proofs.Beginning.{boots-together, boots-world}

module _ (T : Setup) (ks : List KernelValue) (f : FabricValue) (at : StandsAt T ks f) (ls : List KernelValue) (h : FabricValue)
    (together : AreKernelsOf T ls h) where
  -- an enabled event happened
  stands-more : (e : Event) → is_enabled T (world_of ks f) e ≡ true → world_of ls h ≡ after T (world_of ks f) e →
      h.journal ≡ f.journal ++ entry_of T (world_of ks f) e ∷ [] → StandsAt T ls h
  stands-more e enabled moved entered =
      let journal : h.journal ≡ f.journal ++ entry_of T (world_after T f.journal) e ∷ [] = entered ∙ ap (λ V. f.journal ++ entry_of T V e ∷ []) at.world in
      record {
        together = together;
        schedule = subst (IsSchedule T) (sym journal) (schedule-push T f.journal e at.schedule (subst (λ V. is_enabled T V e ≡ true) at.world enabled));
        world = moved ∙ (ap (λ V. after T V e) at.world ∙ (sym (world_after-push T f.journal e) ∙ ap (world_after T) (sym journal)));
      }

  -- nothing happened
  stands-same : world_of ls h ≡ world_of ks f → h.journal ≡ f.journal → StandsAt T ls h
  stands-same same journal = record {
    together = together;
    schedule = subst (IsSchedule T) (sym journal) at.schedule;
    world = same ∙ (at.world ∙ ap (world_after T) (sym journal));
  }

  -- the one or the other
  pub stands-after : {X E : Type 0} (e : Event) → is_enabled T (world_of ks f) e ≡ true → (r : Result X E) →
      OnOk r (world_of ls h ≡ after T (world_of ks f) e) → OnOk r (h.journal ≡ f.journal ++ entry_of T (world_of ks f) e ∷ []) →
      OnErr r (world_of ls h ≡ world_of ks f) → OnErr r (h.journal ≡ f.journal) → StandsAt T ls h
  stands-after e enabled (Ok x) moved entered same kept = stands-more e enabled moved entered
  stands-after e enabled (Err y) moved entered same kept = stands-same same kept

-- they stand at the empty schedule at the start
pub stands-at-start : (T : Setup) → IsSetup T → (ks : List KernelValue) → ks ≡ map (booted T) (range_with_len 0 T.kernels) → (f : FabricValue) →
    f ≡ new_fabric T → StandsAt T ks f
stands-at-start T valid ks all f new =
    let empty : f.journal ≡ [] = ap (λ (x : FabricValue). x.journal) new in
    record {
      together = boots-together T T refl ks all f new valid;
      schedule = schedule-empty T f.journal empty;
      world = ap (λ (x : WorldValue). x.world) (boots-world T T refl ks all f new) ∙ ap (world_after T) (sym empty);
    }
