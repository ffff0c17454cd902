-- Kernels and a fabric that make the entries of a schedule again.
use Rattle.std.proofs.Common.{◌≡◌, ℕ, ◌+◌, ◌<◌, ◌≤◌, true, List, [], ◌∷◌, ◌++◌, length, take, get_or, Some, sym, ◌∙◌, ap, subst, arith}
use Rattle.std.proofs.lemmas.Option.{slice_get-get_or}
use Rattle.std.proofs.lemmas.List.{take_more, take_all}
use Rattle.sem_msg.specs.declared.entry.Entry.{Entry}
use Rattle.sem_msg.specs.Setup.{Setup}
use Rattle.sem_msg.specs.Fabric.{FabricValue}
use Rattle.sem_machine.specs.Machine.{start, entry_of, is_enabled}
use Rattle.sem_machine.specs.Schedules.{IsSchedule, world_after}
use Rattle.sem_kernel.specs.KernelValue.{KernelValue}
use Rattle.sem_kernel.specs.Worlds.{world_of}
use Rattle.sem_kernel.specs.Standing.{StandsAt}
use Rattle.sem_check.proofs.Longest.{run-at}

-- they stand at the first n entries
pub record IsRepeated (T : Setup) (J : List Entry) (ks : List KernelValue) (f : FabricValue) (n : ℕ) : Type 0 where
  pub stand : StandsAt T ks f
  pub part : f.journal ≡ take n J

module _ (T : Setup) (J : List Entry) (schedule : IsSchedule T J) (ks : List KernelValue) (f : FabricValue) (n : ℕ) (so_far : IsRepeated T J ks f n) (x : Entry)
    (within : n < length J) (at : x ≡ get_or J n x) where
  world : world_of ks f ≡ world_after T (take n J)
  world = so_far.stand.world ∙ ap (world_after T) so_far.part

  made : (is_enabled T (world_after T (take n J)) x.event ≡ true) × (x ≡ entry_of T (world_after T (take n J)) x.event)
  made = run-at T (start T) J (length J) n x (subst (IsSchedule T) (sym (take_all (length J) J (omega arith))) schedule) within (slice_get-get_or J n x within
      ∙ ap Some (sym at))

  -- the event of the next entry is enabled
  pub next-enabled : is_enabled T (world_of ks f) x.event ≡ true
  next-enabled = ap (λ W. is_enabled T W x.event) world ∙ made.0

  -- and makes it
  pub repeated-more : (ls : List KernelValue) (h : FabricValue) (y : Entry) → StandsAt T ls h → y ≡ entry_of T (world_of ks f) x.event →
      h.journal ≡ f.journal ++ y ∷ [] → IsRepeated T J ls h (n + 1)
  repeated-more ls h y stand is entered =
      let same : y ≡ x = is ∙ (ap (λ W. entry_of T W x.event) world ∙ sym made.1) in
      record {
        stand = stand;
        part =
            entered
            ∙ (ap (λ K. K ++ y ∷ []) so_far.part
            ∙ (ap (λ z. take n J ++ z ∷ []) (same ∙ at)
            ∙ sym (take_more J n x within)));
      }

-- no entry is left
pub repeated-all : (T : Setup) (J : List Entry) (ks : List KernelValue) (f : FabricValue) (n : ℕ) → IsRepeated T J ks f n → length J ≤ n → f.journal ≡ J
repeated-all T J ks f n so_far all = so_far.part ∙ take_all n J all
