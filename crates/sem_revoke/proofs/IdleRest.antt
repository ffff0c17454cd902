-- An idle world is at rest: nobody waits, what is held is the forest, and each link leads to what is held.
use Rattle.std.proofs.Common.{◌≡◌, ℕ, List, Some, ap, ◌∙◌, inl, inr}
use Rattle.std.specs.List.{Contains}
use Rattle.sem_key.specs.KeyName.{KeyName}
use Rattle.sem_key.specs.Capability.{Capability}
use Rattle.sem_key.proofs.KeyTests.{has_key-from_Contains}
use Rattle.sem_msg.specs.declared.entry.Entry.{Entry}
use Rattle.sem_msg.specs.declared.message.Message.TheVariants.{Orphan, Unlink}
use Rattle.sem_msg.specs.Setup.{Setup, IsSetup}
use Rattle.sem_msg.specs.Lookups.{owner_of}
use Rattle.sem_machine.specs.Sides.{cap}
use Rattle.sem_machine.specs.Machine.{World, side}
use Rattle.sem_machine.specs.Schedules.{IsSchedule, world_after}
use Rattle.sem_machine.specs.Journals.{grants}
use Rattle.sem_machine.specs.Living.{HoldsCap, IsHeld, IsIdle}
use Rattle.sem_revoke.specs.Resting.{IsAtRest}
use Rattle.sem_revoke.specs.Resting.IsStirring.{by_message}
use Rattle.sem_revoke.proofs.Events.{Par}
use Rattle.sem_revoke.proofs.IdleForest.{forest-held, held-cap, live-held}
use Rattle.sem_revoke.proofs.IdleJobs.{still, no-jobs, no-marks, unparked-so, no-pendings}
use Rattle.sem_revoke.proofs.LeadingWorlds.{links-lead}
use Rattle.sem_revoke.proofs.Parents.{parent-held}
use Rattle.sem_revoke.proofs.Readying.{schedule-fit, schedule-homes}

module _ (T : Setup) (valid : IsSetup T) (J : List Entry) (runs : IsSchedule T J) (idle : IsIdle (world_after T J)) where
  abbrev W : World
  W = world_after T J

  -- each link leads to a held capability, which has the holder of the link as its parent
  links-so : (i : ℕ) (p k : KeyName) (c : Capability) → HoldsCap W i p c → Contains c.children k → (j : ℕ) × (d : Capability) × HoldsCap W j k d
      × (d.parent ≡ Some p)
  links-so i p k c held child =
      let home : owner_of T p ≡ i = schedule-homes T valid J runs i p c held in
      let granted : Par (grants J) p k = (schedule-fit T valid J runs).links p k (
        c,
        ap (λ n. cap (side W n) p) home
            ∙ held,
        has_key-from_Contains c.children k child,
      ) in
      let there : IsHeld W k = elim (links-lead T valid J runs i p k c held (no-marks T valid J runs idle i p c held) child) [
        | inl live ↦ live-held T valid J runs idle k live
        | inr (inl orphan) ↦ absurd (still W idle (by_message (Orphan p k) orphan))
        | inr (inr unlink) ↦ absurd (still W idle (by_message (Unlink p k) unlink))
      ] in
      let d = held-cap T valid J runs idle k there in
      (d.0, d.1, d.2, parent-held T valid J runs d.0 p k d.1 d.2 granted)

  pub idle-rests : IsAtRest T J W
  idle-rests = record {
    unparked = unparked-so T valid J runs idle;
    no_jobs = no-jobs T valid J runs idle;
    no_marks = no-marks T valid J runs idle;
    no_pendings = no-pendings T valid J runs idle;
    links = links-so;
    held = forest-held T valid J runs idle;
  }
