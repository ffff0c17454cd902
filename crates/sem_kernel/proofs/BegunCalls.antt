-- A call that may have begun a job leaves what is needed to finish the job.
use Rattle.std.proofs.Common.{◌≡◌, ℕ, ◌+◌, ◌≤◌, Bool, [], ◌∷◌, Option, Some, None, ◌∙◌, ap, length}
use Rattle.std.specs.Prelude.{IfSome, IsSome}
use Rattle.sem_key.specs.Capability.{Capability}
use Rattle.sem_msg.specs.declared.state.Parked.TheVariants.{RevokeWait}
use Rattle.sem_msg.specs.Setup.{Setup}
use Rattle.sem_machine.specs.Sides.{Side, own, parked, parked_as}
use Rattle.sem_machine.specs.Revokes.{opened}
use Rattle.sem_machine.specs.Sound.{IsSoundBut, bit, ids_owed, ids_paid}
use Rattle.sem_jobs.specs.JobStore.{JobStore}
use Rattle.sem_mark.specs.Marking.{HasBegun}
use Rattle.sem_kernel.specs.declared.stores.Stores.{Stores}
use Rattle.sem_kernel.specs.KernelStores.{side_of}
use Rattle.sem_kernel.specs.Handing.{CanCall}
use Rattle.sem_kernel.proofs.Openings.{call-middle, call-jobs, call-caps}

module _ (T : Setup) (i v sel : ℕ) (x : Stores) (can : CanCall T i v x) (keep : Bool) (jobs_after : JobStore) (before after : Side → Side) (o : Option ℕ)
    (begun : HasBegun T i v keep (own (side_of x) v sel) x.jobs jobs_after before after o) (same : before (side_of x) ≡ side_of x) where
  is-opened : IsSome o → (c : Capability) → own (side_of x) v sel ≡ Some c →
      after (side_of x) ≡ opened T i c.key None (v ∷ []) keep (parked_as v (RevokeWait (side_of x).next_job) (side_of x))
  is-opened some c at = begun.opened some c at (side_of x)
      ∙ ap (λ s. opened T i c.key None (v ∷ []) keep (parked_as v (RevokeWait x.jobs.next) s)) same

  -- the side is sound but for the job
  pub begun-sound : parked (side_of x) v ≡ None → ids_owed (side_of x) + bit keep ≤ ids_paid (side_of x) →
      IfSome o (λ j. IsSoundBut T i None None None (Some j) 0 (after (side_of x)))
  begun-sound idle slack = call-middle T can.are.setup i can.are.is_one (side_of x) can.are.sound v sel can.here idle keep slack o (after (side_of x))
      begun.next begun.unmarked is-opened

  -- there is one job more, and as many capabilities
  pub begun-jobs : IsSome o → length (after (side_of x)).jobs ≡ length (side_of x).jobs + 1
  begun-jobs some = call-jobs T can.are.setup i can.are.is_one (side_of x) can.are.sound v sel keep o (after (side_of x)) begun.unmarked is-opened some

  pub begun-caps : IsSome o → length (after (side_of x)).caps ≡ length (side_of x).caps
  begun-caps some = call-caps T can.are.setup i can.are.is_one (side_of x) can.are.sound v sel keep o (after (side_of x)) begun.unmarked is-opened some
