-- The stores of one kernel, and the side that they hold.
use Rattle.std.specs.Prelude.{◌≡◌, ℕ, ◌<◌}
use Rattle.sem_machine.specs.Prelude.{Setup, IsSetup, kernel_of, Side, IsSound}
use Rattle.sem_msg.specs.Outboxes.{HasBoxes}
use Rattle.sem_vpe.specs.VpeTable.{AreOurs}
use Rattle.sem_dtu.specs.EndpointTable.{IsOurs}
use Rattle.sem_kernel.specs.declared.stores.Stores.{Stores}

-- the side that the stores hold
abbrev pub side_of : Stores → Side
side_of x =
    record {
      caps = x.caps.caps;
      vpes = x.vpes.rows;
      endpoints = x.dtus.rows;
      parks = x.park;
      pendings = x.pendings.pendings;
      jobs = x.jobs.jobs;
      next_job = x.jobs.next;
      inbox = x.inbox;
      outs = x.outs.boxes;
    }

-- the stores belong to kernel i: each of its VPEs has a place in them, and each kernel an outbox
pub record AreStoresOf (T : Setup) (i : ℕ) (x : Stores) : Type 0 where
  pub vpes : AreOurs T i x.vpes
  pub endpoints : (v : ℕ) → kernel_of T v ≡ i → IsOurs x.dtus v
  pub boxes : HasBoxes T x.outs

-- the stores belong to kernel i, one of the setup, and what they hold is sound
pub record AreSound (T : Setup) (i : ℕ) (x : Stores) : Type 0 where
  pub setup : IsSetup T
  pub is_one : i < T.kernels
  pub stores : AreStoresOf T i x
  pub sound : IsSound T i (side_of x)
