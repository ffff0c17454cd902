-- A schedule has no more entries than its calls can bring, and one for each of its kills; so at most 21 for each
-- call.
use Rattle.std.proofs.Common.{◌≡◌, ℕ, ◌+◌, ◌<◌, ◌≤◌, ◌++◌, List, length, arith}
use Rattle.sem_msg.specs.declared.entry.Entry.{Entry}
use Rattle.sem_msg.specs.Setup.{Setup, IsSetup}
use Rattle.sem_machine.specs.Machine.{side, start}
use Rattle.sem_machine.specs.Schedules.{IsSchedule, world_after}
use Rattle.sem_safety.proofs.HeldOnce.{keys-distinct}
use Rattle.sem_safety.proofs.JobIds.{HasIds, ids, start-ids}
use Rattle.sem_safety.proofs.SideLayers.{run-kept}
use Rattle.sem_bound.specs.Counts.{kills_made}
use Rattle.sem_bound.specs.Costs.{costs_made}
use Rattle.sem_bound.proofs.Homes.{all-home}
use Rattle.sem_bound.proofs.Nearby.{near, grant-near, root-near}
use Rattle.sem_bound.proofs.FarKeys.{held-far}
use Rattle.sem_bound.proofs.Paying.{IsReady, schedule-paid, credits-counted}

part-ready : (T : Setup) → IsSetup T → (J : List Entry) → IsSchedule T J → (before later : List Entry) →
    J ≡ before ++ later → IsSchedule T before → (i : ℕ) → i < T.kernels →
    IsReady T (near T J) i (side (world_after T before) i)
part-ready T valid J runs before later parts runs' i within = record {
  calm = (
    held-far T valid J runs before later parts runs' (all-home T valid) i within,
    keys-distinct T valid before runs' i,
  );
  rise = (run-kept HasIds ids T before (start T) (start-ids T) i).rise;
  home = all-home T valid before runs' i within;
}

pub costs-bounded : (T : Setup) → IsSetup T → (J : List Entry) → IsSchedule T J →
    length J ≤ costs_made T J + kills_made J
costs-bounded T valid J runs =
    let paid = schedule-paid T (near T J) (root-near T valid J runs) J (part-ready T valid J runs)
    (grant-near T valid J runs) runs in
    let credits = credits-counted T J in
    omega (arith, paid, credits)
