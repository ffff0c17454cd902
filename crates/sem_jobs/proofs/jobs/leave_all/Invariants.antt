use Rattle.std.proofs.Common.{◌≡◌, ◌++◌, take, drop}
use Rattle.sem_msg.specs.JobRows.{waiter_removed}
use Rattle.sem_jobs.specs.Stored.{rows_of, IsPlaced}
use Rattle.sem_jobs.proofs.jobs.leave_all.Given as goal

-- the VPE waits for none of the jobs so far, and the others are as they were
abbrev pub invariant-loop-spot : goal.invariant-loop-spot
invariant-loop-spot l = record {
  jobs : rows_of l.slab l.spots ≡ waiter_removed l.vpe (take l.spot-index (rows_of l.fn.slab l.spots)) ++ drop l.spot-index (rows_of l.fn.slab l.spots);
  placed : IsPlaced l.slab l.spots;
  capacity : l.slab.capacity ≡ l.fn.slab.capacity;
}
