use Rattle.std.proofs.Common.{◌+◌, ◌≤◌, ◌<◌, length, nat_lt}
use Rattle.sem_mem.proofs.Halving.{Halved}
use Rattle.sem_mem.proofs.runs.count_ended.Given as goal

-- the place is not before `first`, and not after `size` more
abbrev pub invariant-loop-size : goal.invariant-loop-size
invariant-loop-size l = record {
  some : 0 < l.size;
  within : l.first + l.size ≤ length l.runs;
  halved : Halved (λ r. nat_lt (r.base + r.len) l.address) l.runs l.first l.size;
}

abbrev pub decreases-loop-size : goal.decreases-loop-size
decreases-loop-size l = l.size
