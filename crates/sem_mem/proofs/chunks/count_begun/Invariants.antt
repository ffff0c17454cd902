use Rattle.std.proofs.Common.{◌+◌, ◌≤◌, ◌<◌, length, nat_lt}
use Rattle.std.specs.List.{All}
use Rattle.sem_key.specs.declared.limits.TheConstants.{ADDRESSES}
use Rattle.sem_mem.proofs.Halving.{Halved}
use Rattle.sem_mem.proofs.chunks.count_begun.Given as goal

-- the place is not before `first`, and not after `size` more
abbrev pub invariant-loop-size : goal.invariant-loop-size
invariant-loop-size l = record {
  some : 0 < l.size;
  within : l.first + l.size ≤ length l.beginnings;
  halved : All (λ b. b ≤ ADDRESSES) l.beginnings → Halved (λ b. nat_lt b l.address) l.beginnings l.first l.size;
}

abbrev pub decreases-loop-size : goal.decreases-loop-size
decreases-loop-size l = l.size
