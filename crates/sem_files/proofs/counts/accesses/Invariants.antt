use Rattle.std.proofs.Common.{◌≡◌, ℕ, ◌≤◌, ◌*◌, length}
use Rattle.std.specs.List.{flat_map}
use Rattle.sem_msg.specs.declared.call.Call.{Call}
use Rattle.sem_files.specs.Compiled.{part_accessed, below}
use Rattle.sem_files.proofs.counts.accesses.Given as goal

-- the calls of the extents so far
abbrev pub invariant-loop-extent : goal.invariant-loop-extent
invariant-loop-extent l = record {
  number : (access : ℕ → ℕ → Call) (h : ℕ) → l.calls ≡ length (flat_map (part_accessed access h l.off l.len) (below l.extent));
  few : l.calls ≤ 2 * l.extent;
}
