use Rattle.std.proofs.Common.{◌≡◌, ◌++◌, length}
use Rattle.std.specs.List.{All}
use Rattle.sem_mem.specs.Chunks.{together, HasAnyRun, IsSized}
use Rattle.sem_mem.proofs.writes.in_chunks.Given as goal

-- the chunks and what is left are the runs
abbrev pub invariant-loop-runs : goal.invariant-loop-runs
invariant-loop-runs l = record {
  together : together l.chunks.items ++ l.runs.items ≡ l.fn.runs.items;
  sized : All IsSized l.chunks.items;
  some : HasAnyRun l.runs;
}

abbrev pub decreases-loop-runs : goal.decreases-loop-runs
decreases-loop-runs l = length l.runs.items
