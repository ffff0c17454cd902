use Rattle.std.proofs.Common.{◌≡◌, take}
use Rattle.sem_mem.specs.Chunks.{together}
use Rattle.sem_mem.proofs.runs.runs_of.Given as goal

-- the runs of the first chunks are there
abbrev pub invariant-loop-chunk : goal.invariant-loop-chunk
invariant-loop-chunk l = l.runs.items ≡ together (take l.chunk-index l.chunks)
