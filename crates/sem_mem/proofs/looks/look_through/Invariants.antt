use Rattle.std.proofs.Common.{◌≡◌, take}
use Rattle.sem_access.specs.LastWrites.{looked}
use Rattle.sem_access.specs.Runs.{entry_at}
use Rattle.sem_mem.specs.Chunks.{together}
use Rattle.sem_mem.proofs.looks.look_through.Given as goal

-- found is what the first chunks tell
abbrev pub invariant-loop-chunk : goal.invariant-loop-chunk
invariant-loop-chunk l = l.found ≡ looked (entry_at (together (take l.chunk-index l.chunks))) l.base l.len
