use Rattle.std.proofs.Common.{◌≡◌, ◌++◌, take}
use Rattle.std.specs.List.{filter_map}
use Rattle.sem_mem.specs.Chunks.{together}
use Rattle.sem_mem.specs.Writing.{upper_part}
use Rattle.sem_mem.proofs.parts.push_upper_parts.Given as goal

-- the parts of the runs of the first chunks were appended
abbrev pub invariant-loop-chunk : goal.invariant-loop-chunk
invariant-loop-chunk l = l.out.items
    ≡ l.fn.out.items ++ filter_map (upper_part l.from) (together (take l.chunk-index l.chunks))
