use Rattle.std.proofs.Common.{◌≡◌, ◌++◌, map, take}
use Rattle.sem_text.specs.Lines.{text}
use Rattle.sem_access.specs.ContentsText.{run_line}
use Rattle.sem_mem.specs.Chunks.{together}
use Rattle.sem_mem.proofs.contents.push_chunks.Given as goal

-- the lines of the runs of the first chunks were appended
abbrev pub invariant-loop-chunk : goal.invariant-loop-chunk
invariant-loop-chunk l = l.out.items
    ≡ l.fn.out.items ++ text (map run_line (together (take l.chunk-index l.chunks)))
