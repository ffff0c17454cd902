use Rattle.std.proofs.Common.{◌≡◌, ◌++◌, map, take}
use Rattle.sem_text.specs.Lines.{text}
use Rattle.sem_access.specs.ContentsText.{run_line}
use Rattle.sem_mem.proofs.contents.push_runs.Given as goal

-- the lines of the first runs were appended
abbrev pub invariant-loop-run : goal.invariant-loop-run
invariant-loop-run l = l.out.items ≡ l.fn.out.items ++ text (map run_line (take l.run-index l.runs))
