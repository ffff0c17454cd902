use Rattle.std.proofs.Common.{◌≡◌, ◌++◌, map, take}
use Rattle.sem_text.specs.Lines.{text}
use Rattle.sem_trace.specs.TraceText.{root_line}
use Rattle.sem_trace.proofs.print.push_roots.Given as goal

-- the lines of the roots so far were appended
abbrev pub invariant-loop-root : goal.invariant-loop-root
invariant-loop-root l = l.out.items ≡ l.initial.out.items ++ text (map (root_line l.vpe) (take l.root-index l.roots))
