use Rattle.std.proofs.Common.{◌≡◌, ◌++◌, take}
use Rattle.std.specs.List.{enumerate_from, flat_map}
use Rattle.sem_text.specs.Lines.{text}
use Rattle.sem_trace.specs.TraceText.{pe_line}
use Rattle.sem_trace.proofs.print.push_owners.Given as goal

-- the lines of the PEs so far were appended
abbrev pub invariant-loop-pe : goal.invariant-loop-pe
invariant-loop-pe l = l.out.items ≡ l.initial.out.items ++ text (flat_map pe_line (enumerate_from 0 (take l.pe l.owners.owners)))
