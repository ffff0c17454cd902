use Rattle.std.proofs.Common.{◌≡◌, ◌++◌, map, take}
use Rattle.sem_text.specs.Lines.{text}
use Rattle.sem_trace.specs.TraceText.{vpe_line}
use Rattle.sem_trace.proofs.print.push_vpes.Given as goal

-- the lines of the VPEs so far were appended
abbrev pub invariant-loop-declared : goal.invariant-loop-declared
invariant-loop-declared l = l.out.items ≡ l.initial.out.items ++ text (map vpe_line (take l.declared-index l.vpes))
