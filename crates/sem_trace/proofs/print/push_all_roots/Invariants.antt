use Rattle.std.proofs.Common.{◌≡◌, ◌++◌, map, take}
use Rattle.std.specs.List.{flat_map}
use Rattle.sem_text.specs.Lines.{text}
use Rattle.sem_trace.specs.TraceText.{root_line}
use Rattle.sem_trace.proofs.print.push_all_roots.Given as goal

-- the lines of the VPEs so far were appended
abbrev pub invariant-loop-declared : goal.invariant-loop-declared
invariant-loop-declared l = l.out.items ≡ l.initial.out.items ++ text (flat_map (λ d. map (root_line d.vpe) d.roots) (take l.declared-index l.vpes))
