use Rattle.std.proofs.Common.{◌≡◌, ◌++◌, map, take}
use Rattle.sem_text.specs.Lines.{text}
use Rattle.sem_trace.specs.TraceText.{kill_line}
use Rattle.sem_trace.proofs.print.push_kills.Given as goal

-- the lines of the kills so far were appended
abbrev pub invariant-loop-kill : goal.invariant-loop-kill
invariant-loop-kill l = l.out.items ≡ l.initial.out.items ++ text (map kill_line (take l.kill-index l.kills))
