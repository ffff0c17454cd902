use Rattle.std.proofs.Common.{◌≡◌, ◌++◌, map, take}
use Rattle.sem_text.specs.Lines.{text}
use Rattle.sem_trace.specs.TraceText.{deny_line}
use Rattle.sem_trace.proofs.print.push_denies.Given as goal

-- the lines of the denies so far were appended
abbrev pub invariant-loop-deny : goal.invariant-loop-deny
invariant-loop-deny l = l.out.items ≡ l.initial.out.items ++ text (map deny_line (take l.deny-index l.denies))
