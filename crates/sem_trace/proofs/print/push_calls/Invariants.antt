use Rattle.std.proofs.Common.{◌≡◌, ◌++◌, ◌∷◌, map, take}
use Rattle.std.specs.Prelude.{codes, decimal}
use Rattle.sem_text.specs.Lines.{text}
use Rattle.sem_trace.specs.Words.{call_words}
use Rattle.sem_trace.proofs.print.push_calls.Given as goal

-- the lines of the calls so far were appended
abbrev pub invariant-loop-call : goal.invariant-loop-call
invariant-loop-call l = l.out.items ≡ l.initial.out.items ++ text (map (λ c. codes "call" ∷ decimal l.vpe ∷ call_words c) (take l.call-index l.calls))
