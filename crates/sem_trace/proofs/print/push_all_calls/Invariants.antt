use Rattle.std.proofs.Common.{◌≡◌, ◌++◌, ◌∷◌, map, take}
use Rattle.std.specs.Prelude.{codes, decimal}
use Rattle.std.specs.List.{flat_map}
use Rattle.sem_text.specs.Lines.{text}
use Rattle.sem_trace.specs.Words.{call_words}
use Rattle.sem_trace.proofs.print.push_all_calls.Given as goal

-- the lines of the VPEs so far were appended
abbrev pub invariant-loop-declared : goal.invariant-loop-declared
invariant-loop-declared l = l.out.items ≡ l.initial.out.items
    ++ text (flat_map (λ d. map (λ c. codes "call" ∷ decimal d.vpe ∷ call_words c) d.calls) (take l.declared-index l.vpes))
