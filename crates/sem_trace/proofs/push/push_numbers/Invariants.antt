use Rattle.std.proofs.Common.{◌≡◌, ◌++◌, map, take}
use Rattle.std.specs.Prelude.{decimal}
use Rattle.sem_text.specs.Lines.{behind_blanks}
use Rattle.sem_trace.proofs.push.push_numbers.Given as goal

-- the numbers so far were appended
abbrev pub invariant-loop-value : goal.invariant-loop-value
invariant-loop-value l = l.out.items ≡ l.initial.out.items ++ behind_blanks (map decimal (take l.value-index l.values))
