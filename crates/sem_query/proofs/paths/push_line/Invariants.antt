use Rattle.std.proofs.Common.{◌++◌, ◌-◌, length, map}
use Rattle.sem_text.specs.Lines.{text}
use Rattle.sem_machine.specs.Journals.{grants, ancestry_in}
use Rattle.sem_query.specs.Paths.{step_words}
use Rattle.sem_query.proofs.Lines.{IsToldTo}
use Rattle.sem_query.proofs.paths.push_line.Given as goal

-- the line was told up to the last key
abbrev pub invariant-loop : goal.invariant-loop
invariant-loop l =
    IsToldTo l.cut.keys (grants l.journal.entries) (l.fn.out.items
    ++ text (map (step_words l.cut.keys) (ancestry_in (length l.journal.entries) (grants l.journal.entries) l.fn.key))) l.out.items
    (length l.journal.entries - l.counter) l.last
