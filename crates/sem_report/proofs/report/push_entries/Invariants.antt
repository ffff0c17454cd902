use Rattle.std.proofs.Common.{◌≡◌, ◌++◌, map, take}
use Rattle.sem_text.specs.Lines.{text}
use Rattle.sem_journal.specs.EntryText.{entry_words}
use Rattle.sem_report.proofs.report.push_entries.Given as goal

-- the lines of the entries so far were appended
abbrev pub invariant-loop-at : goal.invariant-loop-at
invariant-loop-at l = l.out.items ≡ l.initial.out.items ++ text (map entry_words (take l.at l.journal.entries))
