-- How the text of a report begins, before the lines of its entries.
use Rattle.std.specs.Prelude.{◌≡◌, ℕ, List, ◌++◌, map}
use Rattle.sem_msg.specs.Prelude.{KeyName, Setup}
use Rattle.sem_msg.specs.declared.entry.Entry.{Entry}
use Rattle.sem_text.specs.Lines.{text}
use Rattle.sem_journal.specs.EntryText.{entry_words}
use Rattle.sem_journal.specs.ReportText.{audit_lines, report_text}

-- `after`, the lines of the entries and those of any audit are `before` and the text of the report
abbrev pub BeginsReport : Setup → List Entry → List ℕ → List ℕ → Type 0
BeginsReport T J before after =
    (made cut : ℕ) (held : List (KeyName × ℕ))
    → after ++ text (map entry_words J) ++ text (audit_lines made cut held)
    ≡ before ++ report_text T J made cut held
