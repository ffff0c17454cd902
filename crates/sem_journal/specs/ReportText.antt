-- The text of a report ("The report" in docs/texts.md): the trace, the journal and the audit.
use Rattle.std.specs.Prelude.{ℕ, List, [], ◌∷◌, ◌++◌, length, map, codes, decimal}
use Rattle.sem_msg.specs.Prelude.{KeyName, Setup}
use Rattle.sem_msg.specs.declared.entry.Entry.{Entry}
use Rattle.sem_text.specs.Lines.{text}
use Rattle.sem_trace.specs.Words.{key_word}
use Rattle.sem_trace.specs.TraceText.{trace_lines}
use Rattle.sem_journal.specs.EntryText.{entry_words}

abbrev pub held_line : KeyName × ℕ → List (List ℕ)
held_line h = codes "key" ∷ key_word h.0 ∷ decimal h.1 ∷ []

-- the lines of the audit: how many keys were made and cut, and which keys are held at which
-- selectors
abbrev pub audit_lines : ℕ → ℕ → List (KeyName × ℕ) → List (List (List ℕ))
audit_lines made cut held =
    (codes "audit" ∷ [])
    ∷ (codes "made" ∷ decimal made ∷ [])
    ∷ (codes "cut" ∷ decimal cut ∷ [])
    ∷ (codes "held" ∷ decimal (length held) ∷ [])
    ∷ map held_line held
    ++ (codes "end" ∷ []) ∷ []

-- the lines of the journal: how many entries there are, and each of them
abbrev pub journal_lines : List Entry → List (List (List ℕ))
journal_lines J = (codes "journal" ∷ decimal (length J) ∷ []) ∷ map entry_words J

abbrev pub report_lines : Setup → List Entry → ℕ → ℕ → List (KeyName × ℕ) → List (List (List ℕ))
report_lines T J made cut held =
    (codes "semper" ∷ codes "report" ∷ decimal T.version ∷ [])
    ∷ trace_lines T
    ++ journal_lines J
    ++ audit_lines made cut held

-- the text of a report with this journal and audit
abbrev pub report_text : Setup → List Entry → ℕ → ℕ → List (KeyName × ℕ) → List ℕ
report_text T J made cut held = text (report_lines T J made cut held)
