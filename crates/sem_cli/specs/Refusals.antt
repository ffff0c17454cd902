-- The lines that tell why a report is refused ("The command line" in docs/texts.md).
use Rattle.std.specs.Prelude.{ℕ, List, [], ◌∷◌, ◌++◌, codes, decimal, Option, Some, None}
use Rattle.sem_msg.specs.declared.entry.Entry.{Entry}
use Rattle.sem_trace.specs.declared.fault.TraceFault.{TraceFault}
use Rattle.sem_journal.specs.EntryText.{entry_words}
use Rattle.sem_journal.specs.SpacedWords.{spaced}
use Rattle.sem_cli.specs.Messages.{fault_words}

-- a line of the report, and what is wrong with it
abbrev pub bad_line : TraceFault → List ℕ
bad_line fault = codes "report refused: line " ++ fault_words fault

-- entry n, counted from 0: what the report tells, and what the machine does
abbrev pub bad_entry : ℕ → List ℕ → List ℕ → List ℕ
bad_entry n entered replayed =
    codes "report refused: entry " ++ decimal n ++ codes ": entered " ++ entered
    ++ codes "; replayed " ++ replayed ++ 10 ∷ []

-- an entry as in its line
abbrev pub entry_text : Entry → List ℕ
entry_text e = spaced (entry_words e)

-- the entry that an event makes; none if it is not enabled
abbrev pub replayed_text : Option Entry → List ℕ
replayed_text None = codes "not enabled"
replayed_text (Some e) = entry_text e

-- entry n is not the one that its event makes
abbrev pub differing_line : ℕ → Entry → Option Entry → List ℕ
differing_line n entered replayed = bad_entry n (entry_text entered) (replayed_text replayed)

-- an event is enabled after all n entries
abbrev pub going_on_line : ℕ → Entry → List ℕ
going_on_line n next = bad_entry n (codes "end") (entry_text next)
