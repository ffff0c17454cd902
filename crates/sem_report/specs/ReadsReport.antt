-- Lines of a report, read one after another, and why one is not read.
use Rattle.std.specs.Prelude.{◌≡◌, ℕ, ◌+◌, ◌<◌, List, [], ◌∷◌, ◌++◌, Option, Some}
use Rattle.sem_trace.specs.LineErrors.{fault_of}
use Rattle.sem_trace.specs.declared.fault.LineFault.{LineFault}
use Rattle.sem_trace.specs.declared.fault.Cause.TheVariants.{Missing}
use Rattle.sem_trace.specs.declared.fault.TraceFault.{TraceFault}
use Rattle.sem_trace.specs.declared.fault.TraceError.{TraceError}
use Rattle.sem_trace.specs.declared.fault.TraceError.TheVariants.{Refused as RefusedText, Memory as NoMemory}
use Rattle.sem_msg.specs.declared.entry.Entry.{Entry}
use Rattle.sem_text.specs.Lines.{line}
use Rattle.sem_journal.specs.EntryText.{entry_words}
use Rattle.sem_journal.specs.EntryRanges.{EntryFits}
use Rattle.sem_trace.specs.declared.line_error.LineError.{LineError}
use Rattle.sem_trace.specs.declared.line_error.LineError.TheVariants.{Refused, Memory}
use Rattle.sem_trace.specs.Forms.{whole_line}
use Rattle.sem_report.specs.WholeLines.{whole_lines}
use Rattle.sem_report.specs.ReportRefusal.{Form, forms_fault, line_later}

-- why a line is not read: what is wrong with it, or memory was refused
abbrev pub Because : Option LineFault → LineError → Type 0
Because known (Refused fault) = known ≡ Some fault
Because known Memory = Unit {0}

-- lines from number n on have these forms, and what is wrong with all of them is what is wrong with
-- the rest, from number m on
abbrev pub HaveForms : List Form → ℕ → List (List ℕ) → ℕ → List (List ℕ) → Type 0
HaveForms forms n lines m rest = (more : List Form) →
    forms_fault n (forms ++ more) lines ≡ forms_fault m more rest

-- lines from number n on do not have these forms, or memory was refused
abbrev pub StopsAt : List Form → ℕ → List (List ℕ) → TraceError → Type 0
StopsAt forms n lines (RefusedText fault) = (more : List Form) → forms_fault n (forms ++ more) lines ≡ Some fault
StopsAt forms n lines NoMemory = Unit {0}

-- the first line of a text after n lines, and the text after it, after m lines
pub record NextLine (n : ℕ) (text whole : List ℕ) (m : ℕ) (behind : List ℕ) : Type 0 where
  pub number : m ≡ n + 1
  pub lines : whole_lines text ≡ whole ∷ whole_lines behind
  pub parts : text ≡ whole ++ behind

-- no lines are left where line n should be
abbrev pub IsMissing : ℕ → List (List ℕ) → TraceError → Type 0
IsMissing n lines e = (lines ≡ []) × (e ≡ RefusedText (fault_of n (whole_line Missing)))

-- the first line of a text is that of an entry of a report of that version, and the entry joins the
-- end of a list
pub record OneEntry (version kernels : ℕ) (text behind : List ℕ) (before after : List Entry) : Type 0 where
  pub entry : Entry
  pub parts : text ≡ line (entry_words entry) ++ behind
  pub added : after ≡ before ++ entry ∷ []
  pub fits : EntryFits version kernels entry

-- a text has that refusal
abbrev pub IsRefused : Option TraceFault → TraceError → Type 0
IsRefused refused (RefusedText fault) = refused ≡ Some fault
IsRefused refused NoMemory = ⊥

-- the refused line has a number below n
abbrev pub IsBelow : ℕ → TraceError → Type 0
IsBelow n (RefusedText fault) = fault.line < n
IsBelow n NoMemory = Unit {0}

-- the same, one line later
abbrev pub later : TraceError → TraceError
later (RefusedText fault) = RefusedText (line_later fault)
later NoMemory = NoMemory
