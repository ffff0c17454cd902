-- The one-line texts of the program ("The command line" in docs/texts.md).
use Rattle.std.specs.Prelude.{ℕ, List, [], ◌∷◌, ◌++◌, codes, decimal}
use Rattle.sem_trace.specs.Causes.{cause_name}
use Rattle.sem_trace.specs.declared.fault.TraceFault.{TraceFault}

-- the forms of a command, with a vertical bar between blanks
abbrev pub usage_line : List ℕ
usage_line =
    codes "usage: semper run SEED | threads SEED | check | gen SEED VPES CALLS"
    ++ codes " | soak SEED VPES CALLS | contents | files SEED | query holder KEY N"
    ++ codes " | query path KEY | query denied N" ++ 10 ∷ []

-- the report is that of a complete schedule
abbrev pub ok_line : List ℕ
ok_line = codes "ok" ++ 10 ∷ []

-- the number of a bad line and its cause, to the end of a line
abbrev pub fault_words : TraceFault → List ℕ
fault_words fault = decimal fault.line ++ codes ": " ++ cause_name fault.cause ++ 10 ∷ []

-- the first bad line of a trace and its cause
abbrev pub refused_line : TraceFault → List ℕ
refused_line fault = codes "trace refused: line " ++ fault_words fault

-- the first bad line of file commands and its cause
abbrev pub files_refused_line : TraceFault → List ℕ
files_refused_line fault = codes "files refused: line " ++ fault_words fault
