-- Which texts are refused as reports, at which line and word and why ("The report" in docs/texts.md).
use Rattle.std.specs.Prelude.{ℕ, ◌+◌, nat_lt, Bool, List, [], ◌∷◌, ◌++◌, length, take, drop, map, codes, decimal}
use Rattle.std.specs.Prelude.{replicate, slice_index_or, Option, Some, None, option_map, if◌then◌else◌}
use Rattle.std.specs.Option.{option_or}
use Rattle.std.specs.Str.{bytes_eq}
use Rattle.sem_msg.specs.Prelude.{Setup}
use Rattle.sem_text.specs.Lines.{line}
use Rattle.sem_trace.specs.declared.fault.LineFault.{LineFault}
use Rattle.sem_trace.specs.declared.fault.Cause.TheVariants.{OutOfRange, Missing, TooMany, InputTooLong, NotCanonical}
use Rattle.sem_trace.specs.declared.fault.TraceFault.{TraceFault}
use Rattle.sem_trace.specs.TextLines.{words_of, is_significant, bytes_fault}
use Rattle.sem_trace.specs.Forms.{Place, word_fault, whole_line, at_word, byte, word, key}
use Rattle.sem_trace.specs.Forms.Place.{Word}
use Rattle.sem_trace.specs.Declarations.{stands_at, number_at}
use Rattle.sem_trace.specs.LineErrors.{fault_of}
use Rattle.sem_trace.specs.Refusal.{lines_refusal, version_in, version_of, kernels_of, declarations_of}
use Rattle.sem_trace.specs.SetupOfText.{setup_of}
use Rattle.sem_trace.specs.TraceText.{canonical}
use Rattle.sem_journal.specs.EntryForms.{entry_form, has_long_memory, long_word}
use Rattle.sem_report.specs.WholeLines.{whole_lines, content}

-- the words of a line
abbrev pub words_in : List ℕ → List (List ℕ)
words_in line = words_of (content line)

-- which words of a line can stand in its places
abbrev pub Form : Type 0
Form = List (List ℕ) → List Place

-- what is wrong with a line of that form: with its bytes, its words, the memory that it tells, or
-- its spelling
unfoldable pub report_line_fault : Form → List ℕ → Option LineFault
report_line_fault form whole =
    let words : List (List ℕ) = words_in whole in
    option_or (option_map whole_line (bytes_fault (content whole)))
    (option_or (word_fault (form words) words)
    (if has_long_memory words then Some (at_word (long_word words) OutOfRange)
    else (if bytes_eq whole (line words) then None else Some (whole_line NotCanonical))))

-- the first fault of lines of these forms; the first line has that number
unfoldable pub forms_fault : ℕ → List Form → List (List ℕ) → Option TraceFault
forms_fault n [] [] = None
forms_fault n [] (whole ∷ lines) =
    option_map (fault_of n) (option_map whole_line (option_or (bytes_fault (content whole)) (Some TooMany)))
forms_fault n (form ∷ forms) [] = Some (fault_of n (whole_line Missing))
forms_fault n (form ∷ forms) (whole ∷ lines) =
    option_or (option_map (fault_of n) (report_line_fault form whole)) (forms_fault (n + 1) forms lines)

-- the first line
abbrev pub report_form : Form
report_form words = Word (codes "semper" ∷ []) ∷ Word (codes "report" ∷ []) ∷ Word (codes "1" ∷ codes "2" ∷ []) ∷ []

-- the version that the first line of these tells
abbrev pub report_version : List (List ℕ) → ℕ
report_version lines = version_in (words_in (slice_index_or lines 0 []))

-- a line of one word
abbrev pub name_form : List ℕ → Form
name_form name words = Word (name ∷ []) ∷ []

-- a line of a word and a number
abbrev pub count_form : List ℕ → Form
count_form name words = Word (name ∷ []) ∷ word ∷ []

-- the line of a held key, in a report of that version
abbrev pub held_form : ℕ → Form
held_form version words = Word (codes "key" ∷ []) ∷ key version ∷ byte ∷ []

-- the number that a line tells
abbrev pub count_at : List (List ℕ) → ℕ → ℕ
count_at lines i = number_at (words_in (slice_index_or lines i [])) 1

-- the lines of the audit with that many held keys, and the last line
abbrev pub audit_forms : (version held : ℕ) → List Form
audit_forms version held = name_form (codes "audit") ∷ count_form (codes "made") ∷ count_form (codes "cut")
    ∷ count_form (codes "held") ∷ replicate held (held_form version) ++ name_form (codes "end") ∷ []

-- the lines after the trace: how many entries, each of them, and the audit, which says in its
-- fourth line how many keys are held
unfoldable pub forms_behind : (version kernels : ℕ) → List (List ℕ) → List Form
forms_behind version kernels lines =
    let entries : ℕ = count_at lines 0 in
    count_form (codes "journal") ∷ replicate entries (entry_form version kernels)
    ++ audit_forms version (count_at lines (entries + 4))

-- whether the first word of a line is `end`
abbrev pub is_end_line : List ℕ → Bool
is_end_line whole = stands_at (words_in whole) 0 (codes "end")

-- the trace: the lines up to the first that ends it
unfoldable pub trace_section : List (List ℕ) → List (List ℕ)
trace_section [] = []
trace_section (whole ∷ lines) = if is_end_line whole then whole ∷ [] else whole ∷ trace_section lines

-- the setup that the lines of a trace declare
abbrev pub setup_in : List (List ℕ) → Setup
setup_in section = setup_of (version_of (map content section)) (kernels_of (map content section))
    (declarations_of (map content section))

-- the first line of the trace in a report of that version
abbrev pub trace_form : ℕ → List Place
trace_form version = Word (codes "semper" ∷ []) ∷ Word (codes "trace" ∷ []) ∷ Word (decimal version ∷ []) ∷ []

-- what is wrong with the first of these lines that says something, against that form, or with an
-- earlier one; the first of all has that number
unfoldable pub head_fault : (version n : ℕ) → List (List ℕ) → Option TraceFault
head_fault version n [] = None
head_fault version n (line ∷ lines) =
    option_or (option_map (fault_of n) (option_map whole_line (bytes_fault line)))
    (if is_significant (words_of line) then option_map (fault_of n) (word_fault (trace_form version) (words_of line))
    else head_fault version (n + 1) lines)

-- a fault of the trace: its lines follow the first line of the report
abbrev pub line_later : TraceFault → TraceFault
line_later fault = record { line = fault.line + 1; word = fault.word; cause = fault.cause }

-- the number of the first line in which two texts differ, if the first lines have that number
unfoldable pub first_difference : ℕ → List (List ℕ) → List (List ℕ) → Option ℕ
first_difference n [] [] = None
first_difference n [] (other ∷ others) = Some n
first_difference n (whole ∷ lines) [] = Some n
first_difference n (whole ∷ lines) (other ∷ others) = if bytes_eq whole other
    then first_difference (n + 1) lines others else Some n

-- the first line in which the trace differs from the canonical text; the trace begins with the
-- second line of the report
abbrev pub spelling_fault : List (List ℕ) → Setup → Option TraceFault
spelling_fault section T =
    option_map (λ n. fault_of n (whole_line NotCanonical)) (first_difference 2 section (whole_lines (canonical T)))

-- the refusal of the trace in a report of that version: that of its first line, then that of all
-- its lines, then that of the first line with another spelling
abbrev pub trace_refusal : ℕ → List (List ℕ) → Option TraceFault
trace_refusal version section =
    option_or (head_fault version 2 (map content section))
    (option_or (option_map line_later (lines_refusal (map content section)))
    (spelling_fault section (setup_in section)))

-- the refusal of the lines after the first, which tells that version: that of the trace, then that
-- of the lines after it
unfoldable pub refusal_behind : ℕ → List (List ℕ) → Option TraceFault
refusal_behind version lines =
    let section : List (List ℕ) = trace_section lines in
    let behind : List (List ℕ) = drop (length section) lines in
    option_or (trace_refusal version section)
    (forms_fault (2 + length section) (forms_behind version (setup_in section).kernels behind) behind)

-- the refusal of a text as a report, if it is refused
unfoldable pub report_refusal : List ℕ → Option TraceFault
report_refusal bytes =
    if nat_lt 134217728 (length bytes) then Some (fault_of 0 (whole_line InputTooLong))
    else option_or (forms_fault 1 (report_form ∷ []) (take 1 (whole_lines bytes)))
    (refusal_behind (report_version (whole_lines bytes)) (drop 1 (whole_lines bytes)))
