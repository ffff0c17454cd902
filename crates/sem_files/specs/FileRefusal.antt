-- Which texts of file commands are refused, at which line and word and why ("File commands" in
-- docs/texts.md).
use Rattle.std.specs.Prelude.{ℕ, ◌+◌, nat_lt, List, [], ◌∷◌, length, drop, map, Option, Some, None}
use Rattle.std.specs.Prelude.{if◌then◌else◌}
use Rattle.std.specs.Option.{option_or}
use Rattle.sem_trace.specs.declared.fault.LineFault.{LineFault}
use Rattle.sem_trace.specs.declared.fault.Cause.TheVariants.{Missing, TooMany, InputTooLong}
use Rattle.sem_trace.specs.declared.fault.TraceFault.{TraceFault}
use Rattle.sem_trace.specs.TextLines.{lines_of, significant}
use Rattle.sem_trace.specs.Forms.{word_fault, whole_line}
use Rattle.sem_trace.specs.Declarations.{number_at}
use Rattle.sem_trace.specs.Earlier.{first_some}
use Rattle.sem_trace.specs.Refusal.{line_fault_by, numbers, fault_by}
use Rattle.sem_files.specs.declared.lines.FileLine.{FileLine}
use Rattle.sem_files.specs.FileForms.{first_form, second_form, form}
use Rattle.sem_files.specs.Said.{said, files_of, is_ended}
use Rattle.sem_files.specs.FileContext.{context_fault}

-- what is wrong with the words of a line after the second, given the words of the earlier lines
-- after the second
unfoldable pub body_fault : ℕ → List (List (List ℕ)) → List (List ℕ) → Option LineFault
body_fault kernels earlier words =
    if is_ended (map said earlier) then Some (whole_line TooMany)
    else option_or (word_fault (form words) words)
    (context_fault (files_of kernels (map said earlier)) (said words))

-- what is wrong with the words of a line, given the words of the earlier lines that say something
unfoldable pub words_fault : List (List (List ℕ)) → List (List ℕ) → Option LineFault
words_fault [] words = word_fault first_form words
words_fault (first ∷ []) words = word_fault second_form words
words_fault (first ∷ second ∷ earlier) words = body_fault (number_at second 1) earlier words

-- what is wrong with a line after such lines
unfoldable pub line_fault : List (List (List ℕ)) → List ℕ → Option LineFault
line_fault earlier line = line_fault_by words_fault earlier line

-- the fault of the line at a place, counted from 0, after all lines before it
unfoldable pub fault_at : List (List ℕ) → ℕ → Option TraceFault
fault_at lines i = fault_by line_fault lines i

-- the first fault of a line
unfoldable pub first_fault : List (List ℕ) → Option TraceFault
first_fault lines = first_some (fault_at lines) (numbers (length lines))

-- what the lines after the second say
unfoldable pub said_by : List (List ℕ) → List FileLine
said_by lines = map said (drop 2 (significant lines))

-- the lines have no last line
unfoldable pub end_fault : List (List ℕ) → Option TraceFault
end_fault lines =
    if is_ended (said_by lines) then None
    else Some (record { line = length lines + 1; word = None; cause = Missing })

-- the refusal of lines: that of the first bad one, or that the last line is missing
abbrev pub lines_refusal : List (List ℕ) → Option TraceFault
lines_refusal lines = option_or (first_fault lines) (end_fault lines)

-- the refusal of a text, if it is refused: that it is too long, or that of its lines
unfoldable pub refusal : List ℕ → Option TraceFault
refusal bytes =
    if nat_lt 8388608 (length bytes) then Some (record { line = 0; word = None; cause = InputTooLong })
    else lines_refusal (lines_of bytes)
