-- Which texts are refused, at which line and word and why ("The trace" in docs/texts.md).
use Rattle.std.specs.Prelude.{ℕ, ◌+◌, ◌==◌, nat_lt, Bool, false, not, List, [], ◌∷◌, length, take, drop, map}
use Rattle.std.specs.Prelude.{slice_index_or, Option, Some, None, option_map, if◌then◌else◌}
use Rattle.std.specs.List.{range_with_len}
use Rattle.std.specs.Option.{option_or}
use Rattle.sem_trace.specs.declared.fault.LineFault.{LineFault}
use Rattle.sem_trace.specs.declared.fault.Cause.TheVariants.{Missing, TooMany, InputTooLong}
use Rattle.sem_trace.specs.declared.fault.TraceFault.{TraceFault}
use Rattle.sem_trace.specs.declared.declaration.Declaration.{Declaration}
use Rattle.sem_trace.specs.TextLines.{lines_of, words_of, is_significant, significant, bytes_fault}
use Rattle.sem_trace.specs.Forms.{word_fault, whole_line, first_form, second_form, third_form, form}
use Rattle.sem_trace.specs.Declarations.{number_at, declaration}
use Rattle.sem_trace.specs.Earlier.{first_some, is_ended}
use Rattle.sem_trace.specs.Context.{context_fault}

-- the version that the first line tells
abbrev pub version_in : List (List ℕ) → ℕ
version_in first = number_at first 2

-- whether a line after the second is the third of version 2, which says how many messages a link
-- holds
abbrev pub is_third : ℕ → List (List (List ℕ)) → Bool
is_third version [] = not (version == 1)
is_third version (line ∷ earlier) = false

-- what is wrong with the words of a line after the second, given the words of the earlier lines
-- after the second
unfoldable pub body_fault : (version kernels : ℕ) → List (List (List ℕ)) → List (List ℕ) → Option LineFault
body_fault version kernels earlier words =
    if is_third version earlier then word_fault (third_form version) words
    else (if is_ended (map declaration earlier) then Some (whole_line TooMany)
    else option_or (word_fault (form version kernels words) words)
    (context_fault (map declaration earlier) (declaration words)))

-- what is wrong with the words of a line, given the words of the earlier lines that say something
unfoldable pub words_fault : List (List (List ℕ)) → List (List ℕ) → Option LineFault
words_fault [] words = word_fault first_form words
words_fault (first ∷ []) words = word_fault (second_form (version_in first)) words
words_fault (first ∷ second ∷ earlier) words = body_fault (version_in first) (number_at second 1) earlier words

-- what is wrong with a line after such lines, where words_fault tells what is wrong with its words
abbrev pub line_fault_by : (words_fault : List (List (List ℕ)) → List (List ℕ) → Option LineFault) →
    List (List (List ℕ)) → List ℕ → Option LineFault
line_fault_by words_fault earlier line = option_or (option_map whole_line (bytes_fault line))
    (if is_significant (words_of line) then words_fault earlier (words_of line) else None)

unfoldable pub line_fault : List (List (List ℕ)) → List ℕ → Option LineFault
line_fault earlier line = line_fault_by words_fault earlier line

-- the numbers below n
unfoldable pub numbers : ℕ → List ℕ
numbers n = range_with_len 0 n

-- the fault of the line at a place, counted from 0, after all lines before it, where line_fault
-- tells what is wrong with a line
abbrev pub fault_by : (line_fault : List (List (List ℕ)) → List ℕ → Option LineFault) →
    List (List ℕ) → ℕ → Option TraceFault
fault_by line_fault lines i =
    option_map (λ fault. record { line = i + 1; word = fault.word; cause = fault.cause })
    (line_fault (significant (take i lines)) (slice_index_or lines i []))

unfoldable pub fault_at : List (List ℕ) → ℕ → Option TraceFault
fault_at lines i = fault_by line_fault lines i

-- the first fault of a line
unfoldable pub first_fault : List (List ℕ) → Option TraceFault
first_fault lines = first_some (fault_at lines) (numbers (length lines))

-- the version that the lines tell
unfoldable pub version_of : List (List ℕ) → ℕ
version_of lines = version_in (slice_index_or (significant lines) 0 [])

-- how many kernels the lines declare
unfoldable pub kernels_of : List (List ℕ) → ℕ
kernels_of lines = number_at (slice_index_or (significant lines) 1 []) 1

-- what the lines after the second say
unfoldable pub declarations_of : List (List ℕ) → List Declaration
declarations_of lines = map declaration (drop 2 (significant lines))

-- the lines have no last line
unfoldable pub end_fault : List (List ℕ) → Option TraceFault
end_fault lines = if is_ended (declarations_of lines) then None
    else Some (record { line = length lines + 1; word = None; cause = Missing })

-- the refusal of lines: that of the first bad one, or that the last line is missing
abbrev pub lines_refusal : List (List ℕ) → Option TraceFault
lines_refusal lines = option_or (first_fault lines) (end_fault lines)

-- the refusal of a text, if it is refused: that it is too long, or that of its lines
unfoldable pub refusal : List ℕ → Option TraceFault
refusal bytes =
    if nat_lt 8388608 (length bytes) then Some (record { line = 0; word = None; cause = InputTooLong })
    else lines_refusal (lines_of bytes)
