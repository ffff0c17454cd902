-- The lines of a text and the words of a line ("Lines and words" in docs/texts.md).
use Rattle.std.specs.Prelude.{ℕ, ◌==◌, nat_le, nat_lt, Bool, true, false, not, ◌&&◌, ◌||◌, List, [], ◌∷◌, ◌++◌}
use Rattle.std.specs.Prelude.{length, map, filter, Option, Some, None, if◌then◌else◌}
use Rattle.std.specs.List.{slice_split, list_all}
use Rattle.sem_text.specs.Words.{is_blank}
use Rattle.sem_trace.specs.declared.fault.Cause.{Cause}
use Rattle.sem_trace.specs.declared.fault.Cause.TheVariants.{NotText, LineTooLong}

-- the parts between line ends, without the last one if it is empty
abbrev pub without_empty_last : List (List ℕ) → List (List ℕ)
without_empty_last [] = []
without_empty_last ([] ∷ []) = []
without_empty_last (part ∷ parts) = part ∷ without_empty_last parts

-- the lines, each without its line end (byte 10)
unfoldable pub lines_of : List ℕ → List (List ℕ)
lines_of bytes = without_empty_last (slice_split (λ b. b == 10) bytes)

abbrev pub is_word : List ℕ → Bool
is_word [] = false
is_word (b ∷ bs) = true

-- the words of a line: what stands between blanks and tabs
unfoldable pub words_of : List ℕ → List (List ℕ)
words_of line = filter is_word (slice_split is_blank line)

-- a comment begins with # (byte 35)
abbrev pub is_comment : List ℕ → Bool
is_comment [] = false
is_comment (b ∷ bs) = b == 35

-- whether the line with these words says something
abbrev pub is_significant : List (List ℕ) → Bool
is_significant [] = false
is_significant (word ∷ words) = not (is_comment word)

-- the words of those lines that say something
abbrev pub significant : List (List ℕ) → List (List (List ℕ))
significant lines = filter is_significant (map words_of lines)

-- the words of such lines, and those of one line more, if it says something
abbrev pub with_significant : List (List (List ℕ)) → List ℕ → List (List (List ℕ))
with_significant lines line = if is_significant (words_of line) then lines ++ words_of line ∷ [] else lines

-- a tab or a printable byte
abbrev pub is_text : ℕ → Bool
is_text b = (b == 9) || (nat_le 32 b && nat_le b 126)

-- what is wrong with the bytes of a line, whatever it says
unfoldable pub bytes_fault : List ℕ → Option Cause
bytes_fault line =
    if nat_lt 255 (length line) then Some LineTooLong
    else (if list_all is_text line then None else Some NotText)
