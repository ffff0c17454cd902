-- Lines of a text ("Lines and words" in docs/texts.md).
use Rattle.std.specs.Prelude.{ℕ, ◌+◌, ◌==◌, min, List, [], ◌∷◌, ◌++◌, length, drop, flat_map, Option, Some, None}
use Rattle.std.specs.Prelude.{if◌then◌else◌}
use Rattle.std.specs.List.{position_or_len}

-- where the line that begins at a place ends: at the next line end (byte 10), or at the end of the
-- text
abbrev pub line_end : List ℕ → ℕ → ℕ
line_end bytes from = from + position_or_len (λ b. b == 10) (drop from bytes)

-- where the line ends and where the next begins; no line begins at the end of the text
abbrev pub line_from : List ℕ → ℕ → Option (ℕ × ℕ)
line_from bytes from = if from == length bytes then None
    else Some (line_end bytes from, min (line_end bytes from + 1) (length bytes))

-- words, each after a blank
abbrev pub behind_blanks : List (List ℕ) → List ℕ
behind_blanks words = flat_map (λ w. 32 ∷ w) words

-- a line of words in canonical spelling: one blank between words, and a line end
abbrev pub line : List (List ℕ) → List ℕ
line [] = 10 ∷ []
line (w ∷ ws) = w ++ behind_blanks ws ++ 10 ∷ []

-- a text of such lines
abbrev pub text : List (List (List ℕ)) → List ℕ
text lines = flat_map line lines
