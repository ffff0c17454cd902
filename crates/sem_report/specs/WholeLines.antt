-- The lines of a text with their line ends ("The report" in docs/texts.md).
use Rattle.std.specs.Prelude.{ℕ, ◌==◌, not, List, [], ◌∷◌, filter, if◌then◌else◌}
use Rattle.std.specs.List.{onto_first}

-- the lines, each with its line end (byte 10), which the last may lack
unfoldable pub whole_lines : List ℕ → List (List ℕ)
whole_lines [] = []
whole_lines (b ∷ bs) = if b == 10 then (10 ∷ []) ∷ whole_lines bs else onto_first b (whole_lines bs)

-- a line without its end
unfoldable pub content : List ℕ → List ℕ
content line = filter (λ b. not (b == 10)) line
