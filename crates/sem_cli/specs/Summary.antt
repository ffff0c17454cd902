-- The summary of a load run in threads ("The command line" in docs/texts.md).
use Rattle.std.specs.Prelude.{ℕ, List, [], ◌∷◌, ◌++◌, codes, decimal}

-- a line of a word, a blank and a number
abbrev pub count_line : List ℕ → ℕ → List ℕ
count_line word n = word ++ decimal n ++ 10 ∷ []

-- how many VPEs and calls there are, how many calls were answered, and how many keys are stray
abbrev pub summary : ℕ → ℕ → ℕ → ℕ → List ℕ
summary vpes calls answered stray =
    (codes "soak 1" ++ 10 ∷ [])
    ++ count_line (codes "vpes ") vpes
    ++ count_line (codes "calls ") calls
    ++ count_line (codes "answered ") answered
    ++ count_line (codes "stray ") stray
