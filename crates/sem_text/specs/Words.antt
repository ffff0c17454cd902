-- Words of a line ("Lines and words" in docs/texts.md).
use Rattle.std.specs.Prelude.{ℕ, ◌+◌, ◌==◌, Bool, not, ◌||◌, List, length, drop, Option, Some, None, if◌then◌else◌}
use Rattle.std.specs.List.{prefix_len}

-- a blank or a tab
abbrev pub is_blank : ℕ → Bool
is_blank b = (b == 32) || (b == 9)

-- where the next word begins
abbrev pub word_begin : List ℕ → ℕ → ℕ
word_begin line from = from + prefix_len is_blank (drop from line)

-- where the next word begins and where it ends; no word if only blanks are left
abbrev pub word_from : List ℕ → ℕ → Option (ℕ × ℕ)
word_from line from =
    let begin : ℕ = word_begin line from in
    if begin == length line then None else Some (begin, begin + prefix_len (λ b. not (is_blank b)) (drop begin line))
