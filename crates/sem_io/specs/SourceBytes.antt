-- What a call takes from a source. A source may tell the bytes that are left ("Sources and sinks"
-- in docs/machine.md).
use Rattle.std.specs.Prelude.{◌≡◌, ℕ, ◌≤◌, List, ◌++◌, length, Option}
use Rattle.std.specs.Option.{option_map}

-- what was left before is these bytes and then what is left after; either both are known or neither
-- is
abbrev pub Takes : Option (List ℕ) → Option (List ℕ) → List ℕ → Type 0
Takes before after bytes = before ≡ option_map (λ rest. bytes ++ rest) after

-- at most that many bytes were taken
abbrev pub TakesAtMost : Option (List ℕ) → Option (List ℕ) → ℕ → Type 0
TakesAtMost before after most = (bytes : List ℕ) × (length bytes ≤ most) × Takes before after bytes
