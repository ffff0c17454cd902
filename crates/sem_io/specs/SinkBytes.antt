-- What a call gives to a sink. A sink may tell the bytes written to it ("Sources and sinks" in
-- docs/machine.md).
use Rattle.std.specs.Prelude.{◌≡◌, ℕ, ◌≤◌, List, ◌++◌, length, take, Option}
use Rattle.std.specs.Option.{option_map}

-- these bytes were appended; if the sink did not tell its bytes before, it still does not
abbrev pub Appends : Option (List ℕ) → Option (List ℕ) → List ℕ → Type 0
Appends before after bytes = after ≡ option_map (λ written. written ++ bytes) before

-- some of these bytes were appended, from the first on
abbrev pub AppendsPrefix : Option (List ℕ) → Option (List ℕ) → List ℕ → Type 0
AppendsPrefix before after bytes = (n : ℕ) × (n ≤ length bytes) × Appends before after (take n bytes)
