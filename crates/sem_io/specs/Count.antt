-- A count of calls or of faults. It never falls, and it stops at 18446744073709551615 ("Sources and
-- sinks" in docs/machine.md).
use Rattle.std.specs.Prelude.{◌≡◌, ℕ, ◌+◌, ◌<◌, ◌⊎◌, min}

-- one more, up to the end of the count
abbrev pub counted : ℕ → ℕ
counted n = min (n + 1) 18446744073709551615

-- the count is greater than before, or stands at its end, where it cannot grow
abbrev pub Rose : ℕ → ℕ → Type 0
Rose before after = (before < after) ⊎ (after ≡ 18446744073709551615)
