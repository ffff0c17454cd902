-- What the private functions say of the kills of a kernel.
use Rattle.std.specs.Prelude.{ℕ, ◌==◌, List, filter_map, Option, Some, None, if◌then◌else◌}
use Rattle.sem_msg.specs.Prelude.{Setup, kernel_of}

-- a kill of a VPE of kernel k, with the number of replies that it waits for
abbrev pub own_kill : Setup → ℕ → ℕ × ℕ → Option (ℕ × ℕ)
own_kill T k kill = if kernel_of T kill.0 == k then Some kill else None

abbrev pub own_kills : Setup → ℕ → List (ℕ × ℕ)
own_kills T k = filter_map (own_kill T k) T.kills
