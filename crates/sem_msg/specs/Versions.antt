-- The two versions of traces, and their limits ("Setup" in docs/machine.md).
use Rattle.std.specs.Prelude.{ℕ, ◌≤◌, ◌==◌, if◌then◌else◌}
use Rattle.sem_key.specs.declared.limits.TheConstants.{KERNELS, VPES}
use Rattle.sem_msg.specs.declared.limits.TheConstants.{WINDOW}

-- the most kernels of a setup
abbrev pub most_kernels : ℕ → ℕ
most_kernels version = if version == 1 then 16 else KERNELS

-- the most VPEs of a setup, and the most PEs
abbrev pub most_vpes : ℕ → ℕ
most_vpes version = if version == 1 then 64 else VPES

-- the fewest and the most messages that a link may hold
abbrev pub least_window : ℕ → ℕ
least_window version = if version == 1 then 4 else 1

abbrev pub most_window : ℕ → ℕ
most_window version = if version == 1 then 4 else WINDOW

-- a link holds 4 messages in version 1, and 1 to 32 in version 2
abbrev pub IsWindow : ℕ → ℕ → Type 0
IsWindow version window = (least_window version ≤ window) × (window ≤ most_window version)
