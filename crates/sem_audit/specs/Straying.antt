-- Stray keys: those that are held and should not be, or should be and are not ("Derived notions" in
-- docs/machine.md).
use Rattle.std.specs.Prelude.{ℕ, ◌+◌, not, List, length, map, filter}
use Rattle.sem_machine.specs.Prelude.{KeyName, has_key, Entry, Setup, Side, forest, world_after}
use Rattle.sem_machine.specs.HeldKeys.{keys_held}

-- how many of the keys are not among the others
abbrev pub missing : List KeyName → List KeyName → ℕ
missing ks others = length (filter (λ k. not (has_key others k)) ks)

abbrev pub held_keys : List Side → List KeyName
held_keys ss = map (λ h. h.0) (keys_held ss)

-- how many keys are held and not in the forest, or in the forest and not held
abbrev pub stray_count : Setup → List Entry → List Side → ℕ
stray_count T J ss = missing (held_keys ss) (forest T J) + missing (forest T J) (held_keys ss)

-- how many keys are stray in the world after a journal
abbrev pub stray_after : Setup → List Entry → ℕ
stray_after T J = stray_count T J (world_after T J).sides
