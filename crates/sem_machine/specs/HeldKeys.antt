-- What all kernels hold ("The report" in docs/texts.md).
use Rattle.std.specs.Prelude.{ℕ, List, [], map, flat_map}
use Rattle.sem_key.specs.CapList.{with_cap}
use Rattle.sem_key.specs.Capability.{Capability}
use Rattle.sem_key.specs.KeyName.{KeyName}
use Rattle.sem_key.specs.Lists.{in_turn}
use Rattle.sem_msg.specs.declared.entry.Entry.{Entry}
use Rattle.sem_msg.specs.Setup.{Setup}
use Rattle.sem_machine.specs.Sides.{Side}
use Rattle.sem_machine.specs.Schedules.{world_after}

-- the capabilities of all sides, in rising key order
abbrev pub all_caps : List Side → List Capability
all_caps ss = in_turn (λ c found. with_cap found c) (flat_map (λ s. s.caps) ss) []

-- the held keys with their selectors, in rising key order
abbrev pub keys_held : List Side → List (KeyName × ℕ)
keys_held ss = map (λ c. (c.key, c.selector)) (all_caps ss)

-- what is held after a journal
abbrev pub held_after : Setup → List Entry → List (KeyName × ℕ)
held_after T J = keys_held (world_after T J).sides
