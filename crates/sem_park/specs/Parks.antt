-- The states in which calls of VPEs wait, as contracts see them ("State" in docs/machine.md).
use Rattle.std.specs.Prelude.{◌≡◌, List, length, Option}
use Rattle.sem_msg.specs.Prelude.{VPES}
use Rattle.sem_msg.specs.declared.state.Parked.{Parked}

-- for each VPE, 0 to 127, the state in which its call waits, if one does
abbrev pub IsPark : List (Option Parked) → Type 0
IsPark states = length states ≡ VPES
