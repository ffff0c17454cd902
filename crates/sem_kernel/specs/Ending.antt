-- What the private functions of this crate say of a waiting call that can end, and of a capability
-- that a VPE leaves.
use Rattle.std.specs.Prelude.{Bool, true, false, Option, Some}
use Rattle.std.specs.Option.{option_map_or, is_none}
use Rattle.sem_machine.specs.Prelude.{Capability, Parked, ObtainReady, ObtainCancelled, DelegateReady}

-- whether the call has the answer to its ask
abbrev pub ends_obtain : Option Parked → Bool
ends_obtain (Some (ObtainReady key parent object sel)) = true
ends_obtain (Some ObtainCancelled) = true
ends_obtain p = false

-- whether the call has the answer to its delegate
abbrev pub ends_delegate : Option Parked → Bool
ends_delegate (Some (DelegateReady parent key)) = true
ends_delegate p = false

-- whether the capability is there and unmarked
abbrev pub is_unmarked : Option Capability → Bool
is_unmarked o = option_map_or (λ c. is_none c.mark) o false
