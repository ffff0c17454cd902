-- The states in which the calls of VPEs wait, by number, and their small changes ("State" in
-- docs/machine.md).
use Rattle.std.specs.Prelude.{ℕ, ◌==◌, Bool, false, if◌then◌else◌, List, slice_index_or, Option, Some, None}
use Rattle.sem_key.specs.Prelude.{KeyName, key_eq, put}
use Rattle.sem_msg.specs.declared.state.Parked.{Parked}
use Rattle.sem_msg.specs.declared.state.Parked.TheVariants.{ObtainWait, ObtainReady, ObtainCancelled, DelegateWait}

-- the state in which the call of the VPE waits, if it does
abbrev pub state_of : List (Option Parked) → ℕ → Option Parked
state_of states v = slice_index_or states v None

-- the call of the VPE waits in that state
abbrev pub parked_as : List (Option Parked) → ℕ → Parked → List (Option Parked)
parked_as states v state = put None states v (Some state)

-- no call of the VPE waits
abbrev pub unparked : List (Option Parked) → ℕ → List (Option Parked)
unparked states v = put None states v None

-- whether an asking call with that number waits
abbrev pub is_obtain_wait : ℕ → Option Parked → Bool
is_obtain_wait number (Some (ObtainWait n sel)) = n == number
is_obtain_wait number p = false

-- whether a delegate of that capability waits
abbrev pub is_delegate_wait : KeyName → Option Parked → Bool
is_delegate_wait parent (Some (DelegateWait k)) = key_eq k parent
is_delegate_wait parent p = false

-- whether a call in that state is about to install the key
abbrev pub is_ready_with : KeyName → Option Parked → Bool
is_ready_with k (Some (ObtainReady key parent object sel)) = key_eq key k
is_ready_with k p = false

-- the selector that was promised to a call that is about to install the key
abbrev pub promised_to : KeyName → Option Parked → Option ℕ
promised_to k (Some (ObtainReady key parent object sel)) = if key_eq key k then Some sel else None
promised_to k p = None

-- the call that was about to install the key is cancelled; if there is none, all is as before
abbrev pub cancelled : List (Option Parked) → KeyName → List (Option Parked)
cancelled states k = if is_ready_with k (state_of states k.vpe) then parked_as states k.vpe ObtainCancelled
    else states
