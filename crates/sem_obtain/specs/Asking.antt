-- What the calls need from the stores.
use Rattle.std.specs.Prelude.{◌≡◌, ℕ, ◌==◌, Bool, true, not, ◌&&◌, List, Option, Some, None, if◌then◌else◌}
use Rattle.sem_machine.specs.Prelude.{Kind, Object, KeyName, PlaceName, Capability, cap_of, ObtainOk, Yes, No, Parked}
use Rattle.sem_machine.specs.Prelude.{ObtainReady, ObtainCancelled, Setup, kernel_of, owner_of, Side}
use Rattle.sem_machine.specs.Prelude.{parked, send, is_obtain_wait}
use Rattle.sem_key.specs.PlaceName.{keyed}
use Rattle.sem_key.specs.ObjectRanges.{object_kind, IsValidObject}
use Rattle.sem_msg.specs.declared.entry.Consent.{Consent}
use Rattle.sem_msg.specs.declared.entry.Consent.TheVariants.{Dropped}
use Rattle.sem_msg.specs.Lookups.{denies}
use Rattle.sem_msg.specs.ParkedStates.{state_of}
use Rattle.sem_caps.specs.CapStore.{CapStore}
use Rattle.sem_machine.specs.Sides.{linked}
use Rattle.sem_machine.specs.Upcalls.{given_here}

-- whether the asker is of kernel i and does not wait for the answer
abbrev pub is_place_unawaited : Setup → ℕ → List (Option Parked) → PlaceName → Bool
is_place_unawaited T i park place = (kernel_of T place.vpe == i)
    && not (is_obtain_wait place.number (state_of park place.vpe))

-- the answer of v: the ask is dropped if its asker is of kernel i and does not wait for it,
-- otherwise denied as declared
abbrev pub answer_to : Setup → ℕ → ℕ → List (Option Parked) → PlaceName → Consent
answer_to T i v park place =
    if is_place_unawaited T i park place then Dropped else if denies T v place.vpe then No else Yes

-- the parent gets a child of that key and object, which goes to the VPE of the key
abbrev pub child_sent : Setup → ℕ → KeyName → KeyName → Object → Side → Side
child_sent T i parent key object s =
    let linking : Side = linked parent key s in
    if kernel_of T key.vpe == i
    then given_here key parent object (parked linking key.vpe) linking
    else send (owner_of T key) (ObtainOk parent key object) linking

-- a capability that can be given a child: there is room, and its object has its kind
pub record IsGivable (caps : CapStore) (c : Capability) : Type 0 where
  pub child_room : caps.child_room ≡ Some c.key
  pub object : IsValidObject c.object
  pub kind : c.key.kind ≡ object_kind c.object

-- no capability has the number of the place, if the call that drew it waits
abbrev pub IsUnusedNumber : CapStore → List (Option Parked) → PlaceName → Type 0
IsUnusedNumber caps park place = is_obtain_wait place.number (state_of park place.vpe) ≡ true →
    (kind : Kind) → cap_of caps.caps (keyed place kind) ≡ None

-- the call of the VPE in that state can end: the key that it would install is one of the VPE and is
-- not held
abbrev pub CanEnd : CapStore → ℕ → Option Parked → Type 0
CanEnd caps v (Some (ObtainReady key parent object sel)) = (key.vpe ≡ v) × (cap_of caps.caps key ≡ None)
CanEnd caps v (Some ObtainCancelled) = Unit {0}
CanEnd caps v state = ⊥
