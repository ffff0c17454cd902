-- What the calls need from the stores.
use Rattle.std.specs.Prelude.{◌≡◌, ◌<◌, List, Option, Some, None, true, if◌then◌else◌}
use Rattle.sem_machine.specs.Prelude.{KeyName, Capability, cap_of, Orphan, Parked, DelegateReady, Ready}
use Rattle.sem_machine.specs.Prelude.{Pending, OutboxList, Setup, owner_of, Side, send, with_caps, with_vpes}
use Rattle.sem_machine.specs.Prelude.{with_parks, with_outs}
use Rattle.sem_key.specs.ObjectRanges.{object_kind, IsValidObject}
use Rattle.sem_msg.specs.ParkedStates.{state_of}
use Rattle.sem_msg.specs.VpeRows.{is_alive}
use Rattle.sem_caps.specs.CapStore.{CapStore, held_key}
use Rattle.sem_vpe.specs.VpeTable.{VpeTable}
use Rattle.sem_machine.specs.Asks.{is_delegate_wait}
use Rattle.sem_machine.specs.Sides
use Rattle.sem_machine.specs.Sides.{installed}
use Rattle.sem_machine.specs.Stores.{with_pendings}
use Rattle.sem_delegate.specs.PendingStore.{PendingStore}

-- the side with these VPEs, pending delegations and outboxes
abbrev pub preparing : VpeTable → PendingStore → OutboxList → Side → Side
preparing vpes pendings outs s = with_vpes vpes.rows (with_pendings pendings.pendings (with_outs outs.boxes s))

-- the side with all that an upcall works on
abbrev pub consenting : CapStore → VpeTable → List (Option Parked) → PendingStore → OutboxList → Side → Side
consenting caps vpes park pendings outs s =
    with_caps caps.caps
    (with_vpes vpes.rows (with_parks park (with_pendings pendings.pendings (with_outs outs.boxes s))))

-- the side with these capabilities, waiting calls and outboxes
abbrev pub resuming : CapStore → List (Option Parked) → OutboxList → Side → Side
resuming caps park outs s = with_caps caps.caps (with_parks park (with_outs outs.boxes s))

-- the side with these capabilities, VPEs and outboxes
abbrev pub keeping : CapStore → VpeTable → OutboxList → Side → Side
keeping caps vpes outs s = with_caps caps.caps (with_vpes vpes.rows (with_outs outs.boxes s))

-- the side with these capabilities, VPEs, pending delegations and outboxes
abbrev pub acking : CapStore → VpeTable → PendingStore → OutboxList → Side → Side
acking caps vpes pendings outs s =
    with_caps caps.caps (with_vpes vpes.rows (with_pendings pendings.pendings (with_outs outs.boxes s)))

-- the capability has a valid object, of the kind of its key
abbrev pub IsOfKind : Capability → Type 0
IsOfKind c = IsValidObject c.object × (c.key.kind ≡ object_kind c.object)

-- a delegate of that capability waits, if its VPE lives
abbrev pub IsAwaited : VpeTable → List (Option Parked) → KeyName → Type 0
IsAwaited vpes park parent = is_alive vpes.rows parent.vpe ≡ true →
    is_delegate_wait parent (state_of park parent.vpe) ≡ true

-- there is room for one more child of the capability, if it is held
abbrev pub HasRoomFor : CapStore → KeyName → Type 0
HasRoomFor caps k = caps.child_room ≡ held_key caps.caps (Some k)

-- a delegate in that state can end: it has its answer, there is room for the child, and there is a
-- kernel to tell
abbrev pub CanGrant : Setup → CapStore → Option Parked → Type 0
CanGrant T caps (Some (DelegateReady parent key)) = HasRoomFor caps parent × (owner_of T key < T.kernels)
CanGrant T caps state = ⊥

-- a call in that state ends with its code
abbrev pub HasCode : Option Parked → Type 0
HasCode (Some (Ready code)) = Unit {0}
HasCode state = ⊥

-- the pending delegation of that key can be held: no capability has the key, and its parent has an
-- owner
abbrev pub CanHold : Setup → CapStore → KeyName → Option Pending → Type 0
CanHold T caps k None = Unit {0}
CanHold T caps k (Some p) = (cap_of caps.caps k ≡ None) × (owner_of T p.parent < T.kernels)

-- the accepted delegation holds, or, if its VPE is dead, is an orphan
abbrev pub held_or_orphaned : Setup → KeyName → Pending → Side → Side
held_or_orphaned T k p s = if Sides.is_alive s k.vpe then installed k (Some p.parent) p.sel p.object s
    else send (owner_of T p.parent) (Orphan p.parent k) s
