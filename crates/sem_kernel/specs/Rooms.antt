-- The room that a kernel's stores have for the step of an act.
use Rattle.std.specs.Prelude.{◌≡◌, ℕ, ◌+◌, ◌*◌, ◌<◌, ◌≤◌, Bool, true, false, List, length, sum_by, is_none}
use Rattle.std.specs.Prelude.{if◌then◌else◌, vec_capacity, slice_get, Option, Some, None}
use Rattle.std.specs.Option.{option_map, option_map_or, option_and_then}
use Rattle.sem_machine.specs.Prelude.{KeyName, Capability, Call, Derive, Gate, Revoke, Exit, Clear, Act, Calls}
use Rattle.sem_machine.specs.Prelude.{Handle, Upcall, Resume, Kill, Message, RevokeReq, Ask, ObtainAsk}
use Rattle.sem_machine.specs.Prelude.{DelegateAsk, Parked, DelegateReady, Setup, Side}
use Rattle.sem_machine.specs.Prelude.{row, slot, parked}
use Rattle.sem_key.specs.CapList.{link_count}
pub use Rattle.sem_msg.specs.Act.{only_moves}
use Rattle.sem_caps.specs.CapStore.{held_key}
use Rattle.sem_vpe.specs.VpeTable.{slot_key}
use Rattle.sem_machine.specs.Upcalls.{source}
use Rattle.sem_machine.specs.Machine.{next_call}
use Rattle.sem_kernel.specs.declared.stores.Stores.{Stores}
use Rattle.sem_kernel.specs.KernelStores.{side_of}

-- The capability that a step may link a child to.

-- by a call
abbrev pub called_parent : Side → ℕ → Call → Option KeyName
called_parent s v (Derive src dst off len rights) = slot_key (slot s v src)
called_parent s v (Gate src dst label credits) = slot_key (slot s v src)
called_parent s v call = None

-- by the answer to an ask
abbrev pub asked_parent : Setup → Side → ℕ → Ask → Option KeyName
asked_parent T s v (ObtainAsk place target) = option_map (λ c. c.key) (source T s v target)
asked_parent T s v (DelegateAsk parent object sel) = Some parent

-- by a parked call that goes on
abbrev pub resumed_parent : Option Parked → Option KeyName
resumed_parent (Some (DelegateReady parent key)) = Some parent
resumed_parent p = None

-- by an act
abbrev pub linked_parent : Setup → Side → Act → Option KeyName
linked_parent T s (Calls v) = option_and_then (called_parent s v) (next_call T s v)
linked_parent T s (Upcall v) = option_and_then (asked_parent T s v) (slice_get (row s v).asks 0)
linked_parent T s (Resume v) = resumed_parent (parked s v)
linked_parent T s act = None

-- Whether a step may open jobs.

abbrev pub is_revoking : Call → Bool
is_revoking (Revoke src) = true
is_revoking (Clear src) = true
is_revoking Exit = true
is_revoking call = false

abbrev pub is_request : Message → Bool
is_request (RevokeReq key job) = true
is_request m = false

abbrev pub opens_jobs : Setup → Side → Act → Bool
opens_jobs T s (Calls v) = option_map_or is_revoking (next_call T s v) false
opens_jobs T s Handle = option_map_or (λ m. is_request m.1) s.inbox false
opens_jobs T s (Kill v) = true
opens_jobs T s act = false

-- how many asks a step may answer because their VPE ends
abbrev pub ended_asks : Side → Act → ℕ
ended_asks s (Calls v) = length (row s v).asks
ended_asks s (Kill v) = length (row s v).asks
ended_asks s act = 0

-- Room.

-- room for one more capability, child of that parent, pending delegation and message, and for a
-- message of each job and what it sweeps
pub record HasRoom (parent : Option KeyName) (x : Stores) : Type 0 where
  pub caps : 0 < x.caps.spare
  pub child : x.caps.child_room ≡ held_key x.caps.caps parent
  pub pendings : 0 < x.pendings.spare
  pub outs : length x.jobs.jobs < x.outs.spare
  pub gone : length x.caps.caps ≤ vec_capacity x.scratch.gone

-- room for as many jobs as a step can open, for their requests, and for the answers to that many
-- asks
pub record HasRoomToRevoke (asks : ℕ) (x : Stores) : Type 0 where
  pub jobs : length x.caps.caps + length x.jobs.jobs < x.jobs.spare
  pub outs : asks + (link_count x.caps.caps + (length x.caps.caps + (2 * length x.jobs.jobs + 2))) ≤ x.outs.spare
  pub keys : length x.caps.caps ≤ vec_capacity x.scratch.keys
  pub links : link_count x.caps.caps ≤ vec_capacity x.scratch.links
  pub gone : length x.caps.caps ≤ vec_capacity x.scratch.gone
  pub ended : length x.caps.caps ≤ vec_capacity x.ended

-- the stores hold the same as before
pub record HasSameStores (x y : Stores) : Type 0 where
  pub side : side_of y ≡ side_of x
  pub vpes : y.vpes ≡ x.vpes
  pub endpoints : y.dtus ≡ x.dtus
  pub boxes : y.outs.boxes ≡ x.outs.boxes

-- the stores hold the same as before, and have at least as much room
pub record HasGrown (x y : Stores) : Type 0 where
  pub caps : y.caps ≡ record x.caps { spare = y.caps.spare }
  pub vpes : y.vpes ≡ x.vpes
  pub endpoints : y.dtus ≡ x.dtus
  pub parks : y.park ≡ x.park
  pub pendings : y.pendings ≡ record x.pendings { spare = y.pendings.spare }
  pub jobs : y.jobs ≡ record x.jobs { spare = y.jobs.spare }
  pub inbox : y.inbox ≡ x.inbox
  pub outs : y.outs ≡ record x.outs { spare = y.outs.spare }
  pub caps_spare : x.caps.spare ≤ y.caps.spare
  pub pendings_spare : x.pendings.spare ≤ y.pendings.spare
  pub jobs_spare : x.jobs.spare ≤ y.jobs.spare
  pub outs_spare : x.outs.spare ≤ y.outs.spare
  pub keys : vec_capacity x.scratch.keys ≤ vec_capacity y.scratch.keys
  pub links : vec_capacity x.scratch.links ≤ vec_capacity y.scratch.links
  pub gone : vec_capacity x.scratch.gone ≤ vec_capacity y.scratch.gone
  pub ended : vec_capacity x.ended ≤ vec_capacity y.ended

-- room for all that the step of an act can need
pub record IsReady (T : Setup) (act : Act) (x : Stores) : Type 0 where
  pub room : only_moves act ≡ false → HasRoom (linked_parent T (side_of x) act) x
  pub revoke : opens_jobs T (side_of x) act ≡ true → HasRoomToRevoke (ended_asks (side_of x) act) x

-- how many child links the unmarked capabilities have
abbrev pub open_links : List Capability → ℕ
open_links cs = sum_by (λ c. if is_none c.mark then length c.children else 0) cs

-- room for n more jobs, for their requests, and for a message of each job
pub record HasRoomForJobs (n : ℕ) (x : Stores) : Type 0 where
  pub jobs : n ≤ x.jobs.spare
  pub outs : open_links x.caps.caps + (n + length x.jobs.jobs) ≤ x.outs.spare
  pub keys : length x.caps.caps ≤ vec_capacity x.scratch.keys
  pub links : link_count x.caps.caps ≤ vec_capacity x.scratch.links
  pub gone : length x.caps.caps ≤ vec_capacity x.scratch.gone
