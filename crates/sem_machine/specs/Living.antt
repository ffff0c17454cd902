-- Where a key is in a world: held, on its way, bound to an endpoint; and when a world is quiet or
-- idle ("Derived notions" in docs/machine.md).
use Rattle.std.specs.Prelude.{◌≡◌, ℕ, ◌==◌, true, false, ◌⊎◌, List, [], ◌∷◌, ◌++◌, length, filter, Contains, Option}
use Rattle.std.specs.Prelude.{Some, IsSome, IsNone, if◌then◌else◌}
use Rattle.std.specs.Option.{option_map_or}
use Rattle.sem_msg.specs.Prelude.{Object, KeyName, Capability, Endpoint, Setup, kernel_of, calls_of}
use Rattle.sem_msg.specs.declared.message.Message.{Message}
use Rattle.sem_msg.specs.declared.message.Message.TheVariants.{ObtainOk, Ack}
use Rattle.sem_msg.specs.declared.entry.Entry.{Entry}
use Rattle.sem_msg.specs.declared.state.Parked.TheVariants.{ObtainReady}
use Rattle.sem_msg.specs.declared.state.Pending.{Pending}
use Rattle.sem_msg.specs.Journal.{replies}
use Rattle.sem_machine.specs.Sides.{row, cap, parked, pending, endpoint, outbox, is_alive}
use Rattle.sem_machine.specs.Resumes.{can_resume}
use Rattle.sem_machine.specs.Machine.{World, side, link, enabled}
use Rattle.sem_machine.specs.Schedules.{IsSchedule, world_after}

-- the message in an inbox, if kernel i sent it
abbrev pub fetched_from : ℕ → Option (ℕ × Message) → List Message
fetched_from i inbox = option_map_or (λ m. if m.0 == i then m.1 ∷ [] else []) inbox []

-- the way from kernel i to kernel j: the messages that j has fetched, those in the link, and those
-- that wait to be sent
abbrev pub way : World → ℕ → ℕ → List Message
way W i j = fetched_from i (side W j).inbox ++ link W i j ++ outbox (side W i) j

-- the message is on a way
abbrev pub InFlight : World → Message → Type 0
InFlight W m = (i j : ℕ) × Contains (way W i j) m

-- kernel i holds the capability
abbrev pub HoldsCap : World → ℕ → KeyName → Capability → Type 0
HoldsCap W i k c = cap (side W i) k ≡ Some c

-- The object of a live key: that of the held capability, of its ObtainOk in flight, of the call
-- that is ready to install it, or, if its Ack yes is in flight, of the pending delegation.
pub data HasObject (W : World) (k : KeyName) (object : Object) : Type 0 where
  as_held : (i : ℕ) (c : Capability) → HoldsCap W i k c → c.object ≡ object → HasObject W k object
  as_granted : (parent : KeyName) → InFlight W (ObtainOk parent k object) → HasObject W k object
  as_ready : (i v sel : ℕ) (parent : KeyName) → parked (side W i) v ≡ Some (ObtainReady k parent object sel) →
      HasObject W k object
  as_pending : (i : ℕ) (p : Pending) → InFlight W (Ack k true) → pending (side W i) k ≡ Some p → p.object ≡ object →
      HasObject W k object

-- some kernel holds the key
abbrev pub IsHeld : World → KeyName → Type 0
IsHeld W k = (i : ℕ) × IsSome (cap (side W i) k)

-- a call is ready to install the key
pub record IsReadyToInstall (W : World) (k : KeyName) : Type 0 where
  pub kernel : ℕ
  pub vpe : ℕ
  pub selector : ℕ
  pub parent : KeyName
  pub object : Object
  pub ready : parked (side W kernel) vpe ≡ Some (ObtainReady k parent object selector)

-- an ObtainOk of the key is in flight
pub record IsGranted (W : World) (k : KeyName) : Type 0 where
  pub parent : KeyName
  pub object : Object
  pub arriving : InFlight W (ObtainOk parent k object)

-- live: held, or about to be installed by a message in flight or by a ready call
abbrev pub IsLive : World → KeyName → Type 0
IsLive W k = IsHeld W k ⊎ (IsGranted W k ⊎ (InFlight W (Ack k true) ⊎ IsReadyToInstall W k))

-- on its way: live and not held
abbrev pub IsOnItsWay : World → KeyName → Type 0
IsOnItsWay W k = IsLive W k × ¬ IsHeld W k

-- endpoint n of VPE v is bound to the key
pub record Binds (W : World) (v n : ℕ) (k : KeyName) : Type 0 where
  pub kernel : ℕ
  pub bound : Endpoint
  pub at_endpoint : endpoint (side W kernel) v n ≡ Some bound
  pub to_key : bound.key ≡ k

-- quiet: no event is enabled
abbrev pub IsQuiet : Setup → World → Type 0
IsQuiet T W = enabled T W ≡ []

-- idle: no message is anywhere, no ask waits, and no parked call can go on
pub record IsIdle (W : World) : Type 0 where
  pub inboxes : (i : ℕ) → IsNone (side W i).inbox
  pub links : (i j : ℕ) → link W i j ≡ []
  pub outboxes : (i j : ℕ) → outbox (side W i) j ≡ []
  pub asks : (i v : ℕ) → (row (side W i) v).asks ≡ []
  pub calls : (i v : ℕ) → can_resume (parked (side W i) v) ≡ false

-- how many replies a VPE got
abbrev pub reply_count : List Entry → ℕ → ℕ
reply_count J v = length (filter (λ r. r.vpe == v) (replies J))

-- a complete schedule: no event is enabled after it, and every call of a VPE that is alive is
-- answered
pub record IsComplete (T : Setup) (J : List Entry) : Type 0 where
  pub schedule : IsSchedule T J
  pub quiet : IsQuiet T (world_after T J)
  pub all_answered : (v : ℕ) → is_alive (side (world_after T J) (kernel_of T v)) v ≡ true →
      reply_count J v ≡ length (calls_of T v)
