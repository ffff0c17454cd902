-- What holds after every schedule and brings idle worlds to rest ("Idle worlds" in docs/proof.md).
use Rattle.std.specs.Prelude.{◌≡◌, ◌↔◌, ℕ, false, ◌⊎◌, List, [], Contains, Some, None, IsSome}
use Rattle.sem_machine.specs.Prelude.{Capability, grants, cut_from, answered, forest, InFlight, HoldsCap, IsLive}
use Rattle.sem_machine.specs.Prelude.{Entry, KeyName, Orphan, Unlink, Pending, JobRow, Setup, kernel_of, Parked, job}
use Rattle.sem_machine.specs.Prelude.{parked, pending, World, side, world_after}
use Rattle.sem_safety.specs.History.{history}
use Rattle.sem_machine.specs.Living.{IsHeld}
use Rattle.sem_machine.specs.Sides.{is_alive}
use Rattle.sem_revoke.specs.Resting.{IsStirring, IsExchange, HasJobBelow}

-- an open job has something that stirs, or an open job below it
abbrev pub jobs_owed : Setup → List Entry → Type 0
jobs_owed T J = (i j : ℕ) (x : JobRow) → job (side (world_after T J) i) j ≡ Some x →
    IsStirring (world_after T J) ⊎ HasJobBelow (world_after T J) i j

-- a call that waits for the answer to an ask has something that stirs
abbrev pub exchanges_owed : Setup → List Entry → Type 0
exchanges_owed T J = (i v : ℕ) (p : Parked) → parked (side (world_after T J) i) v ≡ Some p → IsExchange p →
    IsStirring (world_after T J)

-- a pending delegation has something that stirs
abbrev pub pendings_owed : Setup → List Entry → Type 0
pendings_owed T J = (i : ℕ) (k : KeyName) (p : Pending) → pending (side (world_after T J) i) k ≡ Some p →
    IsStirring (world_after T J)

-- a child link of an unmarked capability leads to a live key, or an Orphan or an Unlink of the two
-- is in flight
abbrev pub links_lead : Setup → List Entry → Type 0
links_lead T J =
    (i : ℕ) (p k : KeyName) (c : Capability) → HoldsCap (world_after T J) i p c → c.mark ≡ None →
    Contains c.children k
    → IsLive (world_after T J) k ⊎ (InFlight (world_after T J) (Orphan p k) ⊎ InFlight (world_after T J) (Unlink p k))

-- a held capability has the parent that its grant tells
abbrev pub parents_granted : Setup → List Entry → Type 0
parents_granted T J = (i : ℕ) (p k : KeyName) (c : Capability) → HoldsCap (world_after T J) i k c →
    Contains (grants J) (p, k) → c.parent ≡ Some p

-- no call waits and nothing is left: no call is parked, no job is open, nothing is marked, and no
-- delegation is pending
pub record WaitsForNothing (W : World) : Type 0 where
  pub unparked : (i v : ℕ) → parked (side W i) v ≡ None
  pub no_jobs : (i j : ℕ) → job (side W i) j ≡ None
  pub no_marks : (i : ℕ) (k : KeyName) (c : Capability) → HoldsCap W i k c → c.mark ≡ None
  pub no_pendings : (i : ℕ) (k : KeyName) → pending (side W i) k ≡ None

-- a call without an answer cuts off the key, by a key of its VPE: by the key itself, or by the key
-- that it was made from
pub record IsBeingCut (J : List Entry) (k : KeyName) : Type 0 where
  pub vpe : ℕ
  pub keys : List KeyName
  pub own : KeyName
  pub waits : Contains (history J).waiting (vpe, keys)
  pub among : Contains keys k
  pub whose : own.vpe ≡ vpe
  pub below : (k ≡ own) ⊎ Contains (grants J) (own, k)

-- the call that cut off a key succeeded, or has no answer yet
abbrev pub cuts_answered : List Entry → Type 0
cuts_answered J = (k : KeyName) → Contains (cut_from [] J) k → IsBeingCut J k ⊎ Contains (answered J) k

-- the held keys are the forest
abbrev pub holds_the_forest : Setup → List Entry → Type 0
holds_the_forest T J = (k : KeyName) → IsHeld (world_after T J) k ↔ Contains (forest T J) k

-- all that a dead VPE holds is marked
abbrev pub dead_are_marked : Setup → List Entry → Type 0
dead_are_marked T J = (k : KeyName) (c : Capability) → HoldsCap (world_after T J) (kernel_of T k.vpe) k c →
    is_alive (side (world_after T J) (kernel_of T k.vpe)) k.vpe ≡ false → IsSome c.mark
