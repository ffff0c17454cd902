-- What an idle world is like, and words for the facts that this follows from ("Idle worlds" in
-- docs/proof.md).
use Rattle.std.specs.Prelude.{◌≡◌, ◌≢◌, ℕ, true, ◌⊎◌, ◌↔◌, List, [], Contains, Option, Some, None}
use Rattle.sem_machine.specs.Prelude.{KeyName, Capability, Entry, Message, Parked, ObtainWait, ObtainReady}
use Rattle.sem_machine.specs.Prelude.{ObtainCancelled, DelegateWait, DelegateReady, RevokeWait, Ready, Up, Local}
use Rattle.sem_machine.specs.Prelude.{Remote, JobRow, Setup, row, parked, pending, job, World, side, grants, forest}
use Rattle.sem_machine.specs.Prelude.{cut_from, has_ended, InFlight, HoldsCap}
use Rattle.sem_machine.specs.Resumes.{can_resume}
use Rattle.sem_machine.specs.Living.{IsHeld}

-- the key was cut off: a revoke began at it, a clear at its parent, or its VPE ended
abbrev pub IsCutOff : List Entry → KeyName → Type 0
IsCutOff J k = Contains (cut_from [] J) k ⊎ (has_ended J k.vpe ≡ true)

-- a call that waits for the answer to an ask
abbrev pub IsExchange : Parked → Type 0
IsExchange (ObtainWait number sel) = Unit {0}
IsExchange (ObtainReady key parent object sel) = ⊥
IsExchange ObtainCancelled = ⊥
IsExchange (DelegateWait parent) = Unit {0}
IsExchange (DelegateReady parent key) = ⊥
IsExchange (RevokeWait job) = ⊥
IsExchange (Ready code) = ⊥

-- something that an idle world lacks: a message, an ask, or a parked call that can go on
pub data IsStirring (W : World) : Type 0 where
  by_message : (m : Message) → InFlight W m → IsStirring W
  by_ask : (i v : ℕ) → (row (side W i) v).asks ≢ [] → IsStirring W
  by_call : (i v : ℕ) → can_resume (parked (side W i) v) ≡ true → IsStirring W

-- an `up` of a job of kernel i' names job j of kernel i
abbrev pub Names : Option Up → ℕ → ℕ → ℕ → Type 0
Names None i' i j = ⊥
Names (Some (Local n)) i' i j = (i' ≡ i) × (n ≡ j)
Names (Some (Remote kernel n)) i' i j = (kernel ≡ i) × (n ≡ j)

-- kernel i holds the parent of the key, marked by job j
pub record HasMarkedParent (J : List Entry) (W : World) (i j : ℕ) (k : KeyName) : Type 0 where
  pub parent : KeyName
  pub granted : Contains (grants J) (parent, k)
  pub capability : Capability
  pub held : HoldsCap W i parent capability
  pub marked : capability.mark ≡ Some j

-- a job below it is open, and names it as the one that waits
pub record HasJobBelow (W : World) (i j : ℕ) : Type 0 where
  pub kernel : ℕ
  pub id : ℕ
  pub below : JobRow
  pub open_below : job (side W kernel) id ≡ Some below
  pub names : Names below.up kernel i j

-- what an idle world is like
pub record IsAtRest (T : Setup) (J : List Entry) (W : World) : Type 0 where
  pub unparked : (i v : ℕ) → parked (side W i) v ≡ None
  pub no_jobs : (i j : ℕ) → job (side W i) j ≡ None
  pub no_marks : (i : ℕ) (k : KeyName) (c : Capability) → HoldsCap W i k c → c.mark ≡ None
  pub no_pendings : (i : ℕ) (k : KeyName) → pending (side W i) k ≡ None
  pub links : (i : ℕ) (p k : KeyName) (c : Capability) → HoldsCap W i p c → Contains c.children k →
      (j : ℕ) × (d : Capability) × HoldsCap W j k d × (d.parent ≡ Some p)
  pub held : (k : KeyName) → IsHeld W k ↔ Contains (forest T J) k
