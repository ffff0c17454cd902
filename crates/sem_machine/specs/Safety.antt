-- Safety: the six sentences that hold after every schedule ("docs/promises.md").
use Rattle.std.specs.Prelude.{◌≡◌, ℕ, true, ◌⊎◌, List, [], ◌∷◌, ◌++◌, Contains, Some, None}
use Rattle.sem_msg.specs.Prelude.{Object, KeyName, Capability, Endpoint, Setup}
use Rattle.sem_key.specs.ObjectRanges.{narrows}
use Rattle.sem_msg.specs.declared.entry.Entry.{Entry}
use Rattle.sem_machine.specs.Sides.{endpoint}
use Rattle.sem_machine.specs.Machine.{World, side}
use Rattle.sem_machine.specs.Schedules.{world_after}
use Rattle.sem_machine.specs.Journals.{grants, root_keys, made, ancestry, answered, forest}
use Rattle.sem_machine.specs.Living.{HoldsCap, HasObject, IsLive, Binds}

-- live, or bound to some endpoint
abbrev pub IsInUse : World → KeyName → Type 0
IsInUse W k = IsLive W k ⊎ ((v n : ℕ) × Binds W v n k)

-- from the first key to the last, each is a child of the next by a grant, and the last is a root
unfoldable pub IsLineage : List KeyName → List (KeyName × KeyName) → List KeyName → Type 0
IsLineage roots gs [] = ⊥
IsLineage roots gs (k ∷ []) = Contains roots k
IsLineage roots gs (k ∷ p ∷ ks) = Contains gs (p, k) × IsLineage roots gs (p ∷ ks)

-- Lineage: every key in use derives from a root by accepted exchanges.
abbrev pub lineage : Setup → List Entry → Type 0
lineage T J = (k : KeyName) → IsInUse (world_after T J) k → IsLineage (root_keys T) (grants J) (ancestry J k)

-- Revoked is gone: no key in use has an ancestor that was revoked and answered.
abbrev pub revoked_is_gone : Setup → List Entry → Type 0
revoked_is_gone T J = (k a : KeyName) → IsInUse (world_after T J) k → Contains (ancestry J k) a →
    Contains (answered J) a → ⊥

-- kernel i holds the key, and no job has marked it
abbrev pub HoldsUnmarked : World → ℕ → KeyName → Type 0
HoldsUnmarked W i k = (c : Capability) × HoldsCap W i k c × (c.mark ≡ None)

-- Sound grants: just before a grant the kernel holds the parent unmarked, and the child was never
-- made.
abbrev pub sound_grants : Setup → List Entry → Type 0
sound_grants T J =
    (before later : List Entry) (e : Entry) (p k : KeyName) → J ≡ before ++ e ∷ later → e.grant ≡ Some (p, k)
    → HoldsUnmarked (world_after T before) e.event.kernel p × (Contains (made T before) k → ⊥)

-- Nothing is lost: every key of the forest is live.
abbrev pub nothing_lost : Setup → List Entry → Type 0
nothing_lost T J = (k : KeyName) → Contains (forest T J) k → IsLive (world_after T J) k

-- Sound endpoints: an endpoint is bound to a key of its VPE that is held and unmarked, with the
-- object that the endpoint keeps.
pub record IsSoundBinding (W : World) (i v : ℕ) (e : Endpoint) : Type 0 where
  pub own : e.key.vpe ≡ v
  pub capability : Capability
  pub held : HoldsCap W i e.key capability
  pub unmarked : capability.mark ≡ None
  pub object : capability.object ≡ e.object

abbrev pub sound_endpoints : Setup → List Entry → Type 0
sound_endpoints T J = (i v n : ℕ) (e : Endpoint) → endpoint (side (world_after T J) i) v n ≡ Some e →
    IsSoundBinding (world_after T J) i v e

-- Narrowing: the parent of a live key is held, and the key's object grants no more than the
-- parent's.
pub record IsNarrowed (W : World) (p k : KeyName) : Type 0 where
  pub kernel : ℕ
  pub parent : Capability
  pub held : HoldsCap W kernel p parent
  pub narrower : (object : Object) → HasObject W k object → narrows object p parent.object ≡ true

abbrev pub narrowing : Setup → List Entry → Type 0
narrowing T J = (p k : KeyName) → IsLive (world_after T J) k → Contains (grants J) (p, k) →
    IsNarrowed (world_after T J) p k

-- safe: the six sentences
pub record IsSafe (T : Setup) (J : List Entry) : Type 0 where
  pub lineage : lineage T J
  pub revoked_is_gone : revoked_is_gone T J
  pub sound_grants : sound_grants T J
  pub nothing_lost : nothing_lost T J
  pub sound_endpoints : sound_endpoints T J
  pub narrowing : narrowing T J
