-- Which memory an access reads or writes: its VPE's own, by grants that stand ("Memory" in
-- docs/promises.md).
use Rattle.std.specs.Prelude.{◌≡◌, ℕ, true, List, Contains, take, if◌then◌else◌}
use Rattle.sem_machine.specs.Prelude.{Object, Mem, KeyName, Capability, Entry, Setup, World, world_after, grants}
use Rattle.sem_machine.specs.Prelude.{root_keys, ancestry, answered, HoldsCap}
use Rattle.sem_key.specs.ObjectRanges.{range_within, is_subset}
use Rattle.sem_machine.specs.Safety.{HoldsUnmarked, IsLineage}
use Rattle.sem_access.specs.declared.access.Access.{Access}
use Rattle.sem_access.specs.Accesses.{accesses}

-- the right that an access takes: 2 to write, 1 to read
abbrev pub right_of : Access → ℕ
right_of x = if x.write then 2 else 1

-- an access lies in an object: a memory that contains its range, with the right to it
abbrev pub LiesIn : Access → Object → Type 0
LiesIn x (Mem base len rights) =
    (range_within x.base x.len base len ≡ true) × (is_subset (right_of x) rights ≡ true)
LiesIn x object = ⊥

-- some kernel holds a capability of that key, and the access lies in its object
pub record LiesInHeld (W : World) (x : Access) (k : KeyName) : Type 0 where
  pub kernel : ℕ
  pub capability : Capability
  pub held : HoldsCap W kernel k capability
  pub within : LiesIn x capability.object

-- an access owns what it reads or writes, after the entries before it
pub record IsOwned (T : Setup) (before : List Entry) (x : Access) : Type 0 where
  -- the key belongs to the VPE, and is held and not being revoked
  pub own : x.key.vpe ≡ x.vpe
  pub held : (i : ℕ) × HoldsUnmarked (world_after T before) i x.key
  -- the key's line leads down to a root by grants
  pub lineage : IsLineage (root_keys T) (grants before) (ancestry before x.key)
  -- the access lies in the memory of each key of the line
  pub within : (k : KeyName)
      → Contains (ancestry before x.key) k → LiesInHeld (world_after T before) x k
  -- no call with an answer cut off any of them
  pub unrevoked : (k : KeyName)
      → Contains (ancestry before x.key) k → Contains (answered before) k → ⊥

-- every access of a journal owns what it reads or writes
abbrev pub AccessesAreOwned : Setup → List Entry → Type 0
AccessesAreOwned T J = (x : Access) → Contains (accesses T J) x → IsOwned T (take x.entry J) x
