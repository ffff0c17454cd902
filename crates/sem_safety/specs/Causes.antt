-- Why a key may be marked, or its capability lost: a revoke or a clear began at one of its
-- ancestors, or the VPE of an ancestor ended ("Marks have a cause" in docs/proof.md).
use Rattle.std.specs.Prelude.{◌≡◌, ◌⊎◌, true, List, filter_map, Contains}
use Rattle.sem_machine.specs.Prelude.{KeyName, Entry, ancestry, has_ended}

-- a revoke or a clear began at the key, or its VPE ended
abbrev pub IsCut : List Entry → KeyName → Type 0
IsCut J k = Contains (filter_map (λ e. e.cut) J) k ⊎ (has_ended J k.vpe ≡ true)

-- an ancestor of the key was cut; a key is its own ancestor
abbrev pub HasCutAncestor : List Entry → KeyName → Type 0
HasCutAncestor J k = (a : KeyName) × Contains (ancestry J k) a × IsCut J a
