-- What the private functions say of one entry, when they read a journal from its last entry to its
-- first ("Derived notions" in docs/machine.md).
use Rattle.std.specs.Prelude.{◌≡◌, ℕ, Bool, false, nat_eq, if◌then◌else◌, List, [], ◌∷◌, Option, Some, None}
use Rattle.std.specs.Option.{option_to_list}
use Rattle.indexmap.specs.IndexSet.{IndexSet, contains}
use Rattle.sem_machine.specs.Prelude.{KeyName, key_eq, Revoke, Clear, Detail, Called}

-- whether an entry clears the key
abbrev pub clears : Detail → Option KeyName → KeyName → Bool
clears (Called index (Clear src)) (Some cleared) k = key_eq k cleared
clears detail cut k = false

-- the key that an entry revokes, if it revokes one
abbrev pub revoked : Detail → Option KeyName → List KeyName
revoked (Called index (Revoke src)) cut = option_to_list cut
revoked detail cut = []

-- the child of a grant, if its parent is cleared later
abbrev pub cleared_child : (KeyName → Bool) → Option (KeyName × KeyName) → List KeyName
cleared_child is_cleared (Some grant) = if is_cleared grant.0 then grant.1 ∷ [] else []
cleared_child is_cleared None = []

-- the set has exactly these VPEs
abbrev pub HasVpes : {S : Type 0} → IndexSet ℕ S → (ℕ → Bool) → Type 0
HasVpes vpes has = (v : ℕ) → contains nat_eq vpes v ≡ has v
