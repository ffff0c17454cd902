-- Sets of keys, by their packed words.
use Rattle.std.specs.Prelude.{◌≡◌, ℕ, Bool, nat_eq}
use Rattle.indexmap.specs.IndexSet.{IndexSet, contains}
use Rattle.sem_machine.specs.Prelude.{KeyName, IsValidKey, packed}

-- whether the packed word of the key is in the set
abbrev pub has_word : {S : Type 0} → IndexSet ℕ S → KeyName → Bool
has_word words k = contains nat_eq words (packed k)

-- the set has the packed words of exactly these keys
abbrev pub HasWords : {S : Type 0} → IndexSet ℕ S → (KeyName → Bool) → Type 0
HasWords words has = (k : KeyName) → IsValidKey k → has_word words k ≡ has k
