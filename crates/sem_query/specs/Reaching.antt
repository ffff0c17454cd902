-- The keys that a revoking entry reaches: from where it begins, by child links through unmarked
-- capabilities of its kernel.
use Rattle.std.specs.Prelude.{◌≡◌, ◌↔◌, ℕ, ◌+◌, ◌≤◌, ◌==◌, ◌⊎◌, Bool, true, not, List, [], ◌++◌, length, filter}
use Rattle.std.specs.Prelude.{Contains, nat_eq}
use Rattle.std.specs.Option.{option_map_or, option_to_list}
use Rattle.std.specs.HashSet.{HashSet, contains}
use Rattle.sem_machine.specs.Prelude.{KeyName, IsValidKey, packed, Capability, has_key, Entry}
use Rattle.sem_key.specs.CapList.{keys_of}
use Rattle.sem_key.specs.Region.{Reached}
use Rattle.sem_mark.specs.Walks.{is_unmarked_at}
use Rattle.sem_grants.specs.Ending.{ended_by}
use Rattle.sem_query.specs.Changes.{may_revoke, IsRootOf}
use Rattle.sem_query.specs.Building.{requested}

-- The reached keys.

-- the key is reached from one of the roots
abbrev pub IsReachedFrom : List Capability → List KeyName → KeyName → Type 0
IsReachedFrom caps roots k = (a : KeyName) × Contains roots a × Reached caps a k

-- these are exactly the reached keys
abbrev pub AreReached : List Capability → List KeyName → List KeyName → Type 0
AreReached caps roots ks = (k : KeyName) → Contains ks k ↔ IsReachedFrom caps roots k

-- the entry reaches the key, if its kernel has these capabilities before it
abbrev pub IsRevokedBy : List Capability → Entry → KeyName → Type 0
IsRevokedBy caps e k = (a : KeyName) × IsRootOf e a × Reached caps a k

-- these are exactly the keys that the entry reaches, if it revokes
abbrev pub AreRevoked : List Capability → Entry → List KeyName → Type 0
AreRevoked caps e ks =
    may_revoke e ≡ true → (k : KeyName) → Contains ks k ↔ IsRevokedBy caps e k

-- the held keys of a VPE
abbrev pub held_of : List Capability → ℕ → List KeyName
held_of caps v = filter (λ k. k.vpe == v) (keys_of caps)

-- where the entry begins, as far as the kernel holds those keys
abbrev pub roots_of : List Capability → Entry → List KeyName
roots_of caps e =
    option_to_list e.cut
    ++ option_to_list (requested e.event.act e.detail)
    ++ option_map_or (held_of caps) (ended_by e.event.act e.detail) []

-- A walk.

-- how many capabilities are not listed
abbrev pub unlisted : List Capability → List KeyName → ℕ
unlisted caps ks = length (filter (λ c. not (has_key ks c.key)) caps)

-- the keys of qs that are held unmarked join the listed ones, after them and each once
pub record Lists (caps : List Capability) (qs old new : List KeyName) : Type 0 where
  pub behind : (more : List KeyName) × (new ≡ old ++ more)
  pub only : (k : KeyName) → Contains new k → Contains old k ⊎ (Contains qs k × (is_unmarked_at caps k ≡ true))
  pub all : (k : KeyName) → Contains qs k → is_unmarked_at caps k ≡ true → Contains new k
  pub room : length new + unlisted caps new ≤ length old + unlisted caps old

-- whether the packed word of the key is in the set
abbrev pub has_word : {S : Type 0} → HashSet ℕ S → KeyName → Bool
has_word words k = contains nat_eq words (packed k)

-- the set has the packed words of exactly these keys
abbrev pub HasWords : {S : Type 0} → HashSet ℕ S → (KeyName → Bool) → Type 0
HasWords words has = (k : KeyName) → IsValidKey k → has_word words k ≡ has k
