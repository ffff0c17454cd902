-- How the region of a root is walked: each reached capability is marked and listed once.
use Rattle.std.specs.Prelude.{◌≡◌, ℕ, ◌≤◌, Bool, true, false, List, [], ◌∷◌, ◌++◌, length, take, filter}
use Rattle.std.specs.Prelude.{if◌then◌else◌, IsSomeAnd}
use Rattle.std.specs.Option.{option_map_or, is_none}
use Rattle.std.specs.List.{AllPairs}
use Rattle.sem_machine.specs.Prelude.{KeyName, key_eq, Capability, cap_of, has_key, JobRow}
use Rattle.sem_key.specs.CapList.{marked}
use Rattle.sem_key.specs.Region.{Reached, all_marked}
use Rattle.sem_msg.specs.JobRows.{job_of}

-- whether the key is held without a mark
abbrev pub is_unmarked_at : List Capability → KeyName → Bool
is_unmarked_at cs k = option_map_or (λ c. is_none c.mark) (cap_of cs k) false

-- the keys of the capabilities made from the capability of that key
abbrev pub children_at : List Capability → KeyName → List KeyName
children_at cs k = option_map_or (λ c. c.children) (cap_of cs k) []

-- how many are held without a mark
abbrev pub unmarked_count : List Capability → ℕ
unmarked_count cs = length (filter (λ c. is_none c.mark) cs)

-- a walk so far: the capabilities as they are now, and the reached keys
pub record Walk : Type 0 where
  pub caps : List Capability
  pub keys : List KeyName

-- job j marks the key and lists it, if it is open
abbrev pub reach : ℕ → KeyName → Walk → Walk
reach j k w = if is_unmarked_at w.caps k then record { caps = marked w.caps k j; keys = w.keys ++ k ∷ [] } else w

-- each key stands in the list once
abbrev pub IsSpread : List KeyName → Type 0
IsSpread ks = AllPairs (λ a b. key_eq a b ≡ false) ks

-- What a walk keeps: every listed key is reached and marked, and the open children of the first
-- `done` keys are listed.
pub record IsWalk (caps : List Capability) (root : KeyName) (j : ℕ) (w : Walk) (done : ℕ) : Type 0 where
  pub marked : w.caps ≡ all_marked w.keys j caps
  pub reached : (k : KeyName) → has_key w.keys k ≡ true → Reached caps root k
  pub spread : IsSpread w.keys
  pub rooted : is_unmarked_at caps root ≡ true → has_key w.keys root ≡ true
  pub closed : (p k : KeyName) → has_key (take done w.keys) p ≡ true → has_key (children_at caps p) k ≡ true →
      is_unmarked_at caps k ≡ true → has_key w.keys k ≡ true

-- the job is there, and no more than n tokens are out for it
abbrev pub HasCount : List JobRow → ℕ → ℕ → Type 0
HasCount jobs j n = IsSomeAnd (job_of jobs j) (λ x. x.count ≤ n)
