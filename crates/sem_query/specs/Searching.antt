-- Lives in rising key order, and where the life of a key stands among them.
use Rattle.std.specs.Prelude.{◌≡◌, ℕ, ◌<◌, ◌≤◌, List, length, All, AllPairs, slice_index_or}
use Rattle.std.specs.List.{AllWithin}
use Rattle.sem_machine.specs.Prelude.{KeyName, IsValidKey, packed}
use Rattle.sem_query.specs.Lives.{KeyLife}

-- each key comes before all that follow it, so each has one life
pub record AreLives (ls : List KeyLife) : Type 0 where
  pub rising : AllPairs (λ a b. packed a.key < packed b.key) ls
  pub valid : All (λ l. IsValidKey l.key) ls

-- the life of the key stands at that place
pub record IsLifeAt (ls : List KeyLife) (k : KeyName) (at : ℕ) : Type 0 where
  pub in_range : at < length ls
  pub key : (d : KeyLife) → (slice_index_or ls at d).key ≡ k

-- no life is that of the key, which would go at that place
pub record IsGapFor (ls : List KeyLife) (k : KeyName) (at : ℕ) : Type 0 where
  pub in_range : at ≤ length ls
  pub before : AllWithin (λ l. packed l.key < packed k) ls 0 at
  pub after : AllWithin (λ l. packed k < packed l.key) ls at (length ls)
