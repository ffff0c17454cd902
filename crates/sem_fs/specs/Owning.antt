-- The owners of PEs, as the functions that set them promise.
use Rattle.std.specs.Prelude.{◌≡◌, ◌≢◌, ℕ, ◌<◌, ◌≤◌, length, None}
use Rattle.sem_machine.specs.Prelude.{PES}
use Rattle.sem_key.specs.MembershipTable.{MembershipTable, owner_at}
use Rattle.sem_files.specs.Files.{Files}
use Rattle.sem_files.specs.Compiled.{owner_of_pe}

-- a PE got its owner, and nothing else changed
pub record Owns (F : Files) (pe : ℕ) (old new : MembershipTable) : Type 0 where
  pub kernels : new.kernels ≡ old.kernels
  pub all_pes : length new.owners ≡ length old.owners
  pub owner : owner_at new pe ≡ owner_of_pe F pe
  pub others : (p : ℕ) → p ≢ pe → owner_at new p ≡ owner_at old p

-- the first PEs have their owners, and the others none
pub record OwnsBelow (F : Files) (n : ℕ) (table : MembershipTable) : Type 0 where
  pub kernels : table.kernels ≡ F.kernels
  pub all_pes : length table.owners ≡ PES
  pub owner : (p : ℕ) → p < n → owner_at table p ≡ owner_of_pe F p
  pub others : (p : ℕ) → n ≤ p → owner_at table p ≡ None
