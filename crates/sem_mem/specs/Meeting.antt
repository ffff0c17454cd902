-- Which runs a range of addresses meets. These words serve private functions.
use Rattle.std.specs.Prelude.{ℕ, ◌+◌, ◌≤◌, List, All, length, take, drop}
use Rattle.sem_access.specs.declared.run.Run.{Run}

-- the runs before place i end before the addresses from base up to end, and those from place j on
-- begin after them
pub record IsMetPart (rs : List Run) (base end i j : ℕ) : Type 0 where
  pub order : i ≤ j
  pub within : j ≤ length rs
  pub before : All (λ r. r.base + r.len ≤ base) (take i rs)
  pub behind : All (λ r. end ≤ r.base) (drop j rs)
