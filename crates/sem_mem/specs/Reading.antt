-- What the functions that tell of accesses need.
use Rattle.std.specs.Prelude.{ℕ, ◌+◌, ◌<◌, ◌≤◌, List, All, AllPairs}
use Rattle.sem_key.specs.declared.limits.TheConstants.{ADDRESSES}
use Rattle.sem_access.specs.declared.access.Access.{Access}

-- accesses in order, each by a later entry, and none past the end of memory
pub record AreInOrder (xs : List Access) : Type 0 where
  pub rise : AllPairs (λ x y. x.entry < y.entry) xs
  pub fit : All (λ x. x.base + x.len ≤ ADDRESSES) xs

-- the entries of the accesses are below n
abbrev pub AreBefore : ℕ → List Access → Type 0
AreBefore n xs = All (λ x. x.entry < n) xs
