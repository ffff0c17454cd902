-- The pending delegations of one kernel as contracts see them ("State" in docs/machine.md).
use Rattle.std.specs.Prelude.{ℕ, List, find, filter, not, Option}
use Rattle.sem_machine.specs.Prelude.{KeyName, key_eq, Pending}

pub record PendingStore : Type 0 where
  -- the delegations that were accepted and are not acknowledged yet, in the order in which they
  -- were accepted
  pub pendings : List Pending
  -- how many more can be added without taking memory
  pub spare : ℕ

-- the pending delegation of that key
abbrev pub pending_of : List Pending → KeyName → Option Pending
pending_of pendings k = find (λ p. key_eq p.key k) pendings

-- the others
abbrev pub without_pending : List Pending → KeyName → List Pending
without_pending pendings k = filter (λ p. not (key_eq p.key k)) pendings
