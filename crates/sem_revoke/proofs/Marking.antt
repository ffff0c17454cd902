-- What the layers say of marks and jobs.
use Rattle.std.proofs.Common.{◌≡◌, ◌⊎◌, ℕ, ◌≤◌, true, List, Some, None, inl, inr, arith}
use Rattle.std.specs.List.{Contains}
use Rattle.sem_key.specs.KeyName.{KeyName}
use Rattle.sem_key.specs.Capability.{Capability}
use Rattle.sem_msg.specs.declared.entry.Entry.{Entry}
use Rattle.sem_msg.specs.Rows.{JobRow}
use Rattle.sem_msg.specs.Setup.{Setup, IsSetup}
use Rattle.sem_msg.specs.Lookups.{owner_of}
use Rattle.sem_machine.specs.Sides.{job}
use Rattle.sem_machine.specs.Machine.{side}
use Rattle.sem_machine.specs.Living.{HoldsCap, IsLive}
use Rattle.sem_machine.specs.Schedules.{IsSchedule, world_after}
use Rattle.sem_machine.specs.Journals.{grants}
use Rattle.sem_key.proofs.KeyTests.{has_key-from_Contains}
use Rattle.sem_revoke.specs.Scales.{of_world, requesting, naming, counting}
use Rattle.sem_revoke.proofs.Events.{Par, Made}
use Rattle.sem_revoke.proofs.Linking.{live-alive, holds}

module _ (T : Setup) (valid : IsSetup T) (J : List Entry) (runs : IsSchedule T J) where
  -- held by the kernel that owns it, and marked by that job
  abbrev IsMarkedBy : KeyName → ℕ → Type 0
  IsMarkedBy k n = (c : Capability) × HoldsCap (world_after T J) (owner_of T k) k c × (c.mark ≡ Some n)

  pub marks-spread : (p k : KeyName) (d : Capability) (n : ℕ) → HoldsCap (world_after T J) (owner_of T p) p d → d.mark ≡ Some n → Contains d.children k →
      IsLive (world_after T J) k → ((owner_of T k ≡ owner_of T p) × IsMarkedBy k n) ⊎ (1 ≤ of_world (requesting k (owner_of T p) n) (world_after T J))
  marks-spread p k d n held marked child live =
      elim ((holds T valid J runs).caught p k d n held marked (has_key-from_Contains d.children k child)
      (live-alive T valid J runs (Par (grants J)) (Made T (grants J)) k live)) [
        | inl same ↦ inl same
        | inr (inl more) ↦ inr more
        | inr (inr none) ↦ absurd none
      ]

  pub marks-named : (k : KeyName) (c : Capability) (n : ℕ) → HoldsCap (world_after T J) (owner_of T k) k c → c.mark ≡ Some n →
      (x : JobRow) × (job (side (world_after T J) (owner_of T k)) n ≡ Some x)
      × ((x.root ≡ k) ⊎ ((p : KeyName) × Contains (grants J) (p, k) × (owner_of T p ≡ owner_of T k) × IsMarkedBy p n))
  marks-named k c n held marked = (holds T valid J runs).marks k n (c, held, marked)

  pub roots-marked : (a n : ℕ) (x : JobRow) → job (side (world_after T J) a) n ≡ Some x → (owner_of T x.root ≡ a) × IsMarkedBy x.root n
  roots-marked a n x open_ = elim ((holds T valid J runs).roots a n x open_) [ inl none ↦ absurd none | inr is ↦ is ]

  pub keepers-alone : (i n : ℕ) (x : JobRow) → job (side (world_after T J) i) n ≡ Some x → x.keep ≡ true → x.up ≡ None
  keepers-alone i n x open_ = (holds T valid J runs).alone i n x open_

  pub tokens-counted : (a b : ℕ) → of_world (naming a b) (world_after T J) ≡ of_world (counting a b) (world_after T J)
  tokens-counted a b = let is = (holds T valid J runs).counted a b in omega (arith, is)
