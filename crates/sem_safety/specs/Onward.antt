-- What only goes on: drawn numbers and ids, calls made and replies given are never taken back, and
-- the dead stay dead ("What only goes on" in docs/proof.md).
use Rattle.std.specs.Prelude.{◌≡◌, ℕ, ◌≤◌, true}
use Rattle.sem_machine.specs.Prelude.{Side, row, World, side}

-- the side t is not before the side s
pub record IsOnward (s t : Side) : Type 0 where
  pub numbers : (v : ℕ) → (row s v).next_number ≤ (row t v).next_number
  pub calls : (v : ℕ) → (row s v).next_call ≤ (row t v).next_call
  pub dead : (v : ℕ) → (row t v).alive ≡ true → (row s v).alive ≡ true
  pub ids : s.next_job ≤ t.next_job

-- the world W is not before the world V
pub record IsOnwardWorld (V W : World) : Type 0 where
  pub sides : (i : ℕ) → IsOnward (side V i) (side W i)
  pub replies : V.replies ≤ W.replies
