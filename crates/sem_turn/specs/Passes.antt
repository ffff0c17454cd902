-- The turn and the passes of a run as contracts see them ("The turn" in docs/machine.md).
use Rattle.std.specs.Prelude.{◌≡◌, ◌≢◌, ℕ, ◌==◌, Bool, false, List, [], ◌∷◌, ◌++◌, map, Option, None, slice_index_or}
use Rattle.std.specs.Prelude.{count_by, ◌⊎◌}
use Rattle.std.specs.List.{range_with_len}
use Rattle.atomic_table.specs.Seated.{TableId}
use Rattle.sem_msg.specs.declared.entry.Entry.{Entry}
use Rattle.sem_msg.specs.Prelude.{Setup, FabricValue}
use Rattle.sem_msg.specs.Fabric.{FabricAgrees, IsSquare}

-- The right to take the turn for a kernel.
pub record PassValue : Type 0 where
  pub kernel : ℕ
  -- the entries of the kernel so far
  pub entries : List Entry
  -- whether the pass knows of a place of its kernel in the journal
  pub placed : Bool
  -- while the pass holds the turn, the fabric as it took it
  pub taken : Option FabricValue

-- a table that has no name yet, and the setup that it was opened for
pub record OpenedValue : Type 0 where
  pub table : TableId
  pub setup : Setup

abbrev pub new_pass : ℕ → PassValue
new_pass k = record { kernel = k; entries = []; placed = false; taken = None }

-- a new pass for each of n kernels, in order
abbrev pub new_passes : ℕ → List PassValue
new_passes n = map new_pass (range_with_len 0 n)

-- how many of the passes belong to kernel k
abbrev pub times : ℕ → List PassValue → ℕ
times k ps = count_by (λ p. p.kernel == k) ps

-- the fabric agrees with its journal, and has a link for each pair of the setup's kernels
pub record IsWhole (T : Setup) (f : FabricValue) : Type 0 where
  pub agrees : FabricAgrees T f
  pub square : IsSquare T.kernels f.links

-- whether kernel k has a place in the journal
abbrev pub has_place : FabricValue → ℕ → Bool
has_place f k = slice_index_or f.places k false

-- the journal as it was, or with one more entry, of kernel k
abbrev pub MayFollow : ℕ → List Entry → List Entry → Type 0
MayFollow k old new = (new ≡ old) ⊎ ((e : Entry) × (e.event.kernel ≡ k) × (new ≡ old ++ e ∷ []))

-- what kernel k may make of the fabric in one turn: its journal follows, and the other kernels keep
-- their places
abbrev pub Follows : ℕ → FabricValue → FabricValue → Type 0
Follows k old new = MayFollow k old.journal new.journal × ((j : ℕ) → j ≢ k → has_place new j ≡ has_place old j)
