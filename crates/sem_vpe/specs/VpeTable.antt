-- What a kernel keeps of its VPEs as contracts see it ("State" in docs/machine.md).
use Rattle.std.specs.Prelude.{◌≡◌, ℕ, ◌≤◌, Bool, false, IsTrue, List, length, slice_index_or}
use Rattle.std.specs.Prelude.{Option, Some, None}
use Rattle.sem_key.specs.KeyName.{KeyName}
use Rattle.sem_msg.specs.Prelude.{VPES, NUMBERS, VpeRow, no_vpe, Setup, kernel_of}
use Rattle.sem_msg.specs.declared.limits.TheConstants.{SELECTORS, ASKS}
use Rattle.sem_msg.specs.declared.state.Slot.{Slot}
use Rattle.sem_msg.specs.declared.state.Slot.TheVariants.{Free, Held, Promised}
use Rattle.sem_msg.specs.VpeRows.{row}

pub record VpeTable : Type 0 where
  -- whether each VPE belongs to this kernel, by number
  pub ours : List Bool
  -- what is kept of each VPE, by number; nothing is kept of the VPEs of other kernels
  pub rows : List VpeRow

abbrev pub IsOurs : VpeTable → ℕ → Type 0
IsOurs t v = IsTrue (slice_index_or t.ours v false)

-- the VPEs of kernel i belong to it
abbrev pub AreOurs : Setup → ℕ → VpeTable → Type 0
AreOurs T i t = (v : ℕ) → kernel_of T v ≡ i → IsOurs t v

-- the key that a slot holds
abbrev pub slot_key : Slot → Option KeyName
slot_key Free = None
slot_key (Held k) = Some k
slot_key Promised = None

-- What always holds.

-- all selectors, at most all numbers and the most asks that can wait, and a count of calls in 32
-- bits
pub record IsVpeRow (r : VpeRow) : Type 0 where
  pub selectors : length r.slots ≡ SELECTORS
  pub few_numbers : r.next_number ≤ NUMBERS
  pub few_calls : r.next_call ≤ 4294967295
  pub few_asks : length r.asks ≤ ASKS

-- a place for each VPE: for a VPE of this kernel such a row, for the others nothing
pub record IsVpeTable (t : VpeTable) : Type 0 where
  pub marks : length t.ours ≡ VPES
  pub places : length t.rows ≡ VPES
  pub kept : (v : ℕ) → IsOurs t v → IsVpeRow (row t.rows v)
  pub nothing_kept : (v : ℕ) → slice_index_or t.ours v false ≡ false → row t.rows v ≡ no_vpe
