-- What a kernel keeps of its VPEs at the start ("State" in docs/machine.md).
use Rattle.std.specs.Prelude.{◌≡◌, ◌≢◌, ℕ, ◌<◌, ◌≤◌, ◌↔◌, true, All, [], length, slice_get, IsSome, map, Option, Some}
use Rattle.std.specs.Prelude.{unwrap_or, is_some}
use Rattle.std.specs.List.{range_with_len}
use Rattle.std.specs.Option.{option_map}
use Rattle.sem_msg.specs.Prelude.{PES, VPES, VpeRow, no_vpe, Setup}
use Rattle.sem_msg.specs.declared.limits.TheConstants.{SELECTORS}
use Rattle.sem_msg.specs.declared.setup.Root.{Root}
use Rattle.sem_msg.specs.declared.setup.VpeDecl.{VpeDecl}
use Rattle.sem_msg.specs.declared.state.Slot.TheVariants.{Free, Held}
use Rattle.sem_msg.specs.Setup.{root_key}
use Rattle.sem_msg.specs.Lookups.{own_decl}
use Rattle.sem_msg.specs.VpeRows.{start_row, row, slot, is_alive}
use Rattle.sem_vpe.specs.VpeTable.{VpeTable, IsOurs}

-- what is kept of a VPE at the start, if it belongs to kernel i
abbrev pub start_place : Setup → ℕ → ℕ → Option VpeRow
start_place T i v = option_map start_row (own_decl T i v)

-- the table of kernel i at the start
unfoldable pub start_table : Setup → ℕ → VpeTable
start_table T i =
    record {
      ours = map (λ v. is_some (start_place T i v)) (range_with_len 0 VPES);
      rows = map (λ v. unwrap_or (start_place T i v) no_vpe) (range_with_len 0 VPES);
    }

-- a declaration in its ranges, with no more roots than there are selectors
pub record IsStartable (d : VpeDecl) : Type 0 where
  pub vpe : d.vpe < VPES
  pub pe : d.pe < PES
  pub few_roots : length d.roots ≤ SELECTORS

-- The table, read VPE by VPE: at the start a kernel has exactly what the setup declares on its PEs.
pub record IsAsDeclared (T : Setup) (i : ℕ) (t : VpeTable) : Type 0 where
  -- the VPEs of this kernel are those declared on a PE that it owns
  pub ours : (v : ℕ) → IsOurs t v ↔ IsSome (own_decl T i v)
  -- they are alive
  pub living : (v : ℕ) (d : VpeDecl) → own_decl T i v ≡ Some d → is_alive t.rows v ≡ true
  -- each root stands at its selector, under the key of its place in the list
  pub roots : (v n : ℕ) (d : VpeDecl) (r : Root) → own_decl T i v ≡ Some d → slice_get d.roots n ≡ Some r →
      slot t.rows v r.sel ≡ Held (root_key d n r)
  -- the other selectors are free
  pub others : (v sel : ℕ) (d : VpeDecl) → own_decl T i v ≡ Some d → All (λ r. r.sel ≢ sel) d.roots →
      slot t.rows v sel ≡ Free
  -- as many numbers were drawn as there are roots
  pub numbers : (v : ℕ) (d : VpeDecl) → own_decl T i v ≡ Some d → (row t.rows v).next_number ≡ length d.roots
  -- no call was counted, and no ask waits
  pub calls : (v : ℕ) (d : VpeDecl) → own_decl T i v ≡ Some d → (row t.rows v).next_call ≡ 0
  pub asks : (v : ℕ) (d : VpeDecl) → own_decl T i v ≡ Some d → (row t.rows v).asks ≡ []
