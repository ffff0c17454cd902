-- What the tables of the reader tell of the lines so far.
use Rattle.std.specs.Prelude.{◌≡◌, ℕ, ◌<◌, ◌≤◌, ◌⊎◌, false, List, [], length, None, slice_index_or}
use Rattle.indexmap.specs.IndexMap.{get}
use Rattle.indexmap.specs.IndexSet.{contains}
use Rattle.sem_msg.specs.Prelude.{PES, VPES}
use Rattle.sem_key.specs.MembershipTable.{owner_at}
use Rattle.sem_msg.specs.declared.limits.TheConstants.{SELECTORS}
use Rattle.sem_msg.specs.declared.setup.VpeDecl.{VpeDecl}
use Rattle.sem_msg.specs.Versions.{most_kernels}
use Rattle.sem_trace.specs.declared.declaration.Declaration.{Declaration}
use Rattle.sem_trace.specs.Earlier.{window_in, owner_in, pe_in, is_pe_taken, roots_in, calls_in, has_service, offer_in}
use Rattle.sem_trace.specs.Earlier.{is_denied, kill_in, call_number}
use Rattle.sem_reader.specs.declared.tables.Tables.{Tables}
use Rattle.sem_reader.specs.Pairs.{is_same_pair}
use Rattle.sem_reader.specs.Accepted.{AreAccepted}

-- each table has a place for each number
pub record HasSizes (t : Tables) : Type 0 where
  pub owners : length t.owners.owners ≡ PES
  pub roots : length t.roots.items ≡ VPES
  pub calls : length t.calls.items ≡ VPES

-- the tables tell what that many kernels and these lines declare, in a text of that version
pub record Tells (version kernels : ℕ) (ds : List Declaration) (t : Tables) : Type 0 where
  pub versions : (version ≡ 1) ⊎ (version ≡ 2)
  pub some : 1 ≤ kernels
  pub few : kernels ≤ most_kernels version
  pub accepted : AreAccepted version kernels ds
  pub same_version : t.version ≡ version
  pub window : t.window ≡ window_in ds
  pub number : t.owners.kernels ≡ kernels
  pub owner : (p : ℕ) → owner_at t.owners p ≡ owner_in ds p
  pub pe : (v : ℕ) → slice_index_or t.pes v None ≡ pe_in ds v
  pub taken : (p : ℕ) → slice_index_or t.taken p false ≡ is_pe_taken ds p
  pub root : (v : ℕ) → slice_index_or t.roots.items v [] ≡ roots_in ds v
  pub call : (v : ℕ) → slice_index_or t.calls.items v [] ≡ calls_in ds v
  pub count : t.call_number ≡ call_number ds
  pub few_calls : t.call_number ≤ 20000
  pub named : (name : ℕ) → slice_index_or t.named name false ≡ has_service ds name
  pub offer : (name index : ℕ) → get is_same_pair t.offers (name, index) ≡ offer_in ds name index
  pub denied : (v asker : ℕ) → contains is_same_pair t.denied (v, asker) ≡ is_denied ds v asker
  pub kill : (v : ℕ) → slice_index_or t.kills v None ≡ kill_in ds v

-- the tables tell what some lines declare
pub record IsTold (t : Tables) : Type 0 where
  pub version : ℕ
  pub kernels : ℕ
  pub ds : List Declaration
  pub tells : Tells version kernels ds t

-- the numbers of a VPE are in range, and it has no more roots than selectors
pub record IsPlainVpe (d : VpeDecl) : Type 0 where
  pub vpe : d.vpe < VPES
  pub pe : d.pe < VPES
  pub few_roots : length d.roots ≤ SELECTORS
