-- What the tables of the reader tell of the lines so far.
use Rattle.std.specs.Prelude.{◌≡◌, ℕ, ◌≤◌, Bool, false, List, [], Option, None, slice_index_or}
use Rattle.sem_files.specs.declared.files.Command.{Command}
use Rattle.sem_files.specs.declared.tables.Tables.{Tables}
use Rattle.sem_files.specs.Files.{Files, is_client, open_count, is_used}
use Rattle.sem_files.specs.Compiled.{AreFiles}
use Rattle.sem_files.specs.FileContext.{call_number}
use Rattle.sem_files.specs.Handles.{TellsHandles}
use Rattle.sem_files.specs.OneMore.{declared_extents, is_begun}

-- what is said so far
abbrev pub files_in : Tables → Files
files_in t = record {
  kernels = t.kernels;
  files = t.files;
  clients = t.clients;
  commands = t.commands;
}

-- Which table tells which part of these commands.

abbrev pub TellsBegun : List Command → List Bool → Type 0
TellsBegun commands begun = (v : ℕ) → slice_index_or begun v false ≡ is_begun commands v

abbrev pub CountsOpenings : List Command → List ℕ → Type 0
CountsOpenings commands openings = (v : ℕ) → slice_index_or openings v 0 ≡ open_count commands v

abbrev pub TellsOpen : List Command → List (List (Option ℕ)) → Type 0
TellsOpen commands handles =
    (v : ℕ) → v ≤ 63 → TellsHandles commands v (slice_index_or handles v [])

abbrev pub TellsUsed : List Command → List (List Bool) → Type 0
TellsUsed commands used =
    (v g : ℕ) → slice_index_or (slice_index_or used v []) g false ≡ is_used commands v g

-- the tables tell what the lines so far say
pub record Tells (t : Tables) : Type 0 where
  pub are : AreFiles (files_in t)
  pub extents : (f : ℕ) → slice_index_or t.extents f None ≡ declared_extents (files_in t) f
  pub declared : (v : ℕ) → slice_index_or t.declared v false ≡ is_client (files_in t) v
  pub begun : TellsBegun t.commands t.begun
  pub openings : CountsOpenings t.commands t.openings
  pub open' : TellsOpen t.commands t.handles
  pub used : TellsUsed t.commands t.used
  pub calls : t.calls ≡ call_number (files_in t)
