-- The calls of a client, as the functions that make them promise.
use Rattle.std.specs.Prelude.{ℕ, List, slice_index_or, Option, None, unwrap_or}
use Rattle.sem_files.specs.declared.files.FileAct.{FileAct}
use Rattle.sem_files.specs.declared.files.FileAct.TheVariants.{OpenFile}
use Rattle.sem_files.specs.Files.{handle_of}

-- the file that an act is about, given what the handles of its client have open
abbrev pub file_in : List (Option ℕ) → FileAct → ℕ
file_in handles (OpenFile handle file) = file
file_in handles act = unwrap_or (slice_index_or handles (handle_of act) None) 0
