-- What the open handles of a client tell of the commands so far.
use Rattle.std.specs.Prelude.{◌≡◌, ℕ, ◌≤◌, List, length, slice_index_or, slice_set, Option, None}
use Rattle.sem_files.specs.declared.files.FileAct.{FileAct}
use Rattle.sem_files.specs.declared.files.Command.{Command}
use Rattle.sem_files.specs.Files.{open_file, open_after, handle_of}

-- the handles of a client tell which file each has open after these commands
abbrev pub TellsHandles : List Command → ℕ → List (Option ℕ) → Type 0
TellsHandles before v hs =
    (length hs ≡ 16) × ((h : ℕ) → h ≤ 15 → slice_index_or hs h None ≡ open_file before v h)

-- the handles after an act of their client
abbrev pub handles_after : List (Option ℕ) → FileAct → List (Option ℕ)
handles_after hs act =
    slice_set hs (handle_of act) (open_after (slice_index_or hs (handle_of act) None) act)
