-- File commands with one more line, and how an act is counted.
use Rattle.std.specs.Prelude.{ℕ, ◌+◌, ◌==◌, nat_lt, Bool, List, [], ◌∷◌, ◌++◌, length, find, Option, option_map}
use Rattle.std.specs.Prelude.{if◌then◌else◌}
use Rattle.std.specs.List.{list_any}
use Rattle.sem_files.specs.declared.files.FileDecl.{FileDecl}
use Rattle.sem_files.specs.declared.files.Command.{Command}
use Rattle.sem_files.specs.declared.lines.FileLine.{FileLine}
use Rattle.sem_files.specs.declared.lines.FileLine.TheVariants.{Kernels, File, Client, Do, End}
use Rattle.sem_files.specs.Files.{Files}
use Rattle.sem_files.specs.Compiled.{calls_of_command, part_begin, part_end}
use Rattle.sem_files.specs.FileContext.{with_command}

-- with one more file
abbrev pub with_file : Files → FileDecl → Files
with_file F d = record {
  kernels = F.kernels;
  files = F.files ++ d ∷ [];
  clients = F.clients;
  commands = F.commands;
}

-- with one more client
abbrev pub with_client : Files → ℕ → Files
with_client F v = record {
  kernels = F.kernels;
  files = F.files;
  clients = F.clients ++ v ∷ [];
  commands = F.commands;
}

-- with one more line
abbrev pub with_file_line : Files → FileLine → Files
with_file_line F (Kernels kernels) = F
with_file_line F (File declared) = with_file F declared
with_file_line F (Client v) = with_client F v
with_file_line F (Do c) = with_command F c
with_file_line F End = F

-- how many extents a file has, if it is declared
abbrev pub declared_extents : Files → ℕ → Option ℕ
declared_extents F f = option_map (λ d. d.extents) (find (λ d. d.file == f) F.files)

-- whether a client does something
abbrev pub is_begun : List Command → ℕ → Bool
is_begun commands v = list_any (λ c. c.client == v) commands

-- how many calls a command adds
abbrev pub new_calls : Files → Command → ℕ
new_calls F c =
    (if is_begun F.commands c.client then 0 else 1) + length (calls_of_command F F.commands c)

-- whether a range touches an extent
abbrev pub touches : (off len i : ℕ) → Bool
touches off len i = nat_lt (part_begin off i) (part_end off len i)
