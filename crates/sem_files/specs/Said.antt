-- What the words of a line of file commands with a form say, and what lines declare ("File
-- commands" in docs/texts.md).
use Rattle.std.specs.Prelude.{ℕ, Bool, true, false, List, drop, codes, filter_map, Option, Some, None, if◌then◌else◌}
use Rattle.std.specs.List.{list_any}
use Rattle.sem_trace.specs.Declarations.{stands_at, number_at}
use Rattle.sem_files.specs.declared.files.FileAct.{FileAct}
use Rattle.sem_files.specs.declared.files.FileAct.TheVariants.{OpenFile, Read, Write, Share, Close}
use Rattle.sem_files.specs.declared.files.FileDecl.{FileDecl}
use Rattle.sem_files.specs.declared.files.Command.{Command}
use Rattle.sem_files.specs.declared.lines.FileLine.{FileLine}
use Rattle.sem_files.specs.declared.lines.FileLine.TheVariants.{Kernels, File, Client, Do, End}
use Rattle.sem_files.specs.Files.{Files}

-- the act of words that begin with its name
unfoldable pub act_from : List (List ℕ) → FileAct
act_from words =
    let is : List ℕ → Bool = stands_at words 0 in
    let n : ℕ → ℕ = number_at words in
    if is (codes "open") then OpenFile (n 1) (n 2)
    else (if is (codes "read") then Read (n 1) (n 2) (n 3)
    else (if is (codes "write") then Write (n 1) (n 2) (n 3)
    else (if is (codes "share") then Share (n 1) (n 2) (n 3)
    else Close (n 1))))

-- what a line after the second says
unfoldable pub said : List (List ℕ) → FileLine
said words =
    let is : List ℕ → Bool = stands_at words 0 in
    let n : ℕ → ℕ = number_at words in
    if is (codes "kernels") then Kernels (n 1)
    else (if is (codes "file") then File (record { file = n 1; extents = n 2 })
    else (if is (codes "client") then Client (n 1)
    else (if is (codes "do") then Do (record { client = n 1; act = act_from (drop 2 words) })
    else End)))

-- What lines declare.

abbrev pub said_file : FileLine → Option FileDecl
said_file (File declared) = Some declared
said_file line = None

abbrev pub said_client : FileLine → Option ℕ
said_client (Client client) = Some client
said_client line = None

abbrev pub said_command : FileLine → Option Command
said_command (Do command) = Some command
said_command line = None

-- the file commands of that many kernels and these lines
unfoldable pub files_of : ℕ → List FileLine → Files
files_of kernels lines = record {
  kernels = kernels;
  files = filter_map said_file lines;
  clients = filter_map said_client lines;
  commands = filter_map said_command lines;
}

-- whether the last line was said
abbrev pub is_end : FileLine → Bool
is_end End = true
is_end line = false

unfoldable pub is_ended : List FileLine → Bool
is_ended lines = list_any is_end lines
