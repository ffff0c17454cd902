-- File commands as contracts see them, and what their type keeps ("File commands" in
-- docs/machine.md).
use Rattle.std.specs.Prelude.{◌≡◌, ◌≢◌, ℕ, ◌<◌, ◌≤◌, ◌+◌, ◌*◌, ◌==◌, Bool, true, false, ◌&&◌, List, length, filter}
use Rattle.std.specs.Prelude.{find, fold, Option, Some, None, if◌then◌else◌, unwrap_or}
use Rattle.std.specs.List.{list_any}
use Rattle.std.specs.Option.{option_map_or}
use Rattle.sem_files.specs.declared.files.FileAct.{FileAct}
use Rattle.sem_files.specs.declared.files.FileAct.TheVariants.{OpenFile, Read, Write, Share, Close}
use Rattle.sem_files.specs.declared.files.FileDecl.{FileDecl}
use Rattle.sem_files.specs.declared.files.Command.{Command}

pub record Files : Type 0 where
  pub kernels : ℕ
  -- each list in the order of its lines
  pub files : List FileDecl
  pub clients : List ℕ
  pub commands : List Command

-- Files and clients.

abbrev pub is_file : Files → ℕ → Bool
is_file F f = list_any (λ d. d.file == f) F.files

abbrev pub is_client : Files → ℕ → Bool
is_client F v = list_any (λ c. c == v) F.clients

-- how many extents a file has; 0 if it is not declared
abbrev pub extents_of : Files → ℕ → ℕ
extents_of F f = option_map_or (λ d. d.extents) (find (λ d. d.file == f) F.files) 0

-- Handles. Earlier commands are a list of commands.

-- the handle that an act is about
abbrev pub handle_of : FileAct → ℕ
handle_of (OpenFile handle file) = handle
handle_of (Read handle off len) = handle
handle_of (Write handle off len) = handle
handle_of (Share handle to other) = handle
handle_of (Close handle) = handle

-- the file that a handle has open after an act on it
abbrev pub open_after : Option ℕ → FileAct → Option ℕ
open_after o (OpenFile handle file) = Some file
open_after o (Read handle off len) = o
open_after o (Write handle off len) = o
open_after o (Share handle to other) = o
open_after o (Close handle) = None

-- whether a command is about that handle of that client
abbrev pub is_about : ℕ → ℕ → Command → Bool
is_about v h c = (c.client == v) && (handle_of c.act == h)

-- the file that a handle of a client has open after these commands, if it is open
abbrev pub open_file : List Command → ℕ → ℕ → Option ℕ
open_file before v h = fold (λ o c. if is_about v h c then open_after o c.act else o) None before

-- the file that an act of a client is about
abbrev pub file_of : List Command → ℕ → FileAct → ℕ
file_of before v (OpenFile handle file) = file
file_of before v act = unwrap_or (open_file before v (handle_of act)) 0

abbrev pub is_opening : FileAct → Bool
is_opening (OpenFile handle file) = true
is_opening act = false

-- how often a client opened a file
abbrev pub open_count : List Command → ℕ → ℕ
open_count before v = length (filter (λ c. (c.client == v) && is_opening c.act) before)

-- whether an act gives to that client under that number
abbrev pub gives : ℕ → ℕ → FileAct → Bool
gives w g (Share handle to other) = (to == w) && (other == g)
gives w g act = false

-- whether a number of a client was used
abbrev pub is_used : List Command → ℕ → ℕ → Bool
is_used before w g = list_any (λ c. gives w g c.act) before

-- What the type of files keeps: each line passes the tests of the grammar.

-- the bytes of an extent
abbrev pub EXTENT : ℕ
EXTENT = 4096

abbrev pub IsHandle : ℕ → Type 0
IsHandle h = h ≤ 15

-- a handle of a client has a file open
abbrev pub IsHandleOpen : List Command → ℕ → ℕ → Type 0
IsHandleOpen before v h = (f : ℕ) × (open_file before v h ≡ Some f)

-- a range lies in the file that the handle has open
abbrev pub IsRange : Files → List Command → ℕ → ℕ → ℕ → ℕ → Type 0
IsRange F before v h off len =
    (f : ℕ) × (open_file before v h ≡ Some f) × (off ≤ 16383) × (1 ≤ len) × (len ≤ 16384)
    × (off + len ≤ EXTENT * extents_of F f)

-- an act that a client may do next
abbrev pub IsAct : Files → List Command → ℕ → FileAct → Type 0
IsAct F before v (OpenFile handle file) =
    (is_file F file ≡ true) × (open_file before v handle ≡ None) × (open_count before v < 1000)
IsAct F before v (Read handle off len) = IsRange F before v handle off len
IsAct F before v (Write handle off len) = IsRange F before v handle off len
IsAct F before v (Share handle to other) =
    IsHandleOpen before v handle × (is_client F to ≡ true) × (to ≢ v) × (other ≤ 15)
    × (is_used before to other ≡ false)
IsAct F before v (Close handle) = IsHandleOpen before v handle

-- a command that may come next
pub record IsCommand (F : Files) (before : List Command) (c : Command) : Type 0 where
  pub client : is_client F c.client ≡ true
  pub handle : IsHandle (handle_of c.act)
  pub act : IsAct F before c.client c.act
