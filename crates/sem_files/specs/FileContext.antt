-- What earlier lines make wrong with a line of file commands ("File commands" in docs/texts.md).
use Rattle.std.specs.Prelude.{ℕ, ◌+◌, ◌*◌, ◌==◌, nat_lt, nat_le, Bool, true, false, not, ◌&&◌, ◌||◌, [], ◌∷◌, ◌++◌}
use Rattle.std.specs.Prelude.{length, is_some, Option, Some, None, sum_by, if◌then◌else◌}
use Rattle.sem_msg.specs.declared.limits.TheConstants.{CALLS}
use Rattle.sem_trace.specs.declared.fault.LineFault.{LineFault}
use Rattle.sem_trace.specs.Forms.{at_word}
use Rattle.sem_trace.specs.declared.fault.Cause.TheVariants.{OutOfRange, Undeclared, Twice, TooMany}
use Rattle.sem_files.specs.declared.files.FileAct.{FileAct}
use Rattle.sem_files.specs.declared.files.FileAct.TheVariants.{OpenFile, Read, Write, Share, Close}
use Rattle.sem_files.specs.declared.files.Command.{Command}
use Rattle.sem_files.specs.declared.lines.FileLine.{FileLine}
use Rattle.sem_files.specs.declared.lines.FileLine.TheVariants.{Kernels, File, Client, Do, End}
use Rattle.sem_files.specs.Files.{Files, EXTENT, is_file, is_client, extents_of, open_file, file_of, is_opening}
use Rattle.sem_files.specs.Files.{open_count, is_used}
use Rattle.sem_files.specs.Compiled.{client_calls, rising_clients}

-- F is what the earlier lines declare.

-- whether a handle of a client is open
abbrev pub is_open : Files → ℕ → ℕ → Bool
is_open F v h = is_some (open_file F.commands v h)

-- whether an act of a client names a file, a handle or a client that does not exist
abbrev pub is_astray : Files → ℕ → FileAct → Bool
is_astray F v (OpenFile handle file) = not (is_file F file)
is_astray F v (Read handle off len) = not (is_open F v handle)
is_astray F v (Write handle off len) = not (is_open F v handle)
is_astray F v (Share handle to other) = not (is_open F v handle) || not (is_client F to)
is_astray F v (Close handle) = not (is_open F v handle)

abbrev pub is_undeclared : Files → FileLine → Bool
is_undeclared F (Do c) = not (is_client F c.client) || is_astray F c.client c.act
is_undeclared F line = false

-- whether an act opens a handle that is open, or gives to the client itself, or under a used number
abbrev pub is_repeated : Files → ℕ → FileAct → Bool
is_repeated F v (OpenFile handle file) = is_open F v handle
is_repeated F v (Share handle to other) = (to == v) || is_used F.commands to other
is_repeated F v act = false

abbrev pub is_twice : Files → FileLine → Bool
is_twice F (Kernels kernels) = true
is_twice F (File declared) = is_file F declared.file
is_twice F (Client v) = is_client F v
is_twice F (Do c) = is_repeated F c.client c.act
is_twice F End = false

-- whether a range ends after a file of n extents
abbrev pub ends_behind : ℕ → FileAct → Bool
ends_behind n (Read handle off len) = nat_lt (EXTENT * n) (off + len)
ends_behind n (Write handle off len) = nat_lt (EXTENT * n) (off + len)
ends_behind n act = false

abbrev pub is_too_long : Files → FileLine → Bool
is_too_long F (Do c) = ends_behind (extents_of F (file_of F.commands c.client c.act)) c.act
is_too_long F line = false

-- how many calls there are, over all clients
abbrev pub call_number : Files → ℕ
call_number F = sum_by (λ v. length (client_calls F v)) (rising_clients F)

-- with one command more
abbrev pub with_command : Files → Command → Files
with_command F c = record {
  kernels = F.kernels;
  files = F.files;
  clients = F.clients;
  commands = F.commands ++ c ∷ [];
}

-- whether a client opens more often than it may, or there is a call too many
abbrev pub is_too_much : Files → FileLine → Bool
is_too_much F (Do c) =
    (is_opening c.act && nat_le 1000 (open_count F.commands c.client))
    || nat_lt CALLS (call_number (with_command F c))
is_too_much F line = false

-- the word, counted from 0, that names what does not exist
abbrev pub astray_word : Files → ℕ → FileAct → ℕ
astray_word F v (OpenFile handle file) = 4
astray_word F v (Share handle to other) = if is_open F v handle then 4 else 3
astray_word F v act = 3

abbrev pub undeclared_word : Files → FileLine → ℕ
undeclared_word F (Do c) = if is_client F c.client then astray_word F c.client c.act else 1
undeclared_word F line = 1

-- the word, counted from 0, that says what was said before: the handle, the client itself, or the
-- number that is used
abbrev pub repeated_word : ℕ → FileAct → ℕ
repeated_word v (Share handle to other) = if to == v then 4 else 5
repeated_word v act = 3

abbrev pub twice_word : FileLine → ℕ
twice_word (Kernels kernels) = 0
twice_word (Do c) = repeated_word c.client c.act
twice_word line = 1

-- what is wrong with what a line says. A range ends too far by its length, word 5; an act is too
-- much as such, word 2
unfoldable pub context_fault : Files → FileLine → Option LineFault
context_fault F line =
    if is_undeclared F line then Some (at_word (undeclared_word F line) Undeclared)
    else (if is_twice F line then Some (at_word (twice_word line) Twice)
    else (if is_too_long F line then Some (at_word 5 OutOfRange)
    else (if is_too_much F line then Some (at_word 2 TooMany) else None)))
