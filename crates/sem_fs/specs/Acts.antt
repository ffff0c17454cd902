-- What the functions that compile an act promise.
use Rattle.std.specs.Prelude.{ℕ, ◌≤◌, List}
use Rattle.std.specs.List.{flat_map}
use Rattle.sem_machine.specs.Prelude.{Call, Read as ReadCall, Write as WriteCall}
use Rattle.sem_files.specs.declared.files.FileAct.{FileAct}
use Rattle.sem_files.specs.declared.files.FileAct.TheVariants.{OpenFile, Read, Write, Share, Close}
use Rattle.sem_files.specs.Compiled.{ACCESS, below, part_accessed}
use Rattle.sem_fs.specs.declared.acts.Way.{Way}
use Rattle.sem_fs.specs.declared.acts.Way.TheVariants.{Reading, Writing}

-- the call that accesses a range through the endpoint
abbrev pub access_call : Way → ℕ → ℕ → Call
access_call Reading off len = ReadCall ACCESS off len
access_call Writing off len = WriteCall ACCESS off len

-- the calls that access a range of a file of n extents
abbrev pub parts_accessed : Way → ℕ → ℕ → ℕ → ℕ → List Call
parts_accessed way handle off len n =
    flat_map (part_accessed (access_call way) handle off len) (below n)

-- the numbers of an act are in range
abbrev pub IsPlainAct : FileAct → Type 0
IsPlainAct (OpenFile handle file) = (handle ≤ 15) × (file ≤ 15)
IsPlainAct (Read handle off len) = (handle ≤ 15) × (off ≤ 16383) × (len ≤ 16384)
IsPlainAct (Write handle off len) = (handle ≤ 15) × (off ≤ 16383) × (len ≤ 16384)
IsPlainAct (Share handle to other) = (handle ≤ 15) × (other ≤ 15)
IsPlainAct (Close handle) = handle ≤ 15
