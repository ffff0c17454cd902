-- What the readers of lines promise, and the ranges of the numbers of a line with a form.
use Rattle.std.specs.Prelude.{◌≡◌, ℕ, ◌≤◌, List, Result, IfOk}
use Rattle.std.specs.Result.{result_err}
use Rattle.sem_trace.specs.declared.fault.Cause.{Cause}
use Rattle.sem_trace.specs.declared.fault.LineFault.{LineFault}
use Rattle.sem_trace.specs.Forms.{form_fault, word_fault, choice, word_at}
use Rattle.sem_trace.specs.Places.{told_fault}
use Rattle.sem_files.specs.declared.files.FileAct.{FileAct}
use Rattle.sem_files.specs.declared.files.FileAct.TheVariants.{OpenFile, Read, Write, Share, Close}
use Rattle.sem_files.specs.declared.lines.FileLine.{FileLine}
use Rattle.sem_files.specs.declared.lines.FileLine.TheVariants.{Kernels, File, Client, Do, End}
use Rattle.sem_files.specs.FileForms.{acts, form}
use Rattle.sem_files.specs.Said.{act_from, said}

-- a file, a handle, or the number under which a client receives a file
abbrev pub IsSmall : ℕ → Type 0
IsSmall n = n ≤ 15

abbrev pub IsClientNumber : ℕ → Type 0
IsClientNumber v = (1 ≤ v) × (v ≤ 63)

abbrev pub IsSpan : (off len : ℕ) → Type 0
IsSpan off len = (off ≤ 16383) × (1 ≤ len) × (len ≤ 16384)

-- the numbers of an act are in the ranges of their places
abbrev pub IsActInRange : FileAct → Type 0
IsActInRange (OpenFile handle file) = IsSmall handle × IsSmall file
IsActInRange (Read handle off len) = IsSmall handle × IsSpan off len
IsActInRange (Write handle off len) = IsSmall handle × IsSpan off len
IsActInRange (Share handle to other) = IsSmall handle × IsClientNumber to × IsSmall other
IsActInRange (Close handle) = IsSmall handle

-- the numbers of a line are in the ranges of their places
abbrev pub IsInRange : FileLine → Type 0
IsInRange (Kernels kernels) = Unit {0}
IsInRange (File declared) = IsSmall declared.file × (1 ≤ declared.extents) × (declared.extents ≤ 4)
IsInRange (Client v) = IsClientNumber v
IsInRange (Do c) = IsClientNumber c.client × IsActInRange c.act
IsInRange End = Unit {0}

-- an act is read, from its name to the end of the line
pub record ReadsAct (words rest : List (List ℕ)) (result : Result FileAct Cause) : Type 0 where
  pub fault : form_fault (choice acts (word_at words 0)) words ≡ told_fault result rest
  pub value : IfOk result (λ act. act ≡ act_from words)
  pub ranges : IfOk result IsActInRange

-- what a line with these words says is read from its words
pub record ReadsWords (words rest : List (List ℕ)) (result : Result FileLine Cause) : Type 0 where
  pub fault : form_fault (form words) words ≡ told_fault result rest
  pub value : IfOk result (λ line. line ≡ said words)
  pub ranges : IfOk result IsInRange

-- what a line with these words says is read
pub record ReadsLine (words : List (List ℕ)) (result : Result FileLine LineFault) : Type 0 where
  pub fault : word_fault (form words) words ≡ result_err result
  pub value : IfOk result (λ line. line ≡ said words)
  pub ranges : IfOk result IsInRange
