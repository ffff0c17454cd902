-- What the program is asked, and its input ("The command line" in docs/texts.md).
use Rattle.std.specs.Prelude.{◌≡◌, ◌⊎◌, ℕ, Bool, true, false, List, [], Option, Some, IfSome, map, string_bytes}
use Rattle.std.specs.Prelude.{String}
use Rattle.sem_machine.specs.Prelude.{Setup, IsSetup}
use Rattle.sem_io.specs.SourceBytes.{Takes}
use Rattle.sem_trace.specs.declared.fault.TraceFault.{TraceFault}
use Rattle.sem_trace.specs.Refusal.{refusal}
use Rattle.sem_trace.specs.SetupOfText.{Stands}
use Rattle.sem_files.specs.Files.{Files as FileCommands}
use Rattle.sem_files.specs.Compiled.{compiled, AreFiles}
use Rattle.sem_files.specs.FileRefusal.{refusal as files_refusal}
use Rattle.sem_files.specs.FilesOfText.{FilesStand}
use Rattle.sem_cli.specs.declared.forms.Command.{Command}
use Rattle.sem_cli.specs.declared.forms.Command.TheVariants.{Run, Threads, Files, Generate, Soak, Ask}
use Rattle.sem_cli.specs.Commands.{command_of}
use Rattle.sem_gen.specs.Generated.{generated}

-- the command of the words, if they are one
abbrev pub asked_by : {A : Type 0} → List (String A) → Option Command
asked_by words = command_of (map string_bytes words)

-- whether one thread does all of the command
abbrev pub is_alone : Command → Bool
is_alone (Run seed) = true
is_alone (Threads seed) = false
is_alone (Files seed) = true
is_alone (Generate seed vpes calls) = true
is_alone (Soak seed vpes calls) = false
is_alone (Ask question) = true

-- whether the command runs a setup and leaves its journal
abbrev pub is_run : Command → Bool
is_run (Run seed) = true
is_run (Threads seed) = true
is_run (Files seed) = true
is_run (Generate seed vpes calls) = false
is_run (Soak seed vpes calls) = true
is_run (Ask question) = false

-- whether the command reads the input
abbrev pub reads_input : Command → Bool
reads_input (Run seed) = true
reads_input (Threads seed) = true
reads_input (Files seed) = true
reads_input (Generate seed vpes calls) = false
reads_input (Soak seed vpes calls) = false
reads_input (Ask question) = true

-- What the program is given: the command of its words, and its input before and after the call.
pub record Given : Type 0 where
  pub asked : Option Command
  -- the bytes that are left of the input before and after, if they are known
  pub before : Option (List ℕ)
  pub after : Option (List ℕ)
  -- how many faults the input has had before and after
  pub faults_before : ℕ
  pub faults_after : ℕ

-- this command and this input; the input tells what is left of it and how many faults it has had
abbrev pub input_given : {S : Type 0} → (S → Option (List ℕ)) → (S → ℕ) → Option Command → S → S → Given
input_given left faults asked old new = record {
  asked = asked;
  before = left old;
  after = left new;
  faults_before = faults old;
  faults_after = faults new;
}

-- the words are that command
abbrev pub Asks : Given → Command → Type 0
Asks g command = g.asked ≡ Some command

-- the words ask for a run of a trace by that seed, on one thread or in threads
abbrev pub AsksRun : Given → ℕ → Type 0
AsksRun g seed = Asks g (Run seed) ⊎ Asks g (Threads seed)

-- the input was not touched
pub record IsUntouched (g : Given) : Type 0 where
  pub unread : g.after ≡ g.before
  pub quiet : g.faults_after ≡ g.faults_before

-- some bytes from the front of the input were read, and no others
abbrev pub ReadsFront : Given → Type 0
ReadsFront g = (part : List ℕ) × Takes g.before g.after part

-- the input was read to its end, and is that text
pub record ReadsAll (g : Given) (text : List ℕ) : Type 0 where
  pub taken : Takes g.before g.after text
  pub to_end : IfSome g.after (λ rest. rest ≡ [])

-- The input was read to its end, and stands for a setup.
pub record ReadsTrace (g : Given) (T : Setup) : Type 0 where
  pub valid : IsSetup T
  pub text : List ℕ
  pub taken : Takes g.before g.after text
  pub stands : Stands text T
  pub to_end : IfSome g.after (λ rest. rest ≡ [])

-- The input was read to its end, and stands for file commands.
pub record ReadsFiles (g : Given) (F : FileCommands) : Type 0 where
  pub valid : AreFiles F
  pub text : List ℕ
  pub taken : Takes g.before g.after text
  pub stands : FilesStand text F
  pub to_end : IfSome g.after (λ rest. rest ≡ [])

-- The setup that a command runs: the one in the input, the one that the file commands in the input
-- compile to, or the one that `soak` generates.
pub data RunsSetup (g : Given) (T : Setup) : Type 0 where
  is_read : (seed : ℕ) → AsksRun g seed → ReadsTrace g T → RunsSetup g T
  is_compiled : (seed : ℕ) (F : FileCommands)
      → Asks g (Files seed) → ReadsFiles g F → T ≡ compiled F → IsSetup T → RunsSetup g T
  is_generated : (seed vpes calls : ℕ)
      → Asks g (Soak seed vpes calls) → T ≡ generated seed vpes calls → IsSetup T → RunsSetup g T

-- the input is no trace, and this is its first fault
abbrev pub IsRefusedTrace : Given → TraceFault → Type 0
IsRefusedTrace g fault = IfSome g.before (λ bytes. refusal bytes ≡ Some fault)

-- the input is no text of file commands, and this is its first fault
abbrev pub AreRefused : Given → TraceFault → Type 0
AreRefused g fault = IfSome g.before (λ bytes. files_refusal bytes ≡ Some fault)

-- the input has had no fault in the call
abbrev pub IsQuietlyRead : Given → Type 0
IsQuietlyRead g = g.faults_after ≡ g.faults_before
