-- What the program promises of each call: the facts of the top call ("The command line" in
-- docs/texts.md).
use Rattle.std.specs.Prelude.{◌≡◌, ◌⊎◌, ℕ, List, Some, None}
use Rattle.sem_machine.specs.Prelude.{Setup}
use Rattle.sem_io.specs.Count.{Rose}
use Rattle.sem_trace.specs.declared.fault.TraceFault.{TraceFault}
use Rattle.sem_trace.specs.Refusal.{refusal}
use Rattle.sem_trace.specs.SetupOfText.{Stands}
use Rattle.sem_files.specs.Files.{Files as FileCommands}
use Rattle.sem_files.specs.FileRefusal.{refusal as files_refusal}
use Rattle.sem_files.specs.FilesOfText.{FilesStand}
use Rattle.sem_cli.specs.declared.forms.Command.TheVariants.{Files, Generate, Soak, Ask}
use Rattle.sem_cli.specs.declared.forms.Question.{Question}
use Rattle.sem_cli.specs.declared.statuses.Status.{Status}
use Rattle.sem_cli.specs.declared.statuses.Status.TheVariants.{Done, Usage, TraceRefused, ReadFault, WriteFault}
use Rattle.sem_cli.specs.declared.statuses.Status.TheVariants.{Memory, ReportRefused}
use Rattle.sem_run.specs.Inputs.{Given, Asks, AsksRun}
use Rattle.sem_run.specs.Reports.{IsReport}
use Rattle.sem_run.specs.Ends.{Output, Ends, IsOfRun, IsSafeRun}

-- the status is this one, unless a read or a write failed or memory was refused
abbrev pub IsOrFails : Status → Status → Type 0
IsOrFails expected status =
    (status ≡ expected) ⊎ ((status ≡ ReadFault) ⊎ ((status ≡ WriteFault) ⊎ (status ≡ Memory)))

-- the same, for commands that read nothing
abbrev pub IsOrUnwritten : Status → Status → Type 0
IsOrUnwritten expected status = (status ≡ expected) ⊎ ((status ≡ WriteFault) ⊎ (status ≡ Memory))

-- words that are no command are told so
abbrev pub TellsUsage : Given → Status → Type 0
TellsUsage g status = g.asked ≡ None → IsOrUnwritten Usage status

-- a text that is no trace is refused
abbrev pub RefusesTraces : Given → Status → Type 0
RefusesTraces g status =
    (seed : ℕ) (bytes : List ℕ) (fault : TraceFault)
    → AsksRun g seed → g.before ≡ Some bytes → refusal bytes ≡ Some fault
    → IsOrFails TraceRefused status

-- every trace is run to its end
abbrev pub RunsTraces : Given → Status → Type 0
RunsTraces g status =
    (seed : ℕ) (bytes : List ℕ) (T : Setup)
    → AsksRun g seed → g.before ≡ Some bytes → Stands bytes T → IsOrFails Done status

-- a text that is no text of file commands is refused
abbrev pub RefusesFiles : Given → Status → Type 0
RefusesFiles g status =
    (seed : ℕ) (bytes : List ℕ) (fault : TraceFault)
    → Asks g (Files seed) → g.before ≡ Some bytes → files_refusal bytes ≡ Some fault
    → IsOrFails TraceRefused status

-- all file commands are run to their end
abbrev pub RunsFiles : Given → Status → Type 0
RunsFiles g status =
    (seed : ℕ) (bytes : List ℕ) (F : FileCommands)
    → Asks g (Files seed) → g.before ≡ Some bytes → FilesStand bytes F → IsOrFails Done status

-- a text that is not the report of a complete schedule is refused
abbrev pub RefusesReports : Given → Status → Type 0
RefusesReports g status =
    (question : Question) (bytes : List ℕ)
    → Asks g (Ask question) → g.before ≡ Some bytes → ¬ IsReport bytes
    → IsOrFails ReportRefused status

-- every question about the report of a complete schedule is answered: so a check accepts what a run
-- writes
abbrev pub AcceptsReports : Given → Status → Type 0
AcceptsReports g status =
    (question : Question) (bytes : List ℕ)
    → Asks g (Ask question) → g.before ≡ Some bytes → IsReport bytes → IsOrFails Done status

-- every load is generated
abbrev pub GeneratesLoads : Given → Status → Type 0
GeneratesLoads g status =
    (seed vpes calls : ℕ) → Asks g (Generate seed vpes calls) → IsOrUnwritten Done status

-- every load is soaked
abbrev pub SoaksLoads : Given → Status → Type 0
SoaksLoads g status =
    (seed vpes calls : ℕ) → Asks g (Soak seed vpes calls) → IsOrUnwritten Done status

-- The program serves what it is given, and leaves this.
pub record Serves (g : Given) (o : Output) : Type 0 where
  -- why the program ended with its status, this journal and this output
  pub ends : Ends g o
  -- with status 4 a write has failed
  pub write_fault : o.status ≡ WriteFault → Rose o.faults_before o.faults_after
  -- the journal of a run, whole or cut short, is a schedule of its setup, and safe; it has few
  -- entries
  pub safe : IsOfRun g o.status o.journal → IsSafeRun g o.journal
  -- each command does what it is for, unless a read or a write fails or memory is refused
  pub usage : TellsUsage g o.status
  pub refuses_traces : RefusesTraces g o.status
  pub runs : RunsTraces g o.status
  pub refuses_files : RefusesFiles g o.status
  pub runs_files : RunsFiles g o.status
  pub refuses_reports : RefusesReports g o.status
  pub accepts_reports : AcceptsReports g o.status
  pub generates : GeneratesLoads g o.status
  pub soaks : SoaksLoads g o.status
