-- How the program ends: for each status why it comes, which text is written, and which journal is
-- left ("The command line" in docs/texts.md).
use Rattle.std.specs.Prelude.{◌≤◌, ◌+◌, ◌*◌, length, ◌≡◌, ◌≢◌, ℕ, ◌⊎◌, true, List, [], Option, None, IfSome}
use Rattle.sem_machine.specs.Prelude.{Entry, Setup, IsSetup, replies, IsSchedule, world_after, seeded, IsComplete}
use Rattle.sem_msg.specs.Setup.{call_count, kill_count}
use Rattle.sem_io.specs.Count.{Rose}
use Rattle.sem_io.specs.SinkBytes.{Appends, AppendsPrefix}
use Rattle.sem_trace.specs.declared.fault.TraceFault.{TraceFault}
use Rattle.sem_trace.specs.TraceText.{canonical}
use Rattle.sem_gen.specs.Generated.{generated}
use Rattle.sem_machine.specs.Safety.{IsSafe}
use Rattle.sem_audit.specs.Reported.{report}
use Rattle.sem_access.specs.ContentsText.{contents}
use Rattle.sem_query.specs.HolderText.{holder_text}
use Rattle.sem_query.specs.Paths.{path}
use Rattle.sem_query.specs.Denials.{IsDenied}
use Rattle.sem_audit.specs.Straying.{stray_count}
use Rattle.sem_files.specs.Files.{Files as FileCommands}
use Rattle.sem_files.specs.Compiled.{compiled}
use Rattle.sem_cli.specs.declared.forms.Command.{Command}
use Rattle.sem_cli.specs.declared.forms.Command.TheVariants.{Run, Threads, Files, Generate, Soak, Ask}
use Rattle.sem_cli.specs.declared.forms.Question.{Question}
use Rattle.sem_cli.specs.declared.forms.Question.TheVariants.{Check, Contents, Holder, Path, Denied}
use Rattle.sem_cli.specs.declared.statuses.Status.{Status}
use Rattle.sem_cli.specs.declared.statuses.Status.TheVariants.{Done, Usage, TraceRefused, ReadFault, WriteFault}
use Rattle.sem_cli.specs.declared.statuses.Status.TheVariants.{Memory, ReportRefused}
use Rattle.sem_cli.specs.Summary.{summary}
use Rattle.sem_cli.specs.Messages.{usage_line, ok_line, refused_line, files_refused_line}
use Rattle.sem_run.specs.Inputs.{Given, Asks, AsksRun, IsUntouched, ReadsFront, ReadsAll, ReadsTrace, ReadsFiles}
use Rattle.sem_run.specs.Inputs.{RunsSetup, IsRefusedTrace, AreRefused, IsQuietlyRead, is_run, reads_input}
use Rattle.sem_run.specs.Reports.{IsRefusedReport}

-- What the program leaves: its status, the journal, and its output before and after the call.
pub record Output : Type 0 where
  pub status : Status
  pub journal : List Entry
  -- the bytes written before and after, if they are known
  pub before : Option (List ℕ)
  pub after : Option (List ℕ)
  -- how many faults the output has had before and after
  pub faults_before : ℕ
  pub faults_after : ℕ

-- this status, journal and output; the output tells the bytes written to it and its count of faults
abbrev pub left : {K : Type 0}
    → (K → Option (List ℕ)) → (K → ℕ) → Status → List Entry → K → K → Output
left written faults status journal old new = record {
  status = status;
  journal = journal;
  before = written old;
  after = written new;
  faults_before = faults old;
  faults_after = faults new;
}

-- the journal is the seeded one of the setup that was read
pub record RunsSeeded (g : Given) (J : List Entry) (T : Setup) (seed : ℕ) : Type 0 where
  pub command : Asks g (Run seed)
  pub trace : ReadsTrace g T
  pub seeded : J ≡ seeded T seed

-- Status 0 of a run: the journal is complete, and the text is its report.
pub record EndsReported (g : Given) (J : List Entry) (text : List ℕ) : Type 0 where
  pub setup : Setup
  pub seed : ℕ
  pub run : RunsSeeded g J setup seed
  pub complete : IsComplete setup J
  pub told : text ≡ report setup J

-- the text that answers a question about the report of a schedule
abbrev pub IsAnswer : Question → Setup → List Entry → List ℕ → Type 0
IsAnswer Check T J text = text ≡ ok_line
IsAnswer Contents T J text = text ≡ contents T J
IsAnswer (Holder key count) T J text = text ≡ holder_text T J key count
IsAnswer (Path key) T J text = text ≡ path T J key
IsAnswer (Denied entry) T J text = IsDenied T J entry text

-- Status 0 of a question: the input is the report of a complete schedule, and the text answers it.
pub record EndsAnswered (g : Given) (J : List Entry) (text : List ℕ) : Type 0 where
  pub question : Question
  pub command : Asks g (Ask question)
  pub setup : Setup
  pub entries : List Entry
  pub valid : IsSetup setup
  pub complete : IsComplete setup entries
  pub input : ReadsAll g (report setup entries)
  pub no_journal : J ≡ []
  pub told : IsAnswer question setup entries text

-- Status 0 of `gen`: the text is the canonical one of the generated setup; nothing was read.
pub record EndsGenerated (g : Given) (J : List Entry) (text : List ℕ) : Type 0 where
  pub seed : ℕ
  pub vpes : ℕ
  pub calls : ℕ
  pub command : Asks g (Generate seed vpes calls)
  pub untouched : IsUntouched g
  pub no_journal : J ≡ []
  pub told : text ≡ canonical (generated seed vpes calls)

-- Status 0 of a run in threads: the journal is complete, and the text is its report.
pub record EndsThreaded (g : Given) (J : List Entry) (text : List ℕ) : Type 0 where
  pub setup : Setup
  pub seed : ℕ
  pub command : Asks g (Threads seed)
  pub trace : ReadsTrace g setup
  pub complete : IsComplete setup J
  pub told : text ≡ report setup J

-- Status 0 of `soak`: the journal is complete for the generated setup, it has a reply to each call,
-- no key is stray after it, and the text is the summary that says so; nothing was read.
pub record EndsSoaked (g : Given) (J : List Entry) (text : List ℕ) : Type 0 where
  pub setup : Setup
  pub seed : ℕ
  pub vpes : ℕ
  pub calls : ℕ
  pub command : Asks g (Soak seed vpes calls)
  pub made : setup ≡ generated seed vpes calls
  pub valid : IsSetup setup
  pub untouched : IsUntouched g
  pub complete : IsComplete setup J
  pub all_answered : length (replies J) ≡ vpes * calls
  pub none_stray : stray_count setup J (world_after setup J).sides ≡ 0
  pub told : text ≡ summary vpes (vpes * calls) (length (replies J))
      (stray_count setup J (world_after setup J).sides)

-- Status 0 of `files`: the journal is the seeded one of the setup that the file commands compile
-- to, it is complete, and the text is its report.
pub record EndsFiled (g : Given) (J : List Entry) (text : List ℕ) : Type 0 where
  pub files : FileCommands
  pub seed : ℕ
  pub command : Asks g (Files seed)
  pub read : ReadsFiles g files
  pub valid : IsSetup (compiled files)
  pub made : J ≡ seeded (compiled files) seed
  pub complete : IsComplete (compiled files) J
  pub told : text ≡ report (compiled files) J

-- Status 0: what the command asks for is done.
abbrev pub EndsDone : Given → List Entry → List ℕ → Type 0
EndsDone g J text =
    EndsReported g J text
    ⊎ (EndsAnswered g J text
    ⊎ (EndsGenerated g J text
    ⊎ (EndsThreaded g J text
    ⊎ (EndsSoaked g J text
    ⊎ EndsFiled g J text))))

-- Status 1: the words are no command; nothing was read.
pub record EndsUsage (g : Given) (J : List Entry) (text : List ℕ) : Type 0 where
  pub no_command : g.asked ≡ None
  pub untouched : IsUntouched g
  pub no_journal : J ≡ []
  pub told : text ≡ usage_line

-- Status 2 of a command that reads a trace: the input is no trace. At most a prefix of it was read.
pub record EndsTraceRefused (g : Given) (J : List Entry) (text : List ℕ) : Type 0 where
  pub seed : ℕ
  pub command : AsksRun g seed
  pub fault : TraceFault
  pub refused : IsRefusedTrace g fault
  pub read : ReadsFront g
  pub quiet : IsQuietlyRead g
  pub no_journal : J ≡ []
  pub told : text ≡ refused_line fault

-- Status 2 of `files`: the input is no text of file commands. At most a prefix of it was read.
pub record EndsFilesRefused (g : Given) (J : List Entry) (text : List ℕ) : Type 0 where
  pub seed : ℕ
  pub command : Asks g (Files seed)
  pub fault : TraceFault
  pub refused : AreRefused g fault
  pub read : ReadsFront g
  pub quiet : IsQuietlyRead g
  pub no_journal : J ≡ []
  pub told : text ≡ files_refused_line fault

-- Status 2: the input is not what the command reads.
abbrev pub EndsRefused : Given → List Entry → List ℕ → Type 0
EndsRefused g J text = EndsTraceRefused g J text ⊎ EndsFilesRefused g J text

-- Status 3: the command reads, and a read failed after a prefix of the input.
pub record EndsReadFault (g : Given) (J : List Entry) (text : List ℕ) : Type 0 where
  pub asked : Command
  pub command : Asks g asked
  pub reads : reads_input asked ≡ true
  pub read : ReadsFront g
  pub fault : Rose g.faults_before g.faults_after
  pub no_journal : J ≡ []
  pub told : text ≡ []

-- the journal is empty, or a schedule of the setup that the command runs
abbrev pub IsPartOfRun : Given → List Entry → Type 0
IsPartOfRun g J = (J ≡ []) ⊎ ((T : Setup) × RunsSetup g T × IsSchedule T J)

-- Status 5: memory was refused. At most a prefix of the input was read, and no read failed.
pub record EndsMemory (g : Given) (J : List Entry) (text : List ℕ) : Type 0 where
  pub part : IsPartOfRun g J
  pub read : ReadsFront g
  pub quiet : IsQuietlyRead g
  pub told : text ≡ []

-- Status 9: the input is not the report of a complete schedule, and the text tells why. It tells so
-- of some bytes, which are the input if that is known. At most a prefix of it was read.
pub record EndsReportRefused (g : Given) (J : List Entry) (text : List ℕ) : Type 0 where
  pub question : Question
  pub command : Asks g (Ask question)
  pub bytes : List ℕ
  pub input : IfSome g.before (λ all. all ≡ bytes)
  pub refused : IsRefusedReport bytes text
  pub read : ReadsFront g
  pub quiet : IsQuietlyRead g
  pub no_journal : J ≡ []

-- why the program would end with a status, if its text can be written
abbrev pub WouldEnd : Given → List Entry → List ℕ → Status → Type 0
WouldEnd g J text Done = EndsDone g J text
WouldEnd g J text Usage = EndsUsage g J text
WouldEnd g J text TraceRefused = EndsRefused g J text
WouldEnd g J text ReadFault = EndsReadFault g J text
WouldEnd g J text WriteFault = ⊥
WouldEnd g J text Memory = EndsMemory g J text
WouldEnd g J text ReportRefused = EndsReportRefused g J text

-- a text with that property was appended to the output
abbrev pub Writes : Output → (List ℕ → Type 0) → Type 0
Writes o P = (text : List ℕ) × P text × Appends o.before o.after text

-- a prefix of such a text was appended to the output
abbrev pub WritesPrefix : Output → (List ℕ → Type 0) → Type 0
WritesPrefix o P = (text : List ℕ) × P text × AppendsPrefix o.before o.after text

-- why the program ended with that status: with 4 it wrote a prefix of the text of some other
-- status, and all else is as for that one
abbrev pub EndsWith : Status → Given → Output → Type 0
EndsWith Done g o = Writes o (EndsDone g o.journal)
EndsWith Usage g o = Writes o (EndsUsage g o.journal)
EndsWith TraceRefused g o = Writes o (EndsRefused g o.journal)
EndsWith ReadFault g o = Writes o (EndsReadFault g o.journal)
EndsWith WriteFault g o =
    (status : Status) × WritesPrefix o (λ text. WouldEnd g o.journal text status)
EndsWith Memory g o = Writes o (EndsMemory g o.journal)
EndsWith ReportRefused g o = Writes o (EndsReportRefused g o.journal)

-- Why the program ended with its status, with what it left.
abbrev pub Ends : Given → Output → Type 0
Ends g o = EndsWith o.status g o

-- Safety: the journal is a schedule of the setup that the command runs, and after it the six
-- sentences of safety hold. It has at most 21 entries for each call of the setup and one for each
-- kill.
pub record IsSafeRun (g : Given) (J : List Entry) : Type 0 where
  pub setup : Setup
  pub runs : RunsSetup g setup
  pub schedule : IsSchedule setup J
  pub safe : IsSafe setup J
  pub few : length J ≤ 21 * call_count setup + kill_count setup

-- whether a run left the journal: with status 0 if the command runs a setup, with 4 and 5 if the
-- journal is not empty
abbrev pub IsOfRun : Given → Status → List Entry → Type 0
IsOfRun g Done J = (asked : Command) × Asks g asked × (is_run asked ≡ true)
IsOfRun g Usage J = ⊥
IsOfRun g TraceRefused J = ⊥
IsOfRun g ReadFault J = ⊥
IsOfRun g WriteFault J = J ≢ []
IsOfRun g Memory J = J ≢ []
IsOfRun g ReportRefused J = ⊥
