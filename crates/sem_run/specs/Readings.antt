-- Words of private contracts: what a response says, and how a run of a setup ends.
use Rattle.std.specs.Prelude.{◌≡◌, ℕ, true, false, List, [], length, map, Option, None, Result, Ok, Err}
use Rattle.sem_machine.specs.Prelude.{Audit, Entry, replies, Setup, IsSetup, world_after, IsComplete}
use Rattle.sem_files.specs.Files.{Files}
use Rattle.sem_files.specs.Compiled.{compiled}
use Rattle.sem_kernel.specs.KernelValue.{KernelValue}
use Rattle.sem_audit.specs.Reported.{report}
use Rattle.sem_audit.specs.Straying.{stray_count}
use Rattle.sem_cli.specs.declared.forms.Command.{Command}
use Rattle.sem_cli.specs.declared.forms.Question.{Question}
use Rattle.sem_cli.specs.declared.statuses.Status.{Status}
use Rattle.sem_cli.specs.declared.statuses.Status.TheVariants.{Done, Usage, TraceRefused, ReadFault, WriteFault}
use Rattle.sem_cli.specs.declared.statuses.Status.TheVariants.{Memory, ReportRefused}
use Rattle.sem_cli.specs.Summary.{summary}
use Rattle.sem_cli.specs.Commands.{command_of}
use Rattle.sem_run.specs.declared.response.Response.{Response}
use Rattle.sem_report.specs.declared.verdict.Verdict.{Verdict}
use Rattle.sem_report.specs.declared.verdict.Verdict.TheVariants.{Accepted, BadLine, BadEntry, NotOver, BadAudit}
use Rattle.sem_report.specs.Audited.{audited, AuditFits}
use Rattle.sem_report.specs.ReportRefusal.{report_refusal}
use Rattle.sem_run.specs.Inputs.{Given, ReadsFiles}
use Rattle.sem_run.specs.Reports.{is_accepted, verdict_line}
use Rattle.sem_run.specs.Ends.{IsAnswer, WouldEnd}
use Rattle.sem_run.specs.Texts.{text_of}

-- some words ask for that command
abbrev pub IsAsked : Option Command → Type 0
IsAsked asked = (words : List (List ℕ)) × (command_of words ≡ asked)

-- the program can end with the response
abbrev pub Responds : Given → Response → Type 0
Responds g r = WouldEnd g r.journal.entries (text_of r.text r.journal.entries) r.status

-- the input is refused with this line, or memory was refused
abbrev pub IsRefusalTold : List ℕ → List ℕ → Status → Type 0
IsRefusalTold line text Done = ⊥
IsRefusalTold line text Usage = ⊥
IsRefusalTold line text TraceRefused = text ≡ line
IsRefusalTold line text ReadFault = ⊥
IsRefusalTold line text WriteFault = ⊥
IsRefusalTold line text Memory = text ≡ []
IsRefusalTold line text ReportRefused = ⊥

-- the response to an input that is refused with this line
abbrev pub TellsRefusal : List ℕ → Response → Type 0
TellsRefusal line r =
    (r.journal.entries ≡ [])
    × IsRefusalTold line (text_of r.text r.journal.entries) r.status

-- The input was read to its end, and stands for file commands that compile to the setup.
pub record ReadsService (g : Given) (T : Setup) : Type 0 where
  pub files : Files
  pub read : ReadsFiles g files
  pub made : T ≡ compiled files
  pub valid : IsSetup T

-- how a run of a setup ends: with the report of a complete journal, or for lack of memory
abbrev pub EndsRun : Setup → List Entry → List ℕ → Status → Type 0
EndsRun T J text Done = IsComplete T J × (text ≡ report T J)
EndsRun T J text Usage = ⊥
EndsRun T J text TraceRefused = ⊥
EndsRun T J text ReadFault = ⊥
EndsRun T J text WriteFault = ⊥
EndsRun T J text Memory = text ≡ []
EndsRun T J text ReportRefused = ⊥

-- it is a success, and its value has that property
abbrev pub IsOkWith : {A E : Type 0} → (A → Type 0) → Result A E → Type 0
IsOkWith P (Ok a) = P a
IsOkWith P (Err e) = ⊥

-- how the run of a load of that many VPEs and calls ends: with the summary of its journal, or for
-- lack of memory
abbrev pub IsLoadTold : Setup → List Entry → ℕ → ℕ → List ℕ → Status → Type 0
IsLoadTold T J vpes calls text Done =
    text ≡ summary vpes calls (length (replies J)) (stray_count T J (world_after T J).sides)
IsLoadTold T J vpes calls text Usage = ⊥
IsLoadTold T J vpes calls text TraceRefused = ⊥
IsLoadTold T J vpes calls text ReadFault = ⊥
IsLoadTold T J vpes calls text WriteFault = ⊥
IsLoadTold T J vpes calls text Memory = text ≡ []
IsLoadTold T J vpes calls text ReportRefused = ⊥

-- these are the kernels after the journal
abbrev pub AreAfter : Setup → List Entry → List KernelValue → Type 0
AreAfter T J kernels = map (λ k. k.side) kernels ≡ (world_after T J).sides

-- if the report is accepted, the text answers the question, otherwise it tells the verdict
abbrev pub TellsAnswer : Question → Verdict → List ℕ → Type 0
TellsAnswer question (Accepted T journal due) text = IsAnswer question T journal.entries text
TellsAnswer question (BadLine fault) text = text ≡ verdict_line (BadLine fault)
TellsAnswer question (BadEntry journal n entered replayed) text =
    text ≡ verdict_line (BadEntry journal n entered replayed)
TellsAnswer question (NotOver journal next) text = text ≡ verdict_line (NotOver journal next)
TellsAnswer question (BadAudit line due) text = text ≡ verdict_line (BadAudit line due)

-- a verdict is told, or memory was refused
abbrev pub IsVerdictTold : Question → Verdict → List ℕ → Status → Type 0
IsVerdictTold question verdict text Done =
    (is_accepted verdict ≡ true) × TellsAnswer question verdict text
IsVerdictTold question verdict text Usage = ⊥
IsVerdictTold question verdict text TraceRefused = ⊥
IsVerdictTold question verdict text ReadFault = ⊥
IsVerdictTold question verdict text WriteFault = ⊥
IsVerdictTold question verdict text Memory = text ≡ []
IsVerdictTold question verdict text ReportRefused =
    (is_accepted verdict ≡ false) × TellsAnswer question verdict text

-- the response to a text with that verdict
abbrev pub TellsVerdict : Question → Verdict → Response → Type 0
TellsVerdict question verdict r =
    (r.journal.entries ≡ [])
    × IsVerdictTold question verdict (text_of r.text r.journal.entries) r.status

-- no line of the bytes is bad, and they tell this setup, journal and audit
pub record TellsAudit (bytes : List ℕ) (T : Setup) (J : List Entry) (told : Audit) : Type 0 where
  pub fits : AuditFits T J told
  pub spelled : bytes ≡ audited T J told
  pub accepted : report_refusal bytes ≡ None
