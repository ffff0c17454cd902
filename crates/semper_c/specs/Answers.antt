-- What each function of the library answers, and how it hands the answer to its caller ("What a
-- call promises" in docs/embedding.md).
use Rattle.std.specs.Prelude.{◌≡◌, ◌⊎◌, ℕ, ◌<◌, ◌≤◌, List, [], ◌++◌, length, drop, Some}
use Rattle.sem_machine.specs.Prelude.{Entry, Setup, IsSetup, seeded, IsComplete}
use Rattle.sem_trace.specs.declared.fault.TraceFault.{TraceFault}
use Rattle.sem_trace.specs.Refusal.{refusal}
use Rattle.sem_trace.specs.SetupOfText.{Stands}
use Rattle.sem_machine.specs.Safety.{IsSafe}
use Rattle.sem_audit.specs.Reported.{report}
use Rattle.sem_cli.specs.declared.forms.Question.{Question}
use Rattle.sem_cli.specs.declared.statuses.Status.{Status}
use Rattle.sem_cli.specs.declared.statuses.Status.TheVariants.{Done, Usage, TraceRefused, ReadFault, WriteFault}
use Rattle.sem_cli.specs.declared.statuses.Status.TheVariants.{Memory, ReportRefused}
use Rattle.sem_cli.specs.Messages.{refused_line}
use Rattle.sem_cli.specs.Statuses.{status_number}
use Rattle.sem_run.specs.Reports.{IsReport, IsRefusedReport}
use Rattle.sem_run.specs.Ends.{IsAnswer}

-- The text is the report of the seeded journal of the trace, and that journal is complete and safe.
pub record IsSeededReport (trace : List ℕ) (seed : ℕ) (text : List ℕ) : Type 0 where
  pub setup : Setup
  pub valid : IsSetup setup
  pub stands : Stands trace setup
  pub complete : IsComplete setup (seeded setup seed)
  pub safe : IsSafe setup (seeded setup seed)
  pub told : text ≡ report setup (seeded setup seed)

-- The text is the line that refuses the trace.
pub record IsTraceRefused (trace text : List ℕ) : Type 0 where
  pub fault : TraceFault
  pub refused : refusal trace ≡ Some fault
  pub told : text ≡ refused_line fault

-- the answer to a trace and a seed: a status and a text
abbrev pub RunAnswer : (trace : List ℕ) (seed : ℕ) → Status → List ℕ → Type 0
RunAnswer trace seed Done text = IsSeededReport trace seed text
RunAnswer trace seed Usage text = ⊥
RunAnswer trace seed TraceRefused text = IsTraceRefused trace text
RunAnswer trace seed ReadFault text = ⊥
RunAnswer trace seed WriteFault text = ⊥
RunAnswer trace seed Memory text = text ≡ []
RunAnswer trace seed ReportRefused text = ⊥

-- The bytes are the report of a complete schedule, and the text answers the question about it.
pub record AnswersQuestion (question : Question) (bytes text : List ℕ) : Type 0 where
  pub setup : Setup
  pub entries : List Entry
  pub valid : IsSetup setup
  pub complete : IsComplete setup entries
  pub spelled : bytes ≡ report setup entries
  pub told : IsAnswer question setup entries text

-- the answer to a question about a report: a status and a text
abbrev pub ReportAnswer : Question → (bytes : List ℕ) → Status → List ℕ → Type 0
ReportAnswer question bytes Done text = AnswersQuestion question bytes text
ReportAnswer question bytes Usage text = ⊥
ReportAnswer question bytes TraceRefused text = ⊥
ReportAnswer question bytes ReadFault text = ⊥
ReportAnswer question bytes WriteFault text = ⊥
ReportAnswer question bytes Memory text = text ≡ []
ReportAnswer question bytes ReportRefused text = (¬ IsReport bytes) × IsRefusedReport bytes text

-- the number for a buffer that is too small; no status of the program has it
abbrev pub too_small : ℕ
too_small = 10

-- The text is at the front of the buffer, and the number is that of the status.
pub record TellsStatus (status : Status) (text before after : List ℕ) (number : ℕ) : Type 0 where
  pub fits : length text ≤ length before
  pub written : after ≡ text ++ drop (length text) before
  pub numbered : number ≡ status_number status

-- The text is longer than the buffer, which is as before, and the number says so.
pub record IsTooLong (text before after : List ℕ) (number : ℕ) : Type 0 where
  pub longer : length before < length text
  pub untouched : after ≡ before
  pub numbered : number ≡ too_small

-- The answer is handed over: the buffer before and after, the count of the bytes of the text, and
-- the returned number.
pub record Hands
    (Answer : Status → List ℕ → Type 0) (before after : List ℕ)
    (count number : ℕ) : Type 0 where
  pub status : Status
  pub text : List ℕ
  pub answer : Answer status text
  pub counted : count ≡ length text
  pub handed : TellsStatus status text before after number ⊎ IsTooLong text before after number
