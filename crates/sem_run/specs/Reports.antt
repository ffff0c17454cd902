-- Which texts are the report of a complete schedule, and the verdict on any text ("The command
-- line" in docs/texts.md).
use Rattle.std.specs.Prelude.{◌≡◌, ℕ, Bool, true, false, List, length, Some, None}
use Rattle.sem_machine.specs.Prelude.{KeyName, Audit, Entry, Setup, IsSetup, IsComplete}
use Rattle.sem_trace.specs.declared.fault.Cause.TheVariants.{NotCanonical}
use Rattle.sem_journal.specs.ReportText.{report_text}
use Rattle.sem_report.specs.declared.verdict.Verdict.{Verdict}
use Rattle.sem_report.specs.declared.verdict.Verdict.TheVariants.{Accepted, BadLine, BadEntry, NotOver, BadAudit}
use Rattle.sem_report.specs.Audited.{first_wrong_line}
use Rattle.sem_trace.specs.Forms.{whole_line}
use Rattle.sem_trace.specs.LineErrors.{fault_of}
use Rattle.sem_report.specs.ReportRefusal.{report_refusal}
use Rattle.sem_report.specs.ReportRanges.{ReportFits}
use Rattle.sem_audit.specs.Reported.{report, IsAuditOf}
use Rattle.sem_check.specs.Replays.{DiffersAt}
use Rattle.sem_check.specs.Verdicts.{GoesOn}
use Rattle.sem_cli.specs.Messages.{ok_line}
use Rattle.sem_cli.specs.Refusals.{bad_line, differing_line as differing_entry, going_on_line}

-- The bytes are the report of a complete schedule of a setup.
pub record IsReport (bytes : List ℕ) : Type 0 where
  pub setup : Setup
  pub entries : List Entry
  pub valid : IsSetup setup
  pub complete : IsComplete setup entries
  pub spelled : bytes ≡ report setup entries

-- No line of the bytes is bad, and they tell this setup and this journal, with some audit.
pub record TellsReport (bytes : List ℕ) (T : Setup) (J : List Entry) : Type 0 where
  pub made : ℕ
  pub cut : ℕ
  pub held : List (KeyName × ℕ)
  pub fits : ReportFits T J made cut held
  pub spelled : bytes ≡ report_text T J made cut held
  pub accepted : report_refusal bytes ≡ None

-- The bytes tell this journal, a complete schedule of the setup, and this is its audit.
pub record TellsComplete (bytes : List ℕ) (T : Setup) (J : List Entry) (due : Audit) : Type 0 where
  pub tells : TellsReport bytes T J
  pub complete : IsComplete T J
  pub audit : IsAuditOf T J due

-- The verdict on bytes. Each verdict but the first supposes that no verdict between the first and
-- it applies.
abbrev pub IsVerdict : List ℕ → Verdict → Type 0
-- they are the report of a complete schedule
IsVerdict bytes (Accepted T journal due) =
    TellsComplete bytes T journal.entries due × (bytes ≡ report T journal.entries)
-- a line is bad
IsVerdict bytes (BadLine fault) = report_refusal bytes ≡ Some fault
-- an entry is not the one that its event makes, or its event is not enabled
IsVerdict bytes (BadEntry journal n entered replayed) =
    (T : Setup) × TellsReport bytes T journal.entries
    × DiffersAt T journal.entries n entered replayed
-- an event is enabled after the last entry
IsVerdict bytes (NotOver journal next) =
    (T : Setup) × TellsReport bytes T journal.entries
    × GoesOn T journal.entries (length journal.entries) next
-- the schedule is complete, and one line, a line of the audit, differs from its report
IsVerdict bytes (BadAudit line due) =
    (T : Setup) × (J : List Entry) × TellsComplete bytes T J due
    × (first_wrong_line bytes T J due ≡ Some line)

abbrev pub is_accepted : Verdict → Bool
is_accepted (Accepted setup journal due) = true
is_accepted (BadLine fault) = false
is_accepted (BadEntry journal n entered replayed) = false
is_accepted (NotOver journal next) = false
is_accepted (BadAudit line due) = false

-- the line that tells a verdict
abbrev pub verdict_line : Verdict → List ℕ
verdict_line (Accepted setup journal due) = ok_line
verdict_line (BadLine fault) = bad_line fault
verdict_line (BadEntry journal n entered replayed) = differing_entry n entered replayed
verdict_line (NotOver journal next) = going_on_line (length journal.entries) next
verdict_line (BadAudit line due) = bad_line (fault_of line (whole_line NotCanonical))

-- Why bytes are refused as the report of a complete schedule, with the text that says so.
pub record IsRefusedReport (bytes text : List ℕ) : Type 0 where
  pub verdict : Verdict
  pub found : IsVerdict bytes verdict
  pub refused : is_accepted verdict ≡ false
  pub told : text ≡ verdict_line verdict
