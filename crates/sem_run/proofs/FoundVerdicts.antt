-- The verdict on bytes that tell a setup and a journal.
use Rattle.std.proofs.Common.{◌≡◌, ℕ, List, None, Result, Ok, Err, refl, ◌∙◌, ap}
use Rattle.std.specs.Prelude.{IsErrOf}
use Rattle.sem_msg.specs.declared.audit.Audit.{Audit}
use Rattle.sem_msg.specs.declared.entry.Entry.{Entry}
use Rattle.sem_msg.specs.Audits.{held_pairs}
use Rattle.sem_msg.specs.Setup.{Setup}
use Rattle.sem_machine.specs.Living.{IsComplete}
use Rattle.sem_report.specs.Audited.{audited, AuditFits, first_wrong_line}
use Rattle.sem_report.proofs.TraceInReport.{same_text}
use Rattle.sem_audit.specs.Reported.{report, IsAuditOf}
use Rattle.sem_run.specs.Reports.{TellsReport, TellsComplete}
use Rattle.sem_run.specs.Readings.{TellsAudit}
use Rattle.sem_run.proofs.Accepting.{report-fits}

-- an error is the same, whatever a success would have been
pub same-error : {A B E : Type 0} (x y : E) → IsErrOf {T = A} (Err x) y → IsErrOf {T = B} (Err x) y
same-error x y same = ap Err (ap (error_or y) same)
  where
    error_or : {A E : Type 0} → E → Result A E → E
    error_or other (Ok a) = other
    error_or other (Err e) = e

module _ (bytes : List ℕ) (T : Setup) (J : List Entry) (told : Audit) (tells : TellsAudit bytes T J told) where
  pub tells-report : TellsReport bytes T J
  tells-report = record { made = told.made; cut = told.cut; held = held_pairs told.held; fits = tells.fits; spelled = tells.spelled; accepted = tells.accepted }

  module _ (complete : IsComplete T J) (due : Audit) (audit : IsAuditOf T J due) where
    pub tells-complete : TellsComplete bytes T J due
    tells-complete = record { tells = tells-report; complete = complete; audit = audit }

    -- what is printed with the audit that is due is the report
    pub due-report : audited T J due ≡ report T J
    due-report = rw (audit.made, audit.cut, audit.held) refl

    pub due-fits : AuditFits T J due
    due-fits = rw (audit.made, audit.cut, audit.held) (report-fits T tells.fits.trace J complete.schedule)

    pub is-report : None ≡ first_wrong_line bytes T J due → bytes ≡ report T J
    is-report same = same_text 1 bytes (audited T J due) same ∙ due-report
