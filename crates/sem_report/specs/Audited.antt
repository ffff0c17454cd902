-- Comparing audits: where the told audit of a setup and journal differs from the due one.
use Rattle.std.specs.Prelude.{◌≡◌, ◌≢◌, ℕ, ◌<◌, List, length, take, slice_index_or, Option}
use Rattle.sem_msg.specs.declared.audit.Audit.{Audit}
use Rattle.sem_msg.specs.declared.audit.Held.{Held}
use Rattle.sem_msg.specs.declared.entry.Entry.{Entry}
use Rattle.sem_msg.specs.Audits.{held_pairs}
use Rattle.sem_msg.specs.Prelude.{Setup}
use Rattle.sem_journal.specs.ReportText.{report_text}
use Rattle.sem_report.specs.WholeLines.{whole_lines}
use Rattle.sem_report.specs.ReportRefusal.{first_difference}
use Rattle.sem_report.specs.ReportRanges.{ReportFits}

-- the text of a report with this audit
abbrev pub audited : Setup → List Entry → Audit → List ℕ
audited T J a = report_text T J a.made a.cut (held_pairs a.held)

-- a report of this setup and journal can have this audit
abbrev pub AuditFits : Setup → List Entry → Audit → Type 0
AuditFits T J a = ReportFits T J a.made a.cut (held_pairs a.held)

-- the first line in which a text differs from the report with the due audit
abbrev pub first_wrong_line : List ℕ → Setup → List Entry → Audit → Option ℕ
first_wrong_line bytes T J due = first_difference 1 (whole_lines bytes) (whole_lines (audited T J due))

-- the first place at which two lists differ
pub record DifferFirst (told due : List Held) (at : ℕ) : Type 0 where
  pub there : at < length told
  pub there_too : at < length due
  pub before : take at told ≡ take at due
  pub other : (d : Held) → slice_index_or told at d ≢ slice_index_or due at d
