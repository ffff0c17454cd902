-- Which texts are the texts of reports ("The report" in docs/texts.md).
use Rattle.std.specs.Prelude.{◌≡◌, ℕ, List}
use Rattle.sem_msg.specs.Prelude.{KeyName, Setup}
use Rattle.sem_msg.specs.declared.entry.Entry.{Entry}
use Rattle.sem_journal.specs.ReportText.{report_text}
use Rattle.sem_report.specs.ReportRanges.{ReportFits}

-- the text is that of a report of this setup, this journal and this audit
pub record IsReportText (bytes : List ℕ) : Type 0 where
  pub setup : Setup
  pub entries : List Entry
  pub made : ℕ
  pub cut : ℕ
  pub held : List (KeyName × ℕ)
  pub fits : ReportFits setup entries made cut held
  pub spelled : bytes ≡ report_text setup entries made cut held
