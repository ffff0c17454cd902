use Rattle.sem_report.proofs.PrintedReport.{report_read}
use Rattle.sem_report.proofs.laws.reports_are_read.Goals as goal

pub returns : goal.returns
returns c = report_read c.canonical_stands.ensures
