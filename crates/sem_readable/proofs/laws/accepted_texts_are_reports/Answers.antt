use Rattle.sem_readable.proofs.Readable.{report_of}
use Rattle.sem_readable.proofs.laws.accepted_texts_are_reports.Goals as goal

pub returns : goal.returns
returns c = report_of
