use Rattle.std.proofs.Common.{refl}
use Rattle.sem_report.proofs.ReportSteps.{no_lines_more, line_more}
use Rattle.sem_report.proofs.report_reader.Lines.finish.Goals as goal

pub returns-in-None-clause-ok : goal.returns-in-None-clause-ok
returns-in-None-clause-ok c = no_lines_more _ _ c.in-None.ensures.lines

pub returns-in-Some-clause-err : goal.returns-in-Some-clause-err
returns-in-Some-clause-err c = rw (
  c.refused.ensures,
  c.unwrap_or-cause.ensures,
  c.bytes_fault.ensures,
  c.in-Some.ensures.content,
) (line_more _ _ _ _ _ c.in-Some.ensures.lines refl)
