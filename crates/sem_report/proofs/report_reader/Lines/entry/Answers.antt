use Rattle.std.proofs.lemmas.Result.{err_from_is_err_and}
use Rattle.sem_journal.specs.EntryForms.{entry_form}
use Rattle.sem_report.proofs.ReportSteps.{missing_stops, line_follows, line_stops}
use Rattle.sem_report.proofs.report_reader.Lines.entry.Goals as goal

pub returns-in_err-line-clause-err : goal.returns-in_err-line-clause-err
returns-in_err-line-clause-err c =
    let p = err_from_is_err_and c.from_residual.result c.from_residual.ensures.1 in
    rw (p.1, p.2) (missing_stops (entry_form c.args.version c.args.kernels) _ _ _ c.in_err-line.ensures.err)

pub returns-in-Ok-clause-ok : goal.returns-in-Ok-clause-ok
returns-in-Ok-clause-ok c = line_follows (entry_form c.args.version c.args.kernels) _ _ _ _ _ c.in_ok-line.ensures.ok c.in-Ok.ensures.ok

pub returns-in-Err-clause-err : goal.returns-in-Err-clause-err
returns-in-Err-clause-err c =
    rw c.at_line.ensures (line_stops (entry_form c.args.version c.args.kernels) _ _ _ _ _ _ c.in_ok-line.ensures.ok c.in-Err.ensures.err)
