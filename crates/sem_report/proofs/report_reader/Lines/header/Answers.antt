use Rattle.std.proofs.lemmas.Result.{err_from_is_err_and}
use Rattle.sem_report.proofs.ReportSteps.{first_missing, first_good, first_bad, first_told}
use Rattle.sem_report.proofs.report_reader.Lines.header.Goals as goal

pub returns-in_err-line-clause-err : goal.returns-in_err-line-clause-err
returns-in_err-line-clause-err c =
    let p = err_from_is_err_and c.from_residual.result c.from_residual.ensures.1 in
    rw (p.1, p.2) (first_missing _ _ _ c.requires.start c.in_err-line.ensures.err)

pub returns-in-Ok-clause-ok : goal.returns-in-Ok-clause-ok
returns-in-Ok-clause-ok c = first_good _ _ _ _ _ c.in_ok-line.ensures.ok c.in-Ok.ensures.ok

pub returns-in-Err-clause-err : goal.returns-in-Err-clause-err
returns-in-Err-clause-err c = rw c.at_line.ensures (first_bad _ _ _ _ _ _ c.requires.start c.in_ok-line.ensures.ok c.in-Err.ensures.err)

pub returns-in-Ok-clause-version : goal.returns-in-Ok-clause-version
returns-in-Ok-clause-version c = first_told _ _ _ _ _ _ c.in_ok-line.ensures.ok c.in-Ok.ensures.version
