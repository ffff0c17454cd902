use Rattle.sem_run.proofs.Accepting.{accepts, one-line}
use Rattle.sem_run.proofs.accepts.reports_are_accepted.Goals as goal

-- what is the report of a complete schedule
pub returns-clause-accepts : goal.returns-clause-accepts
returns-clause-accepts c =
    accepts c.reports_are_read.ensures c.one_report.ensures c.a_journal_has_one_verdict.ensures.schedule c.a_journal_has_one_verdict.ensures.quiet

-- two verdicts
pub returns-clause-one_line : goal.returns-clause-one_line
returns-clause-one_line c =
    one-line c.reports_are_read.ensures c.one_report.ensures c.a_journal_has_one_verdict.ensures.schedule c.a_journal_has_one_verdict.ensures.quiet
    c.a_journal_has_one_verdict.ensures.one_difference c.a_journal_has_one_verdict.ensures.one_next
