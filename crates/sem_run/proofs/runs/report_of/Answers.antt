use Rattle.sem_run.proofs.ReportParts.{report-parts}
use Rattle.sem_run.proofs.runs.report_of.Goals as goal

pub returns : goal.returns
returns c = report-parts c.args.setup.now c.args.journal.now.entries c.in_ok-audit.audit _ _ _ _ _ c.new-head.ensures.items c.in_ok-push_head.ensures.ok
    c.in_ok-new.ensures c.new-tail.ensures.items c.in_ok-push_audit.ensures.ok c.in_ok-audit.ensures
