use Rattle.sem_msg.specs.Audits.{held_pairs}
use Rattle.sem_report.proofs.LinesJoined.{OnOk-then, text-report}
use Rattle.sem_report.proofs.report.push_report.Goals as goal

pub returns : goal.returns
returns c = record {
  ok =
      OnOk-then c.push_audit.result c.push_audit.ensures.ok (text-report c.args.setup.now c.args.journal.now.entries c.args.audit.now.made c.args.audit.now.cut
      (held_pairs c.args.audit.now.held) _ _ _ _ c.in_ok-push_head.ensures.ok c.in_ok-push_entries.ensures.ok);
}
