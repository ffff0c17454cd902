use Rattle.sem_report.proofs.LinesJoined.{OnOk-then, text-head}
use Rattle.sem_report.proofs.report.push_head.Goals as goal

pub returns : goal.returns
returns c = record {
  ok = OnOk-then c.push_line.result (rw c.len.ensures at c.push_line.ensures.ok)
      (text-head c.args.setup.now c.args.journal.now.entries _ _ _ _ c.in_ok-push_header.ensures.ok c.in_ok-push_trace.ensures.ok);
}
