use Rattle.std.proofs.Common.{sym}
use Rattle.sem_report.proofs.TextInLines.{whole_found, no_lines}
use Rattle.sem_report.proofs.lines.next_whole_line.Goals as goal

pub returns-in_err-end-clause-lines : goal.returns-in_err-end-clause-lines
returns-in_err-end-clause-lines c = rw c.from_residual.ensures (no_lines c.args.text.now (sym c.in_err-end.ensures))

pub split_at-requires : goal.split_at-requires
split_at-requires c = (whole_found c.args.text.now c.in_ok-end.end c.in_ok-end.next c.in_ok-end.ensures).within

pub split_at-requires-2 : goal.split_at-requires-2
split_at-requires-2 c = (whole_found c.args.text.now c.in_ok-end.end c.in_ok-end.next c.in_ok-end.ensures).next_within

pub returns-clause-lines : goal.returns-clause-lines
returns-clause-lines c =
    let found = whole_found c.args.text.now c.in_ok-end.end c.in_ok-end.next c.in_ok-end.ensures in
    rw (c.split_at-2.ensures.front, c.split_at-2.ensures.back) found.lines

pub returns-clause-content : goal.returns-clause-content
returns-clause-content c =
    let found = whole_found c.args.text.now c.in_ok-end.end c.in_ok-end.next c.in_ok-end.ensures in
    rw (c.split_at.ensures.front, c.split_at-2.ensures.front) found.content

pub returns-clause-lead : goal.returns-clause-lead
returns-clause-lead c =
    let found = whole_found c.args.text.now c.in_ok-end.end c.in_ok-end.next c.in_ok-end.ensures in
    rw (c.split_at-2.ensures.front, c.split_at-2.ensures.back) found.lead
