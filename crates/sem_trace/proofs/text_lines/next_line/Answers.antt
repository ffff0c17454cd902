use Rattle.std.proofs.Common.{sym}
use Rattle.sem_trace.proofs.FirstParts.{line_found, no_line}
use Rattle.sem_trace.proofs.text_lines.next_line.Goals as goal

pub returns-in_err-end : goal.returns-in_err-end
returns-in_err-end c = rw c.from_residual.ensures (no_line c.args.text.now (sym c.in_err-end.ensures))

pub split_at-requires : goal.split_at-requires
split_at-requires c = (line_found c.args.text.now c.in_ok-end.end c.in_ok-end.next c.in_ok-end.ensures).within

pub split_at-requires-2 : goal.split_at-requires-2
split_at-requires-2 c = (line_found c.args.text.now c.in_ok-end.end c.in_ok-end.next c.in_ok-end.ensures).next_within

pub returns : goal.returns
returns c =
    let found = line_found c.args.text.now c.in_ok-end.end c.in_ok-end.next c.in_ok-end.ensures in
    rw (c.split_at.ensures.front, c.split_at-2.ensures.back) found.lines
