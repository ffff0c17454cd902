use Rattle.std.proofs.Common.{Some, None, sym, arith}
use Rattle.sem_report.specs.WholeLines.{whole_lines}
use Rattle.sem_report.proofs.TextInLines.{shorter}
use Rattle.sem_report.proofs.TraceHead.{head_nothing, head_bytes, head_words, head_next}
use Rattle.sem_report.proofs.trace_head.head_fault.Goals as goal

pub returns-in-Some-bytes_fault : goal.returns-in-Some-bytes_fault
returns-in-Some-bytes_fault c = head_bytes c.args.version c.args.first c.loop-line.number (whole_lines c.args.section.now) (whole_lines c.loop-line.rest.now)
    (whole_lines c.in-Some.behind.now) c.in-Some.line.whole.now c.in-Some-bytes_fault.cause c.loop-line.invariant.same c.in-Some.ensures.lines
    (sym (rw c.in-Some.ensures.content at c.in-Some-bytes_fault.ensures))

pub returns-in-Ok : goal.returns-in-Ok
returns-in-Ok c = head_words c.args.version c.args.first c.loop-line.number (whole_lines c.args.section.now) (whole_lines c.loop-line.rest.now)
    (whole_lines c.in-Some.behind.now) c.in-Some.line.whole.now None c.loop-line.invariant.same c.in-Some.ensures.lines
    (sym (rw c.in-Some.ensures.content at c.in_default-bytes_fault.ensures)) (sym (rw c.in-Some.ensures.content at c.if-is_significant.ensures))
    (rw c.in-Some.ensures.content at c.in-Ok.ensures)

pub returns-in-Err : goal.returns-in-Err
returns-in-Err c = head_words c.args.version c.args.first c.loop-line.number (whole_lines c.args.section.now) (whole_lines c.loop-line.rest.now)
    (whole_lines c.in-Some.behind.now) c.in-Some.line.whole.now (Some c.in-Err.fault) c.loop-line.invariant.same c.in-Some.ensures.lines
    (sym (rw c.in-Some.ensures.content at c.in_default-bytes_fault.ensures)) (sym (rw c.in-Some.ensures.content at c.if-is_significant.ensures))
    (rw c.in-Some.ensures.content at c.in-Err.ensures)

pub loop-line-preserved : goal.loop-line-preserved
loop-line-preserved c =
    let less = shorter _ _ _ c.in-Some.ensures.text c.in-Some.ensures.some in
    record {
      room = omega (arith, c.loop-line.invariant.room, less);
      same = head_next c.args.version c.args.first c.loop-line.number (whole_lines c.args.section.now) (whole_lines c.loop-line.rest.now)
          (whole_lines c.in-Some.behind.now) c.in-Some.line.whole.now c.loop-line.invariant.same c.in-Some.ensures.lines
          (sym (rw c.in-Some.ensures.content at c.in_default-bytes_fault.ensures)) (sym (rw c.in-Some.ensures.content at c.if-is_significant.ensures));
    }

pub returns : goal.returns
returns c = head_nothing c.args.version c.args.first c.loop-line.number (whole_lines c.args.section.now)
    (whole_lines c.loop-line.rest.now) c.loop-line.invariant.same c.in_default.ensures.lines
