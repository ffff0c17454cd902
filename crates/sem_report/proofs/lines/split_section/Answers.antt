use Rattle.std.proofs.Common.{sym, arith}
use Rattle.sem_report.proofs.TextInLines.{OneLine, cut_nothing, cut_more, section_ends, section_open}
use Rattle.sem_report.proofs.lines.split_section.Goals as goal

pub loop-line-init : goal.loop-line-init
loop-line-init c = cut_nothing c.args.text.now

pub loop-line-preserved : goal.loop-line-preserved
loop-line-preserved c =
    let one : OneLine c.loop-line.rest.now c.in-Some.line.whole.now c.in-Some.behind.now = record {
      text = c.in-Some.ensures.text;
      some = c.in-Some.ensures.some;
      lines = c.in-Some.ensures.lines;
      lead = c.in-Some.ensures.lead;
    } in
    cut_more c.args.text.now c.loop-line.rest.now c.in-Some.line.whole.now c.in-Some.behind.now _ _ c.loop-line.invariant one (sym c.if-is_end_line.ensures)

pub overflow_add-number : goal.overflow_add-number
overflow_add-number c = omega (arith, c.loop-line.invariant.few, c.loop-line.invariant.within, c.requires)

pub returns-then-is_end_line : goal.returns-then-is_end_line
returns-then-is_end_line c =
    let one : OneLine c.loop-line.rest.now c.in-Some.line.whole.now c.in-Some.behind.now = record {
      text = c.in-Some.ensures.text;
      some = c.in-Some.ensures.some;
      lines = c.in-Some.ensures.lines;
      lead = c.in-Some.ensures.lead;
    } in
    let parts = section_ends c.args.text.now c.loop-line.rest.now c.in-Some.line.whole.now c.in-Some.behind.now _ _ _ c.loop-line.invariant one
    (sym c.if-is_end_line.ensures) c.split_at.ensures.front in
    record { section = parts.section_lines; behind = parts.behind_lines; number = parts.count; text = parts.parts }

pub returns : goal.returns
returns c =
    let parts = section_open c.args.text.now c.loop-line.rest.now _ _ _ c.loop-line.invariant c.in_default.ensures.text c.split_at-2.ensures.front in
    record { section = parts.section_lines; behind = parts.behind_lines; number = parts.count; text = parts.parts }
