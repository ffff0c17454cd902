use Rattle.std.proofs.Common.{◌∙◌, ap, sym, arith}
use Rattle.std.proofs.lemmas.Slice.Eq.{bytes_eq-Decides}
use Rattle.sem_report.specs.WholeLines.{whole_lines}
use Rattle.sem_report.specs.ReportRefusal.{first_difference}
use Rattle.sem_report.proofs.TextInLines.{shorter}
use Rattle.sem_report.proofs.LineForms.{nothing_differs, shorter_differs, both_end, longer_differs, line_differs, line_same}
use Rattle.sem_report.proofs.lines.first_difference.Goals as goal

pub returns-then-same : goal.returns-then-same
returns-then-same c =
    let is = (bytes_eq-Decides c.args.text.now c.args.other.now).0 (sym c.same.ensures ∙ c.if-same.true) in
    sym (nothing_differs c.args.first (whole_lines c.args.text.now)) ∙ ap (λ t. first_difference c.args.first (whole_lines c.args.text.now) (whole_lines t)) is

pub returns-in-Some-next_whole_line : goal.returns-in-Some-next_whole_line
returns-in-Some-next_whole_line c =
    shorter_differs _ _ _ _ _ _ _ _ c.loop-line.invariant.same c.in_default.ensures.lines c.in-Some-next_whole_line.ensures.lines

pub returns-in-None : goal.returns-in-None
returns-in-None c = both_end _ _ _ _ _ _ c.loop-line.invariant.same c.in_default.ensures.lines c.in-None.ensures.lines

pub returns-in_default-next_whole_line : goal.returns-in_default-next_whole_line
returns-in_default-next_whole_line c =
    longer_differs _ _ _ _ _ _ _ _ c.loop-line.invariant.same c.in-Some.ensures.lines c.in_default-next_whole_line.ensures.lines

pub returns-then-not-same : goal.returns-then-not-same
returns-then-not-same c = line_differs _ _ _ _ _ _ _ _ _ _ c.loop-line.invariant.same c.in-Some.ensures.lines c.in-Some-next_whole_line-2.ensures.lines
    (sym c.if-not-same.ensures)

pub loop-line-preserved : goal.loop-line-preserved
loop-line-preserved c =
    let less = shorter _ _ _ c.in-Some.ensures.text c.in-Some.ensures.some in
    record {
      room = omega (arith, c.loop-line.invariant.room, less);
      same = line_same _ _ _ _ _ _ _ _ _ _ c.loop-line.invariant.same c.in-Some.ensures.lines c.in-Some-next_whole_line-2.ensures.lines
          (sym c.if-not-same.ensures);
    }
