use Rattle.std.proofs.Common.{◌≡◌, ◌+◌, ◌≤◌, length}
use Rattle.sem_report.specs.WholeLines.{whole_lines}
use Rattle.sem_report.specs.ReportRefusal.{first_difference}
use Rattle.sem_report.proofs.lines.first_difference.Given as goal

-- the lines so far are the same
abbrev pub invariant-loop-line : goal.invariant-loop-line
invariant-loop-line l = record {
  room : l.number + length l.rest ≤ 1000000000;
  same : first_difference l.first (whole_lines l.text) (whole_lines l.other) ≡ first_difference l.number (whole_lines l.rest) (whole_lines l.others);
}

abbrev pub decreases-loop-line : goal.decreases-loop-line
decreases-loop-line l = length l.rest
