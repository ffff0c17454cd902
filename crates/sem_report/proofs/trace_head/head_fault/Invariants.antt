use Rattle.std.proofs.Common.{◌≡◌, ◌+◌, ◌≤◌, length, map}
use Rattle.sem_report.specs.WholeLines.{whole_lines, content}
use Rattle.sem_report.specs.ReportRefusal.{head_fault}
use Rattle.sem_report.proofs.trace_head.head_fault.Given as goal

-- the lines so far say nothing, and nothing is wrong with them
abbrev pub invariant-loop-line : goal.invariant-loop-line
invariant-loop-line l = record {
  room : l.number + length l.rest ≤ 1000000000;
  same : head_fault l.version l.first (map content (whole_lines l.section)) ≡ head_fault l.version l.number (map content (whole_lines l.rest));
}

abbrev pub decreases-loop-line : goal.decreases-loop-line
decreases-loop-line l = length l.rest
