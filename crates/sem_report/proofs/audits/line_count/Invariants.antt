use Rattle.std.proofs.Common.{◌≡◌, ◌+◌, ◌≤◌, length}
use Rattle.sem_report.specs.WholeLines.{whole_lines}
use Rattle.sem_report.proofs.audits.line_count.Given as goal

-- the lines so far and those that are left
abbrev pub invariant-loop-behind : goal.invariant-loop-behind
invariant-loop-behind l = record {
  all : l.count + length (whole_lines l.rest) ≡ length (whole_lines l.bytes);
  few : l.count + length l.rest ≤ 1000000000;
}

abbrev pub decreases-loop-behind : goal.decreases-loop-behind
decreases-loop-behind l = length l.rest
