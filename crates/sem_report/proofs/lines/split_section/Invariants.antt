use Rattle.std.proofs.Common.{length}
use Rattle.sem_report.proofs.TextInLines.{IsCut}
use Rattle.sem_report.proofs.lines.split_section.Given as goal

-- the lines so far are taken off the front, and none of them ends a trace
abbrev pub invariant-loop-line : goal.invariant-loop-line
invariant-loop-line l = IsCut l.text l.rest l.end l.number

abbrev pub decreases-loop-line : goal.decreases-loop-line
decreases-loop-line l = length l.rest
