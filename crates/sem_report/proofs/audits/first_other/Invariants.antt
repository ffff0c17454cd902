use Rattle.std.proofs.Common.{◌≡◌, take}
use Rattle.sem_report.proofs.audits.first_other.Given as goal

-- the lists are the same so far
abbrev pub invariant-loop-at : goal.invariant-loop-at
invariant-loop-at l = take l.at l.told ≡ take l.at l.due
