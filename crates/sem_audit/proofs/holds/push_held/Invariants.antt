use Rattle.std.proofs.Common.{◌≡◌, ◌++◌, drop, map, reverse}
use Rattle.sem_audit.specs.Holding.{holding}
use Rattle.sem_audit.proofs.holds.push_held.Given as goal

-- what is held from that place on was appended
abbrev pub invariant-loop-place : goal.invariant-loop-place
invariant-loop-place l = l.found.items ≡ l.initial.found.items ++ reverse (map holding (drop l.place l.kernel.side.caps))
