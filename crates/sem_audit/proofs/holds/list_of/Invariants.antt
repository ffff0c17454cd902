use Rattle.std.proofs.Common.{◌≡◌, take}
use Rattle.sem_audit.proofs.holds.list_of.Given as goal

-- the first were listed
abbrev pub invariant-loop-one : goal.invariant-loop-one
invariant-loop-one l = l.list ≡ take l.one-index l.found
