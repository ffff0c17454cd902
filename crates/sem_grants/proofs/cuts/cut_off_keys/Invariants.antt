use Rattle.std.proofs.Common.{drop}
use Rattle.sem_grants.proofs.Backward.{IsGathered}
use Rattle.sem_grants.proofs.cuts.cut_off_keys.Given as goal

-- the entries from that place on were gone through
abbrev pub invariant-loop-at : goal.invariant-loop-at
invariant-loop-at l = IsGathered (drop l.at l.entries) l.found.items l.cleared
