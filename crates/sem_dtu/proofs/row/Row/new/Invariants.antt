use Rattle.std.proofs.Common.{◌≡◌, None, replicate}
use Rattle.sem_dtu.proofs.row.Row.new.Given as goal

-- so many endpoints were made, and none is bound
abbrev pub invariant-loop : goal.invariant-loop
invariant-loop l = l.endpoints.items ≡ replicate l.counter None
