use Rattle.std.proofs.Common.{◌≡◌, [], replicate}
use Rattle.sem_reader.proofs.tables.no_calls.Given as goal

-- so many empty lists
abbrev pub invariant-loop : goal.invariant-loop
invariant-loop l = l.lists.items ≡ replicate l.counter []
