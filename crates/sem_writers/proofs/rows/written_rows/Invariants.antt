use Rattle.std.proofs.Common.{◌≡◌, map, take}
use Rattle.std.specs.List.{All}
use Rattle.sem_writers.specs.declared.rows.Written.{Written}
use Rattle.sem_writers.specs.Written.{IsWriter}
use Rattle.sem_writers.proofs.rows.written_rows.Given as goal

-- the first runs have their rows
abbrev pub invariant-loop-run : goal.invariant-loop-run
invariant-loop-run l = record {
  runs : map (λ (r : Written). r.run) l.rows.items ≡ take l.run-index l.runs;
  writers : All (IsWriter l.list) l.rows.items;
}
