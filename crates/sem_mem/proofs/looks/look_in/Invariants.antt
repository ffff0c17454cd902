use Rattle.std.proofs.Common.{◌≡◌, take}
use Rattle.sem_access.specs.LastWrites.{looked}
use Rattle.sem_access.specs.Runs.{entry_at}
use Rattle.sem_mem.proofs.looks.look_in.Given as goal

-- found is what the first runs tell
abbrev pub invariant-loop-run : goal.invariant-loop-run
invariant-loop-run l = l.found ≡ looked (entry_at (take l.run-index l.runs)) l.base l.len
