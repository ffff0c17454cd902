use Rattle.sem_check.proofs.Repeating.{IsRepeated}
use Rattle.sem_check.proofs.replays.repeat.Given as goal

-- the first entries were made again
abbrev pub invariant-loop-entry : goal.invariant-loop-entry
invariant-loop-entry l = IsRepeated l.setup l.entries l.kernels.items l.fabric l.entry-index
