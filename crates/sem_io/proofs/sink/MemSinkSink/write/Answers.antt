use Rattle.std.proofs.Common.{arith}
use Rattle.std.proofs.lemmas.Grind.{common_steps}
use Rattle.sem_io.proofs.sink.MemSinkSink.write.Goals as goal
use Rattle.sem_io.proofs.sink.MemSinkSink.write.Goals.{then-len-self-via-then-len-self, then-len-self-via-else-len-self+then-contains}

-- the sink is full, or the call was named
pub returns-then-len-self-clause-fails : goal.returns-then-len-self-clause-fails
returns-then-len-self-clause-fails c = elim c.then-len-self.branch [
  | then-len-self-via-then-len-self w ↦ grind (arith, common_steps)
  | then-len-self-via-else-len-self+then-contains w ↦ grind (arith, common_steps)
]
