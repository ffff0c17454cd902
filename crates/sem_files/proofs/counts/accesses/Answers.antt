use Rattle.std.proofs.Common.{arith}
use Rattle.sem_files.proofs.PartCalls.{parts-more}
use Rattle.sem_files.proofs.counts.accesses.Goals as goal

pub loop-extent-preserved : goal.loop-extent-preserved
loop-extent-preserved c = record {
  number = λ access h. rw c.part_calls-calls.ensures.number
      (parts-more c.args.off c.args.len c.loop-extent.extent c.loop-extent.calls c.loop-extent.invariant.number access h);
  few = omega (arith, c.loop-extent.invariant.few, c.part_calls-calls.ensures.few);
}
