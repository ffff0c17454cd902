use Rattle.std.proofs.Common.{arith}
use Rattle.sem_turn.proofs.Hands.{cut_first, cut_others, next_pass}
use Rattle.sem_turn.proofs.turn.Turn.split.Goals as goal

pub cut-requires-clause-front : goal.cut-requires-clause-front
cut-requires-clause-front g c = cut_first c.loop-kernel.kernel c.args.kernels (omega arith) _ c.loop-kernel.invariant.1

pub loop-kernel-preserved : goal.loop-kernel-preserved
loop-kernel-preserved g c =
    let i = c.loop-kernel.invariant in (
      c.cut.ensures.table,
      cut_others c.loop-kernel.kernel c.args.kernels (omega arith) _ i.1 _ c.cut.ensures.rest,
      next_pass c.loop-kernel.kernel _ _ _ i.2 c.cut.ensures.pass c.in_ok-push.ensures.ok,
    )
