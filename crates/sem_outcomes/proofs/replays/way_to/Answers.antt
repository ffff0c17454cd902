use Rattle.std.proofs.Common.{arith}
use Rattle.sem_outcomes.proofs.Playing.{way-next}
use Rattle.sem_outcomes.proofs.replays.way_to.Goals as goal

pub loop-number-preserved : goal.loop-number-preserved
loop-number-preserved c =
    let l = c.loop-number in
    way-next c.args.steps.now c.args.at l.way.items c.push.new.self.items l.number _ c.requires.earlier l.invariant.0
    (omega arith) l.invariant.1 c.in_ok-push.ensures.items
