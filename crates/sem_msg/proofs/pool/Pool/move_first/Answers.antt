use Rattle.std.proofs.Common.{ap, length, arith}
use Rattle.sem_msg.proofs.Pools.{box-end, moved}
use Rattle.sem_msg.proofs.pool.Pool.move_first.Goals as goal

pub returns-in-To : goal.returns-in-To
returns-in-To c = moved _ _ _ _ _ _ _ _ c.self.view_is c.take_first.ensures.messages c.put_last.ensures.messages c.take_first.ensures.message c.requires.apart

-- there is a first node
pub returns-in_default : goal.returns-in_default
returns-in_default c =
    let empty = box-end c.self.inside.nodes.items c.self.inside.queues.items _ c.self.view_is c.self.invariant.0 _ c.requires.from _ c.index.ensures _
    c.in_default.is in
    absurd (omega (arith, c.requires.some, ap length empty))
