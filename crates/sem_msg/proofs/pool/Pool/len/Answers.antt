use Rattle.sem_msg.proofs.Pools.{len-read}
use Rattle.sem_msg.proofs.pool.Pool.len.Goals as goal

pub returns : goal.returns
returns c = len-read c.self.inside.nodes.items c.self.inside.queues.items _ c.self.view_is c.self.invariant.0 _ c.requires _ c.index.ensures
