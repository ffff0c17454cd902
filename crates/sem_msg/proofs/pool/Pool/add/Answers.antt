use Rattle.std.proofs.Common.{◌∙◌, refl, arith}
use Rattle.sem_msg.proofs.Pools.{queue-within, pushed-queues, pushed-messages, pushed-loose, first-longer, others-kept, length-kept}
use Rattle.sem_msg.proofs.pool.Pool.add.Goals as goal

pub put_last-requires-clause-queues : goal.put_last-requires-clause-queues
put_last-requires-clause-queues c =
    let pushes = rw c.in_ok-reserve.ensures.items at c.push.ensures.items in
    pushed-queues c.self.inside.nodes.items c.self.inside.queues.items c.self.invariant.0 _ _ pushes

pub put_last-requires-clause-loose : goal.put_last-requires-clause-loose
put_last-requires-clause-loose c =
    let pushes = rw c.in_ok-reserve.ensures.items at c.push.ensures.items in
    let some = queue-within c.self.inside.nodes.items c.self.inside.queues.items _ c.self.view_is c.self.invariant.0 _ c.requires in
    pushed-loose c.self.inside.nodes.items c.self.inside.queues.items c.self.invariant.0 _ _ pushes _ _ some refl
    (omega (arith, c.len-at.ensures, c.in_ok-reserve.ensures.len, c.self.inside.nodes.ok.0))

pub returns-clause-more : goal.returns-clause-more
returns-clause-more c =
    let pushes = rw c.in_ok-reserve.ensures.items at c.push.ensures.items in
    let same = pushed-messages c.self.inside.nodes.items c.self.inside.queues.items c.self.invariant.0 _ _ pushes ∙ c.self.view_is in
    omega (arith, first-longer _ _ _ _ same c.requires c.put_last.ensures.messages)

pub returns-clause-kept : goal.returns-clause-kept
returns-clause-kept c =
    let pushes = rw c.in_ok-reserve.ensures.items at c.push.ensures.items in
    let same = pushed-messages c.self.inside.nodes.items c.self.inside.queues.items c.self.invariant.0 _ _ pushes ∙ c.self.view_is in
    omega (arith, first-longer _ _ _ _ same c.requires c.put_last.ensures.messages)

pub returns-clause-others : goal.returns-clause-others
returns-clause-others c =
    let pushes = rw c.in_ok-reserve.ensures.items at c.push.ensures.items in
    let same = pushed-messages c.self.inside.nodes.items c.self.inside.queues.items c.self.invariant.0 _ _ pushes ∙ c.self.view_is in
    others-kept _ _ _ _ same c.requires c.put_last.ensures.messages

pub returns-clause-queues : goal.returns-clause-queues
returns-clause-queues c =
    let pushes = rw c.in_ok-reserve.ensures.items at c.push.ensures.items in
    let same = pushed-messages c.self.inside.nodes.items c.self.inside.queues.items c.self.invariant.0 _ _ pushes ∙ c.self.view_is in
    length-kept _ _ _ _ same c.requires c.put_last.ensures.messages
