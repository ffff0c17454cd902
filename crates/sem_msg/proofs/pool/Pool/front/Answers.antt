use Rattle.std.proofs.Common.{sym, ◌∙◌, ap, arith}
use Rattle.std.specs.Prelude.{Some}
use Rattle.std.specs.List.{slice_get}
use Rattle.std.proofs.lemmas.List.{get_or_read}
use Rattle.sem_msg.specs.declared.pool.Node.{Node}
use Rattle.sem_msg.proofs.Queues.{first-within}
use Rattle.sem_msg.proofs.Pools.{queue-within, is-queue, box-end, front-first}
use Rattle.sem_msg.proofs.pool.Pool.front.Goals as goal

pub index-requires-in-To : goal.index-requires-in-To
index-requires-in-To c =
    let within = queue-within c.self.inside.nodes.items c.self.inside.queues.items _ c.self.view_is c.self.invariant.0 _ c.requires in
    let is = is-queue c.self.inside.nodes.items c.self.inside.queues.items _ c.self.view_is c.self.invariant.0 _ c.requires _ c.index.ensures in
    let first = first-within c.self.inside.nodes.items c.self.inside.queues.items _ _ _ is c.self.invariant.0 within c.in-To.is in
    omega (arith, first, c.self.inside.nodes.ok.0)

pub returns-in-To : goal.returns-in-To
returns-in-To c =
    let within = queue-within c.self.inside.nodes.items c.self.inside.queues.items _ c.self.view_is c.self.invariant.0 _ c.requires in
    let is = is-queue c.self.inside.nodes.items c.self.inside.queues.items _ c.self.view_is c.self.invariant.0 _ c.requires _ c.index.ensures in
    let first = first-within c.self.inside.nodes.items c.self.inside.queues.items _ _ _ is c.self.invariant.0 within c.in-To.is in
    let node = get_or_read c.self.inside.nodes.items _ _ first c.index-in-To.ensures _ in
    ap (λ (n : Node). Some n.message) node
    ∙ front-first c.self.inside.nodes.items c.self.inside.queues.items _ c.self.view_is c.self.invariant.0 _ c.requires _ c.index.ensures _ c.in-To.is

pub returns-in-End : goal.returns-in-End
returns-in-End c =
    ap (λ ms. slice_get ms 0)
    (sym (box-end c.self.inside.nodes.items c.self.inside.queues.items _ c.self.view_is c.self.invariant.0 _ c.requires _ c.index.ensures _ c.in-End.is))
