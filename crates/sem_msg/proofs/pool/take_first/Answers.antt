use Rattle.std.proofs.Common.{refl, sym, ◌∙◌, ap, arith, get_or-set_same}
use Rattle.std.proofs.lemmas.List.{get_or_read}
use Rattle.sem_msg.specs.declared.pool.Queue.{Queue}
use Rattle.sem_msg.specs.declared.pool.Node.{Node}
use Rattle.sem_msg.proofs.Queues.{first-within, taken-queues, taken-messages, taken-loose}
use Rattle.sem_msg.proofs.pool.take_first.Goals as goal

pub index-requires : goal.index-requires
index-requires c =
    let is = get_or_read c.args.queues.now.items _ _ c.requires.from c.index-queue.ensures _ in
    let within = first-within c.args.nodes.now.items c.args.queues.now.items c.args.from c.args.at _ (sym is) c.requires.queues c.requires.from
    (ap (λ (q : Queue). q.first) is ∙ c.requires.first) in
    omega (arith, within, c.args.nodes.now.ok.0)

pub index_mut-requires-2 : goal.index_mut-requires-2
index_mut-requires-2 c =
    let is = get_or_read c.args.queues.now.items _ _ c.requires.from c.index-queue.ensures _ in
    let within = first-within c.args.nodes.now.items c.args.queues.now.items c.args.from c.args.at _ (sym is) c.requires.queues c.requires.from
    (ap (λ (q : Queue). q.first) is ∙ c.requires.first) in
    omega (arith, within, c.args.nodes.now.ok.0)

pub returns-clause-queues : goal.returns-clause-queues
returns-clause-queues c =
    let is = get_or_read c.args.queues.now.items _ _ c.requires.from c.index-queue.ensures _ in
    let first = ap (λ (q : Queue). q.first) is ∙ c.requires.first in
    let within = first-within c.args.nodes.now.items c.args.queues.now.items c.args.from c.args.at _ (sym is) c.requires.queues c.requires.from first in
    let was = get_or_read c.args.nodes.now.items _ _ within c.index.ensures _ in
    taken-queues c.args.nodes.now.items c.args.queues.now.items c.args.from c.args.at _ (sym is) c.requires.queues c.requires.from first _ (sym was) _

pub returns-clause-messages : goal.returns-clause-messages
returns-clause-messages c =
    let is = get_or_read c.args.queues.now.items _ _ c.requires.from c.index-queue.ensures _ in
    let first = ap (λ (q : Queue). q.first) is ∙ c.requires.first in
    let within = first-within c.args.nodes.now.items c.args.queues.now.items c.args.from c.args.at _ (sym is) c.requires.queues c.requires.from first in
    let was = get_or_read c.args.nodes.now.items _ _ within c.index.ensures _ in
    taken-messages c.args.nodes.now.items c.args.queues.now.items c.args.from c.args.at _ (sym is) c.requires.queues c.requires.from first _ (sym was) _

pub returns-clause-loose : goal.returns-clause-loose
returns-clause-loose c =
    let is = get_or_read c.args.queues.now.items _ _ c.requires.from c.index-queue.ensures _ in
    let first = ap (λ (q : Queue). q.first) is ∙ c.requires.first in
    let within = first-within c.args.nodes.now.items c.args.queues.now.items c.args.from c.args.at _ (sym is) c.requires.queues c.requires.from first in
    let was = get_or_read c.args.nodes.now.items _ _ within c.index.ensures _ in
    taken-loose c.args.nodes.now.items c.args.queues.now.items c.args.from c.args.at _ (sym is) c.requires.queues c.requires.from first _ (sym was) _
    c.args.to c.requires.to c.requires.apart refl

pub returns-clause-message : goal.returns-clause-message
returns-clause-message c =
    let is = get_or_read c.args.queues.now.items _ _ c.requires.from c.index-queue.ensures _ in
    let within = first-within c.args.nodes.now.items c.args.queues.now.items c.args.from c.args.at _ (sym is) c.requires.queues c.requires.from
    (ap (λ (q : Queue). q.first) is ∙ c.requires.first) in
    ap (λ (n : Node). n.message) (get_or-set_same c.args.nodes.now.items c.args.at _ _ within)
