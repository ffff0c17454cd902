use Rattle.std.proofs.Common.{sym, arith}
use Rattle.std.proofs.lemmas.List.{get_or_read}
use Rattle.sem_msg.proofs.Queues.{put-first, last-within, put-queues, put-messages}
use Rattle.sem_msg.proofs.pool.put_last.Goals as goal

pub index_mut-requires-else-queue-eq0 : goal.index_mut-requires-else-queue-eq0
index_mut-requires-else-queue-eq0 c =
    let is = get_or_read c.args.queues.now.items _ _ c.requires.to c.index-queue.ensures _ in
    let within = last-within c.args.nodes.now.items c.args.queues.now.items c.args.to c.args.at _ (sym is) c.requires.queues c.requires.to c.requires.loose
    (omega arith) in
    omega (arith, within, c.args.nodes.now.ok.0)

-- the queue was empty
pub returns-then-queue-eq0-clause-messages : goal.returns-then-queue-eq0-clause-messages
returns-then-queue-eq0-clause-messages c =
    let is = get_or_read c.args.queues.now.items _ _ c.requires.to c.index-queue.ensures _ in
    put-first c.args.nodes.now.items c.args.queues.now.items c.args.to c.args.at _ (sym is) c.requires.queues c.requires.to c.requires.loose
    c.if-queue-eq0.true

-- the node follows the last one
pub returns-else-queue-eq0-clause-queues : goal.returns-else-queue-eq0-clause-queues
returns-else-queue-eq0-clause-queues c =
    let is = get_or_read c.args.queues.now.items _ _ c.requires.to c.index-queue.ensures _ in
    let within = last-within c.args.nodes.now.items c.args.queues.now.items c.args.to c.args.at _ (sym is) c.requires.queues c.requires.to c.requires.loose
    (omega arith) in
    let was = get_or_read c.args.nodes.now.items _ _ within c.index_mut-else-queue-eq0.ensures.value _ in
    put-queues c.args.nodes.now.items c.args.queues.now.items c.args.to c.args.at _ (sym is) c.requires.queues c.requires.to c.requires.loose
    (omega arith) _ (sym was)

pub returns-else-queue-eq0-clause-messages : goal.returns-else-queue-eq0-clause-messages
returns-else-queue-eq0-clause-messages c =
    let is = get_or_read c.args.queues.now.items _ _ c.requires.to c.index-queue.ensures _ in
    let within = last-within c.args.nodes.now.items c.args.queues.now.items c.args.to c.args.at _ (sym is) c.requires.queues c.requires.to c.requires.loose
    (omega arith) in
    let was = get_or_read c.args.nodes.now.items _ _ within c.index_mut-else-queue-eq0.ensures.value _ in
    put-messages c.args.nodes.now.items c.args.queues.now.items c.args.to c.args.at _ (sym is) c.requires.queues c.requires.to c.requires.loose
    (omega arith) _ (sym was)
