use Rattle.std.proofs.Common.{◌≡◌, ◌<◌, ◌∙◌, ap, drop, length, length-drop, arith}
use Rattle.std.specs.List.{slice_get}
use Rattle.std.specs.Prelude.{Some}
use Rattle.std.proofs.lemmas.List.Elements.{All-drop}
use Rattle.sem_msg.specs.Message.{Fits}
use Rattle.sem_msg.specs.Outboxes.{box_for}
use Rattle.sem_msg.proofs.Boxes.{AllFit-put, AreFilled-put, fits-here, first-fits, box-queue, boxes-popped, free-popped, length-popped, box-popped, none-popped}
use Rattle.sem_msg.proofs.Boxes.{empty-none, some-len}
use Rattle.sem_msg.proofs.outboxes.Outboxes.pop.Goals as goal

-- no message waits
pub returns-in_err-message-clause-boxes : goal.returns-in_err-message-clause-boxes
returns-in_err-message-clause-boxes c =
    let pool = c.self.inside.pool in
    let within : c.args.to < length (drop 1 pool) = rw (← c.self.view_is) at c.requires in
    let same : box_for pool c.queue_of-queue.result ≡ box_for (drop 1 pool) c.args.to = ap (box_for pool) c.queue_of-queue.ensures ∙ box-queue pool c.args.to in
    let none = c.in_err-message.ensures ∙ ap (λ ms. slice_get ms 0) same in
    rw (← c.self.view_is) (none-popped (drop 1 pool) c.args.to within (empty-none _ none))

pub len-requires : goal.len-requires
len-requires c =
    let pool = c.self.inside.pool in
    let within : c.args.to < length (drop 1 pool) = rw (← c.self.view_is) at c.requires in
    let long = length-popped pool c.move_first.new.self c.args.to _ c.in_ok-message.message c.queue_of-queue.ensures within c.move_first.ensures in
    omega (arith, within, long, length-drop 1 pool, c.queue_of-queue.ensures)

-- the messages that are left fit
pub invariant_of-self : goal.invariant_of-self
invariant_of-self c =
    let pool = c.self.inside.pool in
    let new = c.move_first.new.self in
    let number = c.queue_of-queue.ensures in
    let within : c.args.to < length (drop 1 pool) = rw (← c.self.view_is) at c.requires in
    let boxes = boxes-popped pool new c.args.to _ c.in_ok-message.message number within c.move_first.ensures in
    let long = length-popped pool new c.args.to _ c.in_ok-message.message number within c.move_first.ensures in
    let free = free-popped pool new c.args.to _ c.in_ok-message.message number within c.move_first.ensures in
    let left = box-popped pool new c.args.to _ c.in_ok-message.message number within c.move_first.ensures in (
      omega (arith, long, c.self.invariant.0),
      omega (arith, free, c.self.invariant.1),
      AllFit-put _ _ _ _ boxes within c.self.invariant.2 (All-drop Fits 1 _ (fits-here _ _ within c.self.invariant.2)),
      AreFilled-put _ _ _ _ boxes within _ _ _ c.self.invariant.3 (some-len _ _ (c.len.ensures ∙ ap length left)) c.with_bit-self-inside.ensures,
    )

pub returns-clause-boxes : goal.returns-clause-boxes
returns-clause-boxes c =
    let pool = c.self.inside.pool in
    let within : c.args.to < length (drop 1 pool) = rw (← c.self.view_is) at c.requires in
    rw (← c.self.view_is) (boxes-popped pool c.move_first.new.self c.args.to _ c.in_ok-message.message c.queue_of-queue.ensures within c.move_first.ensures)

-- all messages fitted, so the first does
pub returns-clause-fits : goal.returns-clause-fits
returns-clause-fits c =
    let pool = c.self.inside.pool in
    let within : c.args.to < length (drop 1 pool) = rw (← c.self.view_is) at c.requires in
    let same : box_for pool c.queue_of-queue.result ≡ box_for (drop 1 pool) c.args.to = ap (box_for pool) c.queue_of-queue.ensures ∙ box-queue pool c.args.to in
    first-fits _ (Some c.in_ok-message.message) (fits-here _ _ within c.self.invariant.2) (c.in_ok-message.ensures ∙ ap (λ ms. slice_get ms 0) same)
