use Rattle.std.proofs.Common.{◌<◌, true, drop, length, arith}
use Rattle.std.proofs.lemmas.List.Elements.{All-push}
use Rattle.sem_msg.specs.Message.{Fits}
use Rattle.sem_msg.proofs.Boxes.{AllFit-put, AreFilled-put, fits-here, some-first, boxes-sent, free-sent, some-sent}
use Rattle.sem_msg.proofs.outboxes.Outboxes.send.Goals as goal

-- the messages and the new one fit
pub invariant_of-self : goal.invariant_of-self
invariant_of-self c =
    let pool = c.self.inside.pool in
    let within : c.args.to < length (drop 1 pool) = rw (← c.self.view_is) at c.requires.to_kernel in
    let boxes = boxes-sent pool c.move_first.new.self c.args.to _ c.args.message c.queue_of.ensures within c.move_first.ensures in
    let free = free-sent pool c.move_first.new.self c.args.to _ c.args.message c.queue_of.ensures within c.move_first.ensures in (
      some-sent pool c.move_first.new.self c.args.to _ c.args.message c.queue_of.ensures within c.move_first.ensures,
      omega (arith, free, c.self.invariant.1),
      AllFit-put _ _ _ _ boxes within c.self.invariant.2 (All-push Fits _ c.args.message (fits-here _ _ within c.self.invariant.2) c.requires.fits),
      AreFilled-put _ _ _ _ boxes within _ _ true c.self.invariant.3 (some-first _ _) c.with_bit-self-inside.ensures,
    )

pub returns-clause-boxes : goal.returns-clause-boxes
returns-clause-boxes c =
    let pool = c.self.inside.pool in
    let within : c.args.to < length (drop 1 pool) = rw (← c.self.view_is) at c.requires.to_kernel in
    rw (← c.self.view_is) (boxes-sent pool c.move_first.new.self c.args.to _ c.args.message c.queue_of.ensures within c.move_first.ensures)
