use Rattle.std.proofs.Common.{arith, rules}
use Rattle.sem_machine.proofs.Placed.{boxes-sent}
use Rattle.sem_delegate.proofs.calls.make_offer.Goals as goal

-- there are as many outboxes after a message was sent
pub returns-else-owner-kernel-clause-left : goal.returns-else-owner-kernel-clause-left
returns-else-owner-kernel-clause-left c = record {
  boxes = boxes-sent c.args.setup.now c.args.outs.now c.send.new.self c.declared_kernel-owner.result _ (omega (
    arith,
    c.declared_kernel-owner.ensures.below,
    c.requires.sends.boxes,
  )) c.send.ensures.boxes c.requires.sends.boxes;
  spare = search rules;
}
