use Rattle.std.proofs.Common.{arith, rules}
use Rattle.sem_machine.proofs.Placed.{boxes-sent}
use Rattle.sem_obtain.proofs.ends.send_refusal.Goals as goal

-- there are as many outboxes after a message was sent
pub returns-clause-left : goal.returns-clause-left
returns-clause-left c = record {
  boxes = boxes-sent c.args.setup.now c.args.outs.now c.send.new.self c.place_owner.result _ (omega (
    arith,
    c.place_owner.ensures,
    c.requires.owner,
    c.requires.sends.boxes,
  )) c.send.ensures.boxes c.requires.sends.boxes;
  spare = search rules;
}
