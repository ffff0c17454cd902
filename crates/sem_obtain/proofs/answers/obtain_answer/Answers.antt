use Rattle.std.proofs.Common.{arith, rules}
use Rattle.sem_machine.proofs.Placed.{boxes-sent}
use Rattle.sem_obtain.proofs.answers.obtain_answer.Goals as goal

-- there are as many outboxes after a message was sent
pub returns-then-not-alive-clause-left : goal.returns-then-not-alive-clause-left
returns-then-not-alive-clause-left c = record {
  boxes = boxes-sent c.args.setup.now c.args.outs.now c.send.new.self c.owner_of.result _
      (omega (arith, c.owner_of.ensures, c.requires.owner, c.requires.can.sends.boxes)) c.send.ensures.boxes c.requires.can.sends.boxes;
  spare = search rules;
}
