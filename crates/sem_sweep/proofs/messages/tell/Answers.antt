use Rattle.std.proofs.Common.{arith}
use Rattle.sem_machine.proofs.Placed.{boxes-sent}
use Rattle.sem_sweep.proofs.messages.tell.Goals as goal

-- there are as many outboxes after a message was sent
pub returns-clause-boxes : goal.returns-clause-boxes
returns-clause-boxes c = boxes-sent c.args.setup.now c.args.outs.now c.send.new.self c.args.to _ (omega (arith, c.requires.to, c.requires.sends.boxes))
    c.send.ensures.boxes c.requires.sends.boxes
