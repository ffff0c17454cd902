use Rattle.std.proofs.Common.{arith}
use Rattle.sem_machine.proofs.Placed.{boxes-sent}
use Rattle.sem_mark.proofs.Opened.{raised-count, adopted-count}
use Rattle.sem_mark.proofs.opening.request_or_adopt.Goals as goal

-- one token more is out
pub returns-then-owner-kernel-clause-count : goal.returns-then-owner-kernel-clause-count
returns-then-owner-kernel-clause-count c n few = rw c.add_outstanding.ensures (raised-count c.args.job n c.args.jobs.now.jobs few)

-- there are as many outboxes after a message was sent
pub returns-then-owner-kernel-clause-boxes : goal.returns-then-owner-kernel-clause-boxes
returns-then-owner-kernel-clause-boxes c = boxes-sent c.args.setup.now c.args.outs.now c.send.new.self c.owner_of-owner.result _
    (omega (arith, c.owner_of-owner.ensures, c.requires.owner, c.requires.boxes)) c.send.ensures.boxes c.requires.boxes

-- a job that waits for another has as many tokens out as before
pub returns-in-Some-clause-count : goal.returns-in-Some-clause-count
returns-in-Some-clause-count c n few = rw c.adopt.ensures (raised-count c.args.job n _ (adopted-count c.args.job c.in-Some.marker n _ c.args.jobs.now.jobs few))
