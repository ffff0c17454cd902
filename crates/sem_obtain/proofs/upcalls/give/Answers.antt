use Rattle.std.proofs.Common.{◌≡◌, ap, ◌∙◌, rules, arith}
use Rattle.sem_key.specs.CapList.{cap_of}
use Rattle.sem_msg.specs.Lookups.{kernel_of}
use Rattle.sem_msg.specs.ParkedStates.{state_of}
use Rattle.sem_caps.specs.CapStore.{CapStore}
use Rattle.sem_machine.specs.Upcalls.{given_here}
use Rattle.sem_machine.specs.Stores.{installing, with_caps_vpes_parks_outs, with_outs}
use Rattle.sem_machine.proofs.Placed.{boxes-sent}
use Rattle.sem_key.proofs.Finds.{absent-linked}
use Rattle.sem_obtain.proofs.Granting.{child-here}
use Rattle.sem_obtain.proofs.upcalls.give.Goals as goal

-- the key is not held after the link either
pub give_here-requires-clause-absent : goal.give_here-requires-clause-absent
give_here-requires-clause-absent c =
    let here : kernel_of c.args.setup.now c.args.grant.key.vpe ≡ c.args.kernel = search rules in
    ap (λ (store : CapStore). cap_of store.caps c.args.grant.key) c.link.ensures
    ∙ absent-linked c.args.caps.now.caps c.args.grant.parent c.args.grant.key c.args.grant.key (c.requires.free here)

-- the asker is of this kernel
pub returns-then-kernel_of-kernel-clause-row : goal.returns-then-kernel_of-kernel-clause-row
returns-then-kernel_of-kernel-clause-row c s =
    let here : kernel_of c.args.setup.now c.args.grant.key.vpe ≡ c.args.kernel = search rules in
    let t = with_outs c.args.outs.now.boxes s in
    c.give_here.ensures.row t
    ∙ ap (λ (store : CapStore). given_here c.args.grant.key c.args.grant.parent c.args.grant.object (state_of c.args.park.now c.args.grant.key.vpe)
    (installing store.caps c.args.vpes.now.rows c.args.park.now t)) c.link.ensures
    ∙ child-here c.args.setup.now c.args.kernel c.args.grant.parent c.args.grant.key c.args.grant.object
    (with_caps_vpes_parks_outs c.args.caps.now.caps c.args.vpes.now.rows c.args.park.now c.args.outs.now.boxes s) here

-- there are as many outboxes after a message was sent
pub returns-else-kernel_of-kernel-clause-left : goal.returns-else-kernel_of-kernel-clause-left
returns-else-kernel_of-kernel-clause-left c = record {
  boxes = boxes-sent c.args.setup.now c.args.outs.now c.send.new.self c.owner_of.result _
      (omega (arith, c.owner_of.ensures, c.requires.owner, c.requires.sends.boxes)) c.send.ensures.boxes c.requires.sends.boxes;
  spare = search rules;
}
