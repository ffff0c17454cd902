use Rattle.std.proofs.Common.{◌≡◌, ◌+◌, true, false, [], ◌∷◌, refl, sym, ◌∙◌, ap, arith, rules}
use Rattle.std.specs.Prelude.{nat_le}
use Rattle.std.proofs.lemmas.Bool.{true≢false}
use Rattle.sem_key.specs.declared.limits.TheConstants.{NUMBERS}
use Rattle.sem_key.proofs.Puts.{get_or-put_same}
use Rattle.sem_msg.specs.Rows.{VpeRow, no_vpe}
use Rattle.sem_msg.specs.VpeRows.{row, slot, is_taken, drawn}
use Rattle.sem_msg.specs.declared.code.Code.TheVariants.{Occupied, Numbers}
use Rattle.sem_machine.proofs.FirstCodes.{none-at}
use Rattle.sem_machine.proofs.Placed.{boxes-sent}
use Rattle.sem_obtain.proofs.asks.make_ask.Goals as goal

-- the destination is free also after a number was drawn
pub unreachable-requires-in_default-promise : goal.unreachable-requires-in_default-promise
unreachable-requires-in_default-promise c =
    let rows = c.args.vpes.now.rows in
    let v = c.args.vpe in
    let free : is_taken (slot rows v c.args.wish.dst) ≡ false =
    none-at [] (is_taken (slot rows v c.args.wish.dst)) Occupied ((nat_le NUMBERS (row rows v).next_number, Numbers) ∷ []) c.requires.free in
    let same : slot (drawn v rows) v c.args.wish.dst ≡ slot rows v c.args.wish.dst =
    ap (λ (r : VpeRow). slot (r ∷ []) 0 c.args.wish.dst) (get_or-put_same no_vpe rows v (record (row rows v) { next_number = (row rows v).next_number + 1 })) in
    let taken = c.in_default-promise.ensures.occupied.0 refl in
    let taken_old : is_taken (slot rows v c.args.wish.dst) ≡ true = rw (c.in-Ok.ensures.ok, same) at taken in
    true≢false (sym taken_old ∙ free)

pub send-requires-clause-to_kernel : goal.send-requires-clause-to_kernel
send-requires-clause-to_kernel c =
    omega (arith, c.declared_kernel-owner.ensures.below, c.requires.can.tells.sends.boxes)

-- there are as many outboxes after a message was sent
pub returns-else-owner-kernel-clause-left : goal.returns-else-owner-kernel-clause-left
returns-else-owner-kernel-clause-left c = record {
  boxes = boxes-sent c.args.setup.now c.args.outs.now c.send.new.self c.declared_kernel-owner.result _ (omega (
    arith,
    c.declared_kernel-owner.ensures.below,
    c.requires.can.tells.sends.boxes,
  )) c.send.ensures.boxes c.requires.can.tells.sends.boxes;
  spare = search rules;
}
