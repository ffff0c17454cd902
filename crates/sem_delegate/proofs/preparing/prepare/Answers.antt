use Rattle.std.proofs.Common.{◌≡◌, ◌+◌, true, false, [], ◌∷◌, refl, sym, ◌∙◌, ap}
use Rattle.std.specs.Prelude.{nat_le}
use Rattle.std.proofs.lemmas.Bool.{true≢false}
use Rattle.sem_key.specs.declared.limits.TheConstants.{NUMBERS}
use Rattle.sem_key.proofs.Puts.{get_or-put_same}
use Rattle.sem_msg.specs.Rows.{VpeRow, no_vpe}
use Rattle.sem_msg.specs.VpeRows.{row, slot, is_taken, drawn}
use Rattle.sem_msg.specs.declared.code.Code.TheVariants.{Occupied, Numbers}
use Rattle.sem_machine.proofs.FirstCodes.{none-at}
use Rattle.sem_delegate.proofs.preparing.prepare.Goals as goal

-- the destination is free also after a number was drawn
pub unreachable-requires : goal.unreachable-requires
unreachable-requires c =
    let rows = c.args.vpes.now.rows in
    let v = c.args.delegation.vpe in
    let free : is_taken (slot rows v c.args.delegation.sel) ≡ false =
    none-at [] (is_taken (slot rows v c.args.delegation.sel)) Occupied ((nat_le NUMBERS (row rows v).next_number, Numbers) ∷ []) c.requires.free in
    let same : slot (drawn v rows) v c.args.delegation.sel ≡ slot rows v c.args.delegation.sel =
    ap (λ (r : VpeRow). slot (r ∷ []) 0 c.args.delegation.sel) (get_or-put_same no_vpe rows v (record (row rows v) { next_number = (row rows v).next_number + 1 })) in
    let taken = c.in_default.ensures.occupied.0 refl in
    let taken_old : is_taken (slot rows v c.args.delegation.sel) ≡ true = rw (c.draw_key-key.ensures.drawn, same) at taken in
    true≢false (sym taken_old ∙ free)
