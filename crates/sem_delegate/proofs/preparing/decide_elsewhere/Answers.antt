use Rattle.std.proofs.Common.{◌≡◌, false, Some, None, sym, ap, ◌∙◌, rules}
use Rattle.sem_key.specs.KeyName.{KeyName}
use Rattle.sem_msg.specs.declared.entry.Consent.TheVariants.{Yes}
use Rattle.sem_msg.specs.declared.message.Message.TheVariants.{DelegateNo}
use Rattle.sem_msg.specs.Codes.{code_number}
use Rattle.sem_msg.specs.Lookups.{denies, owner_of}
use Rattle.sem_machine.specs.Sides.{Side, send}
use Rattle.sem_machine.specs.Steps.{asking, unshown}
use Rattle.sem_machine.specs.Upcalls.{delegate_prepared}
use Rattle.sem_delegate.specs.Delegating.{preparing}
use Rattle.sem_delegate.proofs.Deciding.{refused-elsewhere, prepared-elsewhere}
use Rattle.sem_delegate.proofs.preparing.decide_elsewhere.Goals as goal

-- the first test that holds
pub returns-in-Some-clause-row : goal.returns-in-Some-clause-row
returns-in-Some-clause-row c s =
    let T = c.args.setup.now in
    let p = c.args.delegation.parent in
    let side : Side = preparing c.args.vpes.now c.args.pendings.now c.args.outs.now s in
    let consents : denies T c.args.delegation.vpe p.vpe ≡ false = search rules in
    let row : record { side = preparing c.args.vpes.now c.args.pendings.now c.tell_owner-in-Some.new.outs s; outcome = c.asked-in-Some.result }
    ≡ asking p.vpe Yes (unshown (send (owner_of T p) (DelegateNo p (code_number c.in-Some.code)) side)) = search rules in
    row ∙ sym (refused-elsewhere T c.args.kernel c.args.delegation.vpe p c.args.delegation.object c.args.delegation.sel side c.in-Some.code c.requires.other consents c.in-Some.ensures.code)

-- no test holds
pub returns-clause-row : goal.returns-clause-row
returns-clause-row c s =
    let T = c.args.setup.now in
    let p = c.args.delegation.parent in
    let side : Side = preparing c.args.vpes.now c.args.pendings.now c.args.outs.now s in
    let consents : denies T c.args.delegation.vpe p.vpe ≡ false = search rules in
    let shown = c.asked-2.ensures ∙ ap (λ (k : KeyName). record { asked = Some (k.vpe, Yes); grant = None; cut = None; reply = None }) c.parent.view_is in
    let row : record { side = preparing c.prepare.new.vpes c.prepare.new.pendings c.prepare.new.outs s; outcome = c.asked-2.result }
    ≡ asking p.vpe Yes (delegate_prepared T c.args.delegation.vpe p c.args.delegation.object c.args.delegation.sel side) =
    λ i. record { side = (c.prepare.ensures.row s i).side; outcome = shown i } in
    row ∙ sym (prepared-elsewhere T c.args.kernel c.args.delegation.vpe p c.args.delegation.object c.args.delegation.sel side c.requires.other consents c.in_default.ensures.code)
