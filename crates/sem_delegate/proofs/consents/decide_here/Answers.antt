use Rattle.std.proofs.Common.{◌≡◌, true, false, sym, ◌∙◌, rules}
use Rattle.sem_msg.specs.declared.entry.Consent.TheVariants.{Yes}
use Rattle.sem_msg.specs.Codes.{code_number}
use Rattle.sem_msg.specs.Lookups.{denies}
use Rattle.sem_msg.specs.ParkedStates.{state_of}
use Rattle.sem_machine.specs.Asks.{call_refused, is_delegate_wait}
use Rattle.sem_machine.specs.Sides.{Side}
use Rattle.sem_machine.specs.Steps.{asking, unshown}
use Rattle.sem_machine.specs.Stores.{installing}
use Rattle.sem_delegate.proofs.Deciding.{refused-here, taken-here}
use Rattle.sem_delegate.proofs.consents.decide_here.Goals as goal

-- the first test that holds
pub returns-in-Some-clause-row : goal.returns-in-Some-clause-row
returns-in-Some-clause-row c s =
    let T = c.args.setup.now in
    let p = c.args.delegation.parent in
    let side : Side = installing c.args.caps.now.caps c.args.vpes.now.rows c.args.park.now s in
    let waits : is_delegate_wait p (state_of c.args.park.now p.vpe) ≡ true = search rules in
    let consents : denies T c.args.delegation.vpe p.vpe ≡ false = search rules in
    let row : record { side = installing c.args.caps.now.caps c.args.vpes.now.rows c.end_waiting-in-Some.new.park s; outcome = c.asked-in-Some.result }
    ≡ asking p.vpe Yes (unshown (call_refused (code_number c.in-Some.code) p.vpe side)) = search rules in
    row ∙ sym (refused-here T c.args.kernel c.args.delegation.vpe p c.args.delegation.object c.args.delegation.sel side c.in-Some.code c.requires.here waits consents c.in-Some.ensures)

-- no test holds
pub returns-clause-row : goal.returns-clause-row
returns-clause-row c s =
    let T = c.args.setup.now in
    let p = c.args.delegation.parent in
    let side : Side = installing c.args.caps.now.caps c.args.vpes.now.rows c.args.park.now s in
    let waits : is_delegate_wait p (state_of c.args.park.now p.vpe) ≡ true = search rules in
    let consents : denies T c.args.delegation.vpe p.vpe ≡ false = search rules in
    c.take_child.ensures.row s ∙ sym (taken-here T c.args.kernel c.args.delegation.vpe p c.args.delegation.object c.args.delegation.sel side c.requires.here waits consents c.in_default.ensures)
