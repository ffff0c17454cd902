use Rattle.std.proofs.Common.{sym, ap, ◌∙◌}
use Rattle.sem_machine.specs.Calls.{ask_made, obtain_tests}
use Rattle.sem_machine.proofs.FirstCodes.{row-refused, row-done}
use Rattle.sem_machine.specs.Stores.{with_vpes_parks_outs}
use Rattle.sem_obtain.proofs.calls.obtain_call.Goals as goal

-- the first test that holds
pub returns-in-Some-clause-row : goal.returns-in-Some-clause-row
returns-in-Some-clause-row c s =
    let side = with_vpes_parks_outs c.args.vpes.now.rows c.args.park.now c.args.outs.now.boxes s in
    row-refused side (obtain_tests c.args.setup.now c.args.kernel side c.args.vpe c.args.dst c.args.other) _ c.in-Some.code c.answered.result c.in-Some.ensures
    c.answered.ensures

-- no test holds
pub returns-clause-row : goal.returns-clause-row
returns-clause-row c s =
    let side = with_vpes_parks_outs c.args.vpes.now.rows c.args.park.now c.args.outs.now.boxes s in
    ap (λ o. record { side = with_vpes_parks_outs c.make_ask.new.vpes.rows c.make_ask.new.park c.make_ask.new.outs.boxes s; outcome = o }) c.nothing.ensures
    ∙ c.make_ask.ensures.row s
    ∙ ap (λ target. ask_made c.args.setup.now c.args.kernel c.args.vpe c.args.dst target side) c.selector-target.ensures.target
    ∙ sym (row-done (obtain_tests c.args.setup.now c.args.kernel side c.args.vpe c.args.dst c.args.other) _ _ c.in_default.ensures)
