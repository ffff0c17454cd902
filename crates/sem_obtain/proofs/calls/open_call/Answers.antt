use Rattle.std.proofs.Common.{sym, ap, ◌∙◌}
use Rattle.sem_msg.specs.Lookups.{is_declared}
use Rattle.sem_msg.specs.Message.{target_vpe}
use Rattle.sem_machine.specs.Sides.{no_side}
use Rattle.sem_machine.specs.Calls.{ask_made, open_tests}
use Rattle.sem_machine.specs.Stores.{with_vpes, with_vpes_parks_outs}
use Rattle.sem_machine.proofs.FirstCodes.{row-refused}
use Rattle.sem_obtain.proofs.Refusing.{open-done, open-free}
use Rattle.sem_obtain.proofs.calls.open_call.Goals as goal

-- the first test that holds
pub returns-in-Some-clause-row : goal.returns-in-Some-clause-row
returns-in-Some-clause-row c s =
    let side = with_vpes_parks_outs c.args.vpes.now.rows c.args.park.now c.args.outs.now.boxes s in
    row-refused side (open_tests c.args.setup.now c.args.kernel side c.args.vpe c.args.dst c.args.name) _ c.in-Some.code c.answered.result c.in-Some.ensures
    c.answered.ensures

-- the VPE of the service is declared
pub make_ask-requires-clause-asked : goal.make_ask-requires-clause-asked
make_ask-requires-clause-asked c = ap (λ target. is_declared c.args.setup.now (target_vpe target)) c.session_with-target.ensures.target
    ∙ c.in-Some-service_key.ensures.declared.0

pub make_ask-requires-clause-free : goal.make_ask-requires-clause-free
make_ask-requires-clause-free c = open-free c.args.setup.now c.args.kernel (with_vpes c.args.vpes.now.rows no_side) c.args.vpe c.args.dst c.args.name
    c.in_default.ensures

-- no test holds
pub returns-clause-row : goal.returns-clause-row
returns-clause-row c s =
    let side = with_vpes_parks_outs c.args.vpes.now.rows c.args.park.now c.args.outs.now.boxes s in
    ap (λ o. record { side = with_vpes_parks_outs c.make_ask.new.vpes.rows c.make_ask.new.park c.make_ask.new.outs.boxes s; outcome = o }) c.nothing.ensures
    ∙ c.make_ask.ensures.row s
    ∙ ap (λ target. ask_made c.args.setup.now c.args.kernel c.args.vpe c.args.dst target side) c.session_with-target.ensures.target
    ∙ sym (open-done c.args.setup.now c.args.kernel side c.args.vpe c.args.dst c.args.name c.in-Some-service_key.service c.in_default.ensures
    c.in-Some-service_key.ensures.key)
