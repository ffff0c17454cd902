use Rattle.std.proofs.Common.{sym, ap, ◌∙◌}
use Rattle.sem_msg.specs.Lookups.{is_declared}
use Rattle.sem_msg.specs.Message.{target_vpe}
use Rattle.sem_machine.specs.Sides.{no_side, own}
use Rattle.sem_machine.specs.Calls.{ask_made, offer_tests}
use Rattle.sem_machine.specs.Stores.{owning, with_caps, with_caps_vpes_parks_outs}
use Rattle.sem_machine.proofs.FirstCodes.{row-refused}
use Rattle.sem_obtain.proofs.Refusing.{offer-done, offer-free}
use Rattle.sem_obtain.proofs.Services.{session-declared}
use Rattle.sem_obtain.proofs.calls.offer_call.Goals as goal

-- the first test that holds
pub returns-in-Some-clause-row : goal.returns-in-Some-clause-row
returns-in-Some-clause-row c s =
    let side = with_caps_vpes_parks_outs c.args.caps.now.caps c.args.vpes.now.rows c.args.park.now c.args.outs.now.boxes s in
    row-refused side (offer_tests c.args.setup.now c.args.kernel side c.args.vpe c.args.dst c.args.session) _ c.in-Some.code c.answered.result c.in-Some.ensures
    c.answered.ensures

pub offer_of-target-requires : goal.offer_of-target-requires
offer_of-target-requires c =
    (session-declared c.args.setup.now (own (owning c.args.caps.now.caps c.args.vpes.now.rows no_side) c.args.vpe c.args.session) c.in-Some-session_service.service
    c.requires.session c.in-Some-session_service.ensures).0.1

pub make_ask-requires-clause-asked : goal.make_ask-requires-clause-asked
make_ask-requires-clause-asked c = ap (λ target. is_declared c.args.setup.now (target_vpe target)) c.offer_of-target.ensures.target
    ∙ (session-declared c.args.setup.now (own (owning c.args.caps.now.caps c.args.vpes.now.rows no_side) c.args.vpe c.args.session) c.in-Some-session_service.service
    c.requires.session c.in-Some-session_service.ensures).1

pub make_ask-requires-clause-free : goal.make_ask-requires-clause-free
make_ask-requires-clause-free c = offer-free c.args.setup.now c.args.kernel (owning c.args.caps.now.caps c.args.vpes.now.rows no_side) c.args.vpe c.args.dst
    c.args.session c.in_default.ensures

-- no test holds
pub returns-clause-row : goal.returns-clause-row
returns-clause-row c s =
    let side = with_caps_vpes_parks_outs c.args.caps.now.caps c.args.vpes.now.rows c.args.park.now c.args.outs.now.boxes s in
    ap (λ o. record {
      side = with_caps_vpes_parks_outs c.args.caps.now.caps c.make_ask.new.vpes.rows c.make_ask.new.park c.make_ask.new.outs.boxes s;
      outcome = o;
    }) c.nothing.ensures
    ∙ c.make_ask.ensures.row (with_caps c.args.caps.now.caps s)
    ∙ ap (λ target. ask_made c.args.setup.now c.args.kernel c.args.vpe c.args.dst target side) c.offer_of-target.ensures.target
    ∙ sym (offer-done c.args.setup.now c.args.kernel side c.args.vpe c.args.dst c.args.session c.args.index c.in-Some-session_service.service
    c.in_default.ensures c.in-Some-session_service.ensures)
