use Rattle.std.proofs.Common.{refl, sym, ap, ◌∙◌, rules}
use Rattle.sem_key.specs.Capability.{capability_of}
use Rattle.sem_machine.specs.Calls.{delegate_tests}
use Rattle.sem_machine.specs.Stores.{with_caps, with_vpes_parks_outs}
use Rattle.sem_machine.proofs.FirstCodes.{row-refused}
use Rattle.sem_delegate.proofs.Refusing.{delegate-done}
use Rattle.sem_delegate.proofs.calls.delegate_call.Goals as goal

-- the first test that holds
pub returns-in-Some-clause-row : goal.returns-in-Some-clause-row
returns-in-Some-clause-row c s =
    let side = with_caps c.args.caps.now.caps (with_vpes_parks_outs c.args.vpes.now.rows c.args.park.now c.args.outs.now.boxes s) in
    row-refused side (delegate_tests c.args.setup.now c.args.kernel side c.args.vpe c.args.src c.args.other) _ c.in-Some.code c.answered.result
    c.in-Some.ensures c.answered.ensures

-- no test holds
pub returns-clause-row : goal.returns-clause-row
returns-clause-row c s =
    let side = with_caps c.args.caps.now.caps (with_vpes_parks_outs c.args.vpes.now.rows c.args.park.now c.args.outs.now.boxes s) in
    ap (λ o. record {
      side = with_caps c.args.caps.now.caps (with_vpes_parks_outs c.make_offer.new.vpes.rows
          c.make_offer.new.park c.make_offer.new.outs.boxes s);
      outcome = o;
    })
    c.nothing.ensures
    ∙ c.make_offer.ensures.row (capability_of c.in-Some-and_then.cap.now) (with_caps c.args.caps.now.caps s) refl refl
    ∙ sym (delegate-done c.args.setup.now c.args.kernel side c.args.vpe c.args.src c.args.other c.args.dst (capability_of c.in-Some-and_then.cap.now)
    c.in_default.ensures (search rules))
