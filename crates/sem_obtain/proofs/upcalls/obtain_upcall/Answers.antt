use Rattle.std.proofs.Common.{◌≡◌, Option, Some, None, sym, ap, subst, ◌∙◌, rules}
use Rattle.std.specs.Option.{IfSome}
use Rattle.sem_key.specs.CapList.{cap_of}
use Rattle.sem_key.specs.Capability.{Capability, capability_of}
use Rattle.sem_key.specs.KeyName.{KeyName}
use Rattle.sem_key.specs.PlaceName.{keyed}
use Rattle.sem_key.specs.ObjectRanges.{object_kind}
use Rattle.sem_msg.specs.declared.entry.Consent.TheVariants.{Yes, No}
use Rattle.sem_msg.specs.declared.entry.Outcome.{Outcome}
use Rattle.sem_msg.specs.Lookups.{kernel_of}
use Rattle.sem_machine.specs.Sides.{Side}
use Rattle.sem_machine.specs.Steps.{unshown, asking, granting}
use Rattle.sem_machine.specs.Stores.{with_caps, with_caps_vpes_parks_outs}
use Rattle.sem_obtain.specs.Asking.{IsGivable, child_sent}
use Rattle.sem_obtain.proofs.Granting.{decided-dropped, decided-denied, decided-consented, consented-awaited}
use Rattle.sem_obtain.proofs.Granting.{consent-refused, consent-given, given-kind, child-given}
use Rattle.sem_obtain.proofs.upcalls.obtain_upcall.Goals as goal

-- nobody waits for the answer
pub returns-in-Dropped-clause-row : goal.returns-in-Dropped-clause-row
returns-in-Dropped-clause-row c s =
    let side = with_caps_vpes_parks_outs c.args.caps.now.caps c.args.vpes.now.rows c.args.park.now c.args.outs.now.boxes s in
    ap (λ (o : Outcome). record { side = side; outcome = o }) (search rules)
    ∙ sym (decided-dropped c.args.setup.now c.args.kernel c.args.vpe c.args.place c.args.target side (sym c.answer.ensures ∙ search rules))

-- the VPE denies
pub returns-in-No-clause-row : goal.returns-in-No-clause-row
returns-in-No-clause-row c s =
    let side = with_caps_vpes_parks_outs c.args.caps.now.caps c.args.vpes.now.rows c.args.park.now c.args.outs.now.boxes s in
    ap (λ (o : Outcome). record {
      side = with_caps_vpes_parks_outs c.args.caps.now.caps c.refuse_ask.new.vpes.rows c.refuse_ask.new.park c.refuse_ask.new.outs.boxes s;
      outcome = o;
    })
    (search rules)
    ∙ ap (λ t. asking c.args.place.vpe No (unshown t)) (c.refuse_ask.ensures.row c.args.target (with_caps c.args.caps.now.caps s))
    ∙ sym (decided-denied c.args.setup.now c.args.kernel c.args.vpe c.args.place c.args.target side (sym c.answer.ensures ∙ search rules))

-- the asker, if it is of this kernel, waits
pub give-requires-clause-free : goal.give-requires-clause-free
give-requires-clause-free c here =
    let T = c.args.setup.now in
    let key = c.granting-grant.ensures.key in
    let asker = sym (ap (λ (k : KeyName). kernel_of T k.vpe) key) ∙ here in
    let waits = consented-awaited T c.args.kernel c.args.vpe c.args.park.now c.args.place (sym c.answer.ensures ∙ search rules) asker in
    ap (cap_of c.args.caps.now.caps) key ∙ c.requires.free waits (object_kind c.granting-grant.result.object)

-- the VPE consents, and a test refuses
pub returns-in-Some-clause-row : goal.returns-in-Some-clause-row
returns-in-Some-clause-row c s =
    let T = c.args.setup.now in
    let side = with_caps_vpes_parks_outs c.args.caps.now.caps c.args.vpes.now.rows c.args.park.now c.args.outs.now.boxes s in
    ap (λ (o : Outcome). record {
      side = with_caps_vpes_parks_outs c.args.caps.now.caps c.refuse_ask-in-Some.new.vpes.rows c.refuse_ask-in-Some.new.park
          c.refuse_ask-in-Some.new.outs.boxes s;
      outcome = o;
    })
    (search rules)
    ∙ ap (λ t. asking c.args.place.vpe Yes (unshown t)) (c.refuse_ask-in-Some.ensures.row c.args.target (with_caps c.args.caps.now.caps s))
    ∙ ap (asking c.args.place.vpe Yes) (sym (consent-refused T c.args.kernel c.args.vpe c.args.place c.args.target side c.in-Some.code
    c.in-Some.ensures.code))
    ∙ sym (decided-consented T c.args.kernel c.args.vpe c.args.place c.args.target side (sym c.answer.ensures ∙ search rules))

-- it consents, and no test refuses
pub returns-in-Some-source-clause-row : goal.returns-in-Some-source-clause-row
returns-in-Some-source-clause-row c s =
    let T = c.args.setup.now in
    let i = c.args.kernel in
    let place = c.args.place in
    let target = c.args.target in
    let g = c.granting-grant.result in
    let side = with_caps_vpes_parks_outs c.args.caps.now.caps c.args.vpes.now.rows c.args.park.now c.args.outs.now.boxes s in
    let after = with_caps_vpes_parks_outs c.give.new.caps.caps c.give.new.vpes.rows c.give.new.park c.give.new.outs.boxes s in
    let p = capability_of c.in-Some-source.cap.now in
    let givable : IsGivable c.args.caps.now p =
    subst (λ (o : Option Capability). IfSome o (IsGivable c.args.caps.now)) (sym c.in-Some-source.ensures) c.requires.source in
    let object = c.granting-grant.ensures.object in
    let key = c.granting-grant.ensures.key ∙ ap (keyed place) (ap object_kind object ∙ given-kind target place.vpe p givable.kind) in
    let shown : c.asked-in-Yes.result ≡ record { asked = Some (place.vpe, Yes); grant = Some (g.parent, g.key); cut = None; reply = None } = search rules in
    ap (λ (o : Outcome). record { side = after; outcome = o }) shown
    ∙ ap (λ (t : Side). asking place.vpe Yes (granting g.parent g.key (unshown t))) (c.give.ensures.row s)
    ∙ ap (λ (k : KeyName). asking place.vpe Yes (granting k g.key (unshown (child_sent T i k g.key g.object side)))) c.granting-grant.ensures.parent
    ∙ ap (asking place.vpe Yes) (child-given T i place target side p g.key g.object key object)
    ∙ ap (asking place.vpe Yes) (sym (consent-given T i c.args.vpe place target side p c.in_default.ensures.code c.in-Some-source.ensures))
    ∙ sym (decided-consented T i c.args.vpe place target side (sym c.answer.ensures ∙ search rules))
