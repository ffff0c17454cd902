use Rattle.std.proofs.Common.{sym, ◌∙◌, slice_get, ap}
use Rattle.std.specs.Prelude.{List}
use Rattle.std.proofs.lemmas.Result.{IfOk-weaker}
use Rattle.sem_msg.specs.declared.event.Event.{Event}
use Rattle.sem_check.proofs.Judging.{makes-next, makes-some}
use Rattle.sem_check.proofs.checks.next_entry.Goals as goal

pub returns-in-Some-clause-next : goal.returns-in-Some-clause-next
returns-in-Some-clause-next c =
    let w = c.args.world.now in
    let first = sym c.in-Some.ensures.value in
    let listed = ap (λ (es : List Event). slice_get es 0) (sym (c.deref.ensures.value ∙ c.in_ok-enabled_events.ensures.ok)) in
    IfOk-weaker c.make_entry.result _ _ (λ made is. makes-next w.setup w.world c.in-Some.event.now made (listed ∙ first) is) c.make_entry.ensures.made

pub returns-in-Some-clause-same : goal.returns-in-Some-clause-same
returns-in-Some-clause-same c =
    let w = c.args.world.now in
    let first = sym c.in-Some.ensures.value in
    let listed = ap (λ (es : List Event). slice_get es 0) (sym (c.deref.ensures.value ∙ c.in_ok-enabled_events.ensures.ok)) in
    IfOk-weaker c.make_entry.result _ _ (λ made is none. absurd (makes-some w.setup w.world c.in-Some.event.now made (listed ∙ first) is none))
    c.make_entry.ensures.made
