use Rattle.std.proofs.Common.{◌≡◌, false, map, refl, sym, ◌∙◌, take}
use Rattle.std.specs.Str.{bytes_eq}
use Rattle.std.proofs.lemmas.List.{take_all}
use Rattle.std.proofs.lemmas.List.Elements.{All-more, All-map, All-same}
use Rattle.std.proofs.lemmas.List.Folds.{list_any_none}
use Rattle.sem_trace.specs.MessageForms.{form_name}
use Rattle.sem_trace.proofs.PlaceSteps.{differs}
use Rattle.sem_trace.proofs.message_forms.form_named.Goals as goal

pub loop-form-preserved : goal.loop-form-preserved
loop-form-preserved g c =
    All-more (λ form. bytes_eq c.args.name.now (form_name form) ≡ false) c.args.forms.now c.loop-form.form-index c.form-item.result c.loop-form-test.true
    c.loop-form.invariant (rw (← c.form-item.is, ← c.as_bytes.ensures.value) (differs _ _ c.if-is.ensures))

pub returns : goal.returns
returns g c =
    list_any_none (bytes_eq c.args.name.now) (map form_name c.args.forms.now)
    (All-map (λ name. bytes_eq c.args.name.now name ≡ false) form_name c.args.forms.now
    (All-same (λ form. bytes_eq c.args.name.now (form_name form) ≡ false) c.args.forms.now
    (take c.loop-form.form-index c.args.forms.now) (sym (take_all _ _ c.loop-form-test.false))
    c.loop-form.invariant))

pub returns-then-is : goal.returns-then-is
returns-then-is g c = ((c.loop-form.form-index, c.loop-form-test.true, sym c.form-item.is), c.if-is.ensures.0 refl ∙ c.as_bytes.ensures.value)
