use Rattle.std.proofs.Common.{refl, arith}
use Rattle.std.specs.Str.{bytes_eq}
use Rattle.sem_trace.specs.declared.call_forms.CallForm.{CallForm}
use Rattle.sem_trace.specs.Slots.{form_of}
use Rattle.sem_trace.proofs.CallRows.{none_more, no_row}
use Rattle.sem_trace.proofs.PlaceSteps.{differs}
use Rattle.sem_trace.proofs.calls.named.Goals as goal

pub loop-form-preserved : goal.loop-form-preserved
loop-form-preserved c =
    none_more (λ (form : CallForm). bytes_eq c.args.name.now form.name.now) c.all-forms.result.now
    c.loop-form.form-index _ c.loop-form-test.true c.loop-form.invariant (differs _ _ c.if-is.ensures)

pub returns-clause-fault : goal.returns-clause-fault
returns-clause-fault c version =
    rw (
      ← c.all-forms.ensures.table version,
      no_row (form_of version) c.all-forms.result.now c.args.name.now
          c.loop-form.form-index (omega arith) c.loop-form.invariant,
    ) refl
