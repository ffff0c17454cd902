use Rattle.std.proofs.Common.{refl, arith}
use Rattle.std.specs.Str.{bytes_eq}
use Rattle.sem_trace.specs.declared.line_forms.RootForm.{RootForm}
use Rattle.sem_trace.specs.LineForms.{root_form}
use Rattle.sem_trace.proofs.CallRows.{none_more, no_row}
use Rattle.sem_trace.proofs.PlaceSteps.{differs}
use Rattle.sem_trace.proofs.declarations.root_named.Goals as goal

pub loop-form-preserved : goal.loop-form-preserved
loop-form-preserved c =
    none_more (λ (form : RootForm). bytes_eq c.args.name.now form.name.now) c.all-forms.result.now
    c.loop-form.form-index _ c.loop-form-test.true c.loop-form.invariant (differs _ _ c.if-is.ensures)

pub returns-clause-fault : goal.returns-clause-fault
returns-clause-fault c =
    rw (
      ← c.all-forms.ensures.table,
      no_row root_form c.all-forms.result.now c.args.name.now
          c.loop-form.form-index (omega arith) c.loop-form.invariant,
    ) refl
