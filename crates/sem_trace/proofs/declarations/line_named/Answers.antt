use Rattle.std.proofs.Common.{◌≤◌, refl, length, arith}
use Rattle.std.proofs.lemmas.List.Elements.{All-get_or}
use Rattle.std.specs.Str.{bytes_eq}
use Rattle.sem_trace.specs.declared.line_forms.LineForm.{LineForm}
use Rattle.sem_trace.specs.LineForms.{line_form, IsLineRow}
use Rattle.sem_trace.proofs.CallRows.{none_more, no_row}
use Rattle.sem_trace.proofs.PlaceSteps.{differs}
use Rattle.sem_trace.proofs.LineRows.{some_lines}
use Rattle.sem_trace.proofs.declarations.line_named.Goals as goal

pub loop-form-preserved : goal.loop-form-preserved
loop-form-preserved c =
    none_more (λ (form : LineForm). bytes_eq c.args.name.now form.name.now) c.all-forms.result.now
    c.loop-form.form-index _ c.loop-form-test.true c.loop-form.invariant (differs _ _ c.if-is-2.ensures)

pub returns-clause-fault : goal.returns-clause-fault
returns-clause-fault c kernels words =
    rw (
      ← c.all-forms.ensures.table kernels words,
      no_row (line_form c.args.version kernels words) c.all-forms.result.now c.args.name.now
          c.loop-form.form-index (omega arith) c.loop-form.invariant,
    ) refl

pub bounds-forms-8 : goal.bounds-forms-8
bounds-forms-8 c =
    let some : 10 ≤ length c.all-forms.result.now = some_lines c.args.version c.all-forms.result.now c.all-forms.ensures.table in
    omega arith

pub returns-then-is-clause-row : goal.returns-then-is-clause-row
returns-then-is-clause-row c =
    let some : 10 ≤ length c.all-forms.result.now = some_lines c.args.version c.all-forms.result.now c.all-forms.ensures.table in
    All-get_or (IsLineRow c.args.version) c.all-forms.result.now 8 _ (omega arith) c.all-forms.ensures.rows
