use Rattle.std.proofs.Common.{◌≡◌, false, take}
use Rattle.std.specs.List.{list_any}
use Rattle.std.specs.Str.{bytes_eq}
use Rattle.sem_trace.specs.declared.line_forms.LineForm.{LineForm}
use Rattle.sem_trace.proofs.declarations.line_named.Given as goal

-- none so far has the name
abbrev pub invariant-loop-form : goal.invariant-loop-form
invariant-loop-form l = list_any (λ (form : LineForm). bytes_eq l.name form.name.now) (take l.form-index l.forms) ≡ false
