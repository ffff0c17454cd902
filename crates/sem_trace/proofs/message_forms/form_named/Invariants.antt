use Rattle.std.proofs.Common.{◌≡◌, false, take}
use Rattle.std.specs.List.{All}
use Rattle.std.specs.Str.{bytes_eq}
use Rattle.sem_trace.specs.MessageForms.{form_name}
use Rattle.sem_trace.proofs.message_forms.form_named.Given as goal

-- no form so far has the name
abbrev pub invariant-loop-form : goal.invariant-loop-form
invariant-loop-form g l = All (λ form. bytes_eq l.name (form_name form) ≡ false) (take l.form-index l.forms)
