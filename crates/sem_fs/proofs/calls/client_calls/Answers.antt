use Rattle.std.proofs.Common.{◌≡◌, ◌==◌, [], ◌∷◌, ◌++◌, ap, sym, ◌∙◌}
use Rattle.std.specs.List.{list_any}
use Rattle.sem_msg.specs.declared.call.Call.TheVariants.{OpenSession}
use Rattle.sem_files.specs.declared.files.Command.{Command}
use Rattle.sem_files.specs.Files.{Files}
use Rattle.sem_files.specs.Compiled.{SESSION, calls_from}
use Rattle.sem_fs.proofs.ClientCalls.{rests, opens}
use Rattle.sem_fs.proofs.calls.client_calls.Goals as goal

pub returns-then-not-has_commands : goal.returns-then-not-has_commands
returns-then-not-has_commands c =
    let is : list_any (λ (d : Command). d.client == c.args.client) c.args.files.now.commands ≡ c.has_commands.result =
    ap (list_any (λ (d : Command). d.client == c.args.client)) (sym (c.as_slice.ensures ∙ ap (λ (F : Files). F.commands) c.files.view_is))
    ∙ sym c.has_commands.ensures in
    c.new-calls.ensures ∙ sym (rests c.args.files.now c.args.client (is ∙ c.if-not-has_commands.true))

pub returns : goal.returns
returns c =
    let is : list_any (λ (d : Command). d.client == c.args.client) c.args.files.now.commands ≡ c.has_commands.result =
    ap (list_any (λ (d : Command). d.client == c.args.client)) (sym (c.as_slice.ensures ∙ ap (λ (F : Files). F.commands) c.files.view_is))
    ∙ sym c.has_commands.ensures in
    c.in_ok-push_calls.ensures
    ∙ (ap (λ cs. cs ++ calls_from c.args.files.now c.args.client [] c.args.files.now.commands)
    (c.in_ok-push.ensures.ok ∙ ap (λ cs. cs ++ OpenSession SESSION 0 ∷ []) c.new-calls.ensures)
    ∙ sym (opens c.args.files.now c.args.client (is ∙ c.if-not-has_commands.false)))
