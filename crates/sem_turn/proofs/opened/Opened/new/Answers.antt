use Rattle.std.proofs.Common.{ap, ◌∙◌, ◌∷◌, ◌++◌, [], length, Some, sym, arith}
use Rattle.sem_msg.specs.Setup.{Setup}
use Rattle.sem_turn.specs.Rule.{first_view}
use Rattle.sem_turn.specs.Steps.{Sat}
use Rattle.sem_turn.proofs.Opening.{begins_as}
use Rattle.sem_turn.proofs.opened.Opened.new.Goals as goal

pub new-requires : goal.new-requires
new-requires c = begins_as _ c.args.fabric _ (c.in_ok-push.ensures.items ∙ ap (λ l. l ++ Some c.args.fabric ∷ []) c.new-slots.ensures.items) c.requires

pub invariant_of-result : goal.invariant_of-result
invariant_of-result c =
    let e = c.in-Ok.ensures.ok in
    let some_kernel = c.setup.invariant.some_kernel in
    let seen = ap (λ (T : Setup). T.kernels) c.setup.view_is in
    let kept = ap (λ (T : Setup). T.kernels) e.5 in
    let slots = c.in_ok-push.ensures.items ∙ ap (λ l. l ++ Some c.args.fabric ∷ []) c.new-slots.ensures.items in
    let me : Sat → Sat = λ m. m in
    (omega (arith, some_kernel, seen, kept), e.0, e.1 ∙ ap length slots, e.2, e.4 ∙ ap (λ (T : Setup). me (first_view T.kernels, [])) (sym e.5))
