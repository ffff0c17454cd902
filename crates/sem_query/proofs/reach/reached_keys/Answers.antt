use Rattle.std.proofs.Common.{List, subst, ◌∙◌}
use Rattle.sem_key.specs.KeyName.{KeyName}
use Rattle.std.proofs.lemmas.Result.{IfOk-weaker}
use Rattle.sem_query.specs.Reaching.{AreReached}
use Rattle.sem_query.proofs.Rooting.{revoked-are}
use Rattle.sem_query.proofs.reach.reached_keys.Goals as goal

pub returns : goal.returns
returns c =
    let caps = c.args.kernel.now.side.caps in
    IfOk-weaker c.walk.result _ _
    (λ keys are. revoked-are caps c.args.entry.now keys.items (subst (λ (roots : List KeyName). AreReached caps roots keys.items) (c.deref.ensures.value
    ∙ c.in_ok-roots.ensures) are))
    c.walk.ensures
