use Rattle.std.proofs.Common.{not, ap, rules, ◌∙◌}
use Rattle.std.proofs.lemmas.Fn.{filter_same}
use Rattle.sem_key.specs.KeyName.{key_eq}
use Rattle.sem_delegate.specs.PendingStore.{PendingStore, without_pending}
use Rattle.sem_delegate.proofs.pendings.Pendings.take.Goals as goal

-- the others are kept
pub returns-clause-pendings : goal.returns-clause-pendings
returns-clause-pendings c =
    filter_same _ (λ p. not (key_eq p.key c.args.key)) _ (λ p b f' k. search rules) _ _ c.retain.ensures.filtered
    ∙ ap (λ (store : PendingStore). without_pending store.pendings c.args.key) c.self.view_is
