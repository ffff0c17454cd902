use Rattle.std.proofs.Common.{ap, ◌∙◌}
use Rattle.sem_key.specs.KeyName.{KeyName}
use Rattle.sem_key.specs.CapList.{cap_of}
use Rattle.sem_caps.specs.CapStore.{CapStore}
use Rattle.sem_key.proofs.Finds.{absent-linked}
use Rattle.sem_delegate.proofs.consents.take_child.Goals as goal

-- the number was not drawn before
pub insert-requires-clause-absent : goal.insert-requires-clause-absent
insert-requires-clause-absent c =
    let k : KeyName = c.draw_key-key.result in
    ap (λ (store : CapStore). cap_of store.caps k) c.link.ensures
    ∙ absent-linked c.args.caps.now.caps c.args.delegation.parent k k (ap (cap_of c.args.caps.now.caps) c.draw_key-key.ensures.key ∙ c.requires.free c.parent.inside.kind)
