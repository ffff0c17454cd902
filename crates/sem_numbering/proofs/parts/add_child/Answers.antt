use Rattle.std.proofs.Common.{[], ◌∷◌, sym, subst}
use Rattle.std.specs.List.{Contains}
use Rattle.std.proofs.lemmas.List.Elements.{Contains-append_left, Contains-push}
use Rattle.sem_numbering.proofs.Children.{more-child, child-there}
use Rattle.sem_numbering.proofs.parts.add_child.Goals as goal

pub returns-in_err-push-clause-kept : goal.returns-in_err-push-clause-kept
returns-in_err-push-clause-kept c =
    more-child c.args.children.now.items c.args.from c.index_mut.result.now c.push.new.self c.requires c.index_mut.ensures.value
    (λ k among. subst (λ ks. Contains ks k) (sym c.in_err-push.ensures.items) among)

pub returns-clause-kept : goal.returns-clause-kept
returns-clause-kept c =
    more-child c.args.children.now.items c.args.from c.index_mut.result.now c.push.new.self c.requires c.index_mut.ensures.value
    (λ k among. subst (λ ks. Contains ks k) (sym c.in_ok-push.ensures.items) (Contains-append_left c.index_mut.result.now.items (c.args.place ∷ []) k among))

pub returns-clause-there : goal.returns-clause-there
returns-clause-there c =
    child-there c.args.children.now.items c.args.from c.index_mut.result.now c.push.new.self c.requires c.index_mut.ensures.value c.args.place
    (subst (λ ks. Contains ks c.args.place) (sym c.in_ok-push.ensures.items) (Contains-push c.index_mut.result.now.items c.args.place))
