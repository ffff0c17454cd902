use Rattle.std.proofs.Common.{sym, ap, subst, ◌∙◌}
use Rattle.std.specs.Prelude.{List}
use Rattle.sem_query.specs.Lives.{KeyLife, life_granted}
use Rattle.sem_query.specs.Searching.{IsLifeAt}
use Rattle.sem_query.specs.Building.{granted_of}
use Rattle.sem_query.proofs.Editing.{changed-at, changed-gap, set-lives}
use Rattle.sem_query.proofs.index.Index.grant.Goals as goal

pub invariant_of-self : goal.invariant_of-self
invariant_of-self c =
    let place = subst (λ (xs : List KeyLife). IsLifeAt xs c.args.key c.in-Ok.at) (sym c.self.view_is) c.in-Ok.ensures.found in
    set-lives c.self.inside.lives.items c.self.invariant c.args.key c.in-Ok.at place c.index_mut.result.now c.grant.new.self c.index_mut.ensures.value
    (ap (λ (l : KeyLife). l.key) c.grant.ensures)

pub returns-in-Ok : goal.returns-in-Ok
returns-in-Ok c =
    let place = subst (λ (xs : List KeyLife). IsLifeAt xs c.args.key c.in-Ok.at) (sym c.self.view_is) c.in-Ok.ensures.found in
    changed-at c.self.inside.lives.items c.self.invariant c.args.key c.in-Ok.at place (λ l. life_granted l.key c.args.n) c.index_mut.result.now c.grant.new.self
    c.index_mut.ensures.value c.grant.ensures
    ∙ ap (granted_of c.args.key c.args.n) c.self.view_is

pub returns-in-Err : goal.returns-in-Err
returns-in-Err c = changed-gap c.args.self.now c.place.ensures.lives c.args.key _ c.in-Err.ensures.absent (λ l. life_granted l.key c.args.n)
