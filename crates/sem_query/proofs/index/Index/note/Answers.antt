use Rattle.std.proofs.Common.{sym, ap, subst, ◌∙◌}
use Rattle.std.specs.Prelude.{List}
use Rattle.std.proofs.lemmas.Result.{on_ok_weaker}
use Rattle.sem_query.specs.Lives.{KeyLife}
use Rattle.sem_query.specs.Searching.{IsLifeAt}
use Rattle.sem_query.specs.Building.{noted_now, noted_of}
use Rattle.sem_query.proofs.Editing.{changed-at, changed-gap, set-lives}
use Rattle.sem_query.proofs.index.Index.note.Goals as goal

pub invariant_of-self : goal.invariant_of-self
invariant_of-self c =
    let place = subst (λ (xs : List KeyLife). IsLifeAt xs c.args.key c.in-Ok.at) (sym c.self.view_is) c.in-Ok.ensures.found in
    set-lives c.self.inside.lives.items c.self.invariant c.args.key c.in-Ok.at place c.index_mut.result.now c.note.new.self c.index_mut.ensures.value
    c.note.ensures.key

pub returns-in-Ok : goal.returns-in-Ok
returns-in-Ok c =
    let place = subst (λ (xs : List KeyLife). IsLifeAt xs c.args.key c.in-Ok.at) (sym c.self.view_is) c.in-Ok.ensures.found in
    on_ok_weaker c.note.result (λ is.
    changed-at c.self.inside.lives.items c.self.invariant c.args.key c.in-Ok.at place (noted_now c.args.n c.args.later) c.index_mut.result.now c.note.new.self
    c.index_mut.ensures.value is
    ∙ ap (noted_of c.args.key c.args.n c.args.later) c.self.view_is) c.note.ensures.ok

pub returns-in-Err : goal.returns-in-Err
returns-in-Err c = changed-gap c.args.self.now c.place.ensures.lives c.args.key _ c.in-Err.ensures.absent (noted_now c.args.n c.args.later)
