use Rattle.std.proofs.Common.{◌≡◌, ℕ, ◌+◌, ◌≤◌, List, [], ◌∷◌, ◌++◌, suc, take, drop, length, subst, sym, ap, ◌∙◌, arith}
use Rattle.std.proofs.lemmas.List.{take_more, take_all, length-take-le}
use Rattle.sem_msg.specs.declared.entry.Entry.{Entry}
use Rattle.sem_machine.specs.Schedules.{world_after}
use Rattle.sem_story.specs.Stages.{stage_in}
use Rattle.sem_story.specs.Telling.{TellStages}
use Rattle.sem_story.specs.Walks.{IsAfter}
use Rattle.sem_story.proofs.Walking.{next-enabled, with-it}
use Rattle.sem_story.proofs.walks.walk_through.Goals as goal

pub loop-place-init : goal.loop-place-init
loop-place-init c = c.in_ok-walk.ensures

pub go_on-requires : goal.go_on-requires
go_on-requires c = next-enabled c.args.setup.now c.args.entries.now c.requires c.loop-place.place c.index-entries-place.result c.loop-place-test.true
    c.index-entries-place.is c.loop-place.walk.world c.loop-place.invariant.world

-- one entry more
pub loop-place-preserved : goal.loop-place-preserved
loop-place-preserved c =
    let J : List Entry = c.args.entries.now in
    let i : ℕ = c.loop-place.place in
    let e : Entry = c.index-entries-place.result in
    let more : take (i + 1) J ≡ take i J ++ e ∷ [] = take_more J i e c.loop-place-test.true
    ∙ ap (λ (x : Entry). take i J ++ x ∷ []) (sym c.index-entries-place.is) in
    let within : i ≤ length J = omega (arith, c.loop-place-test.true) in
    subst (λ (K : List Entry). IsAfter c.args.setup.now K c.args.key c.go_on.new.self) (sym more)
    (c.in_ok-go_on.ensures J (take i J) (drop (suc i) J) c.requires (with-it c.args.setup.now J c.requires i e c.loop-place-test.true c.index-entries-place.is)
    (sym (length-take-le i J within)) c.loop-place.invariant)

pub returns-clause-rows : goal.returns-clause-rows
returns-clause-rows c = subst (λ (K : List Entry). TellStages c.args.setup.now K c.args.key c.loop-place.walk.rows.items)
    (take_all c.loop-place.place c.args.entries.now c.loop-place-test.false) c.loop-place.invariant.rows

pub returns-clause-stage : goal.returns-clause-stage
returns-clause-stage c = c.loop-place.invariant.stage
    ∙ ap (λ (K : List Entry). stage_in c.args.setup.now (world_after c.args.setup.now K) c.args.key)
    (take_all c.loop-place.place c.args.entries.now c.loop-place-test.false)
