use Rattle.std.proofs.Common.{◌≡◌, ◌++◌, ◌∷◌, [], map, sym, ap, refl, subst, ◌∙◌}
use Rattle.std.specs.List.{All}
use Rattle.std.proofs.lemmas.List.{take_all}
use Rattle.sem_key.specs.KeyName.{IsValidKey}
use Rattle.sem_key.specs.KeyList.{key_set}
use Rattle.sem_machine.specs.Journals.{made}
use Rattle.sem_machine.proofs.Pushing.{schedule-empty}
use Rattle.sem_query.specs.Lives.{KeyLife}
use Rattle.sem_query.specs.Building.{life_so_far}
use Rattle.sem_query.proofs.Begin.{so-far-keyed}
use Rattle.sem_query.proofs.Beginning.{all-valid, set-of-lives, map-more}
use Rattle.sem_query.proofs.builds.begin.Goals as goal

pub sort_keys-requires : goal.sort_keys-requires
sort_keys-requires c =
    subst (All IsValidKey) (sym c.in_ok-keys.ensures.keys) (all-valid c.args.setup.now c.requires.setup c.args.journal.now.entries c.requires.schedule)

pub loop-key-preserved : goal.loop-key-preserved
loop-key-preserved c =
    map-more (life_so_far c.args.setup.now []) c.deref-key-items.result.now c.loop-key.key-index c.key-item.result c.loop-key.lives.items c.push.new.self.items
    c.loop-key-test.true c.key-item.is c.loop-key.invariant
    (c.in_ok-push.ensures.items ∙ ap (λ (l : KeyLife). c.loop-key.lives.items ++ l ∷ []) c.first_life.ensures)

pub new-requires : goal.new-requires
new-requires c =
    let T = c.args.setup.now in
    let J = c.args.journal.now.entries in
    let listed : c.loop-key.lives.items ≡ map (life_so_far T []) (key_set (made T J)) = c.loop-key.invariant
    ∙ ap (map (life_so_far T [])) (take_all c.loop-key.key-index c.deref-key-items.result.now c.loop-key-test.false
    ∙ (c.deref-key-items.ensures.value ∙ (c.sort_keys.ensures ∙ ap key_set c.in_ok-keys.ensures.keys))) in
    set-of-lives T c.requires.setup J c.requires.schedule (life_so_far T []) (so-far-keyed T c.requires.setup [] (schedule-empty T [] refl))
    c.loop-key.lives.items listed

pub returns : goal.returns
returns c =
    let T = c.args.setup.now in
    c.new.ensures ∙ (c.loop-key.invariant ∙ ap (map (life_so_far T [])) (take_all c.loop-key.key-index c.deref-key-items.result.now c.loop-key-test.false
    ∙ (c.deref-key-items.ensures.value ∙ (c.sort_keys.ensures ∙ ap key_set c.in_ok-keys.ensures.keys))))
