use Rattle.std.proofs.Common.{arith, List, [], refl, sym, ◌∙◌, ap, subst}
use Rattle.std.proofs.lemmas.List.{get_or_read}
use Rattle.sem_machine.specs.Machine.{entry_of}
use Rattle.sem_machine.specs.Schedules.{world_after}
use Rattle.sem_numbering.specs.Nodes.{Node, HasNoNode}
use Rattle.sem_outcomes.specs.declared.steps.Step.{Step}
use Rattle.sem_outcomes.specs.Met.{journal_at, HistoriesValue}
use Rattle.sem_outcomes.proofs.Meeting.{own-tree, fabric-own, fabric-peer, from-within, part-found, pushed-met, pushed-numbers}
use Rattle.sem_outcomes.proofs.meetings.part_after.Goals as goal

pub input_of-message-requires-clause-own : goal.input_of-message-requires-clause-own
input_of-message-requires-clause-own c =
    fabric-own c.args.setup.now c.args.histories.now c.args.histories.now refl c.requires.met c.args.at c.requires.at c.args.event c.requires.enabled
    c.args.fabric.now c.requires.links

pub input_of-message-requires-clause-peer : goal.input_of-message-requires-clause-peer
input_of-message-requires-clause-peer c =
    fabric-peer c.args.setup.now c.args.histories.now c.args.histories.now refl c.requires.met c.args.at c.requires.at c.args.event c.requires.enabled
    c.args.fabric.now c.requires.links

pub index-requires : goal.index-requires
index-requires c =
    let less = own-tree c.args.setup.now c.args.histories.now _ c.histories.view_is c.requires.met c.args.at c.requires.at c.args.event c.requires.enabled in
    omega (arith, less, c.histories.inside.trees.ok.0)

pub find-requires : goal.find-requires
find-requires c =
    let less = own-tree c.args.setup.now c.args.histories.now _ c.histories.view_is c.requires.met c.args.at c.requires.at c.args.event c.requires.enabled in
    from-within c.args.setup.now c.args.histories.now _ c.histories.view_is c.requires.met c.args.at c.requires.at c.args.event c.requires.enabled
    c.args.fabric.now
    c.requires.links
    c.args.from c.requires.from c.input_of-message.result c.input_of-message.ensures c.index.result.now
    (get_or_read c.histories.inside.trees.items _ _ less c.index.ensures [])

pub returns-in-Some-clause-number : goal.returns-in-Some-clause-number
returns-in-Some-clause-number c =
    let less = own-tree c.args.setup.now c.args.histories.now _ c.histories.view_is c.requires.met c.args.at c.requires.at c.args.event c.requires.enabled in
    part-found c.args.setup.now c.args.histories.now _ c.histories.view_is c.requires.met c.args.at c.requires.at c.args.event c.requires.enabled
    c.args.fabric.now
    c.requires.links
    c.args.from c.requires.from c.input_of-message.result c.input_of-message.ensures c.index.result.now
    (get_or_read c.histories.inside.trees.items _ _ less c.index.ensures [])
    c.in-Some.number c.in-Some.ensures.there

pub index_mut-requires : goal.index_mut-requires
index_mut-requires c =
    let less = own-tree c.args.setup.now c.args.histories.now _ c.histories.view_is c.requires.met c.args.at c.requires.at c.args.event c.requires.enabled in
    omega (arith, less, c.histories.inside.trees.ok.0)

pub push-requires : goal.push-requires
push-requires c =
    let less = own-tree c.args.setup.now c.args.histories.now _ c.histories.view_is c.requires.met c.args.at c.requires.at c.args.event c.requires.enabled in
    from-within c.args.setup.now c.args.histories.now _ c.histories.view_is c.requires.met c.args.at c.requires.at c.args.event c.requires.enabled
    c.args.fabric.now
    c.requires.links
    c.args.from c.requires.from c.input_of-message.result c.input_of-message.ensures c.index_mut.result.now
    (get_or_read c.histories.inside.trees.items _ _ less c.index_mut.ensures.value [])

pub returns-in-Ok-clause-met : goal.returns-in-Ok-clause-met
returns-in-Ok-clause-met c =
    let less = own-tree c.args.setup.now c.args.histories.now _ c.histories.view_is c.requires.met c.args.at c.requires.at c.args.event c.requires.enabled in
    let is_made = c.in-Ok.ensures ∙ ap (λ (ss : List Step). entry_of c.args.setup.now (world_after c.args.setup.now (journal_at c.args.setup.now ss c.args.at))
    c.args.event)
    (c.as_slice.ensures.value ∙ ap (λ (g : HistoriesValue). g.steps) c.histories.view_is) in
    pushed-met c.args.setup.now c.args.histories.now _ c.histories.view_is c.requires.met c.args.at c.requires.at c.args.event c.requires.enabled
    c.args.fabric.now
    c.requires.links
    c.args.from c.requires.from c.input_of-message.result c.input_of-message.ensures c.index_mut.result.now
    (get_or_read c.histories.inside.trees.items _ _ less c.index_mut.ensures.value [])
    (subst (λ (ms : List Node). HasNoNode ms c.args.from c.args.event c.input_of-message.result)
    (get_or_read c.histories.inside.trees.items _ _ less c.index.ensures []
    ∙ sym (get_or_read c.histories.inside.trees.items _ _ less c.index_mut.ensures.value []))
    c.in_default.ensures.none)
    c.push.result c.in-Ok.entry c.push.new.self _ is_made c.push.ensures.added c.push.ensures.err refl

pub returns-in-Ok-clause-number : goal.returns-in-Ok-clause-number
returns-in-Ok-clause-number c =
    let less = own-tree c.args.setup.now c.args.histories.now _ c.histories.view_is c.requires.met c.args.at c.requires.at c.args.event c.requires.enabled in
    let is_made = c.in-Ok.ensures ∙ ap (λ (ss : List Step). entry_of c.args.setup.now (world_after c.args.setup.now (journal_at c.args.setup.now ss c.args.at))
    c.args.event)
    (c.as_slice.ensures.value ∙ ap (λ (g : HistoriesValue). g.steps) c.histories.view_is) in
    pushed-numbers c.args.setup.now c.args.histories.now _ c.histories.view_is c.requires.met c.args.at c.requires.at c.args.event c.requires.enabled
    c.args.fabric.now c.requires.links
    c.args.from c.requires.from c.input_of-message.result c.input_of-message.ensures c.index_mut.result.now
    (get_or_read c.histories.inside.trees.items _ _ less c.index_mut.ensures.value [])
    (subst (λ (ms : List Node). HasNoNode ms c.args.from c.args.event c.input_of-message.result)
    (get_or_read c.histories.inside.trees.items _ _ less c.index.ensures []
    ∙ sym (get_or_read c.histories.inside.trees.items _ _ less c.index_mut.ensures.value []))
    c.in_default.ensures.none)
    c.push.result c.in-Ok.entry c.push.new.self _ is_made c.push.ensures.added c.push.ensures.number refl
