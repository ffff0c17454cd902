use Rattle.std.proofs.Common.{List, ℕ, ◌∷◌, [], ◌∙◌, ap}
use Rattle.sem_outcomes.proofs.Starting.{met-begun, first-added}
use Rattle.sem_outcomes.proofs.histories.Histories.new.Goals as goal

pub returns-clause-met : goal.returns-clause-met
returns-clause-met c =
    met-begun c.args.setup.now _ c.new.ensures.items
    (c.numbers-2.view_is
    ∙ (first-added c.new-numbers.result c.add.new.self c.in_ok-zeros.field-0.items c.in_ok-add.field-0 c.new-numbers.ensures c.in_ok-add.ensures.added
    c.in_ok-add.ensures.there
    ∙ ap (λ (ns : List ℕ). ns ∷ []) c.in_ok-zeros.ensures))
    c.in_ok-empty_trees.ensures
