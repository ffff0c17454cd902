use Rattle.std.proofs.Common.{◌≡◌, ℕ, List, [], ◌∷◌, ◌++◌, sym, ◌∙◌, subst}
use Rattle.std.specs.List.{Contains}
use Rattle.std.proofs.lemmas.Bool.{not-true, not-false}
use Rattle.sem_numbering.proofs.Among.{seen, seen-added, seen-there}
use Rattle.sem_numbering.proofs.lists.NumberLists.add.Goals as goal

pub returns-clause-added : goal.returns-clause-added
returns-clause-added c = λ is.
    let new = c.insert.new.self.keys in
    let ns = c.args.list.items in
    subst (λ (old : List (List ℕ)). (Contains old ns → ⊥) × (seen new ≡ old ++ ns ∷ [])) c.self.view_is
    (seen-added c.self.inside.lists.keys new c.args.list c.in_ok-insert.ensures.keys (not-true _ (sym c.in_ok-insert.ensures.added ∙ is)))

pub returns-clause-there : goal.returns-clause-there
returns-clause-there c = λ is.
    let new = c.insert.new.self.keys in
    let ns = c.args.list.items in
    subst (λ (old : List (List ℕ)). Contains old ns × (seen new ≡ old)) c.self.view_is
    (seen-there c.self.inside.lists.keys new c.args.list c.in_ok-insert.ensures.keys (not-false _ (sym c.in_ok-insert.ensures.added ∙ is)))
