use Rattle.std.proofs.Common.{◌≡◌, List, ◌∷◌, [], ap, subst, Option, None, Some, true}
use Rattle.std.specs.Prelude.{All, IfSome}
use Rattle.std.proofs.lemmas.List.Elements.{All-head}
use Rattle.sem_msg.specs.Journal.{part}
use Rattle.sem_msg.specs.Fabric.{FabricValue}
use Rattle.sem_turn.specs.declared.rule.Share.{Share}
use Rattle.sem_turn.specs.Passes.{PassValue, has_place}
use Rattle.sem_turn.specs.Rule.{IsShareOf}
use Rattle.sem_turn.specs.Steps.{Sat}
use Rattle.sem_turn.proofs.turn.Turn.try_take.Goals as goal

-- The only share of a seat fits the fabric that was taken.
module _ (ps : List Share) (p : Share) (same : ps ≡ p ∷ []) where
  the_entries : (o : Option FabricValue) → IfSome o (λ f. All (IsShareOf f) ps) → IfSome o (λ f. p.entries ≡ part f.journal p.kernel)
  the_entries None fits = tt
  the_entries (Some f) fits = (All-head (IsShareOf f) p [] (subst (All (IsShareOf f)) same fits)).0

  the_place : (o : Option FabricValue) → IfSome o (λ f. All (IsShareOf f) ps) → IfSome o (λ f. p.placed ≡ true → has_place f p.kernel ≡ true)
  the_place None fits = tt
  the_place (Some f) fits = (All-head (IsShareOf f) p [] (subst (All (IsShareOf f)) same fits)).1

pub returns-clause-entries : goal.returns-clause-entries
returns-clause-entries g c =
    subst (λ (p : PassValue). IfSome c.try_out.result (λ f. p.entries ≡ part f.journal p.kernel)) c.pass.view_is
    (the_entries _ _ (ap (λ (m : Sat). m.0.shares) c.pass.invariant.2) c.try_out.result c.try_out.ensures.fits)

pub returns-clause-place : goal.returns-clause-place
returns-clause-place g c =
    subst (λ (p : PassValue). IfSome c.try_out.result (λ f. p.placed ≡ true → has_place f p.kernel ≡ true)) c.pass.view_is
    (the_place _ _ (ap (λ (m : Sat). m.0.shares) c.pass.invariant.2) c.try_out.result c.try_out.ensures.fits)
