use Rattle.std.proofs.Common.{◌≡◌, ap, sym, ◌∙◌, Option, Some, subst}
use mathlib.Core.Option.{some, some-injective}
use Rattle.std.specs.Prelude.{All}
use Rattle.std.specs.Option.{unwrap_or}
use Rattle.sem_msg.specs.Fabric.{FabricValue}
use Rattle.sem_turn.specs.Passes.{IsWhole}
use Rattle.sem_turn.specs.Rule.{IsShareOf}
use Rattle.sem_turn.proofs.Closing.{closes}
use Rattle.sem_turn.proofs.turn.Turn.finish.Goals as goal

same_fabric : (f g : FabricValue) (r : Option FabricValue) → some (Some f) ≡ some r → r ≡ Some g → f ≡ g
same_fabric f g r e d = ap (λ (o : Option FabricValue). unwrap_or o f) (some-injective _ _ e ∙ d)

pub unreachable-requires : goal.unreachable-requires
unreachable-requires g c =
    let r = c.requires in
    let k = closes _ _ _ _ _ _ c.args.self.named.1 r.idle.1 r.count c.close_with-closed.ensures.values.2 in
    let same = some-injective _ _ (sym k.there ∙ c.take-fabric.ensures.value) in
    absurd (cc (same ∙ c.in-None.is))

pub returns-clause-fits : goal.returns-clause-fits
returns-clause-fits g c =
    let r = c.requires in
    let k = closes _ _ _ _ _ _ c.args.self.named.1 r.idle.1 r.count c.close_with-closed.ensures.values.2 in
    subst (λ (f : FabricValue). All (IsShareOf f) c.args.seat.me.0.shares) (same_fabric _ _ _ (sym k.there ∙ c.take-fabric.ensures.value) c.in-Some.is) k.fits

pub returns-clause-once : goal.returns-clause-once
returns-clause-once g c = (closes _ _ _ _ _ _ c.args.self.named.1 c.requires.idle.1 c.requires.count c.close_with-closed.ensures.values.2).once

pub returns-clause-whole : goal.returns-clause-whole
returns-clause-whole g c =
    let r = c.requires in
    let k = closes _ _ _ _ _ _ c.args.self.named.1 r.idle.1 r.count c.close_with-closed.ensures.values.2 in
    subst (IsWhole g.N.RunName.setup) (same_fabric _ _ _ (sym k.there ∙ c.take-fabric.ensures.value) c.in-Some.is) k.whole
