use Rattle.std.proofs.Common.{◌≡◌, ◌∷◌, [], ap, sym, ◌∙◌, arith, refl, subst}
use mathlib.Core.Option as maybe
use Rattle.atomic_table.specs.Table.{step}
use Rattle.sem_msg.specs.Journal.{part}
use Rattle.sem_turn.specs.Passes.{has_place, Follows}
use Rattle.sem_turn.specs.Rule.{view, share}
use Rattle.sem_turn.specs.Steps.{Sat}
use Rattle.sem_turn.specs.Seats.{first_entries, placed_of, out_with}
use Rattle.sem_turn.proofs.Moves.{some_and, give_asks, give_done}
use Rattle.sem_turn.proofs.turn.Turn.give_back.Goals as goal

pub store-requires : goal.store-requires
store-requires g c =
    let t = c.args.self.now in
    let i = c.pass.invariant in
    let v = c.pass.view_is in
    let o = some_and c.args.pass.now.taken _ c.requires.held in
    let e = c.exchange.ensures in
    let taken = ap (λ h. h.taken) v ∙ o.1 in
    let may = subst (λ k. Follows k o.0 c.args.fabric) (sym (ap (λ h. h.kernel) v)) o.2 in (
      e.0 ∙ i.0 ∙ sym t.named.0,
      omega (arith, t.sized.0),
      give_asks _ _ _ _ c.pass.inside.seat.me _ o.0 c.args.fabric (step t.board.shared.table_id.slots 0 0 0 maybe.none) i.2 taken e.3 _ _ _ _ t.named.1
          t.sized.1 c.requires.whole may,
    )

pub invariant_of-pass : goal.invariant_of-pass
invariant_of-pass g c =
    let t = c.args.self.now in
    let i = c.pass.invariant in
    let v = c.pass.view_is in
    let o = some_and c.args.pass.now.taken _ c.requires.held in
    let e = c.exchange.ensures in
    let s = c.store.ensures in
    let taken = ap (λ h. h.taken) v ∙ o.1 in
    let done = give_done _ _ _ _ c.pass.inside.seat.me _ o.0 c.args.fabric (step t.board.shared.table_id.slots 0 0 0 maybe.none) i.2 taken e.3 _ s.2 in (
      s.0 ∙ e.0 ∙ i.0,
      i.1,
      subst (λ (m : Sat). m ≡ (view (share c.pass.inside.kernel (first_entries m.0.shares) (placed_of m.0.shares) ∷ []) m.0.taken, out_with m.0.taken))
          (sym done) refl,
    )

pub returns : goal.returns
returns g c =
    let t = c.args.self.now in
    let i = c.pass.invariant in
    let v = c.pass.view_is in
    let o = some_and c.args.pass.now.taken _ c.requires.held in
    let e = c.exchange.ensures in
    let s = c.store.ensures in
    let taken = ap (λ h. h.taken) v ∙ o.1 in
    let k = ap (λ h. h.kernel) v in
    let done = give_done _ _ _ _ c.pass.inside.seat.me _ o.0 c.args.fabric (step t.board.shared.table_id.slots 0 0 0 maybe.none) i.2 taken e.3 _ s.2 in
    let entries = ap (λ (m : Sat). first_entries m.0.shares) done ∙ ap (λ n. part c.args.fabric.journal n) k in
    let placed = ap (λ (m : Sat). placed_of m.0.shares) done ∙ ap (λ n. has_place c.args.fabric n) k in
    let free = ap (λ (m : Sat). m.0.taken) done in
    λ j. record { kernel = k j; entries = entries j; placed = placed j; taken = free j }
