use Rattle.std.proofs.Common.{◌∷◌, Some, ap, sym, ◌∙◌, arith}
use Rattle.atomic_table.specs.Table.{rest, step}
use mathlib.Core.Option as maybe
use Rattle.sem_turn.proofs.Moves.{take_asks}
use Rattle.sem_turn.proofs.turn.Turn.try_out.Goals as goal

pub compare_exchange-requires : goal.compare_exchange-requires
compare_exchange-requires g c =
    let t = c.args.self.now in
    let r = c.requires in (
      r.idle.0 ∙ sym t.named.0,
      omega (arith, t.sized.0),
      take_asks _ _ _ _ _ (step t.board.shared.table_id.slots 0 0 1 maybe.none) t.named.1 t.sized.1 r.idle.1 r.idle.2 r.carries,
    )

pub exchange-requires : goal.exchange-requires
exchange-requires g c =
    let t = c.args.self.now in
    let e = c.compare_exchange.ensures in
    let took = e.2.0 c.if-compare_exchange-eq0.true in
    let p = ap (λ m. m.1) took.1 in (
      e.0 ∙ c.requires.idle.0 ∙ sym t.named.0,
      (Some took.0, p ∙ sym (ap (λ l. (0, Some took.0) ∷ rest l) p)),
    )
