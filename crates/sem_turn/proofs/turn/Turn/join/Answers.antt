use Rattle.std.proofs.Common.{sym, ◌∙◌, arith}
use Rattle.sem_turn.proofs.Cutting.{join_moves}
use Rattle.sem_turn.proofs.turn.Turn.join.Goals as goal

pub join_seat-requires : goal.join_seat-requires
join_seat-requires g c =
    let t = c.args.self.now in
    let r = c.requires.seat in
    let o = c.into_seat.ensures.idle in
    (r.0 ∙ sym t.named.0, o.0 ∙ sym t.named.0, o.2, omega (arith, t.sized.0), join_moves _ _ _ _ _ r.1 o.1)
