use Rattle.std.proofs.Common.{ap, sym, ◌∙◌, arith}
use Rattle.sem_turn.proofs.Cutting.{split_moves}
use Rattle.sem_turn.proofs.turn.Turn.cut.Goals as goal

pub split_seat-requires : goal.split_seat-requires
split_seat-requires g c =
    let t = c.args.self.now in
    let r = c.requires in
    (r.table ∙ sym t.named.0, omega (arith, t.sized.0), split_moves _ _ _ (ap (λ m. m.0.taken) r.front))
