use Rattle.std.proofs.Common.{arith, sym, ◌∙◌}
use Rattle.sem_mark.proofs.Counts.{open_count-some, open_count-marked}
use Rattle.sem_mark.proofs.region.reach.Goals as goal

pub push_reserved-requires : goal.push_reserved-requires
push_reserved-requires c =
    let some = open_count-some c.args.caps.now.caps c.args.key (sym c.is_open.ensures.is_open ∙ c.if-is_open.true) in
    let room = c.requires in
    omega arith

pub returns-then-is_open-clause-room : goal.returns-then-is_open-clause-room
returns-then-is_open-clause-room c =
    let fewer = open_count-marked c.args.caps.now.caps c.args.key c.args.job (sym c.is_open.ensures.is_open ∙ c.if-is_open.true) in
    rw c.mark.ensures (omega (arith, c.push_reserved.ensures.len))
