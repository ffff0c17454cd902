use Rattle.std.proofs.Common.{arith}
use Rattle.sem_trace.proofs.PrintedNumbers.{only_part, cut_at_point}
use Rattle.sem_trace.proofs.dotted.split_point.Goals as goal

pub returns-then-end-text : goal.returns-then-end-text
returns-then-end-text c = only_part c.args.text.now (omega (arith, c.front_len-end.ensures.first))

pub returns : goal.returns
returns c = cut_at_point c.args.text.now c.front_len-end.result _ _ _ c.front_len-end.ensures.first (omega arith) c.split_at.ensures.front
    (c.split_at-2.ensures.back) c.split_at.ensures.back
