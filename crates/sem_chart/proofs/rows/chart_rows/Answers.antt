use Rattle.std.proofs.Common.{refl, arith}
use Rattle.sem_chart.proofs.Numbering.{rows_more}
use Rattle.sem_chart.proofs.rows.chart_rows.Goals as goal

pub loop-place-preserved : goal.loop-place-preserved
loop-place-preserved c = rows_more c.args.from c.loop-place.place _ c.index-shown-place.result _ c.loop-place.rows.items c.push.new.self.items
    c.loop-place.invariant (omega arith) c.index-shown-place.is refl c.in_ok-push.ensures.items
