use Rattle.sem_tree.proofs.Growing.{rows_none, rows_more}
use Rattle.sem_tree.proofs.rows.rows_of.Goals as goal

pub loop-key-init : goal.loop-key-init
loop-key-init c = rows_none _ _ c.new-rows.ensures.items

pub loop-key-preserved : goal.loop-key-preserved
loop-key-preserved c = rows_more _ _ c.loop-key.key-index c.key-item.result _ _ _ c.loop-key-test.true c.key-item.is c.loop-key.invariant c.parent_of.ensures
    c.in_ok-push.ensures.items
