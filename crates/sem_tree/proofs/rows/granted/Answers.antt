use Rattle.sem_audit.proofs.Upwards.{grants-more}
use Rattle.sem_tree.proofs.rows.granted.Goals as goal

-- one entry more
pub loop-entry-preserved : goal.loop-entry-preserved
loop-entry-preserved c = grants-more _ c.loop-entry.entry-index c.entry-item.result c.loop-entry.granted.items c.push_grant.new.granted.items
    c.loop-entry-test.true c.entry-item.is c.loop-entry.invariant c.in_ok-push_grant.ensures
