use Rattle.sem_grants.proofs.Ended.{ended-more}
use Rattle.sem_grants.proofs.cuts.ended_vpes.Goals as goal

-- one entry more
pub loop-entry-preserved : goal.loop-entry-preserved
loop-entry-preserved c = ended-more c.loop-entry.ended c.add_ended.new.ended c.args.entries.now c.loop-entry.entry-index c.entry-item.result
    c.loop-entry-test.true c.entry-item.is c.loop-entry.invariant c.in_ok-add_ended.ensures
