use Rattle.std.proofs.Common.{[], refl}
use Rattle.sem_key.specs.Region.{has_key}
use Rattle.sem_audit.proofs.Losing.{lost-start, lost-entry}
use Rattle.sem_audit.proofs.forests.lost_words.Goals as goal

pub loop-entry-init : goal.loop-entry-init
loop-entry-init c = lost-start c.in_ok-words.words (has_key c.args.cut.now.keys) [] refl c.in_ok-words.ensures

-- one entry more
pub loop-entry-preserved : goal.loop-entry-preserved
loop-entry-preserved c = lost-entry c.loop-entry.words c.add_lost.new.words (has_key c.args.cut.now.keys) c.as_slice-entry-items.result.now
    c.loop-entry.entry-index c.entry-item.result c.loop-entry-test.true c.entry-item.is c.add_lost.ensures.valid c.loop-entry.invariant
    c.in_ok-add_lost.ensures.added
