use Rattle.sem_audit.proofs.Runs.{replayed-enabled, replayed-more}
use Rattle.sem_audit.proofs.replays.replayed.Goals as goal

pub advance-requires : goal.advance-requires
advance-requires c = replayed-enabled c.args.setup.now c.args.journal.now.entries c.loop-at.at c.in-Some.entry c.loop-at.world c.loop-at.invariant
    c.in-Some.ensures c.requires

pub loop-at-preserved : goal.loop-at-preserved
loop-at-preserved c = replayed-more c.args.setup.now c.args.journal.now.entries c.loop-at.at c.in-Some.entry c.loop-at.world c.loop-at.invariant
    c.in-Some.ensures c.advance.new.self c.in_ok-advance.ensures.ok
