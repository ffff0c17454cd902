use Rattle.std.proofs.Common.{take, refl}
use Rattle.sem_msg.specs.declared.event.Act.TheVariants.{Call}
use Rattle.sem_outcomes.proofs.GoingOn.{all-at, all-links, all-enabled, all-more}
use Rattle.sem_outcomes.proofs.meetings.meet_all.Goals as goal

pub meet-requires-clause-at : goal.meet-requires-clause-at
meet-requires-clause-at c =
    let l = c.loop-event in
    all-at c.args.setup.now c.args.limit c.args.at c.args.histories.now l.histories c.requires.search.met c.requires.at (take l.event-index c.args.events.now)
    l.invariant

pub meet-requires-clause-links : goal.meet-requires-clause-links
meet-requires-clause-links c =
    let l = c.loop-event in
    all-links c.args.setup.now c.args.limit c.args.at c.args.histories.now l.histories c.requires.search.met c.requires.at
    (take l.event-index c.args.events.now)
    l.invariant
    c.args.fabric.now c.requires.links

pub meet-requires-clause-enabled : goal.meet-requires-clause-enabled
meet-requires-clause-enabled c =
    let l = c.loop-event in
    all-enabled c.args.setup.now c.args.limit c.args.at c.args.histories.now l.histories c.requires.search.met c.requires.at
    (take l.event-index c.args.events.now)
    l.invariant
    c.args.events.now c.requires.enabled l.event-index _ c.loop-event-test.true

pub loop-event-preserved : goal.loop-event-preserved
loop-event-preserved c =
    let l = c.loop-event in
    all-more c.args.setup.now c.args.limit c.args.at c.args.histories.now l.histories c.requires.search.met c.requires.at (take l.event-index c.args.events.now)
    l.invariant
    c.args.events.now l.event-index (record { kernel = 0; act = Call 0 }) c.meet.new.histories refl c.loop-event-test.true c.in_ok-meet.ensures.met
