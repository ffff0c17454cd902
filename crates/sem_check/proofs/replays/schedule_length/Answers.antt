use Rattle.sem_check.proofs.Following.{start-after}
use Rattle.sem_check.proofs.Longest.{all-longest, differs-longest}
use Rattle.sem_check.proofs.replays.schedule_length.Goals as goal

pub follow-requires-clause-start : goal.follow-requires-clause-start
follow-requires-clause-start c = start-after c.args.setup.now c.in_ok-world.world c.in_ok-world.ensures

pub returns-in-None : goal.returns-in-None
returns-in-None c = all-longest c.args.setup.now c.args.entries.now (c.in_ok-follow.ensures.all c.in-None.is).schedule

pub returns : goal.returns
returns c =
    let d = c.in-Some.difference in
    differs-longest c.args.setup.now c.args.entries.now d.entry d.entered d.replayed (rw c.in-Some.is at c.in_ok-follow.ensures.differs)
