use Rattle.std.proofs.Common.{take}
use Rattle.sem_outcomes.specs.Met.{HasMet}
use Rattle.sem_outcomes.proofs.meetings.meet_all.Given as goal

-- what the first events lead to is met
abbrev pub invariant-loop-event : goal.invariant-loop-event
invariant-loop-event l = HasMet l.setup l.limit l.at (take l.event-index l.events) l.fn.histories l.histories
