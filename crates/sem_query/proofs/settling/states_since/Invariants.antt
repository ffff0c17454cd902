use Rattle.std.proofs.Common.{◌≡◌, take}
use Rattle.sem_machine.specs.Schedules.{world_after}
use Rattle.sem_query.proofs.StatesSince.{states_until}
use Rattle.sem_query.proofs.settling.states_since.Given as goal

-- the world after the first entries, and the states so far
abbrev pub invariant-loop-place : goal.invariant-loop-place
invariant-loop-place l = record {
  world : l.world ≡ record { setup = l.setup; world = world_after l.setup (take l.place l.entries) };
  states : l.states.items ≡ states_until l.setup l.entries l.vpe l.from l.place;
}
