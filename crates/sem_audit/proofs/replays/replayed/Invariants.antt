use Rattle.std.proofs.Common.{◌≡◌, take}
use Rattle.sem_machine.specs.Schedules.{world_after}
use Rattle.sem_audit.proofs.replays.replayed.Given as goal

-- the world after the first entries
abbrev pub invariant-loop-at : goal.invariant-loop-at
invariant-loop-at l = l.world ≡ record { setup = l.setup; world = world_after l.setup (take l.at l.journal.entries) }
