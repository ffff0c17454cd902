use Rattle.std.proofs.Common.{◌≡◌, take}
use Rattle.sem_machine.specs.Schedules.{world_after}
use Rattle.sem_access.specs.Accesses.{accesses}
use Rattle.sem_mem.proofs.replays.accesses.Given as goal

-- the world after the first entries, and their accesses
abbrev pub invariant-loop-place : goal.invariant-loop-place
invariant-loop-place l = record {
  world : l.world ≡ record { setup = l.setup; world = world_after l.setup (take l.place l.journal.entries) };
  found : l.found ≡ accesses l.setup (take l.place l.journal.entries);
}
