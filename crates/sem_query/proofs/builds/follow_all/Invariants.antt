use Rattle.std.proofs.Common.{◌≡◌, map, take}
use Rattle.sem_key.specs.KeyList.{key_set}
use Rattle.sem_machine.specs.Schedules.{world_after}
use Rattle.sem_machine.specs.Journals.{made}
use Rattle.sem_query.specs.Building.{life_so_far}
use Rattle.sem_query.specs.MarkedKeys.{AreAllMarked}
use Rattle.sem_query.proofs.builds.follow_all.Given as goal

-- the world after the first entries, the keys that are marked there, and the lives so far
abbrev pub invariant-loop-place : goal.invariant-loop-place
invariant-loop-place l = record {
  world : l.world ≡ record { setup = l.setup; world = world_after l.setup (take l.place l.entries) };
  marked : AreAllMarked l.setup (world_after l.setup (take l.place l.entries)) l.marked.items;
  lives : l.index ≡ map (life_so_far l.setup (take l.place l.entries)) (key_set (made l.setup l.entries));
}
