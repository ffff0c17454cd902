use Rattle.std.proofs.Common.{◌≡◌, [], map, take}
use Rattle.sem_query.specs.Building.{life_so_far}
use Rattle.sem_query.proofs.builds.begin.Given as goal

-- the lives of the first keys
abbrev pub invariant-loop-key : goal.invariant-loop-key
invariant-loop-key l = l.lives.items ≡ map (life_so_far l.setup []) (take l.key-index l.key-items)
