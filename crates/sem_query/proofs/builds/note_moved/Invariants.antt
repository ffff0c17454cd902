use Rattle.std.proofs.Common.{◌≡◌, ◌++◌, take}
use Rattle.std.specs.List.{flat_map}
use Rattle.sem_query.specs.Building.{all_noted}
use Rattle.sem_query.specs.MarkedKeys.{marking}
use Rattle.sem_query.proofs.builds.note_moved.Given as goal

-- the first keys are noted
abbrev pub invariant-loop-key : goal.invariant-loop-key
invariant-loop-key l = record {
  index : l.index ≡ all_noted l.setup l.world.world l.n (take l.key-index l.moved) l.fn.index;
  marked : l.marked.items ≡ l.fn.marked.items ++ flat_map (marking l.setup l.world.world) (take l.key-index l.moved);
}
