use Rattle.std.proofs.Common.{◌≡◌, ◌++◌, ℕ, not, map, take}
use Rattle.std.specs.List.{filter}
use Rattle.sem_key.specs.KeyName.{KeyName}
use Rattle.sem_query.specs.MarkedKeys.{is_swept}
use Rattle.sem_query.proofs.marked.part.Given as goal

-- the first keys are parted
abbrev pub invariant-loop-marking : goal.invariant-loop-marking
invariant-loop-marking l = record {
  kept : l.kept.items ≡ filter (λ p. not (is_swept l.setup l.world.world l.number l.only p)) (take l.marking-index l.marking-items);
  gone : l.moved.items ≡ l.fn.moved.items
      ++ map (λ (p : KeyName × ℕ). p.0) (filter (is_swept l.setup l.world.world l.number l.only) (take l.marking-index l.marking-items));
}
