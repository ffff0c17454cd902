use Rattle.std.proofs.Common.{take}
use Rattle.sem_story.specs.Walks.{IsAfter}
use Rattle.sem_story.proofs.walks.walk_through.Given as goal

-- the walk has gone through the first entries
abbrev pub invariant-loop-place : goal.invariant-loop-place
invariant-loop-place l = IsAfter l.setup (take l.place l.entries) l.fn.key l.walk
