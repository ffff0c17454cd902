use Rattle.std.proofs.Common.{◌≡◌, ◌++◌, take}
use Rattle.sem_query.specs.Reaching.{held_of}
use Rattle.sem_query.proofs.reach.push_held_of.Given as goal

-- those of the first capabilities were appended
abbrev pub invariant-loop-place : goal.invariant-loop-place
invariant-loop-place l = l.keys.items ≡ l.fn.keys.items ++ held_of (take l.place l.kernel.side.caps) l.vpe
