use Rattle.std.proofs.Common.{◌+◌, ◌-◌, length}
use Rattle.sem_key.specs.Region.{has_key}
use Rattle.sem_query.specs.Reaching.{unlisted, HasWords}
use Rattle.sem_query.proofs.Walking.{IsWalk}
use Rattle.sem_query.proofs.reach.walk.Given as goal

-- the roots are listed, and the children of the first keys
abbrev pub invariant-loop-at : goal.invariant-loop-at
invariant-loop-at l = record {
  walk : IsWalk l.kernel.side.caps l.roots l.keys.items l.at;
  words : HasWords l.words (has_key l.keys.items);
}

-- the keys that are listed and not walked to, and those that are not listed
abbrev pub decreases-loop-at : goal.decreases-loop-at
decreases-loop-at l = length l.keys.items + unlisted l.kernel.side.caps l.keys.items - l.at
