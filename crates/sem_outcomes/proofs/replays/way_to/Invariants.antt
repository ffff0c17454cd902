use Rattle.std.proofs.Common.{◌≤◌, length}
use Rattle.sem_outcomes.specs.Ways.{ComesFrom}
use Rattle.sem_outcomes.proofs.replays.way_to.Given as goal

-- the way so far
abbrev pub invariant-loop-number : goal.invariant-loop-number
invariant-loop-number l = ComesFrom l.steps l.at l.way.items l.number × (l.number ≤ length l.steps)

abbrev pub decreases-loop-number : goal.decreases-loop-number
decreases-loop-number l = l.number
