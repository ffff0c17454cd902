use Rattle.sem_outcomes.proofs.Playing.{IsPlayed}
use Rattle.std.proofs.Common.{length}
use Rattle.sem_outcomes.proofs.replays.play.Given as goal

-- played as far as the way that is left begins
abbrev pub invariant-loop-number : goal.invariant-loop-number
invariant-loop-number l = IsPlayed l.setup l.steps l.at l.way.items l.kernels.items l.fabric

abbrev pub decreases-loop-number : goal.decreases-loop-number
decreases-loop-number l = length l.way.items
