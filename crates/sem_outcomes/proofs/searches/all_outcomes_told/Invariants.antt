use Rattle.std.proofs.Common.{◌-◌, take}
use Rattle.sem_outcomes.specs.Met.{IsUnderWay, journals}
use Rattle.sem_outcomes.specs.Endings.{ListsEndings}
use Rattle.sem_outcomes.proofs.searches.all_outcomes_told.Given as goal

-- so many histories have been gone on from, and how they end is listed
abbrev pub invariant-loop-at : goal.invariant-loop-at
invariant-loop-at g l = IsUnderWay l.setup l.limit l.at l.histories × ListsEndings l.setup (take l.at (journals l.setup l.histories.steps)) l.found.items

abbrev pub decreases-loop-at : goal.decreases-loop-at
decreases-loop-at g l = l.limit - l.at
