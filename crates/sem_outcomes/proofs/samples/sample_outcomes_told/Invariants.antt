use Rattle.std.proofs.Common.{◌≡◌}
use Rattle.sem_outcomes.specs.Samples.{IsSample}
use Rattle.sem_outcomes.proofs.samples.sample_outcomes_told.Given as goal

-- so many seeds have been run
abbrev pub invariant-loop-count : goal.invariant-loop-count
invariant-loop-count g l = (l.sample.from ≡ l.from) × (l.sample.seeds ≡ l.count) × IsSample l.setup l.from l.count l.sample.found
