use Rattle.sem_key.proofs.Regions.{region-exact, region-rises, region-empty}
use Rattle.sem_machine.proofs.laws.region_is_exact.Goals as goal

pub returns-clause-exact : goal.returns-clause-exact
returns-clause-exact c = region-exact

pub returns-clause-rising : goal.returns-clause-rising
returns-clause-rising c = region-rises

pub returns-clause-empty : goal.returns-clause-empty
returns-clause-empty c = region-empty
