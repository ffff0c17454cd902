use Rattle.sem_safety.proofs.Worlds.{observed-with_side, observed-with_link}
use Rattle.sem_safety.proofs.observations.worlds_are_observed.Goals as goal

pub returns-clause-side : goal.returns-clause-side
returns-clause-side c = observed-with_side

pub returns-clause-link : goal.returns-clause-link
returns-clause-link c = observed-with_link
