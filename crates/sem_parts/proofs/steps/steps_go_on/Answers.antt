use Rattle.sem_parts.proofs.LocalRuns.{runs-step}
use Rattle.sem_parts.proofs.steps.steps_go_on.Goals as goal

pub returns : goal.returns
returns c = runs-step
