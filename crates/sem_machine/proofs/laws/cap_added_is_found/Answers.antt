use Rattle.sem_key.proofs.Finds.{held-with_cap_same, held-with_cap_other}
use Rattle.sem_machine.proofs.laws.cap_added_is_found.Goals as goal

pub returns-clause-same : goal.returns-clause-same
returns-clause-same c = held-with_cap_same

pub returns-clause-other : goal.returns-clause-other
returns-clause-other c = held-with_cap_other
