use Rattle.sem_key.proofs.Finds.{held-change_same, held-change_other}
use Rattle.sem_machine.proofs.laws.cap_changed_is_found.Goals as goal

pub returns-clause-same : goal.returns-clause-same
returns-clause-same c = λ cs f q k keeps same. held-change_same f keeps q k cs same

pub returns-clause-other : goal.returns-clause-other
returns-clause-other c = λ cs f q k keeps differs. held-change_other f keeps q k cs differs
