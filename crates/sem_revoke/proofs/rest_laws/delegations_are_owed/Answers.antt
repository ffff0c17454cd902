use Rattle.sem_revoke.proofs.Parents.{parent-held}
use Rattle.sem_revoke.proofs.PendingOwed.{pendings-owed}
use Rattle.sem_revoke.proofs.rest_laws.delegations_are_owed.Goals as goal

pub returns-clause-owed : goal.returns-clause-owed
returns-clause-owed c = pendings-owed

pub returns-clause-parents : goal.returns-clause-parents
returns-clause-parents c = parent-held
