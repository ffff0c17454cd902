use Rattle.sem_revoke.proofs.DelegationWorlds.{one-each, each-pends}
use Rattle.sem_revoke.proofs.revocations.delegations_have_one_token.Goals as goal

pub returns-clause-one : goal.returns-clause-one
returns-clause-one c = one-each

pub returns-clause-pends : goal.returns-clause-pends
returns-clause-pends c = each-pends
