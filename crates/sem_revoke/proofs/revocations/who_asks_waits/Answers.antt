use Rattle.sem_revoke.proofs.Asking.{asks-awaited, requests-awaited}
use Rattle.sem_revoke.proofs.Dying.{dead-ended}
use Rattle.sem_revoke.proofs.Ways.{all-go}
use Rattle.sem_revoke.proofs.revocations.who_asks_waits.Goals as goal

pub returns-clause-asks : goal.returns-clause-asks
returns-clause-asks c = asks-awaited

pub returns-clause-requests : goal.returns-clause-requests
returns-clause-requests c = requests-awaited

pub returns-clause-flights : goal.returns-clause-flights
returns-clause-flights c = all-go

pub returns-clause-dead : goal.returns-clause-dead
returns-clause-dead c = dead-ended
