use Rattle.sem_revoke.proofs.Served.{revokers-wait, keepers-waited_for}
use Rattle.sem_revoke.proofs.revocations.revokers_wait_for_what_they_revoke.Goals as goal

pub returns-clause-waiting : goal.returns-clause-waiting
returns-clause-waiting c = revokers-wait

pub returns-clause-keepers : goal.returns-clause-keepers
returns-clause-keepers c = keepers-waited_for
