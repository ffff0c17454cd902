use Rattle.sem_revoke.proofs.IdleJobs.{waits-for-nothing}
use Rattle.sem_revoke.proofs.rest_laws.idle_worlds_wait_for_nothing.Goals as goal

pub returns : goal.returns
returns c = record { idle = waits-for-nothing }
