use Rattle.sem_revoke.proofs.Quieting.{quiet-idle}
use Rattle.sem_revoke.proofs.rest_laws.quiet_worlds_are_idle.Goals as goal

pub returns : goal.returns
returns c = record { idle = quiet-idle }
