use Rattle.sem_revoke.proofs.Completing.{quiet-complete}
use Rattle.sem_revoke.proofs.rest_laws.quiet_schedules_are_complete.Goals as goal

pub returns : goal.returns
returns c = record { complete = quiet-complete }
