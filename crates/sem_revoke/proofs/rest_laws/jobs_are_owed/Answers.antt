use Rattle.sem_revoke.proofs.JobTokens.{jobs-owed}
use Rattle.sem_revoke.proofs.rest_laws.jobs_are_owed.Goals as goal

pub returns : goal.returns
returns c = record { owed = jobs-owed }
