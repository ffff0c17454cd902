use Rattle.sem_revoke.proofs.Owing.{exchanges-owed}
use Rattle.sem_revoke.proofs.rest_laws.exchanges_are_owed.Goals as goal

pub returns : goal.returns
returns c = record { owed = exchanges-owed }
