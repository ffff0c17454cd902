use Rattle.sem_revoke.proofs.Cuts.{cut-answered}
use Rattle.sem_revoke.proofs.rest_laws.cuts_are_answered.Goals as goal

pub returns : goal.returns
returns c = record { answered = cut-answered }
