use Rattle.sem_messages.proofs.Answered.{grants-told}
use Rattle.sem_messages.proofs.laws.grants_are_told.Goals as goal

pub returns : goal.returns
returns c = record { told = grants-told }
