use Rattle.sem_messages.proofs.Answered.{all-answered}
use Rattle.sem_messages.proofs.laws.requests_are_answered.Goals as goal

pub returns : goal.returns
returns c = record { answered = all-answered }
