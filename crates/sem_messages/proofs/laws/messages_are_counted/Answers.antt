use Rattle.sem_messages.proofs.Answered.{messages-counted}
use Rattle.sem_messages.proofs.laws.messages_are_counted.Goals as goal

pub returns : goal.returns
returns c = record { counted = messages-counted }
