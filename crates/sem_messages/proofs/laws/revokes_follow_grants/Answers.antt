use Rattle.sem_messages.proofs.Followed.{revokes-few}
use Rattle.sem_messages.proofs.laws.revokes_follow_grants.Goals as goal

pub returns : goal.returns
returns c = record { few = revokes-few }
