use Rattle.sem_query.proofs.Replied.{reply-called}
use Rattle.sem_query.proofs.laws.replies_follow_calls.Goals as goal

pub returns : goal.returns
returns c = record { called = reply-called }
