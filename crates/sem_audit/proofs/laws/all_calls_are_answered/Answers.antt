use Rattle.sem_audit.proofs.Answering.{all-answered}
use Rattle.sem_audit.proofs.laws.all_calls_are_answered.Goals as goal

pub returns : goal.returns
returns c = record { answered = λ T valid no_kills no_exits J complete. all-answered T valid no_kills no_exits J complete }
