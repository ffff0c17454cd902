use Rattle.sem_query.proofs.Spared.{spared}
use Rattle.sem_query.proofs.laws.entries_revoke_what_is_reached.Goals as goal

pub returns : goal.returns
returns c = record {
  spared = λ T valid J before later e k c runs parts home loud held unmarked free. spared T valid J runs before later e parts k home loud c
      held unmarked (λ reached. free reached.0 reached.1 reached.2);
}
