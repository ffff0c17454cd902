use Rattle.sem_query.proofs.Stayed.{stayed}
use Rattle.sem_query.proofs.laws.marked_keys_wait_for_tokens.Goals as goal

pub returns : goal.returns
returns c = record {
  stays = λ T valid J before later e k c j runs parts home loud other held marked. stayed T valid J runs before later e parts other k home
      loud c j held marked;
}
