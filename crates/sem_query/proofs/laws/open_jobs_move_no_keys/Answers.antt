use Rattle.sem_query.proofs.Returned.{open-stays}
use Rattle.sem_query.proofs.laws.open_jobs_move_no_keys.Goals as goal

pub returns : goal.returns
returns c = record {
  stays = λ T valid J before later e k q c d from j runs parts act detail home held held' marked. open-stays T valid J runs before later e
      parts k q c d from j act detail home held held' marked;
}
