use Rattle.sem_histories.proofs.GrowingLists.{lists-none, lists-skip, lists-put}
use Rattle.sem_histories.proofs.listings.listings_go_on.Goals as goal

pub returns-clause-start : goal.returns-clause-start
returns-clause-start c = lists-none

pub returns-clause-skip : goal.returns-clause-skip
returns-clause-skip c = lists-skip

pub returns-clause-put : goal.returns-clause-put
returns-clause-put c = lists-put
