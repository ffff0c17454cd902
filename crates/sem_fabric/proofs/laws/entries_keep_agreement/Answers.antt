use Rattle.sem_fabric.proofs.Starts.{agrees-new}
use Rattle.sem_msg.proofs.Entering.{agrees-own, agrees-fetch, agrees-flush, agrees-kill}
use Rattle.sem_fabric.proofs.laws.entries_keep_agreement.Goals as goal

pub returns-clause-start : goal.returns-clause-start
returns-clause-start c = agrees-new

pub returns-clause-own : goal.returns-clause-own
returns-clause-own c = agrees-own

pub returns-clause-fetch : goal.returns-clause-fetch
returns-clause-fetch c = agrees-fetch

pub returns-clause-flush : goal.returns-clause-flush
returns-clause-flush c = agrees-flush

pub returns-clause-kill : goal.returns-clause-kill
returns-clause-kill c = agrees-kill
