use Rattle.sem_parts.proofs.EnteredSteps.{own-entered, fetch-entered, flush-entered, flush-carries, kill-entered}
use Rattle.sem_parts.proofs.steps.steps_are_entered.Goals as goal

pub returns-clause-own : goal.returns-clause-own
returns-clause-own c = own-entered

pub returns-clause-fetch : goal.returns-clause-fetch
returns-clause-fetch c = fetch-entered

pub returns-clause-flush : goal.returns-clause-flush
returns-clause-flush c = flush-entered

pub returns-clause-carries : goal.returns-clause-carries
returns-clause-carries c = flush-carries

pub returns-clause-kill : goal.returns-clause-kill
returns-clause-kill c = kill-entered
