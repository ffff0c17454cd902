use Rattle.sem_fits.proofs.Messages.{messages-fit, messages-short}
use Rattle.sem_fits.proofs.ranges.messages_fit.Goals as goal

pub returns-clause-ranges : goal.returns-clause-ranges
returns-clause-ranges c = messages-fit

pub returns-clause-memory : goal.returns-clause-memory
returns-clause-memory c = messages-short
