use Rattle.sem_safety.proofs.Parents.{entry-below, journal-below, parent-made}
use Rattle.sem_safety.proofs.grants.grants_are_below_what_is_held.Goals as goal

pub returns-clause-event : goal.returns-clause-event
returns-clause-event c = entry-below

pub returns-clause-entry : goal.returns-clause-entry
returns-clause-entry c = journal-below

pub returns-clause-made : goal.returns-clause-made
returns-clause-made c = parent-made
