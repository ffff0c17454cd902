use Rattle.sem_safety.proofs.Worlds.{way-flushed, way-fetched, way-taken, way-taken_other, way-posted, way-posted_other}
use Rattle.sem_safety.proofs.observations.messages_keep_their_way.Goals as goal

pub returns-clause-flush : goal.returns-clause-flush
returns-clause-flush c = way-flushed

pub returns-clause-fetch : goal.returns-clause-fetch
returns-clause-fetch c = way-fetched

pub returns-clause-handled : goal.returns-clause-handled
returns-clause-handled c = way-taken

pub returns-clause-handled_other : goal.returns-clause-handled_other
returns-clause-handled_other c = way-taken_other

pub returns-clause-sent : goal.returns-clause-sent
returns-clause-sent c = way-posted

pub returns-clause-sent_other : goal.returns-clause-sent_other
returns-clause-sent_other c = way-posted_other
