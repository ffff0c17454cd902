use Rattle.sem_revoke.proofs.Readying.{schedule-homes}
use Rattle.sem_revoke.proofs.Linking.{all-linked, orphans-dead, unlinked-dead, asked-below, first-capability}
use Rattle.sem_revoke.proofs.Ancestors.{ancestors-held}
use Rattle.sem_revoke.proofs.revocations.revocation_follows_links.Goals as goal

pub returns-clause-homes : goal.returns-clause-homes
returns-clause-homes c = schedule-homes

pub returns-clause-linked : goal.returns-clause-linked
returns-clause-linked c = all-linked

pub returns-clause-ancestors : goal.returns-clause-ancestors
returns-clause-ancestors c = ancestors-held

pub returns-clause-orphans : goal.returns-clause-orphans
returns-clause-orphans c = orphans-dead

pub returns-clause-unlinked : goal.returns-clause-unlinked
returns-clause-unlinked c = unlinked-dead

pub returns-clause-asked : goal.returns-clause-asked
returns-clause-asked c = asked-below

pub returns-clause-first : goal.returns-clause-first
returns-clause-first c = first-capability
