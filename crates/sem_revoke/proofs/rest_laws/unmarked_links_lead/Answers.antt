use Rattle.sem_revoke.proofs.LeadingWorlds.{links-lead}
use Rattle.sem_revoke.proofs.rest_laws.unmarked_links_lead.Goals as goal

pub returns : goal.returns
returns c = record { lead = links-lead }
