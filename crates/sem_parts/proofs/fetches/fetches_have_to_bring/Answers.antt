use Rattle.sem_parts.proofs.LonelyFetch.{idle-agrees, idle-enabled, idle-refused, lonely-valid}
use Rattle.sem_parts.proofs.fetches.fetches_have_to_bring.Goals as goal

pub returns-clause-setup : goal.returns-clause-setup
returns-clause-setup c = lonely-valid

pub returns-clause-enabled : goal.returns-clause-enabled
returns-clause-enabled c = idle-enabled

pub returns-clause-agrees : goal.returns-clause-agrees
returns-clause-agrees c = idle-agrees

pub returns-clause-refused : goal.returns-clause-refused
returns-clause-refused c = idle-refused
