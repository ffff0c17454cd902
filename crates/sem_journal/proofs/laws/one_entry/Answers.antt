use Rattle.sem_journal.proofs.OneEntry.{one_entry}
use Rattle.sem_journal.proofs.laws.one_entry.Goals as goal

pub returns : goal.returns
returns c = one_entry
