use Rattle.sem_journal.proofs.PrintedEntries.{entry_read}
use Rattle.sem_journal.proofs.laws.entries_are_read.Goals as goal

pub returns : goal.returns
returns c = entry_read
