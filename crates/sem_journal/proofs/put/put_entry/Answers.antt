use Rattle.sem_journal.proofs.EntryLine.{line-entry}
use Rattle.sem_journal.proofs.put.put_entry.Goals as goal

pub returns-clause-items : goal.returns-clause-items
returns-clause-items c = line-entry c.args.entry.now _ _ _ c.put_entry_words.ensures.items c.push_reserved.ensures.items
