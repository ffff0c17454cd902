use Rattle.sem_journal.proofs.EntryLine.{spaced-entry}
use Rattle.sem_journal.proofs.put.put_entry_words.Goals as goal

pub returns-clause-items : goal.returns-clause-items
returns-clause-items c =
    spaced-entry c.args.entry.now _ _ _ _ _ _ _ c.put_number.ensures.items c.put_act.ensures.items c.put_detail.ensures.items c.put_grant.ensures.items
    c.put_cut.ensures.items c.put_reply.ensures.items
