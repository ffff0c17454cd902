use Rattle.sem_journal.specs.EntryText.{entry_words}
use Rattle.sem_report.proofs.LinesJoined.{text-read-more}
use Rattle.sem_report.proofs.report.push_entries.Goals as goal

pub loop-at-preserved : goal.loop-at-preserved
loop-at-preserved c = text-read-more entry_words c.args.journal.now.entries c.loop-at.at _ _ _ c.loop-at.invariant c.in_ok-push_entry_at.ensures.ok
