use Rattle.std.proofs.Common.{◌++◌, map, ap}
use Rattle.sem_text.specs.Lines.{text}
use Rattle.sem_journal.specs.EntryText.{entry_words}
use Rattle.sem_run.specs.Texts.{text_of}
use Rattle.sem_run.proofs.Pieces.{OnErr-then, prefix-behind}
use Rattle.sem_run.proofs.text.Text.write.Goals as goal

-- the tail could not be written
pub returns-in_ok-write_entries-in-Report-clause-err : goal.returns-in_ok-write_entries-in-Report-clause-err
returns-in_ok-write_entries-in-Report-clause-err g c =
    let J = c.args.journal.now.entries in
    let report = c.in-Report in
    OnErr-then c.write_all-in-Report.result (rw c.deref-in-Report.ensures.value at c.write_all-in-Report.ensures.err)
    (prefix-behind _ _ _ (report.head.bytes.items ++ text (map entry_words J)) report.tail.items _ (ap (λ t. text_of t J) report.is)
    (rw c.as_slice.ensures at c.in_ok-write_entries-in-Report.ensures.ok))
