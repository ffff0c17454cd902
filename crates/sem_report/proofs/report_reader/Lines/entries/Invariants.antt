use Rattle.std.proofs.Common.{◌≡◌, ◌+◌, ◌≤◌, ◌++◌, length, drop, map, replicate, All}
use Rattle.sem_text.specs.Lines.{text}
use Rattle.sem_journal.specs.EntryForms.{entry_form}
use Rattle.sem_journal.specs.EntryRanges.{EntryFits}
use Rattle.sem_journal.specs.EntryText.{entry_words}
use Rattle.sem_report.specs.WholeLines.{whole_lines}
use Rattle.sem_report.specs.ReadsReport.{HaveForms}
use Rattle.sem_report.proofs.report_reader.Lines.entries.Given as goal

-- the lines so far are those of entries, and these are in the journal
abbrev pub invariant-loop : goal.invariant-loop
invariant-loop l = record {
  room : l.self.number + length l.self.rest.now ≤ 1000000000;
  follows : HaveForms (replicate l.counter (entry_form l.version l.kernels)) (l.initial.self.number + 1) (whole_lines l.initial.self.rest.now) (l.self.number + 1)
      (whole_lines l.self.rest.now);
  read : l.initial.self.rest.now ≡ text (map entry_words l.journal.entries) ++ l.self.rest.now;
  behind : whole_lines l.self.rest.now ≡ drop l.counter (whole_lines l.initial.self.rest.now);
  count : length l.journal.entries ≡ l.counter;
  fits : All (EntryFits l.version l.kernels) l.journal.entries;
}
