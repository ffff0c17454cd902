use Rattle.std.proofs.Common.{◌≡◌, ◌+◌, ◌≤◌, ◌++◌, length, map, replicate}
use Rattle.std.specs.List.{All}
use Rattle.sem_text.specs.Lines.{text}
use Rattle.sem_msg.specs.Audits.{held_pairs}
use Rattle.sem_report.specs.ReportRanges.{HeldFits}
use Rattle.sem_journal.specs.ReportText.{held_line}
use Rattle.sem_report.specs.WholeLines.{whole_lines}
use Rattle.sem_report.specs.ReportRefusal.{held_form}
use Rattle.sem_report.specs.ReadsReport.{HaveForms}
use Rattle.sem_report.proofs.report_reader.Lines.held_keys.Given as goal

-- the lines so far are those of keys, and these are in the list
abbrev pub invariant-loop : goal.invariant-loop
invariant-loop l = record {
  room : l.self.number + length l.self.rest.now ≤ 1000000000;
  follows : HaveForms (replicate l.counter (held_form l.version)) (l.initial.self.number + 1) (whole_lines l.initial.self.rest.now) (l.self.number + 1)
      (whole_lines l.self.rest.now);
  read : l.initial.self.rest.now ≡ text (map held_line (held_pairs l.keys)) ++ l.self.rest.now;
  count : length l.keys ≡ l.counter;
  fits : All (HeldFits l.version) (held_pairs l.keys);
}
