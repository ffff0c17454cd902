use Rattle.std.proofs.Common.{◌≡◌, ◌++◌, map, take}
use Rattle.sem_text.specs.Lines.{text}
use Rattle.sem_msg.specs.Audits.{held_pairs}
use Rattle.sem_journal.specs.ReportText.{held_line}
use Rattle.sem_report.proofs.report.push_all_held.Given as goal

-- the lines of the keys so far were appended
abbrev pub invariant-loop-one : goal.invariant-loop-one
invariant-loop-one l = l.out.items ≡ l.initial.out.items ++ text (map held_line (held_pairs (take l.one-index l.held)))
