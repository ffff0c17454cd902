-- The text of the report of a journal, and its audit ("The report" in docs/texts.md).
use Rattle.std.specs.Prelude.{◌≡◌, ℕ, List, length}
use Rattle.sem_machine.specs.Prelude.{Audit, Entry, Setup, made, cut}
use Rattle.sem_machine.specs.HeldKeys.{held_after}
use Rattle.sem_msg.specs.Audits.{held_pairs}
use Rattle.sem_journal.specs.ReportText.{report_text}

-- the text of the report of a journal: with how many keys it made and cut, and which keys are held
-- after it
abbrev pub report : Setup → List Entry → List ℕ
report T J = report_text T J (length (made T J)) (length (cut T J)) (held_after T J)

-- it is the audit of a journal: how many keys it made and cut, and which are held after it
pub record IsAuditOf (T : Setup) (J : List Entry) (a : Audit) : Type 0 where
  pub made : a.made ≡ length (made T J)
  pub cut : a.cut ≡ length (cut T J)
  pub held : held_pairs a.held ≡ held_after T J
