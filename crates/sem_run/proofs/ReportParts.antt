-- The report of a journal, from what comes before the lines of its entries and after them.
use Rattle.std.proofs.Common.{◌≡◌, ℕ, List, [], ◌++◌, map, refl, ◌∙◌, ap}
use Rattle.sem_msg.specs.declared.audit.Audit.{Audit}
use Rattle.sem_msg.specs.declared.entry.Entry.{Entry}
use Rattle.sem_msg.specs.Audits.{held_pairs}
use Rattle.sem_msg.specs.Setup.{Setup}
use Rattle.sem_text.specs.Lines.{text}
use Rattle.sem_journal.specs.EntryText.{entry_words}
use Rattle.sem_journal.specs.ReportText.{audit_lines, report_text}
use Rattle.sem_report.specs.ReportHead.{BeginsReport}
use Rattle.sem_audit.specs.Reported.{report, IsAuditOf}

-- `first` and `tail` were appended to empty texts, and `head` is `first`
pub report-parts : (T : Setup) (J : List Entry) (a : Audit) (before before' first head tail : List ℕ) → before ≡ [] → BeginsReport T J before first →
    head ≡ first → before' ≡ [] → tail ≡ before' ++ text (audit_lines a.made a.cut (held_pairs a.held)) → IsAuditOf T J a →
    head ++ text (map entry_words J) ++ tail ≡ report T J
report-parts T J a before before' first head tail empty begins same empty' at_audit audit =
    let audit_text : List ℕ = text (audit_lines a.made a.cut (held_pairs a.held)) in
    let told : List ℕ = report_text T J a.made a.cut (held_pairs a.held) in
    let due : told ≡ report T J = rw (audit.made, audit.cut, audit.held) refl in
    let at_tail : tail ≡ audit_text = at_audit ∙ ap (λ b. b ++ audit_text) empty' in
    ap (λ h. h ++ text (map entry_words J) ++ tail) same ∙ (ap (λ t. first ++ text (map entry_words J) ++ t) at_tail
    ∙ (begins a.made a.cut (held_pairs a.held) ∙ (ap (λ b. b ++ told) empty ∙ due)))
