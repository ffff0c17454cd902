use Rattle.std.proofs.Common.{◌≡◌, ap, ◌∙◌, refl, [], ◌∷◌, decimal}
use Rattle.std.specs.Prelude.{codes}
use Rattle.std.proofs.lemmas.Result.{err_from_is_err_and}
use Rattle.sem_text.specs.Lines.{line}
use Rattle.sem_journal.specs.EntryForms.{has_long_memory}
use Rattle.sem_report.specs.ReportRefusal.{report_form, words_in}
use Rattle.sem_trace.specs.Refusal.{version_in}
use Rattle.sem_reader.proofs.Decimals.{digits-decimal}
use Rattle.sem_report.proofs.TraceHead.{small_version}
use Rattle.sem_report.proofs.LineForms.{bytes_bad, words_bad, spelling_bad, line_good}
use Rattle.sem_report.proofs.report_lines.header_line.Goals as goal

pub returns-in_err-is_text-clause-err : goal.returns-in_err-is_text-clause-err
returns-in_err-is_text-clause-err c =
    let p = err_from_is_err_and c.from_residual.result c.from_residual.ensures.1 in
    rw (p.1, p.2) (bytes_bad report_form c.args.line.now.whole.now _ c.in_err-is_text.ensures)

pub returns-in_err-version-clause-err : goal.returns-in_err-version-clause-err
returns-in_err-version-clause-err c =
    let p = err_from_is_err_and c.from_residual-in_err-version.result c.from_residual-in_err-version.ensures.1 in
    rw (p.1, p.2) (words_bad report_form c.args.line.now.whole.now _ c.in_ok-is_text.ensures (rw c.requires at c.in_err-version.ensures.fault))

pub returns-in_err-is_canonical-clause-err : goal.returns-in_err-is_canonical-clause-err
unfolding has_long_memory
returns-in_err-is_canonical-clause-err c =
    let p = err_from_is_err_and c.from_residual-in_err-is_canonical.result c.from_residual-in_err-is_canonical.ensures.1 in
    let words : words_in c.args.line.now.whole.now ≡ codes "semper" ∷ codes "report" ∷ decimal c.in_ok-version.version ∷ [] =
    rw c.requires at c.in_ok-version.ensures.printed in
    let text : c.deref.result.now ≡ line (codes "semper" ∷ codes "report" ∷ decimal c.in_ok-version.version ∷ []) = c.deref.ensures.value
    ∙ (c.in_ok-push_line.ensures.ok ∙ (rw (c.clear.ensures.items, c.from.ensures) refl)) in
    rw (p.1, p.2) (spelling_bad report_form c.args.line.now.whole.now (codes "semper" ∷ codes "report" ∷ decimal c.in_ok-version.version ∷ []) _
    c.in_ok-is_text.ensures (rw c.requires at c.in_ok-version.ensures.fault) words refl (rw text at c.in_err-is_canonical.ensures))

pub returns-clause-ok : goal.returns-clause-ok
unfolding has_long_memory
returns-clause-ok c =
    let words : words_in c.args.line.now.whole.now ≡ codes "semper" ∷ codes "report" ∷ decimal c.in_ok-version.version ∷ [] =
    rw c.requires at c.in_ok-version.ensures.printed in
    let text : c.deref.result.now ≡ line (codes "semper" ∷ codes "report" ∷ decimal c.in_ok-version.version ∷ []) = c.deref.ensures.value
    ∙ (c.in_ok-push_line.ensures.ok ∙ (rw (c.clear.ensures.items, c.from.ensures) refl)) in
    line_good report_form c.args.line.now.whole.now (codes "semper" ∷ codes "report" ∷ decimal c.in_ok-version.version ∷ []) c.in_ok-is_text.ensures
    (rw c.requires at c.in_ok-version.ensures.fault) words refl (rw text at c.in_ok-is_canonical.ensures)

pub returns-clause-version : goal.returns-clause-version
returns-clause-version c =
    let words : words_in c.args.line.now.whole.now ≡ codes "semper" ∷ codes "report" ∷ decimal c.in_ok-version.version ∷ [] =
    rw c.requires at c.in_ok-version.ensures.printed in
    ap version_in words ∙ (digits-decimal c.in_ok-version.version (small_version c.in_ok-version.version c.in_ok-version.ensures.versions)).1
