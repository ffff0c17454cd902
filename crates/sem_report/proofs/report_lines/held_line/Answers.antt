use Rattle.std.proofs.Common.{◌≡◌, ◌∙◌, refl}
use Rattle.std.proofs.lemmas.Result.{err_from_is_err_and}
use Rattle.sem_text.specs.Lines.{line}
use Rattle.sem_journal.specs.ReportText.{held_line as held_words_spec}
use Rattle.sem_journal.specs.EntryForms.{has_long_memory}
use Rattle.sem_report.specs.ReportRefusal.{held_form, words_in}
use Rattle.sem_report.proofs.LineForms.{bytes_bad, words_bad, spelling_bad, line_good}
use Rattle.sem_report.proofs.report_lines.held_line.Goals as goal

pub returns-in_err-is_text-clause-err : goal.returns-in_err-is_text-clause-err
returns-in_err-is_text-clause-err c =
    let p = err_from_is_err_and c.from_residual.result c.from_residual.ensures.1 in
    rw (p.1, p.2) (bytes_bad (held_form c.args.version) c.args.line.now.whole.now _ c.in_err-is_text.ensures)

pub returns-in_err-held-clause-err : goal.returns-in_err-held-clause-err
returns-in_err-held-clause-err c =
    let p = err_from_is_err_and c.from_residual-in_err-held.result c.from_residual-in_err-held.ensures.1 in
    rw (p.1, p.2) (words_bad (held_form c.args.version) c.args.line.now.whole.now _ c.in_ok-is_text.ensures (rw c.requires at c.in_err-held.ensures.fault))

pub returns-in_err-is_canonical-clause-err : goal.returns-in_err-is_canonical-clause-err
unfolding has_long_memory
returns-in_err-is_canonical-clause-err c =
    let p = err_from_is_err_and c.from_residual-in_err-is_canonical.result c.from_residual-in_err-is_canonical.ensures.1 in
    let words : words_in c.args.line.now.whole.now ≡ held_words_spec (c.in_ok-held.held.key, c.in_ok-held.held.sel) =
    rw c.requires at c.in_ok-held.ensures.printed in
    let text : c.deref.result.now ≡ line (held_words_spec (c.in_ok-held.held.key, c.in_ok-held.held.sel)) = c.deref.ensures.value
    ∙ (c.in_ok-push_held.ensures.ok ∙ (rw c.clear.ensures.items refl)) in
    rw (p.1, p.2) (spelling_bad (held_form c.args.version) c.args.line.now.whole.now (held_words_spec (c.in_ok-held.held.key, c.in_ok-held.held.sel)) _
    c.in_ok-is_text.ensures (rw c.requires at c.in_ok-held.ensures.fault) words refl (rw text at c.in_err-is_canonical.ensures))

pub returns-clause-ok : goal.returns-clause-ok
unfolding has_long_memory
returns-clause-ok c =
    let words : words_in c.args.line.now.whole.now ≡ held_words_spec (c.in_ok-held.held.key, c.in_ok-held.held.sel) =
    rw c.requires at c.in_ok-held.ensures.printed in
    let text : c.deref.result.now ≡ line (held_words_spec (c.in_ok-held.held.key, c.in_ok-held.held.sel)) = c.deref.ensures.value
    ∙ (c.in_ok-push_held.ensures.ok ∙ (rw c.clear.ensures.items refl)) in
    line_good (held_form c.args.version) c.args.line.now.whole.now (held_words_spec (c.in_ok-held.held.key, c.in_ok-held.held.sel)) c.in_ok-is_text.ensures
    (rw c.requires at c.in_ok-held.ensures.fault) words refl (rw text at c.in_ok-is_canonical.ensures)
