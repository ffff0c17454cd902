use Rattle.std.proofs.Common.{◌≡◌, ◌∙◌, refl}
use Rattle.std.proofs.lemmas.Result.{err_from_is_err_and}
use Rattle.sem_text.specs.Lines.{line}
use Rattle.sem_journal.specs.EntryText.{entry_words}
use Rattle.sem_journal.specs.EntryForms.{entry_form, has_long_memory}
use Rattle.sem_report.specs.ReportRefusal.{words_in}
use Rattle.sem_report.proofs.LineForms.{bytes_bad, spelling_bad, line_good, entry_words_bad, entry_words_good}
use Rattle.sem_report.proofs.report_lines.entry_line.Goals as goal

pub returns-in_err-is_text-clause-err : goal.returns-in_err-is_text-clause-err
returns-in_err-is_text-clause-err c =
    let p = err_from_is_err_and c.from_residual.result c.from_residual.ensures.1 in
    rw (p.1, p.2) (bytes_bad (entry_form c.args.version c.args.kernels) c.args.line.now.whole.now _ c.in_err-is_text.ensures)

pub returns-in_err-entry-clause-err : goal.returns-in_err-entry-clause-err
returns-in_err-entry-clause-err c =
    let p = err_from_is_err_and c.from_residual-in_err-entry.result c.from_residual-in_err-entry.ensures.1 in
    rw (p.1, p.2) (entry_words_bad c.args.version c.args.kernels c.args.line.now.whole.now _ c.in_ok-is_text.ensures
    (rw c.requires.content at c.in_err-entry.ensures.fault))

pub returns-in_err-is_canonical-clause-err : goal.returns-in_err-is_canonical-clause-err
unfolding has_long_memory
returns-in_err-is_canonical-clause-err c =
    let p = err_from_is_err_and c.from_residual-in_err-is_canonical.result c.from_residual-in_err-is_canonical.ensures.1 in
    let words : words_in c.args.line.now.whole.now ≡ entry_words c.in_ok-entry.entry = rw c.requires.content at c.in_ok-entry.ensures.printed in
    let text : c.deref.result.now ≡ line (entry_words c.in_ok-entry.entry) = c.deref.ensures.value
    ∙ (c.in_ok-push_entry.ensures.ok ∙ (rw c.clear.ensures.items refl)) in
    let good = entry_words_good c.args.version c.args.kernels (words_in c.args.line.now.whole.now) (rw c.requires.content at c.in_ok-entry.ensures.fault) in
    rw (p.1, p.2) (spelling_bad (entry_form c.args.version c.args.kernels) c.args.line.now.whole.now (entry_words c.in_ok-entry.entry) _ c.in_ok-is_text.ensures
    good.0 words (rw words at good.1) (rw text at c.in_err-is_canonical.ensures))

pub returns-clause-ok : goal.returns-clause-ok
unfolding has_long_memory
returns-clause-ok c =
    let words : words_in c.args.line.now.whole.now ≡ entry_words c.in_ok-entry.entry = rw c.requires.content at c.in_ok-entry.ensures.printed in
    let text : c.deref.result.now ≡ line (entry_words c.in_ok-entry.entry) = c.deref.ensures.value
    ∙ (c.in_ok-push_entry.ensures.ok ∙ (rw c.clear.ensures.items refl)) in
    let good = entry_words_good c.args.version c.args.kernels (words_in c.args.line.now.whole.now) (rw c.requires.content at c.in_ok-entry.ensures.fault) in
    line_good (entry_form c.args.version c.args.kernels) c.args.line.now.whole.now (entry_words c.in_ok-entry.entry) c.in_ok-is_text.ensures good.0 words
    (rw words at good.1) (rw text at c.in_ok-is_canonical.ensures)
