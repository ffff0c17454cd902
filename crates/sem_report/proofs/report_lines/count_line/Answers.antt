use Rattle.std.proofs.Common.{◌≡◌, ◌∙◌, refl, [], ◌∷◌, decimal, arith}
use Rattle.std.proofs.lemmas.Result.{err_from_is_err_and}
use Rattle.sem_text.specs.Lines.{line}
use Rattle.sem_journal.specs.EntryForms.{has_long_memory}
use Rattle.sem_report.specs.ReportRefusal.{count_form, words_in}
use Rattle.sem_reader.proofs.Decimals.{digits-decimal}
use Rattle.sem_report.proofs.LineForms.{bytes_bad, words_bad, spelling_bad, line_good}
use Rattle.sem_report.proofs.report_lines.count_line.Goals as goal

pub returns-in_err-is_text-clause-err : goal.returns-in_err-is_text-clause-err
returns-in_err-is_text-clause-err c =
    let p = err_from_is_err_and c.from_residual.result c.from_residual.ensures.1 in
    rw (p.1, p.2) (bytes_bad (count_form c.args.name.now) c.args.line.now.whole.now _ c.in_err-is_text.ensures)

pub returns-in_err-number-clause-err : goal.returns-in_err-number-clause-err
returns-in_err-number-clause-err c =
    let p = err_from_is_err_and c.from_residual-in_err-number.result c.from_residual-in_err-number.ensures.1 in
    rw (p.1, p.2) (words_bad (count_form c.args.name.now) c.args.line.now.whole.now _ c.in_ok-is_text.ensures (rw c.requires at c.in_err-number.ensures.fault))

pub returns-in_err-is_canonical-clause-err : goal.returns-in_err-is_canonical-clause-err
unfolding has_long_memory
returns-in_err-is_canonical-clause-err c =
    let p = err_from_is_err_and c.from_residual-in_err-is_canonical.result c.from_residual-in_err-is_canonical.ensures.1 in
    let words : words_in c.args.line.now.whole.now ≡ c.args.name.now ∷ decimal c.in_ok-number.number ∷ [] = rw c.requires at c.in_ok-number.ensures.printed in
    let text : c.deref.result.now ≡ line (c.args.name.now ∷ decimal c.in_ok-number.number ∷ []) = c.deref.ensures.value
    ∙ (c.in_ok-push_line.ensures.ok ∙ (rw c.clear.ensures.items refl)) in
    rw (p.1, p.2) (spelling_bad (count_form c.args.name.now) c.args.line.now.whole.now (c.args.name.now ∷ decimal c.in_ok-number.number ∷ []) _
    c.in_ok-is_text.ensures (rw c.requires at c.in_ok-number.ensures.fault) words refl (rw text at c.in_err-is_canonical.ensures))

pub returns-clause-ok : goal.returns-clause-ok
unfolding has_long_memory
returns-clause-ok c =
    let words : words_in c.args.line.now.whole.now ≡ c.args.name.now ∷ decimal c.in_ok-number.number ∷ [] = rw c.requires at c.in_ok-number.ensures.printed in
    let text : c.deref.result.now ≡ line (c.args.name.now ∷ decimal c.in_ok-number.number ∷ []) = c.deref.ensures.value
    ∙ (c.in_ok-push_line.ensures.ok ∙ (rw c.clear.ensures.items refl)) in
    line_good (count_form c.args.name.now) c.args.line.now.whole.now (c.args.name.now ∷ decimal c.in_ok-number.number ∷ []) c.in_ok-is_text.ensures
    (rw c.requires at c.in_ok-number.ensures.fault) words refl (rw text at c.in_ok-is_canonical.ensures)

pub returns-clause-number : goal.returns-clause-number
returns-clause-number c =
    let words : words_in c.args.line.now.whole.now ≡ c.args.name.now ∷ decimal c.in_ok-number.number ∷ [] = rw c.requires at c.in_ok-number.ensures.printed in
    rw words (digits-decimal c.in_ok-number.number (omega (arith, c.in_ok-number.ensures.small))).1
