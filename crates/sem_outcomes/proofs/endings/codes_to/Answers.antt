use Rattle.std.proofs.Common.{◌∷◌, ◌++◌, [], take, sym, ◌∙◌, ap, arith}
use Rattle.std.proofs.lemmas.List.{take_more}
use Rattle.sem_histories.specs.Outcomes.{codes_to}
use Rattle.sem_outcomes.proofs.Codes.{codes-snoc}
use Rattle.sem_outcomes.proofs.endings.codes_to.Goals as goal

pub loop-entry-preserved : goal.loop-entry-preserved
loop-entry-preserved c =
    let i = c.loop-entry.entry-index in
    let es = c.args.entries.now in
    let e = c.entry-item.result in
    let v = c.args.vpe in
    c.in_ok-add_code.ensures
    ∙ (ap (λ cs. cs ++ codes_to (e ∷ []) v) c.loop-entry.invariant
    ∙ (sym (codes-snoc (take i es) e v)
    ∙ ap (λ J. codes_to J v) (ap (λ x. take i es ++ x ∷ []) c.entry-item.is ∙ sym (take_more es i e (omega arith)))))
