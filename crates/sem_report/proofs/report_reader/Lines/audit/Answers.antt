use Rattle.std.proofs.Common.{◌≡◌, ℕ, ◌+◌, List, [], ◌∷◌, ◌++◌, drop, replicate, ◌∙◌}
use Rattle.std.specs.Prelude.{codes}
use Rattle.std.proofs.lemmas.Result.{err_from_is_err_and}
use Rattle.sem_report.specs.WholeLines.{whole_lines}
use Rattle.sem_report.specs.ReportRefusal.{Form, name_form, count_form, held_form, count_at}
use Rattle.sem_report.specs.ReadsReport.{HaveForms}
use Rattle.sem_report.proofs.ReportSteps.{drop_more, count_behind, follows_both, stops_behind, stops_before}
use Rattle.sem_report.proofs.report_reader.Lines.audit.Goals as goal

abbrev four : List Form
four = name_form (codes "audit") ∷ count_form (codes "made") ∷ count_form (codes "cut") ∷ count_form (codes "held") ∷ []

abbrev end : List Form
end = name_form (codes "end") ∷ []

pub returns-in_err-held-clause-err : goal.returns-in_err-held-clause-err
returns-in_err-held-clause-err c =
    let lines : List (List ℕ) = whole_lines c.args.self.now.rest.now in
    let second : whole_lines c.count.new.self.rest.now ≡ drop 2 lines = drop_more lines _ _ 1 c.in_ok-name.ensures.behind c.in_ok-made.ensures.behind in
    let third : whole_lines c.count-2.new.self.rest.now ≡ drop 3 lines = drop_more lines _ _ 2 second c.in_ok-cut.ensures.behind in
    let held : count_at lines 3 ≡ c.in_ok-number.number = count_behind 3 lines _ third ∙ c.in_ok-number.ensures.count in
    let first : HaveForms four (c.args.self.now.number + 1) lines (c.count-3.new.self.number + 1) (whole_lines c.count-3.new.self.rest.now) =
    follows_both (name_form (codes "audit") ∷ []) (count_form (codes "made") ∷ count_form (codes "cut") ∷ count_form (codes "held") ∷ []) _ _ _ _ _ _
    c.in_ok-name.ensures.ok
    (follows_both (count_form (codes "made") ∷ []) (count_form (codes "cut") ∷ count_form (codes "held") ∷ []) _ _ _ _ _ _ c.in_ok-made.ensures.ok
    (follows_both (count_form (codes "cut") ∷ []) (count_form (codes "held") ∷ []) _ _ _ _ _ _ c.in_ok-cut.ensures.ok c.in_ok-number.ensures.ok)) in
    let p = err_from_is_err_and c.from_residual-in_err-held.result c.from_residual-in_err-held.ensures.1 in
    rw (p.1, p.2, held) (stops_behind four (replicate c.in_ok-number.number (held_form c.args.version) ++ end) _ _ _ _ _ first
    (stops_before (replicate c.in_ok-number.number (held_form c.args.version)) end _ _ _ c.in_err-held.ensures.err))

pub returns-in_err-name-2-clause-err : goal.returns-in_err-name-2-clause-err
returns-in_err-name-2-clause-err c =
    let lines : List (List ℕ) = whole_lines c.args.self.now.rest.now in
    let second : whole_lines c.count.new.self.rest.now ≡ drop 2 lines = drop_more lines _ _ 1 c.in_ok-name.ensures.behind c.in_ok-made.ensures.behind in
    let third : whole_lines c.count-2.new.self.rest.now ≡ drop 3 lines = drop_more lines _ _ 2 second c.in_ok-cut.ensures.behind in
    let held : count_at lines 3 ≡ c.in_ok-number.number = count_behind 3 lines _ third ∙ c.in_ok-number.ensures.count in
    let first : HaveForms four (c.args.self.now.number + 1) lines (c.count-3.new.self.number + 1) (whole_lines c.count-3.new.self.rest.now) =
    follows_both (name_form (codes "audit") ∷ []) (count_form (codes "made") ∷ count_form (codes "cut") ∷ count_form (codes "held") ∷ []) _ _ _ _ _ _
    c.in_ok-name.ensures.ok
    (follows_both (count_form (codes "made") ∷ []) (count_form (codes "cut") ∷ count_form (codes "held") ∷ []) _ _ _ _ _ _ c.in_ok-made.ensures.ok
    (follows_both (count_form (codes "cut") ∷ []) (count_form (codes "held") ∷ []) _ _ _ _ _ _ c.in_ok-cut.ensures.ok c.in_ok-number.ensures.ok)) in
    let p = err_from_is_err_and c.from_residual-in_err-name-2.result c.from_residual-in_err-name-2.ensures.1 in
    rw (p.1, p.2, held) (stops_behind four (replicate c.in_ok-number.number (held_form c.args.version) ++ end) _ _ _ _ _ first
    (stops_behind (replicate c.in_ok-number.number (held_form c.args.version)) end _ _ _ _ _ c.in_ok-held.ensures.ok c.in_err-name-2.ensures.err))

pub returns-clause-ok : goal.returns-clause-ok
returns-clause-ok c =
    let lines : List (List ℕ) = whole_lines c.args.self.now.rest.now in
    let second : whole_lines c.count.new.self.rest.now ≡ drop 2 lines = drop_more lines _ _ 1 c.in_ok-name.ensures.behind c.in_ok-made.ensures.behind in
    let third : whole_lines c.count-2.new.self.rest.now ≡ drop 3 lines = drop_more lines _ _ 2 second c.in_ok-cut.ensures.behind in
    let held : count_at lines 3 ≡ c.in_ok-number.number = count_behind 3 lines _ third ∙ c.in_ok-number.ensures.count in
    let first : HaveForms four (c.args.self.now.number + 1) lines (c.count-3.new.self.number + 1) (whole_lines c.count-3.new.self.rest.now) =
    follows_both (name_form (codes "audit") ∷ []) (count_form (codes "made") ∷ count_form (codes "cut") ∷ count_form (codes "held") ∷ []) _ _ _ _ _ _
    c.in_ok-name.ensures.ok
    (follows_both (count_form (codes "made") ∷ []) (count_form (codes "cut") ∷ count_form (codes "held") ∷ []) _ _ _ _ _ _ c.in_ok-made.ensures.ok
    (follows_both (count_form (codes "cut") ∷ []) (count_form (codes "held") ∷ []) _ _ _ _ _ _ c.in_ok-cut.ensures.ok c.in_ok-number.ensures.ok)) in
    rw held (follows_both four (replicate c.in_ok-number.number (held_form c.args.version) ++ end) _ _ _ _ _ _ first
    (follows_both (replicate c.in_ok-number.number (held_form c.args.version)) end _ _ _ _ _ _ c.in_ok-held.ensures.ok c.in_ok-name-2.ensures.ok))
