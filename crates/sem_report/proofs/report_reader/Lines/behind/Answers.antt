use Rattle.std.proofs.Common.{◌≡◌, ℕ, ◌+◌, List, [], ◌∷◌, ◌++◌, drop, replicate, refl, arith}
use Rattle.std.specs.Prelude.{codes}
use Rattle.std.proofs.lemmas.Result.{err_from_is_err_and}
use Rattle.sem_journal.specs.EntryForms.{entry_form}
use Rattle.sem_report.specs.WholeLines.{whole_lines}
use Rattle.sem_report.specs.ReportRefusal.{Form, count_form, audit_forms, forms_behind, count_at}
use Rattle.sem_report.proofs.ReportSteps.{count_further, forms_are, drop_entries, journal_read, follows_both, stops_behind, stops_before}
use Rattle.sem_report.proofs.report_reader.Lines.behind.Goals as goal

abbrev journal : List Form
journal = count_form (codes "journal") ∷ []

pub returns-in_err-number-clause-err : goal.returns-in_err-number-clause-err
returns-in_err-number-clause-err c =
    let lines : List (List ℕ) = whole_lines c.args.self.now.rest.now in
    let p = err_from_is_err_and c.from_residual.result c.from_residual.ensures.1 in
    rw (p.1, p.2, forms_are c.args.version c.args.kernels (count_at lines 0) _ lines refl refl)
    (stops_before journal (replicate (count_at lines 0) (entry_form c.args.version c.args.kernels)
    ++ audit_forms c.args.version (count_at lines (count_at lines 0 + 4))) _ _ _ c.in_err-number.ensures.err)

pub returns-in_err-journal-clause-err : goal.returns-in_err-journal-clause-err
returns-in_err-journal-clause-err c =
    let lines : List (List ℕ) = whole_lines c.args.self.now.rest.now in
    let entries : List Form = replicate c.in_ok-number.number (entry_form c.args.version c.args.kernels) in
    let p = err_from_is_err_and c.from_residual-in_err-journal.result c.from_residual-in_err-journal.ensures.1 in
    rw (p.1, p.2, forms_are c.args.version c.args.kernels c.in_ok-number.number _ lines c.in_ok-number.ensures.count refl)
    (stops_behind journal (entries ++ audit_forms c.args.version (count_at lines (c.in_ok-number.number + 4))) _ _ _ _ _ c.in_ok-number.ensures.ok
    (stops_before entries (audit_forms c.args.version (count_at lines (c.in_ok-number.number + 4))) _ _ _ c.in_err-journal.ensures.err))

pub returns-in_err-audit-clause-err : goal.returns-in_err-audit-clause-err
returns-in_err-audit-clause-err c =
    let lines : List (List ℕ) = whole_lines c.args.self.now.rest.now in
    let behind : whole_lines c.entries.new.self.rest.now ≡ drop (c.in_ok-number.number + 1) lines =
    drop_entries c.in_ok-number.number lines _ _ c.in_ok-number.ensures.behind c.in_ok-journal.ensures.behind in
    let held : count_at lines (c.in_ok-number.number + 4) ≡ count_at (whole_lines c.entries.new.self.rest.now) 3 =
    count_further (c.in_ok-number.number + 1) 3 (c.in_ok-number.number + 4) lines _ behind (omega arith) in
    let entries : List Form = replicate c.in_ok-number.number (entry_form c.args.version c.args.kernels) in
    let audit : List Form = audit_forms c.args.version (count_at (whole_lines c.entries.new.self.rest.now) 3) in
    let are : forms_behind c.args.version c.args.kernels lines ≡ journal ++ (entries ++ audit) =
    forms_are c.args.version c.args.kernels c.in_ok-number.number _ lines c.in_ok-number.ensures.count held in
    let p = err_from_is_err_and c.from_residual-in_err-audit.result c.from_residual-in_err-audit.ensures.1 in
    rw (p.1, p.2, are) (stops_behind journal (entries ++ audit) _ _ _ _ _ c.in_ok-number.ensures.ok
    (stops_behind entries audit _ _ _ _ _ c.in_ok-journal.ensures.ok c.in_err-audit.ensures.err))

pub returns-clause-ok : goal.returns-clause-ok
returns-clause-ok c =
    let lines : List (List ℕ) = whole_lines c.args.self.now.rest.now in
    let behind : whole_lines c.entries.new.self.rest.now ≡ drop (c.in_ok-number.number + 1) lines =
    drop_entries c.in_ok-number.number lines _ _ c.in_ok-number.ensures.behind c.in_ok-journal.ensures.behind in
    let held : count_at lines (c.in_ok-number.number + 4) ≡ count_at (whole_lines c.entries.new.self.rest.now) 3 =
    count_further (c.in_ok-number.number + 1) 3 (c.in_ok-number.number + 4) lines _ behind (omega arith) in
    let entries : List Form = replicate c.in_ok-number.number (entry_form c.args.version c.args.kernels) in
    let audit : List Form = audit_forms c.args.version (count_at (whole_lines c.entries.new.self.rest.now) 3) in
    let are : forms_behind c.args.version c.args.kernels lines ≡ journal ++ (entries ++ audit) =
    forms_are c.args.version c.args.kernels c.in_ok-number.number _ lines c.in_ok-number.ensures.count held in
    rw are (follows_both journal (entries ++ audit) _ _ _ _ _ _ c.in_ok-number.ensures.ok
    (follows_both entries audit _ _ _ _ _ _ c.in_ok-journal.ensures.ok c.in_ok-audit.ensures.ok))

pub returns-clause-read : goal.returns-clause-read
returns-clause-read c = journal_read c.in_ok-journal.journal.entries c.in_ok-number.number _ _ _ _ _ c.in_ok-number.ensures.read c.in_ok-journal.ensures.read
    c.in_ok-audit.ensures.read c.in_ok-journal.ensures.count
