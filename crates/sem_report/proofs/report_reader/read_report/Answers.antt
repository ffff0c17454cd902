use Rattle.std.proofs.Common.{◌≡◌, ℕ, [], ◌∷◌, ◌++◌, decimal, All, sym, subst, ap, ◌∙◌, arith}
use Rattle.std.proofs.lemmas.Result.{err_from_is_err_and}
use Rattle.std.proofs.lemmas.List.{length-map}
use Rattle.sem_key.specs.KeyName.{KeyName}
use Rattle.sem_msg.specs.declared.audit.Held.{Held}
use Rattle.sem_msg.specs.Setup.{Setup, IsSetup}
use Rattle.std.specs.Prelude.{codes}
use Rattle.sem_text.specs.Lines.{line}
use Rattle.sem_journal.specs.EntryRanges.{EntryFits}
use Rattle.sem_report.specs.ReportRanges.{HeldFits}
use Rattle.sem_report.specs.WholeLines.{whole_lines}
use Rattle.sem_msg.specs.Audits.{held_pairs}
use Rattle.sem_report.proofs.WholeReport.{IsHeaded, IsTraced, too_long, header_refused, trace_refused, behind_refused, behind_last, last_refused, report_is}
use Rattle.sem_report.proofs.report_reader.read_report.Goals as goal

pub returns-then-bytes-gt-REPORT_BYTES-clause-refused : goal.returns-then-bytes-gt-REPORT_BYTES-clause-refused
returns-then-bytes-gt-REPORT_BYTES-clause-refused c = rw c.refused.ensures (too_long c.args.bytes.now (omega arith))

pub returns-in_err-version-clause-refused : goal.returns-in_err-version-clause-refused
returns-in_err-version-clause-refused c =
    let p = err_from_is_err_and c.from_residual.result c.from_residual.ensures.1 in
    rw (p.1, p.2) (header_refused c.args.bytes.now _ (omega arith) c.in_err-version.ensures.err)

pub returns-in_err-setup-clause-refused : goal.returns-in_err-setup-clause-refused
returns-in_err-setup-clause-refused c =
    let headed : IsHeaded c.in_ok-version.version c.args.bytes.now (whole_lines c.header.new.self.rest.now) =
    record { short = omega arith; header = c.in_ok-version.ensures.ok; behind = c.in_ok-version.ensures.behind; told = c.in_ok-version.ensures.version } in
    let p = err_from_is_err_and c.from_residual-in_err-setup.result c.from_residual-in_err-setup.ensures.1 in
    rw (p.1, p.2) (trace_refused c.in_ok-version.version c.args.bytes.now _ _ headed c.in_err-setup.ensures.err)

pub returns-in_err-journal-clause-refused : goal.returns-in_err-journal-clause-refused
returns-in_err-journal-clause-refused c =
    let headed : IsHeaded c.in_ok-version.version c.args.bytes.now (whole_lines c.header.new.self.rest.now) =
    record { short = omega arith; header = c.in_ok-version.ensures.ok; behind = c.in_ok-version.ensures.behind; told = c.in_ok-version.ensures.version } in
    let traced : IsTraced c.in_ok-version.version (whole_lines c.header.new.self.rest.now) (whole_lines c.trace.new.self.rest.now) c.in_ok-setup.setup
    c.trace.new.self.number = record {
      trace = c.in_ok-setup.ensures.ok;
      declared = c.in_ok-setup.ensures.declared;
      rest = c.in_ok-setup.ensures.behind;
      number = c.in_ok-setup.ensures.number;
    } in
    let p = err_from_is_err_and c.from_residual-in_err-journal.result c.from_residual-in_err-journal.ensures.1 in
    let same : c.setup.inside.kernels ≡ c.in_ok-setup.setup.kernels = ap (λ (T : Setup). T.kernels) c.setup.view_is in
    rw (p.1, p.2) (behind_refused c.in_ok-version.version c.args.bytes.now _ _ c.in_ok-setup.setup _ _ headed traced (rw same at c.in_err-journal.ensures.err))

pub returns-in_err-finish-clause-refused : goal.returns-in_err-finish-clause-refused
returns-in_err-finish-clause-refused c =
    let headed : IsHeaded c.in_ok-version.version c.args.bytes.now (whole_lines c.header.new.self.rest.now) =
    record { short = omega arith; header = c.in_ok-version.ensures.ok; behind = c.in_ok-version.ensures.behind; told = c.in_ok-version.ensures.version } in
    let traced : IsTraced c.in_ok-version.version (whole_lines c.header.new.self.rest.now) (whole_lines c.trace.new.self.rest.now) c.in_ok-setup.setup
    c.trace.new.self.number = record {
      trace = c.in_ok-setup.ensures.ok;
      declared = c.in_ok-setup.ensures.declared;
      rest = c.in_ok-setup.ensures.behind;
      number = c.in_ok-setup.ensures.number;
    } in
    let p = err_from_is_err_and c.from_residual-in_err-finish.result c.from_residual-in_err-finish.ensures.1 in
    let same : c.setup.inside.kernels ≡ c.in_ok-setup.setup.kernels = ap (λ (T : Setup). T.kernels) c.setup.view_is in
    rw (p.1, p.2) (last_refused c.in_ok-version.version c.args.bytes.now _ _ _ c.in_ok-setup.setup _ _ _ headed traced (rw same at c.in_ok-journal.ensures.ok)
    c.in_err-finish.ensures.err)

pub returns-clause-read : goal.returns-clause-read
returns-clause-read c =
    let first = subst (λ (v : ℕ). c.args.bytes.now ≡ line (codes "semper" ∷ codes "report" ∷ decimal v ∷ []) ++ c.header.new.self.rest.now)
    (sym c.in_ok-setup.ensures.version) c.in_ok-version.ensures.read in
    report_is c.in_ok-setup.setup c.in_ok-journal.journal.entries c.in_ok-journal.audit.made c.in_ok-journal.audit.cut (held_pairs c.in_ok-journal.audit.held) _
    _ _ _ first c.in_ok-setup.ensures.read c.in_ok-journal.ensures.read c.in_ok-finish.ensures.nothing

pub returns-clause-accepted : goal.returns-clause-accepted
returns-clause-accepted c =
    let headed : IsHeaded c.in_ok-version.version c.args.bytes.now (whole_lines c.header.new.self.rest.now) =
    record { short = omega arith; header = c.in_ok-version.ensures.ok; behind = c.in_ok-version.ensures.behind; told = c.in_ok-version.ensures.version } in
    let traced : IsTraced c.in_ok-version.version (whole_lines c.header.new.self.rest.now) (whole_lines c.trace.new.self.rest.now) c.in_ok-setup.setup
    c.trace.new.self.number = record {
      trace = c.in_ok-setup.ensures.ok;
      declared = c.in_ok-setup.ensures.declared;
      rest = c.in_ok-setup.ensures.behind;
      number = c.in_ok-setup.ensures.number;
    } in
    let same : c.setup.inside.kernels ≡ c.in_ok-setup.setup.kernels = ap (λ (T : Setup). T.kernels) c.setup.view_is in
    behind_last c.in_ok-version.version c.args.bytes.now _ _ _ c.in_ok-setup.setup _ _ headed traced (rw same at c.in_ok-journal.ensures.ok)
    ∙ c.in_ok-finish.ensures.ok

pub returns-clause-fits : goal.returns-clause-fits
returns-clause-fits c =
    let same : c.setup.inside.kernels ≡ c.in_ok-setup.setup.kernels = ap (λ (T : Setup). T.kernels) c.setup.view_is in
    record {
      trace = subst IsSetup c.setup.view_is c.setup.invariant;
      entries = subst (λ (v : ℕ). All (EntryFits v c.in_ok-setup.setup.kernels) c.in_ok-journal.journal.entries) (sym c.in_ok-setup.ensures.version)
          (rw same at c.in_ok-journal.ensures.fits);
      few_entries = c.in_ok-journal.ensures.entries;
      few_made = c.in_ok-journal.ensures.made;
      few_cut = c.in_ok-journal.ensures.cut;
      few_held = omega (arith, c.in_ok-journal.ensures.held, length-map {B = KeyName × ℕ} c.in_ok-journal.audit.held (λ (h : Held). (h.key, h.sel)));
      keys = subst (λ (v : ℕ). All (HeldFits v) (held_pairs c.in_ok-journal.audit.held)) (sym c.in_ok-setup.ensures.version) c.in_ok-journal.ensures.keys;
    }
