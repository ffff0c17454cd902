-- Bytes are accepted exactly where they are the report of a complete schedule.
use Rattle.std.proofs.Common.{◌≡◌, ℕ, true, List, length, Option, Some, None, refl, sym, ◌∙◌, ap, subst, arith}
use Rattle.std.specs.Prelude.{◌≤◌}
use Rattle.std.proofs.lemmas.Bool.{false≢true}
use Rattle.std.proofs.lemmas.Option.{none-some, same_Some}
use Rattle.sem_key.specs.KeyName.{KeyName}
use Rattle.sem_msg.specs.declared.audit.Audit.{Audit}
use Rattle.sem_msg.specs.declared.entry.Entry.{Entry}
use Rattle.sem_msg.specs.Setup.{Setup, IsSetup}
use Rattle.sem_machine.specs.Schedules.{IsSchedule, world_after}
use Rattle.sem_machine.specs.Journals.{made, cut}
use Rattle.sem_machine.specs.Living.{IsQuiet}
use Rattle.sem_trace.specs.declared.fault.Cause.TheVariants.{NotCanonical}
use Rattle.sem_trace.specs.declared.fault.TraceFault.{TraceFault}
use Rattle.sem_journal.specs.ReportText.{report_text}
use Rattle.sem_report.specs.declared.verdict.Verdict.{Verdict}
use Rattle.sem_report.specs.declared.verdict.Verdict.TheVariants.{Accepted, BadLine, BadEntry, NotOver, BadAudit}
use Rattle.sem_report.specs.WholeLines.{whole_lines}
use Rattle.sem_report.specs.Audited.{audited, first_wrong_line}
use Rattle.sem_trace.specs.Forms.{whole_line}
use Rattle.sem_trace.specs.LineErrors.{fault_of}
use Rattle.sem_report.specs.ReportRefusal.{first_difference, report_refusal}
use Rattle.sem_report.specs.ReportRanges.{ReportFits}
use Rattle.sem_report.proofs.PrintedReport.{same_lines}
use Rattle.sem_machine.specs.HeldKeys.{keys_held}
use Rattle.sem_audit.specs.Reported.{report, IsAuditOf}
use Rattle.sem_check.specs.Replays.{DiffersAt}
use Rattle.sem_check.specs.Verdicts.{GoesOn}
use Rattle.sem_cli.specs.Refusals.{bad_line, differing_line as differing_entry, going_on_line}
use Rattle.sem_fits.proofs.Entries.{entries-fit}
use Rattle.sem_fits.proofs.Held.{few-held, held-fits}
use Rattle.sem_fits.proofs.Audits.{few-entries, few-made, few-cut}
use Rattle.sem_fits.proofs.Bytes.{short-report}
use Rattle.sem_run.specs.Reports.{IsReport, TellsReport, TellsComplete, IsVerdict, is_accepted, verdict_line}

-- the report of a schedule can be told
pub report-fits : (T : Setup) → IsSetup T → (J : List Entry) → IsSchedule T J →
    ReportFits T J (length (made T J)) (length (cut T J)) (keys_held (world_after T J).sides)
report-fits T valid J runs = record {
  trace = valid;
  entries = entries-fit T valid J runs;
  few_entries = (let few = few-entries T valid J runs in omega (arith, few));
  few_made = (let few = few-made T valid J runs in omega (arith, few));
  few_cut = (let few = few-cut T valid J runs in omega (arith, few));
  few_held = (let few = few-held T valid J runs in omega (arith, few));
  keys = held-fits T valid J runs;
}

-- what is accepted is the report of a complete schedule
pub no-others : (bytes : List ℕ) (verdict : Verdict) → IsVerdict bytes verdict → is_accepted verdict ≡ true → IsReport bytes
no-others bytes (Accepted T journal due) found told = record {
  setup = T;
  entries = journal.entries;
  valid = found.0.tells.fits.trace;
  complete = found.0.complete;
  spelled = found.1;
}
no-others bytes (BadLine fault) found told = absurd (false≢true told)
no-others bytes (BadEntry journal n entered replayed) found told = absurd (false≢true told)
no-others bytes (NotOver journal next) found told = absurd (false≢true told)
no-others bytes (BadAudit line due) found told = absurd (false≢true told)

module _
    (read : (T : Setup) (J : List Entry) (made cut : ℕ) (keys_held : List (KeyName × ℕ)) → ReportFits T J made cut keys_held →
    length (report_text T J made cut keys_held) ≤ 134217728 → report_refusal (report_text T J made cut keys_held) ≡ None)
    (one : (T U : Setup) (J K : List Entry) (made cut made' cut' : ℕ) (keys_held held' : List (KeyName × ℕ)) → ReportFits T J made cut keys_held →
    ReportFits U K made' cut' held' → report_text T J made cut keys_held ≡ report_text U K made' cut' held' → (T ≡ U) × (J ≡ K) × (made ≡ made') × (cut ≡ cut')
    × (keys_held ≡ held'))
    (no-difference : (T : Setup) (J : List Entry) (n : ℕ) (x : Entry) (a : Option Entry) → DiffersAt T J n x a → ¬ IsSchedule T J)
    (not-quiet : (T : Setup) (J : List Entry) (n : ℕ) (x : Entry) → GoesOn T J n x → ¬ IsQuiet T (world_after T J)) where
  -- no line of it is bad
  no-bad_line : (bytes : List ℕ) → IsReport bytes → report_refusal bytes ≡ None
  no-bad_line bytes r = ap report_refusal r.spelled
      ∙ read r.setup r.entries _ _ _ (report-fits r.setup r.valid r.entries r.complete.schedule) (short-report r.setup r.valid r.entries r.complete.schedule)

  -- it tells one setup and one journal
  told-same : (bytes : List ℕ) (r : IsReport bytes) (T : Setup) (J : List Entry) → TellsReport bytes T J → (r.setup ≡ T) × (r.entries ≡ J)
  told-same bytes r T J tells =
      let same = one r.setup T r.entries J _ _ tells.made tells.cut _ tells.held (report-fits r.setup r.valid r.entries r.complete.schedule) tells.fits
      (sym r.spelled ∙ tells.spelled) in
      (same.0, same.1)

  pub accepts : (bytes : List ℕ) (verdict : Verdict) → IsReport bytes → IsVerdict bytes verdict → is_accepted verdict ≡ true
  accepts bytes (Accepted T journal due) r found = refl
  accepts bytes (BadLine fault) r found = absurd (none-some fault (sym (no-bad_line bytes r) ∙ found))
  accepts bytes (BadEntry journal n entered replayed) r (T, tells, differs) =
      let same = told-same bytes r T journal.entries tells in
      let runs : IsSchedule r.setup journal.entries = subst (IsSchedule r.setup) same.1 r.complete.schedule in
      absurd (no-difference T journal.entries n entered replayed differs (subst (λ t. IsSchedule t journal.entries) same.0 runs))
  accepts bytes (NotOver journal next) r (T, tells, goes) =
      let same = told-same bytes r T journal.entries tells in
      let quiet : IsQuiet r.setup (world_after r.setup journal.entries) = subst (λ j. IsQuiet r.setup (world_after r.setup j)) same.1 r.complete.quiet in
      absurd (not-quiet T journal.entries (length journal.entries) next goes (subst (λ t. IsQuiet t (world_after t journal.entries)) same.0 quiet))
  accepts bytes (BadAudit line due) r (T, J, tells, differs) =
      let same = told-same bytes r T J tells.tells in
      let is : bytes ≡ report T J = r.spelled ∙ (ap (λ t. report t r.entries) same.0 ∙ ap (report T) same.1) in
      let due-report : audited T J due ≡ report T J = rw (tells.audit.made, tells.audit.cut, tells.audit.held) refl in
      let same-text : audited T J due ≡ bytes = due-report ∙ sym is in
      let none : first_wrong_line bytes T J due ≡ None = ap (λ x. first_difference 1 (whole_lines bytes) (whole_lines x)) same-text
      ∙ same_lines 1 (whole_lines bytes) in
      absurd (none-some line (sym none ∙ differs))

  -- two readings of the same bytes tell the same
  same-told : (bytes : List ℕ) (T U : Setup) (J K : List Entry) → TellsReport bytes T J → TellsReport bytes U K → (T ≡ U) × (J ≡ K)
  same-told bytes T U J K tells other =
      let same = one T U J K tells.made tells.cut other.made other.cut tells.held other.held tells.fits other.fits (sym tells.spelled ∙ other.spelled) in
      (same.0, same.1)

  module _
      (one-difference : (T : Setup) (J : List Entry) (m n : ℕ) (x y : Entry) (a b : Option Entry) → DiffersAt T J m x a → DiffersAt T J n y b →
      (m ≡ n) × (x ≡ y) × (a ≡ b))
      (one-next : (T : Setup) (J : List Entry) (m n : ℕ) (x y : Entry) → GoesOn T J m x → GoesOn T J n y → (m ≡ n) × (x ≡ y))
      (bytes : List ℕ) where
    -- a bad line, and a text of which no line is bad
    bad-or-told : (fault : TraceFault) (T : Setup) (J : List Entry) → report_refusal bytes ≡ Some fault → TellsReport bytes T J → ⊥
    bad-or-told fault T J bad tells = none-some fault (sym tells.accepted ∙ bad)

    -- an entry that differs, and a schedule
    differs-or-runs : (T U : Setup) (J K : List Entry) (n : ℕ) (x : Entry) (a : Option Entry) → TellsReport bytes T J → DiffersAt T J n x a →
        TellsReport bytes U K → IsSchedule U K → ⊥
    differs-or-runs T U J K n x a tells differs other runs =
        let same = same-told bytes T U J K tells other in
        no-difference U K n x a (subst (λ t. DiffersAt t K n x a) same.0 (subst (λ j. DiffersAt T j n x a) same.1 differs)) runs

    -- a schedule that goes on, and a complete one
    goes-or-ends : (T U : Setup) (J K : List Entry) (n : ℕ) (x : Entry) → TellsReport bytes T J → GoesOn T J n x → TellsReport bytes U K →
        IsQuiet U (world_after U K) → ⊥
    goes-or-ends T U J K n x tells goes other quiet =
        let same = same-told bytes T U J K tells other in
        not-quiet U K n x (subst (λ t. GoesOn t K n x) same.0 (subst (λ j. GoesOn T j n x) same.1 goes)) quiet

    -- the line that differs from the report of what is told
    differs-from : (T : Setup) (J : List Entry) (due : Audit) → IsAuditOf T J due →
        first_wrong_line bytes T J due ≡ first_difference 1 (whole_lines bytes) (whole_lines (report T J))
    differs-from T J due audit = rw (audit.made, audit.cut, audit.held) refl

    one-audit : (T U : Setup) (J K : List Entry) (due due' : Audit) (line : ℕ) → TellsComplete bytes T J due → TellsComplete bytes U K due' →
        first_wrong_line bytes T J due ≡ Some line → first_wrong_line bytes U K due' ≡ Some line
    one-audit T U J K due due' line tells other differs =
        let same = same-told bytes T U J K tells.tells other.tells in
        let reports : report T J ≡ report U K = ap (report T) same.1 ∙ ap (λ t. report t K) same.0 in
        differs-from U K due' other.audit ∙ (ap (λ x. first_difference 1 (whole_lines bytes) (whole_lines x)) (sym reports)
        ∙ (sym (differs-from T J due tells.audit) ∙ differs))

    audit-or-report : (T U : Setup) (J K : List Entry) (due due' : Audit) (line : ℕ) → TellsComplete bytes T J due → first_wrong_line bytes T J due ≡ Some line →
        TellsComplete bytes U K due' → bytes ≡ report U K → ⊥
    audit-or-report T U J K due due' line tells differs other is =
        let there : first_wrong_line bytes U K due' ≡ Some line = one-audit T U J K due due' line tells other differs in
        let none : first_wrong_line bytes U K due' ≡ None = differs-from U K due' other.audit
        ∙ (ap (λ x. first_difference 1 (whole_lines bytes) (whole_lines x)) (sym is) ∙ same_lines 1 (whole_lines bytes)) in
        none-some line (sym none ∙ there)

    pub one-line : (v w : Verdict) → IsVerdict bytes v → IsVerdict bytes w → verdict_line v ≡ verdict_line w
    one-line (Accepted T j d) (Accepted U k e) found other = refl
    one-line (Accepted T j d) (BadLine g) found other = absurd (bad-or-told g T j.entries other found.0.tells)
    one-line (Accepted T j d) (BadEntry k n y b) found (U, tells, differs) =
        absurd (differs-or-runs U T k.entries j.entries n y b tells differs found.0.tells found.0.complete.schedule)
    one-line (Accepted T j d) (NotOver k y) found (U, tells, goes) =
        absurd (goes-or-ends U T k.entries j.entries (length k.entries) y tells goes found.0.tells found.0.complete.quiet)
    one-line (Accepted T j d) (BadAudit l e) found (U, K, tells, differs) = absurd (audit-or-report U T K j.entries e d l tells differs found.0 found.1)
    one-line (BadLine f) (Accepted U k e) found other = absurd (bad-or-told f U k.entries found other.0.tells)
    one-line (BadLine f) (BadLine g) found other = ap bad_line (same_Some f g (sym found ∙ other))
    one-line (BadLine f) (BadEntry k n y b) found (U, tells, differs) = absurd (bad-or-told f U k.entries found tells)
    one-line (BadLine f) (NotOver k y) found (U, tells, goes) = absurd (bad-or-told f U k.entries found tells)
    one-line (BadLine f) (BadAudit l e) found (U, K, tells, differs) = absurd (bad-or-told f U K found tells.tells)
    one-line (BadEntry j m x a) (Accepted U k e) (T, tells, differs) other =
        absurd (differs-or-runs T U j.entries k.entries m x a tells differs other.0.tells other.0.complete.schedule)
    one-line (BadEntry j m x a) (BadLine g) (T, tells, differs) other = absurd (bad-or-told g T j.entries other tells)
    one-line (BadEntry j m x a) (BadEntry k n y b) (T, tells, differs) (U, tells', differs') =
        let same = same-told bytes T U j.entries k.entries tells tells' in
        let moved : DiffersAt U k.entries m x a = subst (λ t. DiffersAt t k.entries m x a) same.0 (subst (λ i. DiffersAt T i m x a) same.1 differs) in
        let parts = one-difference U k.entries m n x y a b moved differs' in
        ap (λ i. differing_entry i x a) parts.0 ∙ (ap (λ z. differing_entry n z a) parts.1 ∙ ap (differing_entry n y) parts.2)
    one-line (BadEntry j m x a) (NotOver k y) (T, tells, differs) (U, tells', goes) =
        absurd (differs-or-runs T U j.entries k.entries m x a tells differs tells' goes.schedule)
    one-line (BadEntry j m x a) (BadAudit l e) (T, tells, differs) (U, K, tells', other) =
        absurd (differs-or-runs T U j.entries K m x a tells differs tells'.tells tells'.complete.schedule)
    one-line (NotOver j x) (Accepted U k e) (T, tells, goes) other =
        absurd (goes-or-ends T U j.entries k.entries (length j.entries) x tells goes other.0.tells other.0.complete.quiet)
    one-line (NotOver j x) (BadLine g) (T, tells, goes) other = absurd (bad-or-told g T j.entries other tells)
    one-line (NotOver j x) (BadEntry k n y b) (T, tells, goes) (U, tells', differs) =
        absurd (differs-or-runs U T k.entries j.entries n y b tells' differs tells goes.schedule)
    one-line (NotOver j x) (NotOver k y) (T, tells, goes) (U, tells', goes') =
        let same = same-told bytes T U j.entries k.entries tells tells' in
        let moved : GoesOn U k.entries (length j.entries) x =
        subst (λ t. GoesOn t k.entries (length j.entries) x) same.0 (subst (λ i. GoesOn T i (length j.entries) x) same.1 goes) in
        let parts = one-next U k.entries (length j.entries) (length k.entries) x y moved goes' in
        ap (λ n. going_on_line n x) parts.0 ∙ ap (going_on_line (length k.entries)) parts.1
    one-line (NotOver j x) (BadAudit l e) (T, tells, goes) (U, K, tells', other) =
        absurd (goes-or-ends T U j.entries K (length j.entries) x tells goes tells'.tells tells'.complete.quiet)
    one-line (BadAudit l d) (Accepted U k e) (T, J, tells, differs) other = absurd (audit-or-report T U J k.entries d e l tells differs other.0 other.1)
    one-line (BadAudit l d) (BadLine g) (T, J, tells, differs) other = absurd (bad-or-told g T J other tells.tells)
    one-line (BadAudit l d) (BadEntry k n y b) (T, J, tells, differs) (U, tells', other) =
        absurd (differs-or-runs U T k.entries J n y b tells' other tells.tells tells.complete.schedule)
    one-line (BadAudit l d) (NotOver k y) (T, J, tells, differs) (U, tells', goes) =
        absurd (goes-or-ends U T k.entries J (length k.entries) y tells' goes tells.tells tells.complete.quiet)
    one-line (BadAudit l d) (BadAudit m e) (T, J, tells, differs) (U, K, tells', other) =
        let same : l ≡ m = same_Some l m (sym (one-audit T U J K d e l tells tells' differs) ∙ other) in
        ap (λ n. bad_line (fault_of n (whole_line NotCanonical))) same
