-- A report, put together from its parts.
use Rattle.std.proofs.Common.{◌≡◌, ℕ, ◌+◌, ◌<◌, ◌≤◌, List, [], ◌∷◌, ◌++◌, length, take, drop, Some, None, refl, ap, sym, ◌∙◌, arith, append_assoc, append-nil}
use Rattle.std.proofs.Common.{decimal, lt-ltb, le-ltb}
use Rattle.std.specs.Prelude.{codes}
use Rattle.std.proofs.lemmas.Grind.{flat_map-append}
use Rattle.sem_key.specs.KeyName.{KeyName}
use Rattle.sem_msg.specs.declared.entry.Entry.{Entry}
use Rattle.sem_msg.specs.Setup.{Setup}
use Rattle.sem_text.specs.Lines.{line, text}
use Rattle.sem_trace.specs.LineErrors.{fault_of}
use Rattle.sem_trace.specs.declared.fault.Cause.TheVariants.{InputTooLong}
use Rattle.sem_trace.specs.declared.fault.TraceError.{TraceError}
use Rattle.sem_trace.specs.declared.fault.TraceError.TheVariants.{Refused as RefusedText, Memory as NoMemory}
use Rattle.sem_trace.specs.SetupOfText.{IsWhy}
use Rattle.sem_trace.specs.TraceText.{canonical, trace_lines}
use Rattle.sem_journal.specs.ReportText.{journal_lines, audit_lines, report_text}
use Rattle.sem_report.specs.WholeLines.{whole_lines}
use Rattle.sem_trace.specs.Forms.{whole_line}
use Rattle.sem_report.specs.ReportRefusal.{Form, report_form, report_version, forms_fault, forms_behind, trace_section, trace_refusal, setup_in}
use Rattle.sem_report.specs.ReportRefusal.{refusal_behind, report_refusal}
use Rattle.sem_report.specs.ReadsReport.{HaveForms, StopsAt, IsRefused}

pub too_long : (bytes : List ℕ) → 134217728 < length bytes → report_refusal bytes ≡ Some (fault_of 0 (whole_line InputTooLong))
unfolding report_refusal
too_long bytes long = rw (lt-ltb _ _ long) refl

-- a text that is not too long, and whose first line is that of a report of that version
pub record IsHeaded (version : ℕ) (bytes : List ℕ) (lines : List (List ℕ)) : Type 0 where
  pub short : length bytes ≤ 134217728
  pub header : forms_fault 1 (report_form ∷ []) (take 1 (whole_lines bytes)) ≡ None
  pub behind : lines ≡ drop 1 (whole_lines bytes)
  pub told : report_version (whole_lines bytes) ≡ version

pub header_refused : (bytes : List ℕ) (e : TraceError) → length bytes ≤ 134217728 → IsWhy (forms_fault 1 (report_form ∷ []) (take 1 (whole_lines bytes))) e →
    IsWhy (report_refusal bytes) e
unfolding report_refusal
header_refused bytes (RefusedText fault) short why = rw (le-ltb _ _ short, why) refl
header_refused bytes NoMemory short why = tt

pub behind_header : (version : ℕ) (bytes : List ℕ) (lines : List (List ℕ)) → IsHeaded version bytes lines → report_refusal bytes ≡ refusal_behind version lines
unfolding report_refusal
behind_header version bytes lines headed = rw (le-ltb _ _ headed.short, headed.header, headed.told, headed.behind) refl

pub trace_refused : (version : ℕ) (bytes : List ℕ) (lines : List (List ℕ)) (e : TraceError) → IsHeaded version bytes lines →
    IsWhy (trace_refusal version (trace_section lines)) e → IsWhy (report_refusal bytes) e
unfolding refusal_behind
trace_refused version bytes lines (RefusedText fault) headed why = behind_header version bytes lines headed ∙ (rw why refl)
trace_refused version bytes lines NoMemory headed why = tt

-- a text whose trace is not refused either
pub record IsTraced (version : ℕ) (lines behind : List (List ℕ)) (T : Setup) (n : ℕ) : Type 0 where
  pub trace : trace_refusal version (trace_section lines) ≡ None
  pub declared : T ≡ setup_in (trace_section lines)
  pub rest : behind ≡ drop (length (trace_section lines)) lines
  pub number : n ≡ 1 + length (trace_section lines)

pub behind_trace : (version : ℕ) (bytes : List ℕ) (lines behind : List (List ℕ)) (T : Setup) (n : ℕ) → IsHeaded version bytes lines →
    IsTraced version lines behind T n → report_refusal bytes ≡ forms_fault (n + 1) (forms_behind version T.kernels behind) behind
unfolding refusal_behind
behind_trace version bytes lines behind T n headed traced =
    let next : 2 + length (trace_section lines) ≡ n + 1 = omega (arith, traced.number) in
    behind_header version bytes lines headed ∙ (rw (traced.trace, ← traced.declared, ← traced.rest, next) refl)

pub behind_refused : (version : ℕ) (bytes : List ℕ) (lines behind : List (List ℕ)) (T : Setup) (n : ℕ) (e : TraceError) → IsHeaded version bytes lines →
    IsTraced version lines behind T n → StopsAt (forms_behind version T.kernels behind) (n + 1) behind e → IsWhy (report_refusal bytes) e
behind_refused version bytes lines behind T n (RefusedText fault) headed traced stops = behind_trace version bytes lines behind T n headed traced
    ∙ (ap (λ (fs : List Form). forms_fault (n + 1) fs behind) (sym (append-nil (forms_behind version T.kernels behind))) ∙ stops [])
behind_refused version bytes lines behind T n NoMemory headed traced stops = tt

pub behind_last : (version : ℕ) (bytes : List ℕ) (lines behind last : List (List ℕ)) (T : Setup) (n m : ℕ) → IsHeaded version bytes lines →
    IsTraced version lines behind T n → HaveForms (forms_behind version T.kernels behind) (n + 1) behind (m + 1) last →
    report_refusal bytes ≡ forms_fault (m + 1) [] last
behind_last version bytes lines behind last T n m headed traced follows = behind_trace version bytes lines behind T n headed traced
    ∙ (ap (λ (fs : List Form). forms_fault (n + 1) fs behind) (sym (append-nil (forms_behind version T.kernels behind))) ∙ follows [])

pub last_refused : (version : ℕ) (bytes : List ℕ) (lines behind last : List (List ℕ)) (T : Setup) (n m : ℕ) (e : TraceError) → IsHeaded version bytes lines →
    IsTraced version lines behind T n → HaveForms (forms_behind version T.kernels behind) (n + 1) behind (m + 1) last →
    IsRefused (forms_fault (m + 1) [] last) e → IsWhy (report_refusal bytes) e
last_refused version bytes lines behind last T n m (RefusedText fault) headed traced follows refused =
    behind_last version bytes lines behind last T n m headed traced follows ∙ refused
last_refused version bytes lines behind last T n m NoMemory headed traced follows refused = tt

-- the text of a report, put together
parts : (a b c d all rest behind last : List ℕ) → all ≡ a ++ rest → rest ≡ b ++ behind → behind ≡ c ++ d ++ last → last ≡ [] → all ≡ a ++ (b ++ c ++ d)
parts a b c d all rest behind last first second third nothing = rw (first, second, third, nothing, append-nil) (simp append_assoc)

three_texts : (xs ys zs : List (List (List ℕ))) → text (xs ++ ys ++ zs) ≡ text xs ++ text ys ++ text zs
three_texts xs ys zs = rw (flat_map-append line (xs ++ ys) zs, flat_map-append line xs ys) refl

pub report_is : (T : Setup) (entries : List Entry) (made cut : ℕ) (held : List (KeyName × ℕ)) (all rest behind last : List ℕ) →
    all ≡ line (codes "semper" ∷ codes "report" ∷ decimal T.version ∷ []) ++ rest → rest ≡ canonical T ++ behind →
    behind ≡ text (journal_lines entries) ++ text (audit_lines made cut held) ++ last → last ≡ [] → all ≡ report_text T entries made cut held
report_is T entries made cut held all rest behind last first second third nothing =
    let lines : text (trace_lines T ++ journal_lines entries ++ audit_lines made cut held) ≡ canonical T ++ text (journal_lines entries)
    ++ text (audit_lines made cut held) = three_texts (trace_lines T) (journal_lines entries) (audit_lines made cut held) in
    parts (line (codes "semper" ∷ codes "report" ∷ decimal T.version ∷ [])) (canonical T) (text (journal_lines entries)) (text (audit_lines made cut held)) all
    rest behind last first second third nothing
    ∙ ap (λ (t : List ℕ). line (codes "semper" ∷ codes "report" ∷ decimal T.version ∷ []) ++ t) (sym lines)
