-- What is printed of a report is not refused.
use Rattle.std.proofs.Common.{◌≡◌, ℕ, zero, suc, ◌+◌, ◌≤◌, true, List, [], ◌∷◌, ◌++◌, length, map, replicate, None, refl, ap, sym, ◌∙◌, arith, decimal}
use Rattle.std.proofs.Common.{append_assoc, inl, inr, nat_lt, slice_index_or}
use Rattle.std.specs.Prelude.{codes}
use Rattle.std.specs.List.{All, list_all}
use Rattle.std.proofs.Math.Seq.{drop-append_seam}
use Rattle.std.proofs.lemmas.Bool.{cases_Bool}
use Rattle.std.proofs.lemmas.Option.{none-some}
use Rattle.std.proofs.lemmas.List.{map-append, length-map}
use Rattle.std.proofs.lemmas.List.Folds.{list_all-append}
use Rattle.std.proofs.lemmas.Slice.Eq.{bytes_eq-Decides}
use Rattle.sem_key.specs.KeyName.{KeyName}
use Rattle.sem_msg.specs.declared.entry.Entry.{Entry}
use Rattle.sem_msg.specs.Setup.{Setup, IsSetup}
use Rattle.sem_text.specs.Lines.{line, text}
use Rattle.sem_key.specs.declared.limits.TheConstants.{KERNELS}
use Rattle.sem_trace.specs.TextLines.{lines_of}
use Rattle.sem_trace.specs.Refusal.{version_in, lines_refusal, refusal}
use Rattle.sem_trace.specs.SetupOfText.{Stands, Declare}
use Rattle.sem_trace.specs.TraceText.{canonical, trace_lines}
use Rattle.sem_journal.specs.EntryForms.{entry_form}
use Rattle.sem_journal.specs.EntryText.{entry_words}
use Rattle.sem_journal.specs.EntryRanges.{EntryFits}
use Rattle.sem_journal.specs.ReportText.{held_line, audit_lines, journal_lines, report_lines, report_text}
use Rattle.sem_report.specs.ReportRanges.{ReportFits}
use Rattle.sem_report.specs.WholeLines.{whole_lines}
use Rattle.sem_report.specs.ReportRefusal.{words_in, count_at, report_form, name_form, count_form, held_form, audit_forms, forms_behind, trace_section}
use Rattle.sem_report.specs.ReportRefusal.{trace_refusal, setup_in, first_difference, report_refusal}
use Rattle.sem_reader.proofs.PlainText.{are_plain}
use Rattle.sem_journal.proofs.PrintedPlaces.{value}
use Rattle.sem_journal.proofs.PlainEntries.{printed_words}
use Rattle.sem_trace.proofs.Nodes.{few_kernels as few_for}
use Rattle.sem_report.proofs.TraceHead.{small_version, head_printed}
use Rattle.sem_report.proofs.TraceInReport.{section_spelled, section_declares}
use Rattle.sem_report.proofs.WholeReport.{IsHeaded, IsTraced, behind_trace}
use Rattle.sem_report.proofs.WholeText.{both, decimal_plain, words_line, whole_text}
use Rattle.sem_report.proofs.PlainTrace.{key_plain, trace_plain, section_printed}
use Rattle.sem_report.proofs.PrintedLines.{AreFine, fine_none, fine_more, fine_each, first_fine, name_fine, count_fine, held_fine, entry_fine}

-- the whole lines of the audit, and of the journal and the audit
abbrev pub audit_whole : ℕ → ℕ → List (KeyName × ℕ) → List (List ℕ)
audit_whole made cut held =
    line (codes "audit" ∷ [])
    ∷ line (codes "made" ∷ decimal made ∷ [])
    ∷ line (codes "cut" ∷ decimal cut ∷ [])
    ∷ line (codes "held" ∷ decimal (length held) ∷ [])
    ∷ (map line (map held_line held) ++ line (codes "end" ∷ []) ∷ [])

abbrev pub behind_whole : List Entry → ℕ → ℕ → List (KeyName × ℕ) → List (List ℕ)
behind_whole J made cut held = line (codes "journal" ∷ decimal (length J) ∷ []) ∷ (map line (map entry_words J) ++ audit_whole made cut held)

behind_is : (J : List Entry) (made cut : ℕ) (held : List (KeyName × ℕ)) → map line (journal_lines J ++ audit_lines made cut held) ≡ behind_whole J made cut held
behind_is J made cut held =
    let audit : map line (audit_lines made cut held) ≡ audit_whole made cut held =
    ap (λ (ls : List (List ℕ)). line (codes "audit" ∷ []) ∷ line (codes "made" ∷ decimal made ∷ []) ∷ line (codes "cut" ∷ decimal cut ∷ [])
    ∷ line (codes "held" ∷ decimal (length held) ∷ []) ∷ ls) (map-append line (map held_line held) ((codes "end" ∷ []) ∷ [])) in
    map-append line (journal_lines J) (audit_lines made cut held) ∙ ap (λ (ls : List (List ℕ)). map line (journal_lines J) ++ ls) audit

-- all lines are plain
plain_map : {X : Type 0} (f : X → List (List ℕ)) (xs : List X) → All (λ x. are_plain (f x) ≡ true) xs → list_all are_plain (map f xs) ≡ true
plain_map f [] each = refl
plain_map f (x ∷ xs) each = both (are_plain (f x)) _ (each zero x (omega arith)) (plain_map f xs (λ k d within. each (suc k) d (omega arith)))

plain_append : (a b : List (List (List ℕ))) → list_all are_plain a ≡ true → list_all are_plain b ≡ true → list_all are_plain (a ++ b) ≡ true
plain_append a b first second = list_all-append are_plain a b ∙ both (list_all are_plain a) (list_all are_plain b) first second

pub held_plain : (h : KeyName × ℕ) → are_plain (held_line h) ≡ true
held_plain h = rw (key_plain h.0, decimal_plain h.1) refl

audit_plain : (made cut : ℕ) (held : List (KeyName × ℕ)) → list_all are_plain (audit_lines made cut held) ≡ true
audit_plain made cut held =
    let keys : list_all are_plain (map held_line held) ≡ true = plain_map held_line held (λ k h within. held_plain (slice_index_or held k h)) in
    rw (decimal_plain made, decimal_plain cut, decimal_plain (length held)) (plain_append (map held_line held) ((codes "end" ∷ []) ∷ []) keys refl)

-- a trace tells few kernels
pub few_kernels : (T : Setup) → IsSetup T → T.kernels ≤ KERNELS
few_kernels T setup = omega (arith, setup.few_kernels, few_for T.version)

journal_plain : (version kernels : ℕ) (J : List Entry) → kernels ≤ KERNELS → All (EntryFits version kernels) J → list_all are_plain (journal_lines J) ≡ true
journal_plain version kernels J few fits =
    rw (decimal_plain (length J)) (plain_map entry_words J (λ k e within. printed_words version kernels (slice_index_or J k e) few (fits k e within)))

pub report_whole : (T : Setup) (J : List Entry) (made cut : ℕ) (held : List (KeyName × ℕ)) → T.kernels ≤ KERNELS → All (EntryFits T.version T.kernels) J →
    whole_lines (report_text T J made cut held) ≡ line (codes "semper" ∷ codes "report" ∷ decimal T.version ∷ [])
    ∷ (map line (trace_lines T) ++ behind_whole J made cut held)
report_whole T J made cut held few fits =
    let first : List (List ℕ) = codes "semper" ∷ codes "report" ∷ decimal T.version ∷ [] in
    let grouped : report_lines T J made cut held ≡ first ∷ (trace_lines T ++ (journal_lines J ++ audit_lines made cut held)) =
    ap (λ (ls : List (List (List ℕ))). first ∷ ls) (append_assoc (trace_lines T) (journal_lines J) (audit_lines made cut held)) in
    let plain : list_all are_plain (first ∷ (trace_lines T ++ (journal_lines J ++ audit_lines made cut held))) ≡ true =
    both (are_plain first) _ (rw (decimal_plain T.version) refl)
    (plain_append (trace_lines T) _ (trace_plain T)
    (plain_append (journal_lines J) (audit_lines made cut held) (journal_plain T.version T.kernels J few fits) (audit_plain made cut held))) in
    ap (λ (ls : List (List (List ℕ))). whole_lines (text ls)) grouped
    ∙ (whole_text (first ∷ (trace_lines T ++ (journal_lines J ++ audit_lines made cut held))) plain
    ∙ ap (λ (ls : List (List ℕ)). line first ∷ ls) (map-append line (trace_lines T) (journal_lines J ++ audit_lines made cut held)
    ∙ ap (λ (ls : List (List ℕ)). map line (trace_lines T) ++ ls) (behind_is J made cut held)))

-- what the lines tell of how many others there are
line_past : {X : Type 0} (f : X → List ℕ) (xs : List X) (more : List (List ℕ)) (i k : ℕ) → i ≡ length xs + k →
    slice_index_or (map f xs ++ more) i [] ≡ slice_index_or more k []
line_past f [] more i k is = let same : i ≡ k = omega arith in rw same refl
line_past f (x ∷ xs) more zero k is = absurd (omega arith)
line_past f (x ∷ xs) more (suc i) k is = line_past f xs more i k (omega arith)

pub journal_count : (J : List Entry) (made cut : ℕ) (held : List (KeyName × ℕ)) → length J ≤ 4294967295 → count_at (behind_whole J made cut held) 0 ≡ length J
journal_count J made cut held few = rw (words_line (codes "journal" ∷ decimal (length J) ∷ []) (rw (decimal_plain (length J)) refl))
    (value (length J) (omega arith))

pub held_count : (J : List Entry) (made cut : ℕ) (held : List (KeyName × ℕ)) → length held ≤ 4294967295 →
    count_at (behind_whole J made cut held) (length J + 4) ≡ length held
held_count J made cut held few =
    let next : length J + 4 ≡ suc (length J + 3) = omega arith in
    let many : length (map entry_words J) ≡ length J = length-map J entry_words in
    let past : slice_index_or (map line (map entry_words J) ++ audit_whole made cut held) (length J + 3) [] ≡ slice_index_or (audit_whole made cut held) 3 [] =
    line_past line (map entry_words J) (audit_whole made cut held) (length J + 3) 3 (omega arith) in
    let at : slice_index_or (behind_whole J made cut held) (length J + 4) [] ≡ line (codes "held" ∷ decimal (length held) ∷ []) =
    ap (λ (i : ℕ). slice_index_or (behind_whole J made cut held) i []) next ∙ past in
    rw (at, words_line (codes "held" ∷ decimal (length held) ∷ []) (rw (decimal_plain (length held)) refl)) (value (length held) (omega arith))

pub forms_printed : (version kernels : ℕ) (J : List Entry) (made cut : ℕ) (held : List (KeyName × ℕ)) → length J ≤ 4294967295 → length held ≤ 4294967295 →
    forms_behind version kernels (behind_whole J made cut held) ≡ count_form (codes "journal") ∷ (replicate (length J) (entry_form version kernels)
    ++ audit_forms version (length held))
unfolding forms_behind
forms_printed version kernels J made cut held few few_held = rw (journal_count J made cut held few, held_count J made cut held few_held) refl

behind_fine : (T : Setup) (J : List Entry) (made cut : ℕ) (held : List (KeyName × ℕ)) → ReportFits T J made cut held →
    AreFine (forms_behind T.version T.kernels (behind_whole J made cut held)) (behind_whole J made cut held)
behind_fine T J made cut held fits =
    let last : AreFine (name_form (codes "end") ∷ []) (line (codes "end" ∷ []) ∷ []) =
    fine_more _ [] _ [] (name_fine (codes "end") refl (omega arith)) fine_none in
    let keys : AreFine (replicate (length held) (held_form T.version) ++ name_form (codes "end") ∷ []) (map line (map held_line held)
    ++ line (codes "end" ∷ []) ∷ []) =
    fine_each held_line (held_form T.version) held _ _ (λ k h within. held_fine T.version (slice_index_or held k h) (fits.keys k h within)) last in
    let audit : AreFine (audit_forms T.version (length held)) (audit_whole made cut held) =
    fine_more _ _ _ _ (name_fine (codes "audit") refl (omega arith))
    (fine_more _ _ _ _ (count_fine (codes "made") made refl (omega arith) fits.few_made)
    (fine_more _ _ _ _ (count_fine (codes "cut") cut refl (omega arith) fits.few_cut)
    (fine_more _ _ _ _ (count_fine (codes "held") (length held) refl (omega arith) fits.few_held) keys))) in
    let entries = fine_each entry_words (entry_form T.version T.kernels) J _ _
    (λ k e within. entry_fine T.version T.kernels (slice_index_or J k e) fits.trace.some_kernel (few_kernels T fits.trace) (fits.entries k e within)) audit
    in
    let all : AreFine (count_form (codes "journal") ∷ (replicate (length J) (entry_form T.version T.kernels) ++ audit_forms T.version (length held)))
    (behind_whole J made cut held) = fine_more _ _ _ _ (count_fine (codes "journal") (length J) refl (omega arith) fits.few_entries) entries in
    λ n. rw (forms_printed T.version T.kernels J made cut held fits.few_entries fits.few_held) (all n)

-- the trace
pub same_lines : (n : ℕ) (ls : List (List ℕ)) → first_difference n ls ls ≡ None
unfolding first_difference
same_lines n [] = refl
same_lines n (l ∷ ls) = rw ((bytes_eq-Decides l l).1 refl) (same_lines (n + 1) ls)

lines_accepted : (bytes : List ℕ) → refusal bytes ≡ None → lines_refusal (lines_of bytes) ≡ None
unfolding refusal
lines_accepted bytes none =
    elim (cases_Bool (nat_lt 8388608 (length bytes))) [
      | inl long ↦ absurd (none-some _ (sym (rw long at none)))
      | inr short ↦ rw short at none
    ]

declares : (T : Setup) → Stands (canonical T) T → Declare (lines_of (canonical T)) T
declares T stands = record { accepted = lines_accepted (canonical T) stands.accepted; declared = stands.declared }

pub trace_whole : (T : Setup) → whole_lines (canonical T) ≡ map line (trace_lines T)
trace_whole T = whole_text (trace_lines T) (trace_plain T)

pub trace_read : (T : Setup) → Stands (canonical T) T → T ≡ setup_in (map line (trace_lines T))
trace_read T stands = section_declares (canonical T) (map line (trace_lines T)) T (trace_whole T) (declares T stands)

trace_fine : (T : Setup) → IsSetup T → Stands (canonical T) T → trace_refusal T.version (map line (trace_lines T)) ≡ None
trace_fine T setup stands = section_spelled T.version (canonical T) (canonical T) (map line (trace_lines T)) T None (trace_whole T) (declares T stands)
    (head_printed T setup.versioned) refl (sym (same_lines 2 (whole_lines (canonical T))))

-- the version that the first line tells
first_told : (T : Setup) → IsSetup T → version_in (words_in (line (codes "semper" ∷ codes "report" ∷ decimal T.version ∷ []))) ≡ T.version
first_told T setup = ap version_in (words_line (codes "semper" ∷ codes "report" ∷ decimal T.version ∷ []) (rw (decimal_plain T.version) refl))
    ∙ value T.version (small_version T.version setup.versioned)

pub report_read : ((T : Setup) → IsSetup T → Stands (canonical T) T) → (T : Setup) (J : List Entry) (made cut : ℕ) (held : List (KeyName × ℕ)) →
    ReportFits T J made cut held → length (report_text T J made cut held) ≤ 134217728 → report_refusal (report_text T J made cut held) ≡ None
report_read stands T J made cut held fits short =
    let behind : List (List ℕ) = behind_whole J made cut held in
    let section : List (List ℕ) = map line (trace_lines T) in
    let whole = report_whole T J made cut held (few_kernels T fits.trace) fits.entries in
    let standing : Stands (canonical T) T = stands T fits.trace in
    let is : trace_section (section ++ behind) ≡ section = section_printed T behind in
    let headed : IsHeaded T.version (report_text T J made cut held) (section ++ behind) = record {
      short = short;
      header = rw whole (fine_more report_form [] _ [] (first_fine T.version fits.trace.versioned) fine_none 1);
      told = rw whole (first_told T fits.trace);
      behind = rw whole refl;
    } in
    let traced : IsTraced T.version (section ++ behind) behind T (1 + length section) = record {
      trace = rw is (trace_fine T fits.trace standing);
      declared = rw is (trace_read T standing);
      rest = rw is (sym (drop-append_seam section behind));
      number = rw is refl;
    } in
    behind_trace T.version (report_text T J made cut held) (section ++ behind) behind T (1 + length section) headed traced
    ∙ behind_fine T J made cut held fits (1 + length section + 1)
