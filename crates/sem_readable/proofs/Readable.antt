-- A text without a refusal is the text of a report.
use Rattle.std.proofs.Common.{◌≡◌, ℕ, ◌+◌, ◌<◌, ◌^◌, Bool, true, false, ◌⊎◌, inl, inr, List, [], ◌∷◌, ◌++◌, length, take, drop, map, nat_lt, Some, None, refl}
use Rattle.std.proofs.Common.{ap, sym, subst, ◌∙◌, arith, decimal, append-nil}
use Rattle.std.specs.Prelude.{codes, if◌then◌else◌}
use Rattle.std.specs.Option.{option_or}
use Rattle.std.proofs.lemmas.Grind.{flat_map-append}
use Rattle.std.proofs.lemmas.List.{map-append}
use Rattle.std.proofs.lemmas.Option.{none-some}
use Rattle.sem_key.specs.KeyName.{KeyName}
use Rattle.sem_msg.specs.declared.entry.Entry.{Entry}
use Rattle.sem_msg.specs.Setup.{Setup}
use Rattle.sem_text.specs.Lines.{line, text}
use Rattle.sem_trace.specs.declared.fault.Cause.TheVariants.{InputTooLong}
use Rattle.sem_trace.specs.Forms.{form_fault, whole_line}
use Rattle.sem_trace.specs.Forms.Place.{Word}
use Rattle.sem_trace.specs.Refusal.{version_in}
use Rattle.sem_trace.specs.TraceText.{canonical}
use Rattle.sem_trace.proofs.PrintedNumbers.{printed_value}
use Rattle.sem_journal.specs.ReportText.{held_line, journal_lines, audit_lines, report_text}
use Rattle.sem_journal.proofs.EntryParts.{nothing_more}
use Rattle.sem_journal.proofs.PrintedPlaces.{value}
use Rattle.sem_report.specs.WholeLines.{whole_lines}
use Rattle.sem_trace.specs.LineErrors.{fault_of}
use Rattle.sem_report.specs.ReportRefusal.{words_in, report_form, report_version, forms_fault, forms_behind, trace_section, trace_refusal, setup_in}
use Rattle.sem_report.specs.ReportRefusal.{refusal_behind, report_refusal}
use Rattle.sem_report.proofs.PrintedReport.{few_kernels, audit_whole, behind_whole}
use Rattle.sem_report.proofs.TraceInReport.{whole-parts}
use Rattle.sem_report.proofs.WholeReport.{report_is}
use Rattle.sem_readable.specs.ReportOf.{IsReportText}
use Rattle.sem_readable.proofs.Values.{none_of}
use Rattle.sem_readable.proofs.Rows.{one_word}
use Rattle.sem_readable.proofs.FineLines.{Each, each_fine}
use Rattle.sem_readable.proofs.Behind.{IsBehind, journal_and_audit}
use Rattle.sem_readable.proofs.Section.{joined, section_first, IsTrace, a_trace}

-- the words of the first line, which tell a version
abbrev header : ℕ → List (List ℕ)
header version = codes "semper" ∷ codes "report" ∷ decimal version ∷ []

abbrev IsHeader : List (List ℕ) → Type 0
IsHeader words = (version : ℕ) × (words ≡ header version) × ((version ≡ 1) ⊎ (version ≡ 2))

header_words : (words : List (List ℕ)) → form_fault (report_form words) words ≡ None → IsHeader words
header_words words none =
    let one : codes "1" ≡ decimal 1 = printed_value (codes "1") refl (omega arith) in
    let two : codes "2" ≡ decimal 2 = printed_value (codes "2") refl (omega arith) in
    one_word (codes "semper" ∷ []) (Word (codes "report" ∷ []) ∷ Word (codes "1" ∷ codes "2" ∷ []) ∷ []) IsHeader words none (λ ws none. (
      one_word (codes "report" ∷ []) (Word (codes "1" ∷ codes "2" ∷ []) ∷ []) (λ ws. IsHeader (codes "semper" ∷ ws)) ws none (λ ws none. (
        one_word (codes "1" ∷ codes "2" ∷ []) [] (λ ws. IsHeader (codes "semper" ∷ codes "report" ∷ ws)) ws none (λ rest none. (
          (1, (λ i. codes "semper" ∷ codes "report" ∷ one i ∷ nothing_more rest none i), inl refl),
          ((2, (λ i. codes "semper" ∷ codes "report" ∷ two i ∷ nothing_more rest none i), inr refl), tt),
        )),
        tt,
      )),
      tt,
    ))

-- the first line is that of a report of that version
record IsHeaded (lines : List (List ℕ)) : Type 0 where
  pub version : ℕ
  pub versions : (version ≡ 1) ⊎ (version ≡ 2)
  pub reads : report_version lines ≡ version
  pub is : lines ≡ line (header version) ∷ drop 1 lines

headed : (lines : List (List ℕ)) → Each (report_form ∷ []) (take 1 lines) → IsHeaded lines
headed [] each = absurd each
headed (whole ∷ lines) each = from (header_words (words_in whole) each.0.fits)
  where
    small : (version : ℕ) → (version ≡ 1) ⊎ (version ≡ 2) → version < 2 ^ 64
    small version (inl one) = omega (arith, one)
    small version (inr two) = omega (arith, two)

    from : IsHeader (words_in whole) → IsHeaded (whole ∷ lines)
    from (version, is, versions) =
        let first : whole ≡ line (header version) = each.0.printed ∙ ap line is in
        record {
          version = version;
          versions = versions;
          reads = ap version_in is ∙ value version (small version versions);
          is = ap (λ (l : List ℕ). l ∷ lines) first;
        }

-- the text of lines
lines_text : (ls : List (List (List ℕ))) → joined (map line ls) ≡ text ls
lines_text [] = refl
lines_text (l ∷ ls) = ap (λ (bytes : List ℕ). line l ++ bytes) (lines_text ls)

behind_text : (J : List Entry) (made cut : ℕ) (held : List (KeyName × ℕ)) →
    joined (behind_whole J made cut held) ≡ text (journal_lines J) ++ text (audit_lines made cut held)
behind_text J made cut held =
    let audit : audit_whole made cut held ≡ map line (audit_lines made cut held) =
    ap (λ (ls : List (List ℕ)). line (codes "audit" ∷ []) ∷ line (codes "made" ∷ decimal made ∷ []) ∷ line (codes "cut" ∷ decimal cut ∷ [])
    ∷ line (codes "held" ∷ decimal (length held) ∷ []) ∷ ls) (sym (map-append line (map held_line held) ((codes "end" ∷ []) ∷ []))) in
    let whole : behind_whole J made cut held ≡ map line (journal_lines J) ++ map line (audit_lines made cut held) =
    ap (λ (ls : List (List ℕ)). map line (journal_lines J) ++ ls) audit in
    ap joined whole
    ∙ (flat_map-append (λ (l : List ℕ). l) (map line (journal_lines J)) (map line (audit_lines made cut held))
    ∙ (λ i. lines_text (journal_lines J) i ++ lines_text (audit_lines made cut held) i))

-- the whole text, put together from its first line, its trace and what stands behind it
whole_text : (T : Setup) (J : List Entry) (made cut : ℕ) (held : List (KeyName × ℕ)) (bytes : List ℕ) (lines section behind : List (List ℕ)) →
    whole_lines bytes ≡ line (header T.version) ∷ lines → section ++ behind ≡ lines → joined section ≡ canonical T → behind ≡ behind_whole J made cut held →
    bytes ≡ report_text T J made cut held
whole_text T J made cut held bytes lines section behind first parts trace rest =
    let all : bytes ≡ line (header T.version) ++ joined lines = sym (whole-parts bytes) ∙ ap joined first in
    let second : joined lines ≡ canonical T ++ joined behind = ap joined (sym parts)
    ∙ (flat_map-append (λ (l : List ℕ). l) section behind ∙ ap (λ (t : List ℕ). t ++ joined behind) trace) in
    let third : joined behind ≡ text (journal_lines J) ++ text (audit_lines made cut held) ++ [] = (ap joined rest ∙ behind_text J made cut held)
    ∙ sym (append-nil _) in
    report_is T J made cut held bytes (joined lines) (joined behind) [] all second third refl

-- a report whose first line tells that version
with_version : (version : ℕ) (bytes : List ℕ) (lines : List (List ℕ)) → (version ≡ 1) ⊎ (version ≡ 2) → whole_lines bytes ≡ line (header version) ∷ lines →
    refusal_behind version lines ≡ None → IsReportText bytes
unfolding refusal_behind
with_version version bytes lines versions first none =
    let section : List (List ℕ) = trace_section lines in
    let behind : List (List ℕ) = drop (length section) lines in
    let both = none_of (trace_refusal version section) (forms_fault (2 + length section) (forms_behind version (setup_in section).kernels behind) behind) none
    in
    let trace = a_trace version section versions both.0 in
    from section behind trace (section_first lines) (each_fine _ _ behind both.1)
  where
    from : (section behind : List (List ℕ)) → IsTrace version section (setup_in section) → section ++ behind ≡ lines →
        Each (forms_behind version (setup_in section).kernels behind) behind → IsReportText bytes
    from section behind trace parts each =
        let T : Setup = setup_in section in
        let same : version ≡ T.version = sym trace.tells in
        let more : IsBehind version T.kernels behind = journal_and_audit version T.kernels trace.setup.some_kernel (few_kernels T trace.setup) behind each in
        let rest : IsBehind T.version T.kernels behind = subst (λ (v : ℕ). IsBehind v T.kernels behind) same more in
        let header_is : whole_lines bytes ≡ line (header T.version) ∷ lines = first ∙ ap (λ (v : ℕ). line (header v) ∷ lines) same in
        record {
          setup = T;
          entries = rest.entries;
          made = rest.made;
          cut = rest.cut;
          held = rest.held;
          fits = record {
            trace = trace.setup;
            entries = rest.fits;
            few_entries = rest.few_entries;
            few_made = rest.few_made;
            few_cut = rest.few_cut;
            few_held = rest.few_held;
            keys = rest.keys;
          };
          spelled = whole_text T rest.entries rest.made rest.cut rest.held bytes lines section behind header_is parts trace.text rest.is;
        }

pub report_of : (bytes : List ℕ) → report_refusal bytes ≡ None → IsReportText bytes
unfolding report_refusal
report_of bytes none = short (nat_lt 134217728 (length bytes)) none
  where
    from : IsHeaded (whole_lines bytes) → refusal_behind (report_version (whole_lines bytes)) (drop 1 (whole_lines bytes)) ≡ None → IsReportText bytes
    from headed none = with_version headed.version bytes (drop 1 (whole_lines bytes)) headed.versions headed.is
        (subst (λ (v : ℕ). refusal_behind v (drop 1 (whole_lines bytes)) ≡ None) headed.reads none)

    short : (b : Bool) →
        (if b then Some (fault_of 0 (whole_line InputTooLong))
        else option_or (forms_fault 1 (report_form ∷ []) (take 1 (whole_lines bytes)))
        (refusal_behind (report_version (whole_lines bytes)) (drop 1 (whole_lines bytes)))) ≡ None → IsReportText bytes
    short true none = absurd (none-some (fault_of 0 (whole_line InputTooLong)) (sym none))
    short false none =
        let both = none_of (forms_fault 1 (report_form ∷ []) (take 1 (whole_lines bytes))) _ none in
        from (headed (whole_lines bytes) (each_fine 1 (report_form ∷ []) (take 1 (whole_lines bytes)) both.0)) both.1
