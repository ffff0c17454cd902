-- The lines behind the trace are those of a journal and an audit.
use Rattle.std.proofs.Common.{◌≡◌, ℕ, zero, suc, ◌+◌, ◌≤◌, List, [], ◌∷◌, ◌++◌, length, map, replicate, refl, ap, sym, subst, ◌∙◌, arith, decimal}
use Rattle.std.proofs.Common.{slice_index_or}
use Rattle.std.specs.Prelude.{codes}
use Rattle.std.specs.List.{All}
use Rattle.std.proofs.lemmas.List.{length-map}
use Rattle.sem_key.specs.KeyName.{KeyName}
use Rattle.sem_key.specs.declared.limits.TheConstants.{KERNELS}
use Rattle.sem_msg.specs.declared.entry.Entry.{Entry}
use Rattle.sem_text.specs.Lines.{line}
use Rattle.sem_trace.specs.Declarations.{number_at}
use Rattle.sem_journal.specs.EntryForms.{entry_form}
use Rattle.sem_journal.specs.EntryText.{entry_words}
use Rattle.sem_journal.specs.EntryRanges.{EntryFits}
use Rattle.sem_journal.specs.ReportText.{held_line}
use Rattle.sem_journal.proofs.PrintedPlaces.{value}
use Rattle.sem_report.specs.ReportRanges.{HeldFits}
use Rattle.sem_report.specs.ReportRefusal.{words_in, name_form, count_form, held_form, count_at, audit_forms, forms_behind}
use Rattle.sem_report.proofs.PrintedReport.{audit_whole, behind_whole}
use Rattle.sem_readable.proofs.Entries.{an_entry}
use Rattle.sem_readable.proofs.FineLines.{IsFine, Each, IsLineOf, Many, many, name_line, IsCount, count_words, held_line_of}

-- a number that a line tells
number_there : (name whole : List ℕ) (n : ℕ) → words_in whole ≡ name ∷ decimal n ∷ [] → n ≤ 4294967295 → number_at (words_in whole) 1 ≡ n
number_there name whole n is few = ap (λ (ws : List (List ℕ)). number_at ws 1) is ∙ value n (omega (arith, few))

-- lines of an audit that say how many keys are held
pub record IsAudit (version n : ℕ) (lines : List (List ℕ)) : Type 0 where
  pub made : ℕ
  pub cut : ℕ
  pub announced : ℕ
  pub held : List (KeyName × ℕ)
  pub few_made : made ≤ 4294967295
  pub few_cut : cut ≤ 4294967295
  pub few_held : announced ≤ 4294967295
  pub count : length held ≡ n
  pub counted : count_at lines 3 ≡ announced
  pub keys : All (HeldFits version) held
  pub is : lines ≡ line (codes "audit" ∷ []) ∷ line (codes "made" ∷ decimal made ∷ []) ∷ line (codes "cut" ∷ decimal cut ∷ [])
      ∷ line (codes "held" ∷ decimal announced ∷ []) ∷ (map line (map held_line held) ++ line (codes "end" ∷ []) ∷ [])

-- the last line
end_line : (lines : List (List ℕ)) → Each (name_form (codes "end") ∷ []) lines → lines ≡ line (codes "end" ∷ []) ∷ []
end_line [] each = absurd each
end_line (whole ∷ lines) each = let first = name_line (codes "end") whole each.0 in let none = each.1 in λ i. first i ∷ none i

an_audit : (version n : ℕ) (lines : List (List ℕ)) → Each (audit_forms version n) lines → IsAudit version n lines
an_audit version n [] each = absurd each
an_audit version n (a ∷ []) each = absurd each.1
an_audit version n (a ∷ b ∷ []) each = absurd each.1.1
an_audit version n (a ∷ b ∷ c ∷ []) each = absurd each.1.1.1
an_audit version n (a ∷ b ∷ c ∷ d ∷ lines) each =
    from (count_words (codes "made") (words_in b) each.1.0.fits) (count_words (codes "cut") (words_in c) each.1.1.0.fits)
    (count_words (codes "held") (words_in d) each.1.1.1.0.fits)
    (many held_line (HeldFits version) (held_form version) (held_line_of version) n (name_form (codes "end") ∷ []) lines each.1.1.1.1)
  where
    from : IsCount (codes "made") (words_in b) → IsCount (codes "cut") (words_in c) → IsCount (codes "held") (words_in d) →
        Many held_line (HeldFits version) n (name_form (codes "end") ∷ []) lines → IsAudit version n (a ∷ b ∷ c ∷ d ∷ lines)
    from (made, made_is, few_made) (cut, cut_is, few_cut) (held, held_is, few_held) keys =
        let first : a ≡ line (codes "audit" ∷ []) = name_line (codes "audit") a each.0 in
        let second : b ≡ line (codes "made" ∷ decimal made ∷ []) = each.1.0.printed ∙ ap line made_is in
        let third : c ≡ line (codes "cut" ∷ decimal cut ∷ []) = each.1.1.0.printed ∙ ap line cut_is in
        let fourth : d ≡ line (codes "held" ∷ decimal held ∷ []) = each.1.1.1.0.printed ∙ ap line held_is in
        let last : keys.rest ≡ line (codes "end" ∷ []) ∷ [] = end_line keys.rest keys.behind in
        let rest : lines ≡ map line (map held_line keys.values) ++ line (codes "end" ∷ []) ∷ [] = keys.is
        ∙ ap (λ (ls : List (List ℕ)). map line (map held_line keys.values) ++ ls) last in
        record {
          made = made;
          cut = cut;
          announced = held;
          held = keys.values;
          few_made = few_made;
          few_cut = few_cut;
          few_held = few_held;
          count = keys.count;
          counted = number_there (codes "held") d held held_is few_held;
          keys = keys.fits;
          is = λ i. first i ∷ second i ∷ third i ∷ fourth i ∷ rest i;
        }

-- a line behind those of other values
line_past : {X : Type 0} (f : X → List ℕ) (xs : List X) (more : List (List ℕ)) (i k : ℕ) → i ≡ length xs + k →
    slice_index_or (map f xs ++ more) i [] ≡ slice_index_or more k []
line_past f [] more i k is = let same : i ≡ k = omega arith in rw same refl
line_past f (x ∷ xs) more zero k is = absurd (omega arith)
line_past f (x ∷ xs) more (suc i) k is = line_past f xs more i k (omega arith)

-- what the lines behind the trace tell
pub record IsBehind (version kernels : ℕ) (lines : List (List ℕ)) : Type 0 where
  pub entries : List Entry
  pub made : ℕ
  pub cut : ℕ
  pub held : List (KeyName × ℕ)
  pub fits : All (EntryFits version kernels) entries
  pub few_entries : length entries ≤ 4294967295
  pub few_made : made ≤ 4294967295
  pub few_cut : cut ≤ 4294967295
  pub few_held : length held ≤ 4294967295
  pub keys : All (HeldFits version) held
  pub is : lines ≡ behind_whole entries made cut held

module _ (version kernels : ℕ) (some : 1 ≤ kernels) (few : kernels ≤ KERNELS) where
  entry_line_of : (whole : List ℕ) → IsFine (entry_form version kernels) whole → IsLineOf entry_words (EntryFits version kernels) whole
  entry_line_of whole fine =
      let found = an_entry version kernels some few (words_in whole) fine.fits fine.short in
      (found.value, fine.printed ∙ ap line found.is, found.fits)

  -- the journal of so many entries, and the audit that says how many keys are held
  joined : (whole : List ℕ) (lines : List (List ℕ)) (n m : ℕ) → IsFine (count_form (codes "journal")) whole → count_at (whole ∷ lines) 0 ≡ n →
      count_at (whole ∷ lines) (n + 4) ≡ m → Each (replicate n (entry_form version kernels) ++ audit_forms version m) lines →
      IsBehind version kernels (whole ∷ lines)
  joined whole lines n m fine n_is m_is each =
      let journal = many entry_words (EntryFits version kernels) (entry_form version kernels) entry_line_of n (audit_forms version m) lines each in
      let audit = an_audit version m journal.rest journal.behind in
      let long : length (map entry_words journal.values) ≡ n = length-map journal.values entry_words ∙ journal.count in
      let past : slice_index_or lines (n + 3) [] ≡ slice_index_or journal.rest 3 [] = ap (λ (ls : List (List ℕ)). slice_index_or ls (n + 3) []) journal.is
      ∙ line_past line (map entry_words journal.values) journal.rest (n + 3) 3 (omega (arith, long)) in
      let next : n + 4 ≡ suc (n + 3) = omega arith in
      let at : count_at (whole ∷ lines) (n + 4) ≡ count_at journal.rest 3 = ap (λ (i : ℕ). count_at (whole ∷ lines) i) next
      ∙ ap (λ (l : List ℕ). number_at (words_in l) 1) past in
      let as_many : audit.announced ≡ length audit.held = sym audit.counted ∙ (sym at ∙ (m_is ∙ sym audit.count)) in
      from journal audit as_many (count_words (codes "journal") (words_in whole) fine.fits)
    where
      from : (journal : Many entry_words (EntryFits version kernels) n (audit_forms version m) lines) (audit : IsAudit version m journal.rest) →
          audit.announced ≡ length audit.held → IsCount (codes "journal") (words_in whole) → IsBehind version kernels (whole ∷ lines)
      from journal audit as_many (k, is, few_entries) =
          let same : length journal.values ≡ k = journal.count ∙ (sym n_is ∙ number_there (codes "journal") whole k is few_entries) in
          let first : whole ≡ line (codes "journal" ∷ decimal (length journal.values) ∷ []) = fine.printed
          ∙ (ap line is ∙ ap (λ (i : ℕ). line (codes "journal" ∷ decimal i ∷ [])) (sym same)) in
          let last : journal.rest ≡ audit_whole audit.made audit.cut audit.held = audit.is
          ∙ ap (λ (i : ℕ). line (codes "audit" ∷ []) ∷ line (codes "made" ∷ decimal audit.made ∷ []) ∷ line (codes "cut" ∷ decimal audit.cut ∷ [])
          ∷ line (codes "held" ∷ decimal i ∷ []) ∷ (map line (map held_line audit.held) ++ line (codes "end" ∷ []) ∷ [])) as_many in
          let rest : lines ≡ map line (map entry_words journal.values) ++ audit_whole audit.made audit.cut audit.held = journal.is
          ∙ ap (λ (ls : List (List ℕ)). map line (map entry_words journal.values) ++ ls) last in
          record {
            entries = journal.values;
            made = audit.made;
            cut = audit.cut;
            held = audit.held;
            fits = journal.fits;
            few_entries = subst (λ (i : ℕ). i ≤ 4294967295) (sym same) few_entries;
            few_made = audit.few_made;
            few_cut = audit.few_cut;
            few_held = subst (λ (i : ℕ). i ≤ 4294967295) as_many audit.few_held;
            keys = audit.keys;
            is = λ i. first i ∷ rest i;
          }

  pub journal_and_audit : (lines : List (List ℕ)) → Each (forms_behind version kernels lines) lines → IsBehind version kernels lines
  unfolding forms_behind
  journal_and_audit [] each = absurd each
  journal_and_audit (whole ∷ lines) each = joined whole lines (count_at (whole ∷ lines) 0) (count_at (whole ∷ lines) (count_at (whole ∷ lines) 0 + 4)) each.0
      refl refl each.1
