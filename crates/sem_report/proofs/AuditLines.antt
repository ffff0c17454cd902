-- The first line in which two reports of one setup and journal differ, whose audits are compared.
use Rattle.std.proofs.Common.{◌≡◌, ◌≢◌, ℕ, zero, suc, ◌+◌, ◌-◌, List, [], ◌∷◌, ◌++◌, length, drop, map, Some, None, refl}
use Rattle.std.proofs.Common.{ap, sym, ◌∙◌, arith, decimal, append_assoc, inl, inr, slice_index_or}
use Rattle.std.specs.Prelude.{codes}
use Rattle.std.specs.List.{All}
use Rattle.std.specs.Str.{bytes_eq}
use Rattle.std.proofs.lemmas.Bool.{cases_Bool}
use Rattle.std.proofs.lemmas.List.{length-map, length-append}
use Rattle.std.proofs.lemmas.Slice.Eq.{bytes_eq-Decides}
use Rattle.sem_key.specs.KeyName.{KeyName}
use Rattle.sem_msg.specs.declared.audit.Audit.{Audit}
use Rattle.sem_msg.specs.declared.audit.Held.{Held}
use Rattle.sem_msg.specs.declared.entry.Entry.{Entry}
use Rattle.sem_msg.specs.Audits.{held_pairs}
use Rattle.sem_msg.specs.Setup.{Setup}
use Rattle.sem_text.specs.Lines.{line}
use Rattle.sem_trace.specs.TraceText.{trace_lines}
use Rattle.sem_journal.specs.EntryText.{entry_words}
use Rattle.sem_journal.specs.ReportText.{held_line}
use Rattle.sem_report.specs.ReportRanges.{HeldFits}
use Rattle.sem_report.specs.WholeLines.{whole_lines}
use Rattle.sem_report.specs.ReportRefusal.{first_difference}
use Rattle.sem_report.specs.Audited.{audited, AuditFits, first_wrong_line, DifferFirst}
use Rattle.sem_report.proofs.OneReport.{same_count, same_held}
use Rattle.sem_report.proofs.PrintedReport.{few_kernels, report_whole, same_lines}

-- lines that are the same
past_same : (n : ℕ) (l : List ℕ) (a b : List (List ℕ)) → first_difference n (l ∷ a) (l ∷ b) ≡ first_difference (n + 1) a b
unfolding first_difference
past_same n l a b = rw ((bytes_eq-Decides l l).1 refl) refl

past_front : (n : ℕ) (front a b : List (List ℕ)) → first_difference n (front ++ a) (front ++ b) ≡ first_difference (n + length front) a b
past_front n [] a b = let sum : n ≡ n + 0 = omega arith in ap (λ i. first_difference i a b) sum
past_front n (l ∷ front) a b =
    let sum : n + 1 + length front ≡ n + suc (length front) = omega arith in
    past_same n l (front ++ a) (front ++ b) ∙ (past_front (n + 1) front a b ∙ ap (λ i. first_difference i a b) sum)

-- a line that is another
at_other : (n : ℕ) (l m : List ℕ) (a b : List (List ℕ)) → l ≢ m → first_difference n (l ∷ a) (m ∷ b) ≡ Some n
unfolding first_difference
at_other n l m a b other = elim (cases_Bool (bytes_eq l m)) [
  | inl same ↦ absurd (other ((bytes_eq-Decides l m).0 same))
  | inr differ ↦ rw differ refl
]

-- lines of keys, the first of which to differ is at that place
abbrev keys : List (KeyName × ℕ) → List (List ℕ)
keys ks = map line (map held_line ks) ++ line (codes "end" ∷ []) ∷ []

same-line : (version : ℕ) (x y : Held) → HeldFits version (x.key, x.sel) → HeldFits version (y.key, y.sel) →
    line (held_line (x.key, x.sel)) ≡ line (held_line (y.key, y.sel)) → x ≡ y
same-line version x y fits fits' same =
    let pair : (x.key, x.sel) ≡ (y.key, y.sel) = same_held version (x.key, x.sel) (y.key, y.sel) fits fits' same in
    λ i. record { key = (pair i).0; sel = (pair i).1 }

first-key : (version n : ℕ) (xs ys : List Held) (at : ℕ) → DifferFirst xs ys at → All (HeldFits version) (held_pairs xs) →
    All (HeldFits version) (held_pairs ys) → first_difference n (keys (held_pairs xs)) (keys (held_pairs ys)) ≡ Some (n + at)
first-key version n [] ys at differ all all' = let within = differ.there in absurd (omega (arith, within))
first-key version n (x ∷ xs) [] at differ all all' = let within = differ.there_too in absurd (omega (arith, within))
first-key version n (x ∷ xs) (y ∷ ys) zero differ all all' =
    let fits : HeldFits version (x.key, x.sel) = all zero (x.key, x.sel) (omega arith) in
    let fits' : HeldFits version (y.key, y.sel) = all' zero (y.key, y.sel) (omega arith) in
    let sum : n ≡ n + zero = omega arith in
    at_other n _ _ _ _ (λ same. differ.other x (same-line version x y fits fits' same)) ∙ ap Some sum
first-key version n (x ∷ xs) (y ∷ ys) (suc at) differ all all' =
    let first : x ≡ y = ap (λ (hs : List Held). slice_index_or hs 0 x) differ.before in
    let rest : DifferFirst xs ys at = record {
      there = (let within = differ.there in omega (arith, within));
      there_too = (let within = differ.there_too in omega (arith, within));
      before = ap (drop 1) differ.before;
      other = differ.other;
    } in
    let sum : n + 1 + at ≡ n + suc at = omega arith in
    ap (λ (h : Held). first_difference n (keys (held_pairs (x ∷ xs))) (line (held_line (h.key, h.sel)) ∷ keys (held_pairs ys))) (sym first)
    ∙ (past_same n _ _ _
    ∙ (first-key version (n + 1) xs ys at rest (λ k d within. all (suc k) d (omega (arith, within))) (λ k d within. all' (suc k) d (omega (arith, within)))
    ∙ ap Some sum))

-- the numbers and keys of an audit, line by line
abbrev numbers : ℕ → ℕ → List (KeyName × ℕ) → List (List ℕ)
numbers made cut held =
    line (codes "made" ∷ decimal made ∷ [])
    ∷ line (codes "cut" ∷ decimal cut ∷ [])
    ∷ line (codes "held" ∷ decimal (length held) ∷ [])
    ∷ keys held

-- all lines before them
abbrev front : Setup → List Entry → List (List ℕ)
front T J =
    line (codes "semper" ∷ codes "report" ∷ decimal T.version ∷ [])
    ∷ (map line (trace_lines T) ++ (line (codes "journal" ∷ decimal (length J) ∷ []) ∷ (map line (map entry_words J) ++ line (codes "audit" ∷ []) ∷ [])))

module _ (T : Setup) (J : List Entry) where
  lines-are : (a : Audit) → AuditFits T J a → whole_lines (audited T J a) ≡ front T J ++ numbers a.made a.cut (held_pairs a.held)
  lines-are a fits =
      let held : List (KeyName × ℕ) = held_pairs a.held in
      let tail : List (List ℕ) = numbers a.made a.cut held in
      let journal : List ℕ = line (codes "journal" ∷ decimal (length J) ∷ []) in
      let entries : List (List ℕ) = map line (map entry_words J) in
      let audit : List (List ℕ) = line (codes "audit" ∷ []) ∷ [] in
      let trace : List (List ℕ) = map line (trace_lines T) in
      let inner : entries ++ (audit ++ tail) ≡ (entries ++ audit) ++ tail = sym (append_assoc entries audit tail) in
      let outer : trace ++ ((journal ∷ (entries ++ audit)) ++ tail) ≡ (trace ++ (journal ∷ (entries ++ audit))) ++ tail =
      sym (append_assoc trace (journal ∷ (entries ++ audit)) tail) in
      report_whole T J a.made a.cut held (few_kernels T fits.trace) fits.entries
      ∙ ap (λ (ls : List (List ℕ)). line (codes "semper" ∷ codes "report" ∷ decimal T.version ∷ []) ∷ ls)
      (ap (λ (ls : List (List ℕ)). trace ++ (journal ∷ ls)) inner ∙ outer)

  module _ (bytes : List ℕ) (told due : Audit) (spelled : bytes ≡ audited T J told) (fits : AuditFits T J told) (fits' : AuditFits T J due) where
    abbrev hs : List (KeyName × ℕ)
    hs = held_pairs told.held

    abbrev gs : List (KeyName × ℕ)
    gs = held_pairs due.held

    -- the number of the line that tells how many keys were made
    abbrev made_line : ℕ
    made_line = 1 + length (front T J)

    pub is-made_line : (m : ℕ) → m ≡ length (whole_lines bytes) - length told.held - 3 → m ≡ made_line
    is-made_line m is =
        let all : length (whole_lines bytes) ≡ length (front T J ++ numbers told.made told.cut hs) = ap length (ap whole_lines spelled ∙ lines-are told fits) in
        let parts : length (front T J ++ numbers told.made told.cut hs) ≡ length (front T J) + length (numbers told.made told.cut hs) =
        length-append (front T J) (numbers told.made told.cut hs) in
        let last : length (keys hs) ≡ length (map line (map held_line hs)) + 1 = length-append (map line (map held_line hs)) (line (codes "end" ∷ []) ∷ []) in
        let few : length (map line (map held_line hs)) ≡ length told.held = length-map (map held_line hs) line
        ∙ (length-map hs held_line ∙ length-map told.held _) in
        omega (arith, all, parts, last, few, is)

    -- the lines before the numbers are the same
    from-made : first_wrong_line bytes T J due ≡ first_difference made_line (numbers told.made told.cut hs) (numbers due.made due.cut gs)
    from-made =
        ap (λ x. first_difference 1 x (whole_lines (audited T J due))) (ap whole_lines spelled ∙ lines-are told fits)
        ∙ (ap (first_difference 1 (front T J ++ numbers told.made told.cut hs)) (lines-are due fits')
        ∙ past_front 1 (front T J) _ _)

    pub made-differ : told.made ≢ due.made → Some made_line ≡ first_wrong_line bytes T J due
    made-differ other = sym (from-made
        ∙ at_other made_line _ _ _ _ (λ same. other (same_count (codes "made") told.made due.made refl fits.few_made fits'.few_made same)))

    module _ (same-made : told.made ≡ due.made) where
      from-cut : first_wrong_line bytes T J due
          ≡ first_difference (made_line + 1) (line (codes "cut" ∷ decimal told.cut ∷ []) ∷ line (codes "held" ∷ decimal (length hs) ∷ []) ∷ keys hs)
          (line (codes "cut" ∷ decimal due.cut ∷ []) ∷ line (codes "held" ∷ decimal (length gs) ∷ []) ∷ keys gs)
      from-cut =
          from-made
          ∙ (ap (λ n. first_difference made_line (numbers told.made told.cut hs) (numbers n due.cut gs)) (sym same-made)
          ∙ past_same made_line _ _ _)

      pub cut-differ : told.cut ≢ due.cut → Some (made_line + 1) ≡ first_wrong_line bytes T J due
      cut-differ other = sym (from-cut
          ∙ at_other (made_line + 1) _ _ _ _ (λ same. other (same_count (codes "cut") told.cut due.cut refl fits.few_cut fits'.few_cut same)))

      module _ (same-cut : told.cut ≡ due.cut) where
        from-held : first_wrong_line bytes T J due ≡ first_difference (made_line + 2) (line (codes "held" ∷ decimal (length hs) ∷ []) ∷ keys hs)
            (line (codes "held" ∷ decimal (length gs) ∷ []) ∷ keys gs)
        from-held =
            let sum : made_line + 1 + 1 ≡ made_line + 2 = omega arith in
            from-cut
            ∙ (ap (λ n. first_difference (made_line + 1) (line (codes "cut" ∷ decimal told.cut ∷ []) ∷ line (codes "held" ∷ decimal (length hs) ∷ []) ∷ keys hs)
            (line (codes "cut" ∷ decimal n ∷ []) ∷ line (codes "held" ∷ decimal (length gs) ∷ []) ∷ keys gs)) (sym same-cut)
            ∙ (past_same (made_line + 1) _ _ _
            ∙ ap (λ i. first_difference i (line (codes "held" ∷ decimal (length hs) ∷ []) ∷ keys hs) (line (codes "held" ∷ decimal (length gs) ∷ []) ∷ keys gs))
            sum))

        pub counts-differ : length told.held ≢ length due.held → Some (made_line + 2) ≡ first_wrong_line bytes T J due
        counts-differ other =
            let told-count : length hs ≡ length told.held = length-map told.held _ in
            let due-count : length gs ≡ length due.held = length-map due.held _ in
            sym (from-held ∙ at_other (made_line + 2) _ _ _ _ (λ same. other (sym told-count
            ∙ (same_count (codes "held") (length hs) (length gs) refl fits.few_held fits'.few_held same ∙ due-count))))

        module _ (same-count : length told.held ≡ length due.held) where
          from-keys : first_wrong_line bytes T J due ≡ first_difference (made_line + 3) (keys hs) (keys gs)
          from-keys =
              let sum : made_line + 2 + 1 ≡ made_line + 3 = omega arith in
              let count : length hs ≡ length gs = length-map told.held _ ∙ (same-count ∙ sym (length-map due.held _)) in
              from-held
              ∙ (ap (λ n. first_difference (made_line + 2) (line (codes "held" ∷ decimal (length hs) ∷ []) ∷ keys hs) (line (codes "held" ∷ decimal n ∷ [])
              ∷ keys gs)) (sym count)
              ∙ (past_same (made_line + 2) _ _ _
              ∙ ap (λ i. first_difference i (keys hs) (keys gs)) sum))

          pub none-differ : told.held ≡ due.held → None ≡ first_wrong_line bytes T J due
          none-differ same = sym (from-keys ∙ (ap (λ ks. first_difference (made_line + 3) (keys hs) (keys (held_pairs ks))) (sym same)
              ∙ same_lines (made_line + 3) (keys hs)))

          pub key-differs : (at : ℕ) → DifferFirst told.held due.held at → Some (made_line + 3 + at) ≡ first_wrong_line bytes T J due
          key-differs at differ = sym (from-keys ∙ first-key T.version (made_line + 3) told.held due.held at differ fits.keys fits'.keys)
