-- A text is printed of one report.
use Rattle.std.proofs.Common.{◌≡◌, ℕ, zero, suc, ◌≤◌, true, List, [], ◌∷◌, ◌++◌, length, take, drop, map, refl, ap, sym, ◌∙◌, subst, arith, decimal}
use Rattle.std.proofs.Common.{slice_index_or}
use Rattle.std.specs.Prelude.{codes}
use Rattle.std.specs.List.{All}
use Rattle.std.proofs.Math.Seq.{take-append_seam, drop-append_seam}
use Rattle.std.proofs.lemmas.Fmt.{decimal_injective}
use Rattle.std.proofs.lemmas.List.{length-map}
use Rattle.sem_key.specs.declared.key.Kind.{Kind}
use Rattle.sem_key.specs.declared.key.Kind.TheVariants.{Mem, Recv, Send, Serv, Sess}
use Rattle.sem_key.specs.KeyName.{KeyName, kind_number}
use Rattle.sem_msg.specs.declared.entry.Entry.{Entry}
use Rattle.sem_msg.specs.Setup.{Setup, IsSetup}
use Rattle.sem_text.specs.Lines.{line}
use Rattle.sem_trace.specs.Ranges.{IsKeyInText}
use Rattle.sem_key.specs.declared.limits.TheConstants.{KERNELS}
use Rattle.sem_trace.specs.Forms.{parts_of}
use Rattle.sem_trace.specs.Words.{key_word}
use Rattle.sem_trace.specs.SetupOfText.{Stands}
use Rattle.sem_trace.specs.TraceText.{canonical, trace_lines}
use Rattle.sem_journal.specs.EntryText.{entry_words}
use Rattle.sem_journal.specs.EntryRanges.{EntryFits}
use Rattle.sem_journal.specs.ReportText.{held_line, report_text}
use Rattle.sem_report.specs.ReportRanges.{HeldFits, ReportFits}
use Rattle.sem_report.specs.WholeLines.{whole_lines}
use Rattle.sem_report.specs.ReportRefusal.{words_in, count_at, trace_section, setup_in}
use Rattle.sem_trace.proofs.Nodes.{node_small}
use Rattle.sem_reader.proofs.PlainText.{is_plain_word, are_plain}
use Rattle.sem_journal.proofs.PrintedPlaces.{kind_most, key_numbers, key_parts}
use Rattle.sem_journal.proofs.EntryFrom.{kind_from}
use Rattle.sem_journal.proofs.OneEntry.{one_entry}
use Rattle.sem_journal.proofs.PlainEntries.{printed_words}
use Rattle.sem_report.proofs.WholeText.{decimal_plain, words_line}
use Rattle.sem_report.proofs.PlainTrace.{section_printed}
use Rattle.sem_report.proofs.PrintedReport.{few_kernels, audit_whole, behind_whole, held_plain, report_whole, trace_read, journal_count}

-- lists of two parts
same_parts : (a b c d : List (List ℕ)) → length a ≡ length c → a ++ b ≡ c ++ d → (a ≡ c) × (b ≡ d)
same_parts a b c d long same = (
  sym (take-append_seam a b) ∙ (ap (λ (n : ℕ). take n (a ++ b)) long ∙ (ap (take (length c)) same ∙ take-append_seam c d)),
  sym (drop-append_seam a b) ∙ (ap (λ (n : ℕ). drop n (a ++ b)) long ∙ (ap (drop (length c)) same ∙ drop-append_seam c d)),
)

-- what is printed line by line
same_list : {X : Type 0} (P : X → Type 0) (words : X → List (List ℕ)) → ((x y : X) → P x → P y → line (words x) ≡ line (words y) → x ≡ y) → (xs ys : List X) →
    All P xs → All P ys → map line (map words xs) ≡ map line (map words ys) → xs ≡ ys
same_list P words one [] [] all all' same = refl
same_list P words one [] (y ∷ ys) all all' same = let long = ap length same in absurd (omega arith)
same_list P words one (x ∷ xs) [] all all' same = let long = ap length same in absurd (omega arith)
same_list P words one (x ∷ xs) (y ∷ ys) all all' same =
    let first : x ≡ y = one x y (all zero x (omega arith)) (all' zero y (omega arith)) (ap (λ (ls : List (List ℕ)). slice_index_or ls 0 []) same) in
    let rest : xs ≡ ys = same_list P words one xs ys (λ k d within. all (suc k) d (omega arith)) (λ k d within. all' (suc k) d (omega arith))
    (ap (drop 1) same) in
    rw (first, rest) refl

same_words : (ws vs : List (List ℕ)) → are_plain ws ≡ true → are_plain vs ≡ true → line ws ≡ line vs → ws ≡ vs
same_words ws vs plain plain' same = sym (words_line ws plain) ∙ (ap words_in same ∙ words_line vs plain')

pub same_count : (name : List ℕ) (m n : ℕ) → is_plain_word name ≡ true → m ≤ 4294967295 → n ≤ 4294967295 →
    line (name ∷ decimal m ∷ []) ≡ line (name ∷ decimal n ∷ []) → m ≡ n
same_count name m n plain small small' same =
    let words = same_words (name ∷ decimal m ∷ []) (name ∷ decimal n ∷ []) (rw (plain, decimal_plain m) refl) (rw (plain, decimal_plain n) refl) same in
    decimal_injective m n (omega arith) (omega arith) (ap (λ (ws : List (List ℕ)). slice_index_or ws 1 []) words)

-- keys
kind_back : (kind : Kind) → kind_from (kind_number kind) ≡ kind
unfolding kind_from
kind_back Mem = refl
kind_back Recv = refl
kind_back Send = refl
kind_back Serv = refl
kind_back Sess = refl

same_number : (m n i : ℕ) (ms ns : List ℕ) → m ≤ 4294967295 → n ≤ 4294967295 → slice_index_or (map decimal ms) i [] ≡ decimal m →
    slice_index_or (map decimal ns) i [] ≡ decimal n → map decimal ms ≡ map decimal ns → m ≡ n
same_number m n i ms ns small small' is is' same = decimal_injective m n (omega arith) (omega arith) (sym is
    ∙ (ap (λ (ws : List (List ℕ)). slice_index_or ws i []) same ∙ is'))

same_key : (version : ℕ) (k l : KeyName) → IsKeyInText version k → IsKeyInText version l → key_word k ≡ key_word l → k ≡ l
same_key version k l valid valid' same =
    let parts : map decimal (key_numbers k) ≡ map decimal (key_numbers l) = sym (key_parts version k valid) ∙ (ap parts_of same ∙ key_parts version l valid') in
    let pe : k.pe ≡ l.pe = same_number k.pe l.pe 0 (key_numbers k) (key_numbers l) (omega (arith, node_small version k.pe valid.0))
    (omega (arith, node_small version l.pe valid'.0)) refl refl parts in
    let vpe : k.vpe ≡ l.vpe = same_number k.vpe l.vpe 1 (key_numbers k) (key_numbers l) (omega (arith, node_small version k.vpe valid.1))
    (omega (arith, node_small version l.vpe valid'.1)) refl refl parts in
    let number : kind_number k.kind ≡ kind_number l.kind = same_number (kind_number k.kind) (kind_number l.kind) 2 (key_numbers k) (key_numbers l)
    (omega (arith, kind_most k.kind)) (omega (arith, kind_most l.kind)) refl refl parts in
    let kind : k.kind ≡ l.kind = sym (kind_back k.kind) ∙ (ap kind_from number ∙ kind_back l.kind) in
    let last : k.number ≡ l.number = same_number k.number l.number 3 (key_numbers k) (key_numbers l) (omega (arith, valid.2))
    (omega (arith, valid'.2)) refl refl parts in
    λ i. record { pe = pe i; vpe = vpe i; kind = kind i; number = last i }

pub same_held : (version : ℕ) (h g : KeyName × ℕ) → HeldFits version h → HeldFits version g → line (held_line h) ≡ line (held_line g) → h ≡ g
same_held version h g fits fits' same =
    let words : held_line h ≡ held_line g = same_words (held_line h) (held_line g) (held_plain h) (held_plain g) same in
    let key : h.0 ≡ g.0 = same_key version h.0 g.0 fits.0 fits'.0 (ap (λ (ws : List (List ℕ)). slice_index_or ws 1 []) words) in
    let sel : h.1 ≡ g.1 = decimal_injective h.1 g.1 (omega (arith, fits.1)) (omega (arith, fits'.1)) (ap (λ (ws : List (List ℕ)). slice_index_or ws 2 []) words)
    in
    λ i. (key i, sel i)

same_entry : (version kernels : ℕ) → kernels ≤ KERNELS → (e f : Entry) → EntryFits version kernels e → EntryFits version kernels f →
    line (entry_words e) ≡ line (entry_words f) → e ≡ f
same_entry version kernels few e f fits fits' same =
    one_entry version kernels e f fits fits' few (same_words (entry_words e) (entry_words f) (printed_words version kernels e few fits)
    (printed_words version kernels f few fits') same)

-- what stands behind the first line
behind_first : (T U : Setup) (J K : List Entry) (made cut made' cut' : ℕ) (held held' : List (KeyName × ℕ)) → ReportFits T J made cut held →
    ReportFits U K made' cut' held' → report_text T J made cut held ≡ report_text U K made' cut' held' →
    map line (trace_lines T) ++ behind_whole J made cut held ≡ map line (trace_lines U) ++ behind_whole K made' cut' held'
behind_first T U J K made cut made' cut' held held' fits fits' same =
    ap (drop 1) (sym (report_whole T J made cut held (few_kernels T fits.trace) fits.entries)
    ∙ (ap whole_lines same ∙ report_whole U K made' cut' held' (few_kernels U fits'.trace) fits'.entries))

-- the trace and what stands behind it
same_trace : (T U : Setup) (b c : List (List ℕ)) → map line (trace_lines T) ++ b ≡ map line (trace_lines U) ++ c →
    (map line (trace_lines T) ≡ map line (trace_lines U)) × (b ≡ c)
same_trace T U b c same =
    let section : map line (trace_lines T) ≡ map line (trace_lines U) = sym (section_printed T b) ∙ (ap trace_section same ∙ section_printed U c) in
    same_parts (map line (trace_lines T)) b (map line (trace_lines U)) c (ap length section) same

-- the journal and the audit
same_behind : (J K : List Entry) (made cut made' cut' : ℕ) (held held' : List (KeyName × ℕ)) → length J ≤ 4294967295 → length K ≤ 4294967295 →
    behind_whole J made cut held ≡ behind_whole K made' cut' held' → (map line (map entry_words J) ≡ map line (map entry_words K))
    × (audit_whole made cut held ≡ audit_whole made' cut' held')
same_behind J K made cut made' cut' held held' few few' same =
    let count : length J ≡ length K = sym (journal_count J made cut held few)
    ∙ (ap (λ (ls : List (List ℕ)). count_at ls 0) same ∙ journal_count K made' cut' held' few') in
    let long : length (map line (map entry_words J)) ≡ length (map line (map entry_words K)) = (length-map (map entry_words J) line ∙ length-map J entry_words)
    ∙ (count ∙ sym (length-map (map entry_words K) line ∙ length-map K entry_words)) in
    same_parts (map line (map entry_words J)) (audit_whole made cut held) (map line (map entry_words K)) (audit_whole made' cut' held') long (ap (drop 1) same)

same_keys : (version made cut made' cut' : ℕ) (held held' : List (KeyName × ℕ)) → length held ≤ 4294967295 → length held' ≤ 4294967295 →
    All (HeldFits version) held → All (HeldFits version) held' → audit_whole made cut held ≡ audit_whole made' cut' held' → held ≡ held'
same_keys version made cut made' cut' held held' few few' fits fits' same =
    let count : length held ≡ length held' =
    same_count (codes "held") (length held) (length held') refl few few' (ap (λ (ls : List (List ℕ)). slice_index_or ls 3 []) same) in
    let long : length (map line (map held_line held)) ≡ length (map line (map held_line held')) = (length-map (map held_line held) line
    ∙ length-map held held_line) ∙ (count ∙ sym (length-map (map held_line held') line ∙ length-map held' held_line)) in
    let end : List (List ℕ) = line (codes "end" ∷ []) ∷ [] in
    let keys = same_parts (map line (map held_line held)) end (map line (map held_line held')) end long (ap (drop 4) same) in
    same_list (HeldFits version) held_line (same_held version) held held' fits fits' keys.0

pub one_report : ((T : Setup) → IsSetup T → Stands (canonical T) T) →
    (T U : Setup) (J K : List Entry) (made cut made' cut' : ℕ) (held held' : List (KeyName × ℕ)) → ReportFits T J made cut held →
    ReportFits U K made' cut' held' → report_text T J made cut held ≡ report_text U K made' cut' held' → (T ≡ U) × (J ≡ K) × (made ≡ made') × (cut ≡ cut')
    × (held ≡ held')
one_report stands T U J K made cut made' cut' held held' fits fits' same =
    let behind = same_trace T U _ _ (behind_first T U J K made cut made' cut' held held' fits fits' same) in
    let setup : T ≡ U = trace_read T (stands T fits.trace) ∙ (ap setup_in behind.0 ∙ sym (trace_read U (stands U fits'.trace))) in
    let parts = same_behind J K made cut made' cut' held held' fits.few_entries fits'.few_entries behind.1 in
    let entries : All (EntryFits T.version T.kernels) K = subst (λ (S : Setup). All (EntryFits S.version S.kernels) K) (sym setup) fits'.entries in
    let keys : All (HeldFits T.version) held' = subst (λ (S : Setup). All (HeldFits S.version) held') (sym setup) fits'.keys in
    let journal : J ≡ K = same_list (EntryFits T.version T.kernels) entry_words (same_entry T.version T.kernels (few_kernels T fits.trace)) J K fits.entries
    entries parts.0 in
    let line_at : ℕ → List (List ℕ) → List ℕ = λ i ls. slice_index_or ls i [] in (
      setup,
      journal,
      same_count (codes "made") made made' refl fits.few_made fits'.few_made (ap (line_at 1) parts.1),
      same_count (codes "cut") cut cut' refl fits.few_cut fits'.few_cut (ap (line_at 2) parts.1),
      same_keys T.version made cut made' cut' held held' fits.few_held fits'.few_held fits.keys keys parts.1,
    )
