-- The canonical text of a setup stands for it.
use Rattle.std.proofs.Common.{◌≡◌, ◌≢◌, ℕ, zero, suc, ◌<◌, ◌≤◌, ◌==◌, inl, inr, Bool, true, false, true≢false, not, List, [], ◌∷◌, ◌++◌, length, map, take}
use Rattle.std.proofs.Common.{drop, get_or, Option, None, refl, ap, sym, ◌∙◌, subst, arith, decimal, le-ltb}
use Rattle.std.specs.Prelude.{codes, slice_index_or}
use Rattle.std.specs.List.{AllPairs, Contains, list_all, filter, flat_map, range_with_len}
use Rattle.std.proofs.lemmas.Bool.{cases_Bool, cases_eq}
use Rattle.std.proofs.lemmas.List.{length-map}
use Rattle.std.proofs.lemmas.List.Elements.{Contains-get_or, Contains-append_left, Contains-append_right}
use Rattle.sem_key.specs.declared.limits.TheConstants.{KERNELS}
use Rattle.sem_msg.specs.Versions.{most_kernels}
use Rattle.sem_msg.specs.Setup.{Setup, IsSetup}
use Rattle.sem_text.specs.Lines.{text}
use Rattle.sem_trace.specs.declared.fault.TraceFault.{TraceFault}
use Rattle.sem_trace.specs.declared.declaration.Declaration.{Declaration}
use Rattle.sem_trace.specs.declared.declaration.Declaration.TheVariants.{Window, End}
use Rattle.sem_trace.specs.TraceText.{canonical}
use Rattle.sem_trace.specs.TextLines.{lines_of, words_of, is_significant, significant, bytes_fault}
use Rattle.sem_trace.proofs.PlaceSteps.{no_line_fault}
use Rattle.sem_trace.specs.Forms.{form, form_fault, first_form, second_form, third_form}
use Rattle.sem_trace.specs.Declarations.{number_at, declaration}
use Rattle.sem_trace.specs.Earlier.{first_some, is_end, is_ended}
use Rattle.sem_trace.specs.Context.{context_fault}
use Rattle.sem_trace.specs.Refusal.{version_in, is_third, body_fault, words_fault, line_fault, numbers, fault_at, first_fault, version_of, kernels_of}
use Rattle.sem_trace.specs.Refusal.{declarations_of, end_fault, refusal}
use Rattle.sem_trace.specs.SetupOfText.{setup_of, Stands}
use Rattle.sem_trace.proofs.Nodes.{few_kernels}
use Rattle.sem_reader.proofs.Enumerated.{in_cons, here, there, all_in, pairs_joined, in_range, range_rises}
use Rattle.sem_reader.proofs.PlainText.{are_plain, width, bare, words_printed, lines_printed, bytes_fit, length-bare, length-text}
use Rattle.sem_reader.proofs.PrintedLines.{spelled, line_fits, line_says, first_fits, first_says, second_fits, second_says, third_fits}
use Rattle.sem_reader.proofs.Sections.{window_decls, all_pes, section, said_by, rank, in_map, ranked, has_section}
use Rattle.sem_reader.proofs.Printed.{printed, pairs_middle, any_there, all_accepted}
use Rattle.sem_reader.proofs.Canonical.{same_whole}
use Rattle.sem_reader.proofs.Written.{IsShort, line_short, kernels_short, first_short, line_significant, all_lines, trace_is, few_lines}

-- a list around one of its elements
parted : {X : Type 0} (xs : List X) (i : ℕ) (d : X) → i < length xs → (after : List X) × (xs ≡ take i xs ++ slice_index_or xs i d ∷ after)
parted [] i d lt = absurd (omega arith)
parted (x ∷ xs) zero d lt = (xs, refl)
parted (x ∷ xs) (suc i) d lt = let r = parted xs i d (omega arith) in (r.0, ap (λ ys. x ∷ ys) r.1)

take_map : {X Y : Type 0} (f : X → Y) (i : ℕ) (xs : List X) → take i (map f xs) ≡ map f (take i xs)
take_map f zero [] = refl
take_map f (suc i) [] = refl
take_map f zero (x ∷ xs) = refl
take_map f (suc i) (x ∷ xs) = ap (λ ys. f x ∷ ys) (take_map f i xs)

index_map : {X Y : Type 0} (f : X → Y) (xs : List X) (i : ℕ) (d : X) (e : Y) → i < length xs → slice_index_or (map f xs) i e ≡ f (slice_index_or xs i d)
index_map f [] i d e lt = absurd (omega arith)
index_map f (x ∷ xs) zero d e lt = refl
index_map f (x ∷ xs) (suc i) d e lt = index_map f xs i d e (omega arith)

-- the numbers of a setup are small
small_version : (T : Setup) → IsSetup T → T.version ≤ 2
small_version T fits = elim fits.versioned [
  | inl one ↦ omega arith
  | inr two ↦ omega arith
]

kernels_few : (T : Setup) → IsSetup T → T.kernels ≤ KERNELS
kernels_few T fits = let most : most_kernels T.version ≤ KERNELS = few_kernels T.version in let few : T.kernels ≤ most_kernels T.version = fits.few_kernels in
    omega arith

not_true : (b : Bool) → not b ≡ true → b ≡ false
not_true true is = absurd (true≢false (sym is))
not_true false is = refl

cons_first : (x y : Declaration) (xs ys : List Declaration) → x ∷ xs ≡ y ∷ ys → x ≡ y
cons_first x y xs ys same = ap (λ (zs : List Declaration). slice_index_or zs 0 x) same

-- a line as it is printed
record IsGood (ws : List (List ℕ)) : Type 0 where
  pub short : IsShort 60 ws
  pub says : is_significant ws ≡ true

good_line : (T : Setup) → IsSetup T → (ws : List (List ℕ)) → Contains (all_lines T) ws → IsGood ws
good_line T fits ws within =
    elim (in_cons (codes "semper" ∷ codes "trace" ∷ decimal T.version ∷ []) ((codes "kernels" ∷ decimal T.kernels ∷ []) ∷ map spelled (said_by T)) ws within) [
      | inl is ↦ subst IsGood is (record { short = first_short T.version (small_version T fits); says = refl })
      | inr later ↦
          elim (in_cons (codes "kernels" ∷ decimal T.kernels ∷ []) (map spelled (said_by T)) ws later) [
            | inl is ↦ subst IsGood is (record { short = kernels_short T.kernels (kernels_few T fits); says = refl })
            | inr rest ↦
                let m = in_map spelled (said_by T) ws rest in
                let p = printed T fits m.0 m.1 in
                subst IsGood m.2 (record {
                  short = line_short T.version T.kernels m.0 (kernels_few T fits) p.ranges p.said;
                  says = line_significant T.version m.0 p.said;
                })
          ]
    ]

all_plain : (ls : List (List (List ℕ))) → ((ws : List (List ℕ)) → Contains ls ws → IsGood ws) → list_all are_plain ls ≡ true
all_plain [] good = refl
all_plain (l ∷ ls) good = rw ((good l (here l ls)).short.plain, all_plain ls (λ ws within. good ws (there l ls ws within))) refl

kept : (ws : List (List ℕ)) (rest : List (List (List ℕ))) → is_significant ws ≡ true → filter is_significant (ws ∷ rest) ≡ ws ∷ filter is_significant rest
kept ws rest says = rw says refl

all_said : (ls : List (List (List ℕ))) → ((ws : List (List ℕ)) → Contains ls ws → IsGood ws) → significant (map bare ls) ≡ ls
all_said [] good = refl
all_said (l ∷ ls) good =
    let g = good l (here l ls) in
    ap (λ (ws : List (List ℕ)). filter is_significant (ws ∷ map words_of (map bare ls))) (words_printed l g.short.plain)
    ∙ (kept l (map words_of (map bare ls)) g.says ∙ ap (λ (rest : List (List (List ℕ))). l ∷ rest) (all_said ls (λ ws within. good ws (there l ls ws within))))

-- a line of which nothing is wrong
line_good : (earlier : List (List (List ℕ))) (ws : List (List ℕ)) (bytes : List ℕ) → bytes_fault bytes ≡ None → words_of bytes ≡ ws → is_significant ws ≡ true →
    words_fault earlier ws ≡ None → line_fault earlier bytes ≡ None
unfolding line_fault
line_good earlier ws bytes a b c d = rw (a, b, c, d) refl

place_good : (lines : List (List ℕ)) (i : ℕ) (earlier : List (List (List ℕ))) (line : List ℕ) → significant (take i lines) ≡ earlier →
    slice_index_or lines i [] ≡ line → line_fault earlier line ≡ None → fault_at lines i ≡ None
unfolding fault_at
place_good lines i earlier line a b c =
    let is : line_fault (significant (take i lines)) (slice_index_or lines i []) ≡ None =
    ap (λ (e : List (List (List ℕ))). line_fault e (slice_index_or lines i [])) a ∙ (ap (line_fault earlier) b ∙ c) in
    rw is refl

no_fault : (ls : List (List (List ℕ))) (i : ℕ) → i < length ls → ((ws : List (List ℕ)) → Contains ls ws → IsGood ws) →
    words_fault (take i ls) (slice_index_or ls i []) ≡ None → fault_at (map bare ls) i ≡ None
no_fault ls i lt good fine =
    let s = parted ls i [] lt in
    let w : List (List ℕ) = slice_index_or ls i [] in
    let g : IsGood w = good w (subst (λ (xs : List (List (List ℕ))). Contains xs w) (sym s.1) (Contains-append_right (take i ls) (w ∷ s.0) w (here w s.0))) in
    let before : significant (take i (map bare ls)) ≡ take i ls =
    ap (λ (xs : List (List ℕ)). significant xs) (take_map bare i ls)
    ∙ all_said (take i ls)
    (λ ws within. good ws (subst (λ (xs : List (List (List ℕ))). Contains xs ws) (sym s.1) (Contains-append_left (take i ls) (w ∷ s.0) ws within))) in
    let narrow : width w ≤ 60 = g.short.narrow in
    let long = length-bare w in
    place_good (map bare ls) i (take i ls) (bare w) before (index_map bare ls i [] [] lt)
    (line_good (take i ls) w (bare w) (bytes_fit w g.short.plain (omega arith)) (words_printed w g.short.plain) g.says fine)

-- the last line is the only one that ends the text
ends_section : (T : Setup) → IsSetup T → (k : ℕ) → k < 8 → AllPairs (λ a b. rank a ≢ 7) (section T k)
ends_section T fits k small i j d lt within =
    let x = ranked T fits k small (get_or (section T k) i d) (Contains-get_or (section T k) i d (omega arith)) in
    elim (cases_eq k 7) [
      | inl is ↦ let one : length (section T k) ≡ 1 = ap (λ (n : ℕ). length (section T n)) is in absurd (omega arith)
      | inr other ↦ λ same. other (sym x ∙ same)
    ]

ends_last : (T : Setup) → IsSetup T → AllPairs (λ a b. rank a ≢ 7) (said_by T)
unfolding said_by
ends_last T fits =
    pairs_joined (section T) (λ (k l : ℕ). (l < 8) × (k < l)) (λ (a b : Declaration). rank a ≢ 7) (range_with_len 0 8)
    (λ i j d lt within. let r = in_range 0 8 (get_or (range_with_len 0 8) j d) (Contains-get_or (range_with_len 0 8) j d within) in
    (omega arith, range_rises 0 8 i j d lt within))
    (λ k within. let r = in_range 0 8 k within in ends_section T fits k (omega arith))
    (λ k l a b less within within'. let s : l < 8 = less.0 in let t : k < l = less.1 in let x = ranked T fits k (omega arith) a within in
    λ same. absurd (omega arith))

not_end : (e : Declaration) → rank e ≢ 7 → is_end e ≡ false
not_end End other = absurd (other refl)
not_end e other = refl

not_ended : (ds : List Declaration) → ((e : Declaration) → Contains ds e → rank e ≢ 7) → is_ended ds ≡ false
unfolding is_ended
not_ended [] other = refl
not_ended (d ∷ ds) other = rw (not_end d (other d (here d ds)), not_ended ds (λ e within. other e (there d ds e within))) refl

-- the words of printed lines say what was printed
says_all : (T : Setup) → IsSetup T → (ds : List Declaration) → ((e : Declaration) → Contains ds e → Contains (said_by T) e) →
    map declaration (map spelled ds) ≡ ds
says_all T fits [] within = refl
says_all T fits (d ∷ ds) within =
    let p = printed T fits d (within d (here d ds)) in
    rw (line_says T.version T.kernels d (kernels_few T fits) p.ranges p.said, says_all T fits ds (λ e inside. within e (there d ds e inside))) refl

-- nothing is wrong with a line behind the second, be it the third of version 2 or another
steps : (first second : List (List ℕ)) (earlier : List (List (List ℕ))) (ws : List (List ℕ)) (ds : List Declaration) (version k : ℕ) (d : Declaration) →
    version_in first ≡ version → (is_third version earlier ≡ true → form_fault (third_form version) ws ≡ None) → map declaration earlier ≡ ds →
    is_ended ds ≡ false → number_at second 1 ≡ k → form_fault (form version k ws) ws ≡ None → declaration ws ≡ d → context_fault ds d ≡ None →
    words_fault (first ∷ second ∷ earlier) ws ≡ None
unfolding words_fault body_fault
steps first second earlier ws ds version k d told third a b c e f g =
    elim (cases_Bool (is_third version earlier)) [
      | inl due ↦ rw (told, due) (no_line_fault _ _ (third due))
      | inr other ↦ rw (told, other, a, b, c, no_line_fault (form version k ws) ws e, f, g) refl
    ]

-- the first line behind the second of a printed text of version 2 tells the window
first_said : (T : Setup) (d : Declaration) (after : List Declaration) → (T.version == 1) ≡ false → said_by T ≡ d ∷ after → d ≡ Window T.window
unfolding said_by
first_said T d after two is =
    let windows : window_decls T ≡ Window T.window ∷ [] = rw two refl in
    let whole : said_by T ≡ (Window T.window ∷ []) ++ (all_pes T ++ flat_map (section T) (range_with_len 1 7)) =
    ap (λ (ws : List Declaration). (ws ++ all_pes T) ++ flat_map (section T) (range_with_len 1 7)) windows in
    cons_first d (Window T.window) after _ (sym is ∙ whole)

third_due : (T : Setup) → IsSetup T → (before after : List Declaration) (d : Declaration) → said_by T ≡ before ++ d ∷ after →
    is_third T.version (map spelled before) ≡ true → form_fault (third_form T.version) (spelled d) ≡ None
third_due T fits [] after d is due =
    let two : (T.version == 1) ≡ false = not_true (T.version == 1) due in
    rw (first_said T d after two is) (third_fits T.version T.window fits.windowed)
third_due T fits (e ∷ before) after d is due = absurd (true≢false (sym due))

later_fits : (T : Setup) → IsSetup T → (before after : List Declaration) (d : Declaration) → said_by T ≡ before ++ d ∷ after →
    words_fault ((codes "semper" ∷ codes "trace" ∷ decimal T.version ∷ []) ∷ (codes "kernels" ∷ decimal T.kernels ∷ []) ∷ map spelled before) (spelled d) ≡ None
later_fits T fits before after d is =
    let in_all : (e : Declaration) → Contains (before ++ d ∷ after) e →
    Contains (said_by T) e = λ e inside. subst (λ (xs : List Declaration). Contains xs e) (sym is) inside in
    let p = printed T fits d (in_all d (Contains-append_right before (d ∷ after) d (here d after))) in
    let order : AllPairs (λ (a b : Declaration). rank a ≢ 7) (before ++ d ∷ after) =
    subst (AllPairs (λ (a b : Declaration). rank a ≢ 7)) is (ends_last T fits) in
    steps (codes "semper" ∷ codes "trace" ∷ decimal T.version ∷ []) (codes "kernels" ∷ decimal T.kernels ∷ []) (map spelled before)
    (spelled d) before T.version T.kernels d
    (first_says T.version fits.versioned) (third_due T fits before after d is)
    (says_all T fits before (λ e inside. in_all e (Contains-append_left before (d ∷ after) e inside)))
    (not_ended before (λ e inside. pairs_middle (λ (a b : Declaration). rank a ≢ 7) before after d e order inside))
    (second_says T.kernels (kernels_few T fits))
    (line_fits T.version T.kernels d fits.some_kernel (kernels_few T fits) p.ranges p.said)
    (line_says T.version T.kernels d (kernels_few T fits) p.ranges p.said)
    (all_accepted T fits before after d is).1

first_line : (ws : List (List ℕ)) → form_fault first_form ws ≡ None → words_fault [] ws ≡ None
unfolding words_fault
first_line ws fits = no_line_fault first_form ws fits

second_line : (first ws : List (List ℕ)) (version : ℕ) → version_in first ≡ version → form_fault (second_form version) ws ≡ None →
    words_fault (first ∷ []) ws ≡ None
unfolding words_fault
second_line first ws version told fits = rw told (no_line_fault (second_form version) ws fits)

words_fit : (T : Setup) → IsSetup T → (i : ℕ) → i < length (all_lines T) → words_fault (take i (all_lines T)) (slice_index_or (all_lines T) i []) ≡ None
words_fit T fits zero lt = first_line (codes "semper" ∷ codes "trace" ∷ decimal T.version ∷ []) (first_fits T.version fits.versioned)
words_fit T fits (suc zero) lt = second_line (codes "semper" ∷ codes "trace" ∷ decimal T.version ∷ []) (codes "kernels" ∷ decimal T.kernels ∷ []) T.version
    (first_says T.version fits.versioned) (second_fits T.version T.kernels fits.some_kernel fits.few_kernels)
words_fit T fits (suc (suc j)) lt =
    let less : j < length (said_by T) = omega (arith, length-map (said_by T) spelled) in
    let s = parted (said_by T) j End less in
    let fine = later_fits T fits (take j (said_by T)) s.0 (slice_index_or (said_by T) j End) s.1 in
    ap (λ (e : List (List (List ℕ))). words_fault ((codes "semper" ∷ codes "trace" ∷ decimal T.version ∷ []) ∷ (codes "kernels" ∷ decimal T.kernels ∷ []) ∷ e)
    (slice_index_or (map spelled (said_by T)) j [])) (take_map spelled j (said_by T))
    ∙ (ap (λ (ws : List (List ℕ)). words_fault ((codes "semper" ∷ codes "trace" ∷ decimal T.version ∷ []) ∷ (codes "kernels" ∷ decimal T.kernels ∷ [])
    ∷ map spelled (take j (said_by T))) ws) (index_map spelled (said_by T) j End [] less) ∙ fine)

-- the text is not refused
none_first : (h : ℕ → Option TraceFault) (xs : List ℕ) → ((x : ℕ) → Contains xs x → h x ≡ None) → first_some h xs ≡ None
none_first h [] fine = refl
none_first h (x ∷ xs) fine = rw (fine x (here x xs)) (none_first h xs (λ y within. fine y (there x xs y within)))

no_first : (lines : List (List ℕ)) → ((i : ℕ) → i < length lines → fault_at lines i ≡ None) → first_fault lines ≡ None
unfolding first_fault numbers
no_first lines fine = none_first (fault_at lines) (range_with_len 0 (length lines)) (λ i within. fine i (let r = in_range 0 (length lines) i within in
    omega arith))

no_missing : (lines : List (List ℕ)) → is_ended (declarations_of lines) ≡ true → end_fault lines ≡ None
unfolding end_fault
no_missing lines ended = rw ended refl

not_refused : (bytes : List ℕ) (lines : List (List ℕ)) → length bytes ≤ 8388608 → lines_of bytes ≡ lines → first_fault lines ≡ None → end_fault lines ≡ None →
    refusal bytes ≡ None
unfolding refusal
not_refused bytes lines short are first last = rw (le-ltb _ _ short, are, first, last) refl

behind_two : (lines : List (List ℕ)) (first second : List (List ℕ)) (rest : List (List (List ℕ))) → significant lines ≡ first ∷ second ∷ rest →
    (version_in first ≡ version_of lines) × (number_at second 1 ≡ kernels_of lines) × (map declaration rest ≡ declarations_of lines)
unfolding version_of kernels_of declarations_of
behind_two lines first second rest is = (
  sym (ap (λ (s : List (List (List ℕ))). version_in (slice_index_or s 0 [])) is),
  sym (ap (λ (s : List (List (List ℕ))). number_at (slice_index_or s 1 []) 1) is),
  sym (ap (λ (s : List (List (List ℕ))). map declaration (drop 2 s)) is),
)

ended : (T : Setup) → is_ended (said_by T) ≡ true
unfolding is_ended
ended T = any_there is_end (said_by T) End (has_section T End 7 (omega arith) (here End [])) refl

pub stands : (T : Setup) → IsSetup T → Stands (canonical T) T
stands T fits =
    let good = good_line T fits in
    let are : lines_of (canonical T) ≡ map bare (all_lines T) = ap (λ (ls : List (List (List ℕ))). lines_of (text ls)) (trace_is T fits)
    ∙ lines_printed (all_lines T) (all_plain (all_lines T) good) in
    let length_is : length (canonical T) ≡ length (text (all_lines T)) = ap (λ (ls : List (List (List ℕ))). length (text ls)) (trace_is T fits) in
    let few = few_lines T fits in
    let long = length-text (all_lines T) (all_in (λ (ws : List (List ℕ)). width ws ≤ 60) (all_lines T) (λ ws within. (good ws within).short.narrow)) in
    let short : length (canonical T) ≤ 8388608 = omega arith in
    let two = behind_two (map bare (all_lines T)) (codes "semper" ∷ codes "trace" ∷ decimal T.version ∷ []) (codes "kernels" ∷ decimal T.kernels ∷ [])
    (map spelled (said_by T)) (all_said (all_lines T) good) in
    let version : T.version ≡ version_of (lines_of (canonical T)) = sym (first_says T.version fits.versioned)
    ∙ (two.0 ∙ ap (λ (l : List (List ℕ)). version_of l) (sym are)) in
    let kernels : T.kernels ≡ kernels_of (lines_of (canonical T)) = sym (second_says T.kernels (kernels_few T fits))
    ∙ (two.1 ∙ ap (λ (l : List (List ℕ)). kernels_of l) (sym are)) in
    let said : said_by T ≡ declarations_of (map bare (all_lines T)) = sym (says_all T fits (said_by T) (λ e within. within)) ∙ two.2 in
    let first : first_fault (map bare (all_lines T)) ≡ None =
    no_first (map bare (all_lines T)) (λ i lt. no_fault (all_lines T) i (let l = length-map (all_lines T) bare in
    omega arith) good (words_fit T fits i (let l = length-map (all_lines T) bare in omega arith))) in
    let last : end_fault (map bare (all_lines T)) ≡ None = no_missing (map bare (all_lines T)) (ap (λ (ds : List Declaration). is_ended ds) (sym said)
    ∙ ended T) in
    record {
      accepted = not_refused (canonical T) (map bare (all_lines T)) short are first last;
      declared = same_whole T fits
          ∙ (ap (λ (v : ℕ). setup_of v T.kernels (said_by T)) version ∙ (ap (λ (k : ℕ). setup_of (version_of (lines_of (canonical T))) k (said_by T)) kernels
          ∙ ap (setup_of (version_of (lines_of (canonical T))) (kernels_of (lines_of (canonical T)))) (said
          ∙ ap (λ (l : List (List ℕ)). declarations_of l) (sym are))));
    }
