-- The setup for which a text stands is a setup: no line has a fault, so all that the lines say is accepted.
use Rattle.std.proofs.Common.{◌≡◌, ℕ, zero, suc, ◌+◌, ◌≤◌, ◌⊎◌, Bool, true, false, true≢false, cond, List, [], ◌∷◌, ◌++◌, length, map, take, drop, get_or}
use Rattle.std.proofs.Common.{codes, Option, Some, None, inl, inr, refl, sym, ap, ◌∙◌, subst, arith}
use Rattle.std.specs.Option.{option_map, option_or}
use Rattle.std.specs.Prelude.{nat_lt}
use Rattle.std.proofs.lemmas.List.{take_more, take_all, map-append}
use Rattle.std.proofs.lemmas.Option.{none-some}
use Rattle.sem_key.proofs.Members.{Contains-nil, Contains-cons_cases}
use Rattle.sem_msg.specs.Setup.{Setup, IsSetup}
use Rattle.sem_msg.specs.Versions.{most_kernels, least_window, most_window}
use Rattle.sem_text.specs.Number.{number_value}
use Rattle.sem_trace.specs.declared.fault.Cause.TheVariants.{TooMany, Missing, InputTooLong}
use Rattle.sem_trace.specs.declared.fault.TraceFault.{TraceFault}
use Rattle.sem_trace.specs.TextLines.{lines_of, words_of, is_significant, significant, with_significant, bytes_fault}
use Rattle.sem_trace.proofs.PlaceSteps.{unmapped, has_form}
use Rattle.sem_trace.specs.Forms.{form_fault, word_fault, whole_line, first_form, second_form, third_form, form, word_at}
use Rattle.sem_trace.specs.Declarations.{number_at, declaration}
use Rattle.sem_trace.specs.Ranges.{IsInRange}
use Rattle.sem_trace.specs.Earlier.{first_some, window_in, is_ended}
use Rattle.sem_trace.specs.Context.{context_fault}
use Rattle.sem_trace.specs.Refusal.{version_in, is_third, body_fault, words_fault, line_fault, numbers, fault_at, first_fault, version_of, kernels_of}
use Rattle.sem_trace.specs.Refusal.{declarations_of, end_fault, lines_refusal, refusal}
use Rattle.sem_trace.specs.SetupOfText.{setup_of, Stands}
use Rattle.sem_reader.specs.Accepted.{AreAccepted}
use Rattle.sem_trace.proofs.ReadText.{numbers-more, significant-push}
use Rattle.sem_reader.proofs.InRange.{at_place, number_in, one_of, form_ranges}
use Rattle.sem_reader.proofs.OneMore.{accepted_more, accepted_none}
use Rattle.sem_reader.proofs.SetupIs.{setup_is}

both_none : {X : Type 0} (o p : Option X) → option_or o p ≡ None → (o ≡ None) × (p ≡ None)
both_none None p none = (refl, none)
both_none (Some x) p none = absurd (none-some x (sym none))

-- nothing is wrong with all of these, nor with the last
first_parts : {X Y : Type 0} (h : X → Option Y) (xs : List X) (x : X) → first_some h (xs ++ x ∷ []) ≡ None → (first_some h xs ≡ None) × (h x ≡ None)
first_parts h [] x none = (refl, (both_none (h x) None none).0)
first_parts h (y ∷ ys) x none =
    let parts = both_none (h y) (first_some h (ys ++ x ∷ [])) none in
    let rest = first_parts h ys x parts.1 in
    (rw parts.0 rest.0, rest.1)

-- the lines that say something tell a version, a number of kernels, and then what is accepted
abbrev IsGood : List (List (List ℕ)) → Type 0
IsGood [] = Unit {0}
IsGood (first ∷ []) = (version_in first ≡ 1) ⊎ (version_in first ≡ 2)
IsGood (first ∷ second ∷ earlier) =
    ((version_in first ≡ 1) ⊎ (version_in first ≡ 2))
    × (1 ≤ number_at second 1)
    × (number_at second 1 ≤ most_kernels (version_in first))
    × AreAccepted (version_in first) (number_at second 1) (map declaration earlier)

first_good : (words : List (List ℕ)) → form_fault first_form words ≡ None → (version_in words ≡ 1) ⊎ (version_in words ≡ 2)
unfolding first_form
first_good words none =
    elim (Contains-cons_cases (codes "1") (codes "2" ∷ []) (word_at words 2)
    (one_of (codes "1" ∷ codes "2" ∷ []) (word_at words 2) (at_place first_form words none 2 (omega arith)))) [
      | inl one ↦ inl (ap number_value (sym one))
      | inr later ↦ elim (Contains-cons_cases (codes "2") [] (word_at words 2) later) [
        | inl two ↦ inr (ap number_value (sym two))
        | inr past ↦ absurd (Contains-nil (word_at words 2) past)
      ]
    ]

second_good : (version : ℕ) (words : List (List ℕ)) → form_fault (second_form version) words ≡ None →
    (1 ≤ number_at words 1) × (number_at words 1 ≤ most_kernels version)
unfolding second_form
second_good version words none = number_in (second_form version) words none 1 1 (most_kernels version) (omega arith) refl

-- the third line of version 2
third_good : (version kernels : ℕ) (words : List (List ℕ)) → form_fault (third_form version) words ≡ None → IsInRange version kernels (declaration words)
    × (context_fault [] (declaration words) ≡ None)
unfolding third_form form_fault declaration context_fault window_in
third_good version kernels [] none = absurd (none-some (Missing, 0) (sym none))
third_good version kernels (name ∷ ws) none =
    elim (Contains-cons_cases (codes "window") [] name (one_of (codes "window" ∷ []) name (at_place (third_form version) (name ∷ ws) none 0 (omega arith)))) [
      | inl is ↦ subst (λ (w : List ℕ). IsInRange version kernels (declaration (w ∷ ws)) × (context_fault [] (declaration (w ∷ ws)) ≡ None)) is
          (number_in (third_form version) (name ∷ ws) none 1 (least_window version) (most_window version) (omega arith) refl, refl)
      | inr past ↦ absurd (Contains-nil name past)
    ]

-- a line behind the second
body_good : (version kernels : ℕ) (earlier : List (List (List ℕ))) (words : List (List ℕ)) → 1 ≤ kernels → body_fault version kernels earlier words ≡ None →
    IsInRange version kernels (declaration words) × (context_fault (map declaration earlier) (declaration words) ≡ None)
unfolding body_fault
body_good version kernels earlier words some none = third earlier (is_third version earlier) refl none
  where
    behind_third : (earlier : List (List (List ℕ))) (b : Bool) → is_ended (map declaration earlier) ≡ b →
        cond b (Some (whole_line TooMany))
        (option_or (word_fault (form version kernels words) words) (context_fault (map declaration earlier) (declaration words))) ≡ None →
        IsInRange version kernels (declaration words) × (context_fault (map declaration earlier) (declaration words) ≡ None)
    behind_third earlier true is none = absurd (none-some (whole_line TooMany) (sym none))
    behind_third earlier false is none = let parts = both_none (word_fault (form version kernels words) words) _ none in
        (form_ranges version kernels words some (has_form _ _ parts.0), parts.1)

    third : (earlier : List (List (List ℕ))) (b : Bool) → is_third version earlier ≡ b →
        cond b (word_fault (third_form version) words)
        (cond (is_ended (map declaration earlier)) (Some (whole_line TooMany))
        (option_or (word_fault (form version kernels words) words) (context_fault (map declaration earlier) (declaration words)))) ≡ None →
        IsInRange version kernels (declaration words) × (context_fault (map declaration earlier) (declaration words) ≡ None)
    third earlier false is none = behind_third earlier (is_ended (map declaration earlier)) refl none
    third [] true is none = third_good version kernels words (has_form _ _ none)
    third (e ∷ es) true is none = absurd (true≢false (sym is))

-- one line more with which nothing is wrong
good_more : (ls : List (List (List ℕ))) (words : List (List ℕ)) → IsGood ls → words_fault ls words ≡ None → IsGood (ls ++ words ∷ [])
unfolding words_fault
good_more [] words good none = first_good words (has_form _ _ none)
good_more (first ∷ []) words good none = let kernels = second_good (version_in first) words (has_form _ _ none) in
    (good, kernels.0, kernels.1, accepted_none (version_in first) (number_at words 1))
good_more (first ∷ second ∷ earlier) words good none =
    let more = body_good (version_in first) (number_at second 1) earlier words good.1 none in (
      good.0,
      good.1,
      good.2,
      subst (AreAccepted (version_in first) (number_at second 1)) (sym (map-append declaration earlier (words ∷ [])))
          (accepted_more (version_in first) (number_at second 1) (map declaration earlier) (declaration words) good.3 more.0 more.1),
    )

-- the same of a line that may say nothing
good_line : (ls : List (List (List ℕ))) (line : List ℕ) → IsGood ls → line_fault ls line ≡ None → IsGood (with_significant ls line)
unfolding line_fault
good_line ls line good none = from (is_significant (words_of line)) (both_none (option_map whole_line (bytes_fault line)) _ none).1
  where
    from : (b : Bool) → cond b (words_fault ls (words_of line)) None ≡ None → IsGood (cond b (ls ++ words_of line ∷ []) ls)
    from true none = good_more ls (words_of line) good none
    from false none = good

-- the first lines, as many as have no fault
good_lines : (lines : List (List ℕ)) (n : ℕ) → n ≤ length lines → first_some (fault_at lines) (numbers n) ≡ None → IsGood (significant (take n lines))
unfolding fault_at
good_lines lines zero few none = tt
good_lines lines (suc n) few none =
    let next : suc n ≡ n + 1 = omega arith in
    let parts = first_parts (fault_at lines) (numbers n) n (subst (λ (ks : List ℕ). first_some (fault_at lines) ks ≡ None) (ap numbers next
    ∙ numbers-more n) none) in
    let before = good_lines lines n (omega arith) parts.0 in
    let here = good_line (significant (take n lines)) (get_or lines n []) before
    (unmapped _ (line_fault (significant (take n lines)) (get_or lines n [])) parts.1) in
    subst IsGood (sym (ap (λ (k : ℕ). significant (take k lines)) next
    ∙ (ap significant (take_more lines n [] (omega arith)) ∙ significant-push (take n lines) (get_or lines n [])))) here

-- what such lines declare, if the last of them is there
good_setup : (ls : List (List (List ℕ))) → IsGood ls → is_ended (map declaration (drop 2 ls)) ≡ true →
    IsSetup (setup_of (version_in (get_or ls 0 [])) (number_at (get_or ls 1 []) 1) (map declaration (drop 2 ls)))
unfolding is_ended
good_setup [] good ended = absurd (true≢false (sym ended))
good_setup (first ∷ []) good ended = absurd (true≢false (sym ended))
good_setup (first ∷ second ∷ earlier) good ended = setup_is (version_in first) (number_at second 1) (map declaration earlier) good.0 good.1 good.2 good.3

-- lines without a refusal
pub accepted_setup : (lines : List (List ℕ)) → lines_refusal lines ≡ None → IsSetup (setup_of (version_of lines) (kernels_of lines) (declarations_of lines))
unfolding first_fault end_fault version_of kernels_of declarations_of
accepted_setup lines none =
    let parts = both_none (first_fault lines) (end_fault lines) none in
    let good = subst (λ (ls : List (List ℕ)). IsGood (significant ls)) (take_all (length lines) lines (omega arith))
    (good_lines lines (length lines) (omega arith) parts.0) in
    good_setup (significant lines) good (ended (is_ended (map declaration (drop 2 (significant lines)))) refl parts.1)
  where
    ended : (b : Bool) → is_ended (map declaration (drop 2 (significant lines))) ≡ b →
        cond {A = Option TraceFault} b None (Some (record { line = length lines + 1; word = None; cause = Missing })) ≡ None →
        is_ended (map declaration (drop 2 (significant lines))) ≡ true
    ended true is none = is
    ended false is none = absurd (none-some _ (sym none))

pub stands_setup : (bytes : List ℕ) (T : Setup) → Stands bytes T → IsSetup T
unfolding refusal
stands_setup bytes T stands = subst IsSetup (sym stands.declared) (accepted_setup (lines_of bytes) (from (nat_lt 8388608 (length bytes)) stands.accepted))
  where
    from : (b : Bool) → cond {A = Option TraceFault} b (Some (record { line = 0; word = None; cause = InputTooLong })) (lines_refusal (lines_of bytes)) ≡ None →
        lines_refusal (lines_of bytes) ≡ None
    from true none = absurd (none-some _ (sym none))
    from false none = none
