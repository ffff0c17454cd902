-- Lines without a fault are those of what they tell.
use Rattle.std.proofs.Common.{◌≡◌, ℕ, zero, suc, ◌+◌, ◌≤◌, Bool, true, false, List, [], ◌∷◌, ◌++◌, length, map, replicate, Option, Some, None, refl}
use Rattle.std.proofs.Common.{ap, sym, inl, inr}
use Rattle.std.proofs.Common.{◌∙◌, arith, decimal}
use Rattle.std.specs.Prelude.{codes, if◌then◌else◌}
use Rattle.std.specs.List.{All}
use Rattle.std.specs.Option.{option_map}
use Rattle.std.specs.Str.{bytes_eq}
use Rattle.std.proofs.lemmas.List.Elements.{All-nil, All-cons}
use Rattle.std.proofs.lemmas.Option.{none-some}
use Rattle.sem_key.specs.KeyName.{KeyName}
use Rattle.sem_text.specs.Lines.{line}
use Rattle.sem_trace.specs.declared.fault.Cause.TheVariants.{OutOfRange, NotCanonical, TooMany, Missing}
use Rattle.sem_trace.specs.TextLines.{bytes_fault}
use Rattle.sem_trace.specs.Forms.{form_fault, word_fault, whole_line, at_word, word, byte, key}
use Rattle.sem_trace.proofs.PlaceSteps.{has_form}
use Rattle.std.proofs.lemmas.Bool.{cases_Bool}
use Rattle.std.proofs.lemmas.Slice.Eq.{bytes_eq-Decides}
use Rattle.sem_trace.specs.Forms.Place.{Word}
use Rattle.sem_trace.specs.Words.{key_word}
use Rattle.sem_journal.specs.EntryForms.{has_long_memory, long_word}
use Rattle.sem_journal.specs.ReportText.{held_line}
use Rattle.sem_journal.proofs.EntryParts.{nothing_more, exactly_is}
use Rattle.sem_report.specs.ReportRanges.{HeldFits}
use Rattle.sem_report.specs.WholeLines.{content}
use Rattle.sem_trace.specs.LineErrors.{fault_of}
use Rattle.sem_report.specs.ReportRefusal.{Form, words_in, report_line_fault, forms_fault, name_form, held_form}
use Rattle.sem_readable.proofs.Values.{none_of}
use Rattle.sem_readable.proofs.Rows.{number, a_key, one_word}

pub mapped_none : {X Y : Type 0} (f : X → Y) (o : Option X) → option_map f o ≡ None → o ≡ None
mapped_none f None none = refl
mapped_none f (Some x) none = absurd (none-some (f x) (sym none))

-- a line without a fault: its words have the form, and it is spelled by them
pub record IsFine (form : Form) (whole : List ℕ) : Type 0 where
  pub fits : form_fault (form (words_in whole)) (words_in whole) ≡ None
  pub short : has_long_memory (words_in whole) ≡ false
  pub printed : whole ≡ line (words_in whole)

pub fine_line : (form : Form) (whole : List ℕ) → report_line_fault form whole ≡ None → IsFine form whole
unfolding report_line_fault
fine_line form whole none =
    let first = none_of (option_map whole_line (bytes_fault (content whole))) _ none in
    let second = none_of (word_fault (form (words_in whole)) (words_in whole)) _ first.1 in
    from (has_long_memory (words_in whole)) refl (has_form _ _ second.0) second.1
  where
    from : (b : Bool) → has_long_memory (words_in whole) ≡ b → form_fault (form (words_in whole)) (words_in whole) ≡ None →
        (if b then Some (at_word (long_word (words_in whole)) OutOfRange)
        else (if bytes_eq whole (line (words_in whole)) then None else Some (whole_line NotCanonical))) ≡ None → IsFine form whole
    from true is fits none = absurd (none-some (at_word (long_word (words_in whole)) OutOfRange) (sym none))
    from false is fits none = record { fits = fits; short = is; printed = printed_so none }
      where
        printed_so : (if bytes_eq whole (line (words_in whole)) then None else Some (whole_line NotCanonical)) ≡ None → whole ≡ line (words_in whole)
        printed_so none = elim (cases_Bool (bytes_eq whole (line (words_in whole)))) [
          | inl same ↦ (bytes_eq-Decides whole (line (words_in whole))).0 same
          | inr other ↦ absurd (none-some (whole_line NotCanonical) (sym (rw other at none)))
        ]

-- each line has its form
abbrev pub Each : List Form → List (List ℕ) → Type 0
Each [] lines = lines ≡ []
Each (form ∷ forms) [] = ⊥
Each (form ∷ forms) (whole ∷ lines) = IsFine form whole × Each forms lines

pub each_fine : (n : ℕ) (forms : List Form) (lines : List (List ℕ)) → forms_fault n forms lines ≡ None → Each forms lines
unfolding forms_fault
each_fine n [] [] none = refl
each_fine n [] (whole ∷ lines) none =
    absurd (none-some TooMany (sym (none_of (bytes_fault (content whole)) (Some TooMany) (mapped_none whole_line _ (mapped_none (fault_of n) _ none))).1))
each_fine n (form ∷ forms) [] none = absurd (none-some (fault_of n (whole_line Missing)) (sym none))
each_fine n (form ∷ forms) (whole ∷ lines) none =
    let both = none_of (option_map (fault_of n) (report_line_fault form whole)) (forms_fault (n + 1) forms lines) none in
    (fine_line form whole (mapped_none (fault_of n) _ both.0), each_fine (n + 1) forms lines both.1)

-- the line is that of something in range
abbrev pub IsLineOf : {X : Type 0} → (X → List (List ℕ)) → (X → Type 0) → List ℕ → Type 0
IsLineOf {X} spelling Fits whole = (x : X) × (whole ≡ line (spelling x)) × Fits x

-- the first lines are those of so many values
pub record Many {X : Type 0} (spelling : X → List (List ℕ)) (Fits : X → Type 0) (n : ℕ) (more : List Form) (lines : List (List ℕ)) : Type 0 where
  pub values : List X
  pub rest : List (List ℕ)
  pub is : lines ≡ map line (map spelling values) ++ rest
  pub fits : All Fits values
  pub count : length values ≡ n
  pub behind : Each more rest

pub many : {X : Type 0} (spelling : X → List (List ℕ)) (Fits : X → Type 0) (form : Form) →
    ((whole : List ℕ) → IsFine form whole → IsLineOf spelling Fits whole) → (n : ℕ) (more : List Form) (lines : List (List ℕ)) →
    Each (replicate n form ++ more) lines → Many spelling Fits n more lines
many {X} spelling Fits form read zero more lines each = record { values = []; rest = lines; is = refl; fits = All-nil Fits; count = refl; behind = each }
many {X} spelling Fits form read (suc n) more [] each = absurd each
many {X} spelling Fits form read (suc n) more (whole ∷ lines) each = from (read whole each.0) (many spelling Fits form read n more lines each.1)
  where
    from : IsLineOf spelling Fits whole → Many spelling Fits n more lines → Many spelling Fits (suc n) more (whole ∷ lines)
    from (x, is, fits) later = record {
      values = x ∷ later.values;
      rest = later.rest;
      is = λ i. is i ∷ later.is i;
      fits = All-cons Fits x later.values fits later.fits;
      count = ap suc later.count;
      behind = later.behind;
    }

-- a line of a word
pub name_line : (name whole : List ℕ) → IsFine (name_form name) whole → whole ≡ line (name ∷ [])
name_line name whole fine = fine.printed ∙ ap line (exactly_is (name ∷ []) (words_in whole) fine.fits)

-- a line of a word and a number
abbrev pub IsCount : List ℕ → List (List ℕ) → Type 0
IsCount name words = (n : ℕ) × (words ≡ name ∷ decimal n ∷ []) × (n ≤ 4294967295)

pub count_words : (name : List ℕ) (words : List (List ℕ)) → form_fault (Word (name ∷ []) ∷ word ∷ []) words ≡ None → IsCount name words
count_words name words none =
    one_word (name ∷ []) (word ∷ []) (IsCount name) words none (λ ws none. (
      number 0 4294967295 (omega arith) (λ ws. []) (λ ws. IsCount name (name ∷ ws)) ws none (λ n rest n_in none.
          (n, ap (λ (ws : List (List ℕ)). name ∷ decimal n ∷ ws) (nothing_more rest none), n_in.1)),
      tt,
    ))

-- a line of a key that is held
abbrev IsHeld : ℕ → List (List ℕ) → Type 0
IsHeld version words = (h : KeyName × ℕ) × (words ≡ held_line h) × HeldFits version h

held_words : (version : ℕ) (words : List (List ℕ)) → form_fault (Word (codes "key" ∷ []) ∷ key version ∷ byte ∷ []) words ≡ None → IsHeld version words
held_words version words none =
    one_word (codes "key" ∷ []) (key version ∷ byte ∷ []) (IsHeld version) words none (λ ws none. (
      a_key version (λ ws. byte ∷ []) (λ ws. IsHeld version (codes "key" ∷ ws)) ws none (λ k ws k_in none.
          number 0 255 (omega arith) (λ ws. []) (λ ws. IsHeld version (codes "key" ∷ key_word k ∷ ws)) ws none (λ s rest s_in none.
          ((k, s), ap (λ (ws : List (List ℕ)). codes "key" ∷ key_word k ∷ decimal s ∷ ws) (nothing_more rest none), (k_in, s_in.1)))),
      tt,
    ))

pub held_line_of : (version : ℕ) (whole : List ℕ) → IsFine (held_form version) whole → IsLineOf held_line (HeldFits version) whole
held_line_of version whole fine = from (held_words version (words_in whole) fine.fits)
  where
    from : IsHeld version (words_in whole) → IsLineOf held_line (HeldFits version) whole
    from (h, is, fits) = (h, fine.printed ∙ ap line is, fits)
