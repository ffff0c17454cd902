-- Lines against their forms, and lines that differ.
use Rattle.std.proofs.Common.{◌≡◌, ℕ, ◌+◌, true, false, List, [], ◌∷◌, Option, Some, None, refl, sym, ap, ◌∙◌, ◌⊎◌, inl, inr}
use Rattle.std.specs.Str.{bytes_eq}
use Rattle.std.proofs.lemmas.Bool.{cases_Bool}
use Rattle.std.proofs.lemmas.Slice.Eq.{bytes_eq-Decides}
use Rattle.std.proofs.lemmas.Option.{none-some, same_Some}
use Rattle.std.specs.Prelude.{if◌then◌else◌}
use Rattle.sem_text.specs.Lines.{line}
use Rattle.sem_trace.specs.declared.fault.Cause.{Cause}
use Rattle.sem_trace.specs.declared.fault.LineFault.{LineFault}
use Rattle.sem_trace.specs.declared.fault.Cause.TheVariants.{OutOfRange, NotCanonical}
use Rattle.sem_trace.specs.TextLines.{bytes_fault}
use Rattle.sem_trace.specs.Forms.{word_fault, whole_line, at_word}
use Rattle.sem_journal.specs.EntryForms.{entry_form, entry_fault, has_long_memory, long_word}
use Rattle.sem_report.specs.WholeLines.{content}
use Rattle.sem_report.specs.ReportRefusal.{Form, words_in, report_line_fault, first_difference}

pub cases_Option : {X : Type 0} (o : Option X) → (o ≡ None) ⊎ ((x : X) × (o ≡ Some x))
cases_Option None = inl refl
cases_Option (Some x) = inr (x, refl)

-- a text does not differ from itself
pub nothing_differs : (n : ℕ) (lines : List (List ℕ)) → first_difference n lines lines ≡ None
unfolding first_difference
nothing_differs n [] = refl
nothing_differs n (line ∷ lines) = rw ((bytes_eq-Decides line line).1 refl) (nothing_differs (n + 1) lines)

pub shorter_differs : (first number : ℕ) (a b rest others others' : List (List ℕ)) (other : List ℕ) →
    first_difference first a b ≡ first_difference number rest others → rest ≡ [] → others ≡ other ∷ others' → Some number ≡ first_difference first a b
unfolding first_difference
shorter_differs first number a b rest others others' other same none some = sym (same ∙ (rw (none, some) refl))

pub both_end : (first number : ℕ) (a b rest others : List (List ℕ)) → first_difference first a b ≡ first_difference number rest others → rest ≡ [] →
    others ≡ [] → None ≡ first_difference first a b
unfolding first_difference
both_end first number a b rest others same none none' = sym (same ∙ (rw (none, none') refl))

pub longer_differs : (first number : ℕ) (a b rest others rest' : List (List ℕ)) (line : List ℕ) →
    first_difference first a b ≡ first_difference number rest others → rest ≡ line ∷ rest' → others ≡ [] → Some number ≡ first_difference first a b
unfolding first_difference
longer_differs first number a b rest others rest' line same some none = sym (same ∙ (rw (some, none) refl))

pub line_differs : (first number : ℕ) (a b rest others rest' others' : List (List ℕ)) (line other : List ℕ) →
    first_difference first a b ≡ first_difference number rest others → rest ≡ line ∷ rest' → others ≡ other ∷ others' → bytes_eq line other ≡ false →
    Some number ≡ first_difference first a b
unfolding first_difference
line_differs first number a b rest others rest' others' line other same is is' differ = sym (same ∙ (rw (is, is', differ) refl))

pub line_same : (first number : ℕ) (a b rest others rest' others' : List (List ℕ)) (line other : List ℕ) →
    first_difference first a b ≡ first_difference number rest others → rest ≡ line ∷ rest' → others ≡ other ∷ others' → bytes_eq line other ≡ true →
    first_difference first a b ≡ first_difference (number + 1) rest' others'
unfolding first_difference
line_same first number a b rest others rest' others' line other same is is' equal = same ∙ (rw (is, is', equal) refl)

-- What is wrong with a line of a report: its bytes, its words, its spelling.
pub bytes_bad : (form : Form) (whole : List ℕ) (cause : Cause) → bytes_fault (content whole) ≡ Some cause →
    report_line_fault form whole ≡ Some (whole_line cause)
unfolding report_line_fault
bytes_bad form whole cause bad = rw bad refl

pub words_bad : (form : Form) (whole : List ℕ) (fault : LineFault) → bytes_fault (content whole) ≡ None →
    word_fault (form (words_in whole)) (words_in whole) ≡ Some fault → report_line_fault form whole ≡ Some fault
unfolding report_line_fault
words_bad form whole fault text bad = rw (text, bad) refl

pub spelling_bad : (form : Form) (whole : List ℕ) (words : List (List ℕ)) (cause : Cause) → bytes_fault (content whole) ≡ None →
    word_fault (form (words_in whole)) (words_in whole) ≡ None → words_in whole ≡ words → has_long_memory words ≡ false →
    (if bytes_eq whole (line words) then None else Some NotCanonical) ≡ Some cause → report_line_fault form whole ≡ Some (whole_line cause)
unfolding report_line_fault
spelling_bad form whole words cause text fits are short bad =
    elim (cases_Bool (bytes_eq whole (line words))) [
      | inl same ↦ absurd (none-some cause (rw same at bad))
      | inr other ↦ rw (text, fits, are, short, other) (ap (λ (c : Cause). Some (whole_line c)) (same_Some NotCanonical cause (rw other at bad)))
    ]

pub line_good : (form : Form) (whole : List ℕ) (words : List (List ℕ)) → bytes_fault (content whole) ≡ None →
    word_fault (form (words_in whole)) (words_in whole) ≡ None → words_in whole ≡ words → has_long_memory words ≡ false →
    (if bytes_eq whole (line words) then None else Some NotCanonical) ≡ None → report_line_fault form whole ≡ None
unfolding report_line_fault
line_good form whole words text fits are short good =
    elim (cases_Bool (bytes_eq whole (line words))) [
      | inl same ↦ rw (text, fits, are, short, same) refl
      | inr other ↦ absurd (none-some NotCanonical (sym (rw other at good)))
    ]

-- a line that is spelled as it is printed
pub spelled : (whole printed : List ℕ) → (if bytes_eq whole printed then None else Some NotCanonical) ≡ None → whole ≡ printed
spelled whole printed good = elim (cases_Bool (bytes_eq whole printed)) [
  | inl same ↦ (bytes_eq-Decides whole printed).0 same
  | inr other ↦ absurd (none-some NotCanonical (sym (rw other at good)))
]

-- the fault of an entry is that of its words or of its memory
pub entry_words_bad : (version kernels : ℕ) (whole : List ℕ) (fault : LineFault) → bytes_fault (content whole) ≡ None →
    entry_fault version kernels (words_in whole) ≡ Some fault → report_line_fault (entry_form version kernels) whole ≡ Some fault
unfolding report_line_fault entry_fault
entry_words_bad version kernels whole fault text bad =
    elim (cases_Option (word_fault (entry_form version kernels (words_in whole)) (words_in whole))) [
      | inl none ↦ elim (cases_Bool (has_long_memory (words_in whole))) [
        | inl long ↦ rw (text, none, long) (rw (none, long) at bad)
        | inr short ↦ absurd (none-some fault (rw (none, short) at bad))
      ]
      | inr some ↦ rw (text, some.1) (rw some.1 at bad)
    ]

pub entry_words_good : (version kernels : ℕ) (words : List (List ℕ)) → entry_fault version kernels words ≡ None →
    (word_fault (entry_form version kernels words) words ≡ None) × (has_long_memory words ≡ false)
unfolding entry_fault
entry_words_good version kernels words good =
    elim (cases_Option (word_fault (entry_form version kernels words) words)) [
      | inl none ↦ elim (cases_Bool (has_long_memory words)) [
        | inl long ↦ absurd (none-some (at_word (long_word words) OutOfRange) (sym (rw (none, long) at good)))
        | inr short ↦ (none, short)
      ]
      | inr some ↦ absurd (none-some some.0 (sym (rw some.1 at good)))
    ]
