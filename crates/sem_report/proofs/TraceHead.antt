-- The first line of the trace in a report tells the version of the report.
use Rattle.std.proofs.Common.{◌≡◌, ℕ, ◌+◌, ◌<◌, ◌≤◌, ◌^◌, true, false, ◌⊎◌, inl, inr, List, [], ◌∷◌, length, map, Option, Some, None, refl, ap, sym, ◌∙◌, arith}
use Rattle.std.proofs.Common.{decimal, length-append}
use Rattle.std.specs.Prelude.{codes, slice_index_or}
use Rattle.std.specs.Option.{option_or, option_map}
use Rattle.std.proofs.lemmas.Bool.{cases_Bool}
use Rattle.std.proofs.lemmas.Fmt.{length-decimal-le}
use Rattle.std.proofs.lemmas.Option.{none-some}
use Rattle.sem_msg.specs.Setup.{Setup}
use Rattle.sem_text.specs.Lines.{line}
use Rattle.sem_trace.specs.LineErrors.{fault_of}
use Rattle.sem_trace.specs.declared.fault.Cause.{Cause}
use Rattle.sem_trace.specs.declared.fault.LineFault.{LineFault}
use Rattle.sem_trace.specs.declared.fault.TraceFault.{TraceFault}
use Rattle.sem_trace.specs.TextLines.{words_of, is_significant, significant, bytes_fault}
use Rattle.sem_trace.specs.Forms.{form_fault, word_fault, whole_line}
use Rattle.sem_trace.specs.Earlier.{is_ended}
use Rattle.sem_trace.specs.Refusal.{version_in, version_of, declarations_of, first_fault, end_fault, lines_refusal}
use Rattle.sem_trace.specs.TraceText.{trace_lines}
use Rattle.sem_trace.proofs.PlaceSteps.{unmapped, has_form, no_line_fault}
use Rattle.sem_reader.proofs.Decimals.{digits-decimal}
use Rattle.sem_reader.proofs.PlainText.{are_plain, bare, bytes_fit, words_printed}
use Rattle.sem_journal.proofs.EntryParts.{exactly_fits, exactly_is}
use Rattle.sem_report.specs.WholeLines.{content}
use Rattle.sem_report.specs.ReportRefusal.{trace_form, head_fault}
use Rattle.sem_report.proofs.WholeText.{decimal_plain, content_line}

pub small_version : (version : ℕ) → (version ≡ 1) ⊎ (version ≡ 2) → version < 2 ^ 64
small_version version versions =
    elim versions [
      | inl one ↦ omega (arith, one)
      | inr two ↦ omega (arith, two)
    ]

-- the words of the first line
abbrev first_words : ℕ → List (List ℕ)
first_words version = codes "semper" ∷ codes "trace" ∷ decimal version ∷ []

or_none : (o p : Option TraceFault) → option_or o p ≡ None → (o ≡ None) × (p ≡ None)
or_none None p none = (refl, none)
or_none (Some fault) p none = absurd (none-some fault (sym none))

words_tell : (version : ℕ) (words : List (List ℕ)) → version < 2 ^ 64 → form_fault (trace_form version) words ≡ None → version_in words ≡ version
words_tell version words small fits = ap version_in (exactly_is (first_words version) words fits) ∙ (digits-decimal version small).1

-- the first line that says something tells the version
first_tells : (version n : ℕ) (lines : List (List ℕ)) → version < 2 ^ 64 → head_fault version n lines ≡ None →
    (significant lines ≡ []) ⊎ (version_in (slice_index_or (significant lines) 0 []) ≡ version)
unfolding head_fault
first_tells version n [] small none = inl refl
first_tells version n (line ∷ lines) small none =
    let both = or_none (option_map (fault_of n) (option_map whole_line (bytes_fault line))) _ none in
    elim (cases_Bool (is_significant (words_of line))) [
      | inl says ↦ rw says
          (inr (words_tell version (words_of line) small (has_form (trace_form version) (words_of line)
          (unmapped (fault_of n) (word_fault (trace_form version) (words_of line)) (rw says at both.1)))))
      | inr silent ↦ rw silent (first_tells version (n + 1) lines small (rw silent at both.1))
    ]

-- lines that are accepted say something
says_something : (lines : List (List ℕ)) → lines_refusal lines ≡ None → significant lines ≡ [] → ⊥
unfolding end_fault declarations_of is_ended
says_something lines accepted nothing =
    let none : end_fault lines ≡ None = (or_none (first_fault lines) (end_fault lines) accepted).1 in
    absurd (none-some _ (sym (rw nothing at none)))

pub version_told : (version n : ℕ) (lines : List (List ℕ)) → (version ≡ 1) ⊎ (version ≡ 2) → head_fault version n lines ≡ None → lines_refusal lines ≡ None →
    version_of lines ≡ version
unfolding version_of
version_told version n lines versions none accepted =
    elim (first_tells version n lines (small_version version versions) none) [
      | inl nothing ↦ absurd (says_something lines accepted nothing)
      | inr told ↦ told
    ]

-- The lines of a section, one after another.
pub head_nothing : (version first number : ℕ) (all rest : List (List ℕ)) →
    head_fault version first (map content all) ≡ head_fault version number (map content rest) → rest ≡ [] → None ≡ head_fault version first (map content all)
unfolding head_fault
head_nothing version first number all rest same none = sym (same ∙ (rw none refl))

pub head_bytes : (version first number : ℕ) (all rest behind : List (List ℕ)) (whole : List ℕ) (cause : Cause) →
    head_fault version first (map content all) ≡ head_fault version number (map content rest) → rest ≡ whole ∷ behind →
    bytes_fault (content whole) ≡ Some cause → Some (fault_of number (whole_line cause)) ≡ head_fault version first (map content all)
unfolding head_fault
head_bytes version first number all rest behind whole cause same is bad = sym (same ∙ (rw (is, bad) refl))

pub head_words : (version first number : ℕ) (all rest behind : List (List ℕ)) (whole : List ℕ) (o : Option LineFault) →
    head_fault version first (map content all) ≡ head_fault version number (map content rest) → rest ≡ whole ∷ behind → bytes_fault (content whole) ≡ None →
    is_significant (words_of (content whole)) ≡ true → word_fault (trace_form version) (words_of (content whole)) ≡ o →
    option_map (fault_of number) o ≡ head_fault version first (map content all)
unfolding head_fault
head_words version first number all rest behind whole o same is good says fault = sym (same ∙ (rw (is, good, says, fault) refl))

pub head_next : (version first number : ℕ) (all rest behind : List (List ℕ)) (whole : List ℕ) →
    head_fault version first (map content all) ≡ head_fault version number (map content rest) → rest ≡ whole ∷ behind → bytes_fault (content whole) ≡ None →
    is_significant (words_of (content whole)) ≡ false → head_fault version first (map content all) ≡ head_fault version (number + 1) (map content behind)
unfolding head_fault
head_next version first number all rest behind whole same is good silent = same ∙ (rw (is, good, silent) refl)

-- the first line of a printed trace
pub head_printed : (T : Setup) → (T.version ≡ 1) ⊎ (T.version ≡ 2) → head_fault T.version 2 (map content (map line (trace_lines T))) ≡ None
unfolding head_fault
head_printed T versions =
    let first : List (List ℕ) = first_words T.version in
    let plain : are_plain first ≡ true = rw (decimal_plain T.version) refl in
    let text : content (line first) ≡ bare first = content_line first plain in
    let words : words_of (bare first) ≡ first = words_printed first plain in
    let bytes : bytes_fault (bare first) ≡ None = bytes_fit first plain (short T.version (small_version T.version versions)) in
    rw (text, bytes, words, no_line_fault (trace_form T.version) first (exactly_fits first)) refl
  where
    short : (n : ℕ) → n < 2 ^ 64 → length (bare (first_words n)) ≤ 255
    short n small = omega (arith, length-append (decimal n) [], length-decimal-le 20 n (omega arith) (omega arith) (omega arith))
