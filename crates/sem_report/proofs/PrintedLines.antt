-- The lines behind the trace of a printed report have no fault.
use Rattle.std.proofs.Common.{◌≡◌, ℕ, zero, suc, ◌+◌, ◌≤◌, true, false, List, [], ◌∷◌, ◌++◌, length, map, replicate, None, refl, ap, subst, ◌⊎◌, inl, inr}
use Rattle.std.proofs.Common.{arith, decimal, length-append}
use Rattle.std.specs.Prelude.{codes}
use Rattle.std.specs.List.{All}
use Rattle.std.specs.Str.{bytes_eq}
use Rattle.std.proofs.lemmas.Fmt.{length-decimal-le, decimal_digit}
use Rattle.std.proofs.lemmas.Slice.Eq.{bytes_eq-Decides}
use Rattle.sem_key.specs.KeyName.{KeyName, kind_number}
use Rattle.sem_msg.specs.declared.entry.Entry.{Entry}
use Rattle.sem_text.specs.Lines.{line}
use Rattle.sem_trace.specs.Ranges.{IsKeyInText}
use Rattle.sem_key.specs.declared.limits.TheConstants.{KERNELS}
use Rattle.sem_trace.specs.Words.{key_word}
use Rattle.sem_trace.specs.Forms.{form_fault}
use Rattle.sem_trace.specs.TextLines.{bytes_fault}
use Rattle.sem_journal.specs.EntryForms.{entry_form, has_long_memory}
use Rattle.sem_journal.specs.EntryText.{entry_words}
use Rattle.sem_journal.specs.EntryRanges.{EntryFits}
use Rattle.sem_journal.specs.ReportText.{held_line}
use Rattle.sem_report.specs.WholeLines.{content}
use Rattle.sem_report.specs.ReportRefusal.{Form, words_in, report_line_fault, forms_fault, report_form, name_form, count_form, held_form}
use Rattle.sem_trace.proofs.PlaceSteps.{no_line_fault, has_form}
use Rattle.sem_trace.proofs.Nodes.{node_small}
use Rattle.sem_reader.proofs.PlainText.{is_plain_word, are_plain, bare, bytes_fit}
use Rattle.sem_journal.proofs.PrintedPlaces.{Leaves, a_name, a_number, a_key, kind_most}
use Rattle.sem_journal.proofs.PrintedEntries.{entry_read}
use Rattle.sem_journal.proofs.PlainEntries.{printed_words}
use Rattle.sem_journal.proofs.LineLength.{short_line}
use Rattle.sem_report.proofs.LineForms.{line_good, entry_words_good}
use Rattle.sem_report.proofs.WholeText.{decimal_plain, line_bare, content_line, words_line}
use Rattle.sem_report.proofs.PlainTrace.{key_plain}

-- lines without a fault, whatever their numbers
abbrev pub AreFine : List Form → List (List ℕ) → Type 0
AreFine forms lines = (n : ℕ) → forms_fault n forms lines ≡ None

pub fine_none : AreFine [] []
unfolding forms_fault
fine_none n = refl

pub fine_more : (form : Form) (forms : List Form) (whole : List ℕ) (lines : List (List ℕ)) → report_line_fault form whole ≡ None → AreFine forms lines →
    AreFine (form ∷ forms) (whole ∷ lines)
unfolding forms_fault
fine_more form forms whole lines good rest n = rw good (rest (n + 1))

-- lines of one form
pub fine_each : {X : Type 0} (words : X → List (List ℕ)) (form : Form) (xs : List X) (forms : List Form) (lines : List (List ℕ)) →
    All (λ x. report_line_fault form (line (words x)) ≡ None) xs → AreFine forms lines →
    AreFine (replicate (length xs) form ++ forms) (map line (map words xs) ++ lines)
fine_each words form [] forms lines each rest = rest
fine_each words form (x ∷ xs) forms lines each rest =
    fine_more form (replicate (length xs) form ++ forms) (line (words x)) (map line (map words xs) ++ lines) (each zero x (omega arith))
    (fine_each words form xs forms lines (λ k d within. each (suc k) d (omega arith)) rest)

-- a line that is printed
printed_fine : (form : Form) (ws : List (List ℕ)) → are_plain ws ≡ true → length (line ws) ≤ 256 → form_fault (form ws) ws ≡ None → has_long_memory ws ≡ false →
    report_line_fault form (line ws) ≡ None
printed_fine form ws plain short fits memory =
    let size : length (line ws) ≡ length (bare ws ++ 10 ∷ []) = ap (λ (bs : List ℕ). length bs) (line_bare ws) in
    let bytes : bytes_fault (content (line ws)) ≡ None =
    rw (content_line ws plain) (bytes_fit ws plain (omega (arith, size, length-append (bare ws) (10 ∷ [])))) in
    let words : words_in (line ws) ≡ ws = words_line ws plain in
    line_good form (line ws) ws bytes (rw words (no_line_fault (form ws) ws fits)) words memory (rw ((bytes_eq-Decides (line ws) (line ws)).1 refl) refl)

filled : Leaves [] [] None
unfolding form_fault
filled = record { is = refl }

ten : (n : ℕ) → n ≤ 4294967295 → length (decimal n) ≤ 10
ten n small = length-decimal-le 10 n (omega arith) (omega arith) (omega arith)

abbrev IsFirst : List ℕ → Type 0
IsFirst version = report_line_fault report_form (line (codes "semper" ∷ codes "report" ∷ version ∷ [])) ≡ None

pub first_fine : (version : ℕ) → (version ≡ 1) ⊎ (version ≡ 2) → IsFirst (decimal version)
unfolding has_long_memory
first_fine version versions =
    elim versions [
      | inl one ↦
          let word : codes "1" ≡ decimal version = rw (one, decimal_digit 1 (omega arith)) refl in
          subst IsFirst word (printed_fine report_form (codes "semper" ∷ codes "report" ∷ codes "1" ∷ []) refl (omega arith)
          (a_name refl (a_name refl (a_name refl filled))).is refl)
      | inr two ↦
          let word : codes "2" ≡ decimal version = rw (two, decimal_digit 2 (omega arith)) refl in
          subst IsFirst word (printed_fine report_form (codes "semper" ∷ codes "report" ∷ codes "2" ∷ []) refl (omega arith)
          (a_name refl (a_name refl (a_name refl filled))).is refl)
    ]

pub name_fine : (name : List ℕ) → is_plain_word name ≡ true → length name ≤ 20 → report_line_fault (name_form name) (line (name ∷ [])) ≡ None
unfolding has_long_memory
name_fine name plain short =
    let same : bytes_eq name name ≡ true = (bytes_eq-Decides name name).1 refl in
    printed_fine (name_form name) (name ∷ []) (rw plain refl) (omega (arith, length-append (name ++ []) (10 ∷ []), length-append name []))
    (a_name (rw same refl) filled).is refl

pub count_fine : (name : List ℕ) (n : ℕ) → is_plain_word name ≡ true → length name ≤ 20 → n ≤ 4294967295 →
    report_line_fault (count_form name) (line (name ∷ decimal n ∷ [])) ≡ None
unfolding has_long_memory
count_fine name n plain short small =
    let same : bytes_eq name name ≡ true = (bytes_eq-Decides name name).1 refl in
    let all : length (line (name ∷ decimal n ∷ [])) ≡ length name + (1 + length (decimal n)) + 1 =
    rw (length-append, length-append, length-append) (omega arith) in
    printed_fine (count_form name) (name ∷ decimal n ∷ []) (rw (plain, decimal_plain n) refl) (omega (arith, all, ten n small))
    (a_name (rw same refl) (a_number n (omega arith) small (omega arith) filled)).is refl

key_short : (version : ℕ) (k : KeyName) → IsKeyInText version k → length (key_word k) ≤ 43
key_short version k valid =
    let pe = ten k.pe (omega (arith, node_small version k.pe valid.0)) in
    let vpe = ten k.vpe (omega (arith, node_small version k.vpe valid.1)) in
    let kind = ten (kind_number k.kind) (omega (arith, kind_most k.kind)) in
    let number = ten k.number (omega (arith, valid.2)) in
    let all : length (key_word k) ≡ length (decimal k.pe) + (1 + length (decimal k.vpe)) + (1 + length (decimal (kind_number k.kind)))
    + (1 + length (decimal k.number)) = rw (length-append, length-append, length-append) (omega arith) in
    omega arith

pub held_fine : (version : ℕ) (h : KeyName × ℕ) → IsKeyInText version h.0 × (h.1 ≤ 255) → report_line_fault (held_form version) (line (held_line h)) ≡ None
unfolding has_long_memory
held_fine version h fits =
    let small : h.1 ≤ 255 = fits.1 in
    let all : length (line (held_line h)) ≡ 3 + (1 + length (key_word h.0) + (1 + length (decimal h.1))) + 1 =
    rw (length-append, length-append, length-append) (omega (arith, length-append (decimal h.1) [])) in
    printed_fine (held_form version) (held_line h) (rw (key_plain h.0, decimal_plain h.1) refl) (omega (
      arith,
      all,
      key_short version h.0 fits.0,
      ten h.1 (omega arith),
    )) (a_name refl (a_key version h.0 fits.0 (a_number h.1 (omega arith) small (omega arith) filled))).is refl

pub entry_fine : (version kernels : ℕ) (e : Entry) → 1 ≤ kernels → kernels ≤ KERNELS → EntryFits version kernels e →
    report_line_fault (entry_form version kernels) (line (entry_words e)) ≡ None
entry_fine version kernels e some few fits =
    let good = entry_words_good version kernels (entry_words e) (entry_read version kernels e some few fits) in
    printed_fine (entry_form version kernels) (entry_words e) (printed_words version kernels e few fits) (omega (arith, short_line version kernels e few fits))
    (has_form _ _ good.0) good.1
