-- The trace in a report.
use Rattle.std.proofs.Common.{◌≡◌, ℕ, zero, suc, ◌+◌, ◌≤◌, ◌==◌, List, [], ◌∷◌, length, map, Option, Some, None, refl, ap, sym, ◌∙◌, arith, eqb-true, ◌⊎◌, inl}
use Rattle.std.proofs.Common.{inr}
use Rattle.std.specs.List.{range_with_len, onto_first, flat_map}
use Rattle.std.specs.Option.{option_map}
use Rattle.std.specs.Str.{bytes_eq}
use Rattle.std.proofs.lemmas.Bool.{cases_Bool}
use Rattle.std.proofs.lemmas.List.{length-map}
use Rattle.std.proofs.lemmas.Option.{none-some, same_Some}
use Rattle.std.proofs.lemmas.Slice.Eq.{bytes_eq-Decides}
use Rattle.sem_report.proofs.LineForms.{cases_Option}
use Rattle.sem_msg.specs.Setup.{Setup}
use Rattle.sem_trace.specs.LineErrors.{fault_of}
use Rattle.sem_trace.specs.declared.fault.LineFault.{LineFault}
use Rattle.sem_trace.specs.Forms.{whole_line}
use Rattle.sem_trace.specs.declared.fault.Cause.TheVariants.{NotCanonical}
use Rattle.sem_trace.specs.declared.fault.TraceFault.{TraceFault}
use Rattle.sem_trace.specs.declared.fault.TraceError.{TraceError}
use Rattle.sem_trace.specs.declared.fault.TraceError.TheVariants.{Refused as RefusedText, Memory as NoMemory}
use Rattle.sem_trace.specs.TextLines.{lines_of}
use Rattle.sem_trace.specs.Earlier.{first_some, is_ended}
use Rattle.sem_trace.specs.Refusal.{fault_at, first_fault, end_fault, lines_refusal, numbers, declarations_of, version_of, kernels_of}
use Rattle.sem_trace.specs.SetupOfText.{Declare, IsWhy, setup_of}
use Rattle.sem_trace.specs.TraceText.{canonical}
use Rattle.sem_report.specs.WholeLines.{whole_lines, content}
use Rattle.sem_report.specs.ReportRefusal.{head_fault, trace_refusal, first_difference, setup_in}
use Rattle.sem_report.specs.ReadsReport.{IsBelow, later}
use Rattle.sem_report.proofs.TextInLines.{lines-whole}
use Rattle.sem_report.proofs.TraceHead.{version_told}

-- the number of a refused line is at most one more than there are lines
some_below : (n : ℕ) (h : ℕ → Option TraceFault) (from count : ℕ) (fault : TraceFault) → ((i : ℕ) (f : TraceFault) → h i ≡ Some f → f.line ≡ i + 1) →
    from + count ≤ n → first_some h (range_with_len from count) ≡ Some fault → fault.line ≤ n
some_below n h from zero fault number within found = absurd (none-some fault found)
some_below n h from (suc count) fault number within found =
    elim (cases_Option (h from)) [
      | inl none ↦ some_below n h (from + 1) count fault number (omega arith) (rw none at found)
      | inr some ↦
          let same : some.0 ≡ fault = same_Some some.0 fault (rw some.1 at found) in
          let line : some.0.line ≡ from + 1 = number from some.0 some.1 in
          rw (← same) (omega arith)
    ]

fault_line : (lines : List (List ℕ)) (i : ℕ) (f : TraceFault) → fault_at lines i ≡ Some f → f.line ≡ i + 1
unfolding fault_at
fault_line lines i f found = mapped _ i f found
  where
    mapped : (o : Option LineFault) (i : ℕ) (f : TraceFault) → option_map (fault_of (i + 1)) o ≡ Some f → f.line ≡ i + 1
    mapped None i f found = absurd (none-some f found)
    mapped (Some cause) i f found = ap (λ (g : TraceFault). g.line) (sym (same_Some _ f found))

pub refusal_below : (lines : List (List ℕ)) (fault : TraceFault) → lines_refusal lines ≡ Some fault → fault.line ≤ length lines + 1
unfolding first_fault numbers end_fault
refusal_below lines fault found =
    elim (cases_Option (first_fault lines)) [
      | inl none ↦ elim (cases_Bool (is_ended (declarations_of lines))) [
        | inl ended ↦ absurd (none-some fault (rw (none, ended) at found))
        | inr going ↦ let same = same_Some _ fault (rw (none, going) at found) in
            let line : length lines + 1 ≡ fault.line = ap (λ (g : TraceFault). g.line) same in omega arith
      ]
      | inr some ↦
          let same : some.0 ≡ fault = same_Some some.0 fault (rw some.1 at found) in
          let small : some.0.line ≤ length lines = some_below (length lines) (fault_at lines) 0 (length lines) some.0 (fault_line lines) (omega arith) some.1 in
          rw (← same) (omega arith)
    ]

-- a text has at most as many lines as bytes
onto-length : (b : ℕ) (lines : List (List ℕ)) → length (onto_first b lines) ≤ length lines + 1
onto-length b [] = omega arith
onto-length b (line ∷ lines) = omega arith

pub whole-short : (bs : List ℕ) → length (whole_lines bs) ≤ length bs
unfolding whole_lines
whole-short [] = omega arith
whole-short (b ∷ bs) =
    elim (cases_Bool (b == 10)) [
      | inl end ↦ rw end (let rest = whole-short bs in omega arith)
      | inr other ↦ rw other (let rest = whole-short bs in omega (arith, onto-length b (whole_lines bs)))
    ]

-- the lines of a text make it up
pub whole-parts : (bs : List ℕ) → flat_map (λ (line : List ℕ). line) (whole_lines bs) ≡ bs
unfolding whole_lines
whole-parts [] = refl
whole-parts (b ∷ bs) =
    elim (cases_Bool (b == 10)) [
      | inl end ↦ rw (end, whole-parts bs, eqb-true b 10 end) refl
      | inr other ↦ rw other (onto-parts b (whole_lines bs) ∙ ap (λ (l : List ℕ). b ∷ l) (whole-parts bs))
    ]
  where
    onto-parts : (b : ℕ) (lines : List (List ℕ)) → flat_map (λ (line : List ℕ). line) (onto_first b lines) ≡ b ∷ flat_map (λ (line : List ℕ). line) lines
    onto-parts b [] = refl
    onto-parts b (line ∷ lines) = refl

-- the lines of the section of a trace
pub section_lines : (section : List ℕ) (lines : List (List ℕ)) → whole_lines section ≡ lines → lines_of section ≡ map content lines
section_lines section lines is = lines-whole section ∙ ap (map content) is

pub section_below : (section : List ℕ) (lines : List (List ℕ)) (e : TraceError) → whole_lines section ≡ lines → length section ≤ 500000000 →
    IsWhy (lines_refusal (lines_of section)) e → IsBelow 500000002 e
section_below section lines (RefusedText fault) is short why =
    let small = refusal_below (lines_of section) fault why in
    let many : length (lines_of section) ≡ length (whole_lines section) = ap length (lines-whole section) ∙ length-map (whole_lines section) content in
    omega (arith, whole-short section)
section_below section lines NoMemory is short why = tt

pub section_refused : (version : ℕ) (section : List ℕ) (lines : List (List ℕ)) (e : TraceError) → whole_lines section ≡ lines →
    head_fault version 2 (map content lines) ≡ None → IsWhy (lines_refusal (lines_of section)) e → IsWhy (trace_refusal version lines) (later e)
section_refused version section lines (RefusedText fault) is head why = rw (head, rw (section_lines section lines is) at why) refl
section_refused version section lines NoMemory is head why = tt

pub section_declares : (section : List ℕ) (lines : List (List ℕ)) (T : Setup) → whole_lines section ≡ lines → Declare (lines_of section) T → T ≡ setup_in lines
section_declares section lines T is declare = declare.declared
    ∙ ap (λ (ls : List (List ℕ)). setup_of (version_of ls) (kernels_of ls) (declarations_of ls)) (section_lines section lines is)

-- the section of a trace whose first line is wrong, or tells the version
pub head_refused : (version : ℕ) (lines : List (List ℕ)) (fault : TraceFault) → head_fault version 2 (map content lines) ≡ Some fault →
    trace_refusal version lines ≡ Some fault
head_refused version lines fault head = rw head refl

pub section_version : (version : ℕ) (section : List ℕ) (lines : List (List ℕ)) (T : Setup) → (version ≡ 1) ⊎ (version ≡ 2) → whole_lines section ≡ lines →
    head_fault version 2 (map content lines) ≡ None → Declare (lines_of section) T → T.version ≡ version
unfolding setup_of
section_version version section lines T versions is head declare =
    ap (λ (S : Setup). S.version) declare.declared
    ∙ version_told version 2 (lines_of section) versions (rw (section_lines section lines is) head) declare.accepted

-- the spelling of the section of a trace, which is printed so
pub section_spelled : (version : ℕ) (section printed : List ℕ) (lines : List (List ℕ)) (T : Setup) (o : Option ℕ) → whole_lines section ≡ lines →
    Declare (lines_of section) T → head_fault version 2 (map content lines) ≡ None → printed ≡ canonical T →
    o ≡ first_difference 2 (whole_lines section) (whole_lines printed) → trace_refusal version lines ≡ option_map (λ n. fault_of n (whole_line NotCanonical)) o
section_spelled version section printed lines T o is declare head text found =
    let fine : lines_refusal (map content lines) ≡ None = rw (section_lines section lines is) at declare.accepted in
    let same : T ≡ setup_in lines = section_declares section lines T is declare in
    let difference : first_difference 2 lines (whole_lines (canonical (setup_in lines))) ≡ o = sym (found ∙ (rw (is, text, same) refl)) in
    rw (head, fine, difference) refl

-- two texts without a difference are the same
no_difference : (n : ℕ) (lines others : List (List ℕ)) → first_difference n lines others ≡ None → lines ≡ others
unfolding first_difference
no_difference n [] [] none = refl
no_difference n [] (other ∷ others) none = absurd (none-some n (sym none))
no_difference n (line ∷ lines) [] none = absurd (none-some n (sym none))
no_difference n (line ∷ lines) (other ∷ others) none =
    elim (cases_Bool (bytes_eq line other)) [
      | inl same ↦ let first : line ≡ other = (bytes_eq-Decides line other).0 same in
          let rest : lines ≡ others = no_difference (n + 1) lines others (rw same at none) in rw (first, rest) refl
      | inr differ ↦ absurd (none-some n (sym (rw differ at none)))
    ]

pub same_text : (n : ℕ) (section printed : List ℕ) → None ≡ first_difference n (whole_lines section) (whole_lines printed) → section ≡ printed
same_text n section printed none = sym (whole-parts section)
    ∙ (ap (flat_map (λ (line : List ℕ). line)) (no_difference n (whole_lines section) (whole_lines printed) (sym none)) ∙ whole-parts printed)

pub section_count : (section : List ℕ) (lines : List (List ℕ)) (number : ℕ) → whole_lines section ≡ lines → number ≡ length lines → number ≤ length section
section_count section lines number is count = let same : length (whole_lines section) ≡ length lines = ap length is in omega (arith, whole-short section)
