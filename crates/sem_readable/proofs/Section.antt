-- A section of a trace without a refusal is the canonical text of a setup.
use Rattle.std.proofs.Common.{◌≡◌, ℕ, ◌+◌, ◌⊎◌, inl, inr, List, [], ◌∷◌, ◌++◌, length, drop, map, None, refl, ap, sym, ◌∙◌}
use Rattle.std.specs.Prelude.{flat_map}
use Rattle.std.specs.Option.{option_map}
use Rattle.std.specs.Str.{bytes_eq}
use Rattle.std.proofs.lemmas.Bool.{cases_Bool}
use Rattle.std.proofs.lemmas.Option.{none-some}
use Rattle.std.proofs.lemmas.Slice.Eq.{bytes_eq-Decides}
use Rattle.sem_msg.specs.Setup.{Setup, IsSetup}
use Rattle.sem_trace.specs.Refusal.{lines_refusal}
use Rattle.sem_trace.specs.SetupOfText.{setup_of}
use Rattle.sem_trace.specs.TraceText.{canonical}
use Rattle.sem_report.specs.WholeLines.{whole_lines, content}
use Rattle.sem_report.specs.ReportRefusal.{is_end_line, trace_section, setup_in, head_fault, line_later, trace_refusal, spelling_fault, first_difference}
use Rattle.sem_report.proofs.TraceHead.{version_told}
use Rattle.sem_report.proofs.TraceInReport.{whole-parts}
use Rattle.sem_readable.proofs.Values.{none_of}
use Rattle.sem_readable.proofs.FineLines.{mapped_none}
use Rattle.sem_reader.proofs.StandingSetup.{accepted_setup}

-- lines put together
abbrev pub joined : List (List ℕ) → List ℕ
joined = flat_map (λ (whole : List ℕ). whole)

-- two lists of lines without a difference are the same
no_difference : (n : ℕ) (lines others : List (List ℕ)) → first_difference n lines others ≡ None → lines ≡ others
unfolding first_difference
no_difference n [] [] none = refl
no_difference n [] (other ∷ others) none = absurd (none-some n (sym none))
no_difference n (whole ∷ lines) [] none = absurd (none-some n (sym none))
no_difference n (whole ∷ lines) (other ∷ others) none =
    elim (cases_Bool (bytes_eq whole other)) [
      | inl same ↦ let first : whole ≡ other = (bytes_eq-Decides whole other).0 same in
          let rest : lines ≡ others = no_difference (n + 1) lines others (rw same at none) in λ i. first i ∷ rest i
      | inr differ ↦ absurd (none-some n (sym (rw differ at none)))
    ]

-- the section is the front of the lines
pub section_first : (lines : List (List ℕ)) → trace_section lines ++ drop (length (trace_section lines)) lines ≡ lines
unfolding trace_section
section_first [] = refl
section_first (whole ∷ lines) = elim (cases_Bool (is_end_line whole)) [
  | inl end ↦ rw end refl
  | inr inner ↦ rw inner (ap (λ (ls : List (List ℕ)). whole ∷ ls) (section_first lines))
]

-- a setup of that version, whose canonical text the lines are
pub record IsTrace (version : ℕ) (section : List (List ℕ)) (T : Setup) : Type 0 where
  pub setup : IsSetup T
  pub tells : T.version ≡ version
  pub text : joined section ≡ canonical T

pub a_trace : (version : ℕ) (section : List (List ℕ)) → (version ≡ 1) ⊎ (version ≡ 2) → trace_refusal version section ≡ None →
    IsTrace version section (setup_in section)
unfolding setup_of
a_trace version section versions none =
    let head = none_of (head_fault version 2 (map content section)) _ none in
    let lines = none_of (option_map line_later (lines_refusal (map content section))) (spelling_fault section (setup_in section)) head.1 in
    let accepted : lines_refusal (map content section) ≡ None = mapped_none line_later _ lines.0 in
    let same : section ≡ whole_lines (canonical (setup_in section)) =
    no_difference 2 section (whole_lines (canonical (setup_in section))) (mapped_none _ _ lines.1) in
    record {
      setup = accepted_setup (map content section) accepted;
      tells = version_told version 2 (map content section) versions head.0 accepted;
      text = ap joined same ∙ whole-parts (canonical (setup_in section));
    }
