-- One word is read.
use Rattle.std.proofs.Common.{◌≡◌, ℕ, Bool, true, List, [], ◌∷◌, ap, sym, ◌∙◌, Result, Ok, Err}
use Rattle.std.proofs.lemmas.Slice.Eq.{bytes_eq-Decides}
use Rattle.std.specs.Result.{IfOk, result_err}
use Rattle.std.specs.Str.{bytes_eq}
use Rattle.sem_trace.specs.declared.fault.Cause.{Cause}
use Rattle.sem_trace.specs.Forms.{Place, place_fault}
use Rattle.sem_trace.specs.Forms.Place.{Word}
use Rattle.sem_trace.specs.Places.{AreRead, Reads}
use Rattle.sem_trace.proofs.PlaceSteps.{fills, faults, the_word}

-- the first word is read, where its place is that of what it spells
pub read_place : {X : Type 0} (place : Place) (text : X → List ℕ) (word : List ℕ) (words all : List (List ℕ)) (result : Result X Cause) → all ≡ word ∷ words →
    place_fault place word ≡ result_err result → IfOk result (λ x. word ≡ text x) → Reads (place ∷ []) (λ x. text x ∷ []) all words result
read_place place text word words all (Ok x) is fits spelled = record {
  filled = λ more. fills more place word words all is fits;
  spelled = is ∙ ap (λ (first : List ℕ). first ∷ words) spelled;
}
read_place place text word words all (Err cause) is fault spelled = λ more. faults more place word words all cause is fault

-- the first word is the only one that can stand in its place
pub read_name : (word name : List ℕ) (words all : List (List ℕ)) (same : Bool) → same ≡ true → same ≡ bytes_eq word name → all ≡ word ∷ words →
    AreRead (Word (name ∷ []) ∷ []) (name ∷ []) all words
read_name word name words all same yes' is first = record {
  filled = λ more. fills more (Word (name ∷ [])) word words all first (the_word word name same yes' is);
  spelled = first ∙ ap (λ (w : List ℕ). w ∷ words) ((bytes_eq-Decides word name).0 (sym is ∙ yes'));
}
