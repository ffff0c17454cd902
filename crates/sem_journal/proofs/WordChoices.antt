-- One of some words in its place, and places behind places.
use Rattle.std.proofs.Common.{◌≡◌, ℕ, Some, false, true≢false, List, ◌++◌, append_assoc, sym, ◌∙◌}
use Rattle.std.proofs.lemmas.Bool.{false_from_ne_true}
use Rattle.std.proofs.lemmas.Slice.Eq.{bytes_eq-Decides}
use Rattle.std.specs.Bool.{Decides}
use Rattle.std.specs.Str.{bytes_eq}
use Rattle.sem_trace.specs.declared.fault.Cause.{Cause}
use Rattle.sem_trace.specs.Forms.{Place, form_fault}
use Rattle.sem_trace.specs.Places.{Fills}

-- a word that a test did not find
pub differs : (word name : List ℕ) → Decides false (word ≡ name) → bytes_eq word name ≡ false
differs word name decides = false_from_ne_true _ (λ same. true≢false (sym (decides.1 ((bytes_eq-Decides word name).0 same))))

-- places that are filled one after another
pub filled_both : (places behind same : List Place) (old mid new : List (List ℕ)) → same ≡ behind → Fills places old mid → Fills behind mid new →
    Fills (places ++ same) old new
filled_both places behind same old mid new is first second more =
    rw (is, append_assoc places behind more) (first (behind ++ more) ∙ second more)

-- the places are not filled, whatever places follow
abbrev pub FailsAt : List Place → List (List ℕ) → Cause × ℕ → Type 0
FailsAt places words fault = (more : List Place) → form_fault (places ++ more) words ≡ Some fault

-- the first that is not filled, behind others or before others
pub failed_behind : (places behind same : List Place) (old mid : List (List ℕ)) (fault : Cause × ℕ) → same ≡ behind → Fills places old mid →
    FailsAt behind mid fault → FailsAt (places ++ same) old fault
failed_behind places behind same old mid fault is first second more =
    rw (is, append_assoc places behind more) (first (behind ++ more) ∙ second more)

pub failed_before : (places behind : List Place) (old : List (List ℕ)) (fault : Cause × ℕ) → FailsAt places old fault → FailsAt (places ++ behind) old fault
failed_before places behind old fault first more = rw (append_assoc places behind more) (first (behind ++ more))
