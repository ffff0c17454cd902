-- Each text has one reading.
use Rattle.std.proofs.Common.{◌≡◌, ℕ, ◌⊎◌, List, Option, Some, None, inl, inr, refl, sym, ◌∙◌}
use Rattle.std.proofs.lemmas.Option.{none-some, same_Some}
use Rattle.sem_msg.specs.Setup.{Setup}
use Rattle.sem_trace.specs.declared.fault.TraceFault.{TraceFault}
use Rattle.sem_trace.specs.TextLines.{lines_of}
use Rattle.sem_trace.specs.Refusal.{version_of, kernels_of, declarations_of, refusal}
use Rattle.sem_trace.specs.SetupOfText.{setup_of, Stands}

read_or_refused : (bytes : List ℕ) (o : Option TraceFault) → refusal bytes ≡ o →
    ((T : Setup) × Stands bytes T) ⊎ ((fault : TraceFault) × (refusal bytes ≡ Some fault))
read_or_refused bytes None is = inl (
  setup_of (version_of (lines_of bytes)) (kernels_of (lines_of bytes)) (declarations_of (lines_of bytes)),
  record { accepted = is; declared = refl },
)
read_or_refused bytes (Some fault) is = inr (fault, is)

pub either : (bytes : List ℕ) → ((T : Setup) × Stands bytes T) ⊎ ((fault : TraceFault) × (refusal bytes ≡ Some fault))
either bytes = read_or_refused bytes (refusal bytes) refl

pub one_setup : (bytes : List ℕ) (S T : Setup) → Stands bytes S → Stands bytes T → S ≡ T
one_setup bytes S T a b = a.declared ∙ sym b.declared

pub one_refusal : (bytes : List ℕ) (f g : TraceFault) → refusal bytes ≡ Some f → refusal bytes ≡ Some g → f ≡ g
one_refusal bytes f g a b = same_Some f g (sym a ∙ b)

pub never_both : (bytes : List ℕ) (T : Setup) (fault : TraceFault) → Stands bytes T → refusal bytes ≡ Some fault → ⊥
never_both bytes T fault stands refused = none-some fault (sym stands.accepted ∙ refused)
