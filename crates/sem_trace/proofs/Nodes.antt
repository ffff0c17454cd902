-- PEs and VPEs of the texts of a version.
use Rattle.std.proofs.Common.{◌≡◌, ℕ, ◌-◌, ◌<◌, ◌≤◌, ◌==◌, inl, inr, List, ◌∷◌, ◌++◌, Some, ap, subst, arith}
use Rattle.std.proofs.lemmas.Bool.{cases_Bool}
use Rattle.sem_key.specs.declared.limits.TheConstants.{VPES, KERNELS}
use Rattle.sem_msg.specs.Versions.{most_vpes, most_kernels}
use Rattle.sem_trace.specs.declared.fault.Cause.{Cause}
use Rattle.sem_trace.specs.Forms.{Place, node, form_fault}
use Rattle.sem_trace.specs.Forms.Place.{Number, Word, Dotted}
use Rattle.sem_trace.specs.Places.{number_place}
use Rattle.sem_trace.specs.Ranges.{IsNode}
use Rattle.sem_trace.specs.declared.forms.Range.{Range}

-- there is one at least, and there are no more than keys can name
pub some_vpe : (version : ℕ) → 1 ≤ most_vpes version
some_vpe version =
    elim (cases_Bool (version == 1)) [
      | inl one ↦ rw one (omega arith)
      | inr other ↦ rw other (omega arith)
    ]

pub few_vpes : (version : ℕ) → most_vpes version ≤ VPES
few_vpes version =
    elim (cases_Bool (version == 1)) [
      | inl one ↦ rw one (omega arith)
      | inr other ↦ rw other (omega arith)
    ]

pub node_small : (version n : ℕ) → IsNode version n → n < VPES
node_small version n node' = let few : most_vpes version ≤ VPES = few_vpes version in omega arith

pub some_kernel : (version : ℕ) → 1 ≤ most_kernels version
some_kernel version =
    elim (cases_Bool (version == 1)) [
      | inl one ↦ rw one (omega arith)
      | inr other ↦ rw other (omega arith)
    ]

pub few_kernels : (version : ℕ) → most_kernels version ≤ KERNELS
few_kernels version =
    elim (cases_Bool (version == 1)) [
      | inl one ↦ rw one (omega arith)
      | inr other ↦ rw other (omega arith)
    ]

-- the greatest number of a place
abbrev greatest : Place → ℕ
greatest (Number least most) = most
greatest (Word names) = 0
greatest (Dotted ranges) = 0

-- a number in the range of these
pub in_node : (version n : ℕ) (range : Range) → number_place range ≡ node version → n ≤ range.most → IsNode version n
in_node version n range is below =
    let most : range.most ≡ most_vpes version - 1 = ap greatest is in
    let some : 1 ≤ most_vpes version = some_vpe version in
    omega arith

-- places behind one that is that of these
pub node_filled : (version : ℕ) (place : Place) (behind : List Place) (words rest : List (List ℕ)) → place ≡ node version →
    ((more : List Place) → form_fault (place ∷ behind ++ more) words ≡ form_fault more rest) → (more : List Place) →
    form_fault (node version ∷ behind ++ more) words ≡ form_fault more rest
node_filled version place behind words rest is filled = subst (λ (p : Place). (more : List Place) →
    form_fault (p ∷ behind ++ more) words ≡ form_fault more rest) is filled

pub node_failed : (version : ℕ) (place : Place) (behind : List Place) (words : List (List ℕ)) (fault : Cause × ℕ) → place ≡ node version →
    ((more : List Place) → form_fault (place ∷ behind ++ more) words ≡ Some fault) → (more : List Place) →
    form_fault (node version ∷ behind ++ more) words ≡ Some fault
node_failed version place behind words fault is failed = subst (λ (p : Place). (more : List Place) →
    form_fault (p ∷ behind ++ more) words ≡ Some fault) is failed
