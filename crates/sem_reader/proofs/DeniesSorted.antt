-- The denied pairs, sorted.
use Rattle.std.proofs.Common.{◌≡◌, ℕ, ◌+◌, ◌<◌, inl, inr, true, false, true≢false, List, get_or, Some, refl, ap, sym, ◌∙◌, subst, arith}
use Rattle.std.specs.List.{AllPairs, Contains, IsDistinct, list_any, filter_map, range_with_len}
use Rattle.std.specs.List.Sorted.{IsPermutation, IsSorted, IsStrictlySortedBy}
use Rattle.std.specs.Option.{IsSome, option_map}
use Rattle.std.specs.Ordering.{is_lt}
use Rattle.std.specs.declared.cmp.Ordering.TheVariants.{Less}
use Rattle.std.specs.Cmp.{IsTotalOrder}
use Rattle.std.proofs.lemmas.Cmp.{nat_cmp_total, on_total, then_total}
use Rattle.std.proofs.lemmas.List.Sorted.{Contains-permutation, IsPermutation-sym}
use Rattle.std.proofs.lemmas.Map.Keys.{IsDistinct-IsPermutation, apart_from_distinct, sorted_from_all_adjacent, Less-from_sorted}
use Rattle.sem_msg.specs.declared.setup.VpeDecl.{VpeDecl}
use Rattle.sem_msg.specs.Setup.{ComesBefore}
use Rattle.sem_key.specs.declared.limits.TheConstants.{VPES}
use Rattle.sem_trace.proofs.Nodes.{node_small}
use Rattle.sem_trace.specs.declared.declaration.Declaration.{Declaration}
use Rattle.sem_trace.specs.Earlier.{pe_in, roots_in, calls_in, vpe_in, is_denied}
use Rattle.sem_trace.specs.Refusal.{numbers}
use Rattle.sem_trace.specs.SetupOfText.{vpes_of, deny_of, denies_of}
use Rattle.sem_reader.specs.Accepted.{AreAccepted}
use Rattle.sem_reader.specs.Pairs.{is_same_pair, compare_pairs}
use Rattle.sem_reader.proofs.Enumerated.{given, gives, joined, joins, range_has}
use Rattle.sem_reader.proofs.Printed.{any_there}
use Rattle.sem_reader.proofs.Sound.{some_or_none, placed, denied}
use Rattle.sem_reader.proofs.SetupIs.{vpes_rise, denies_rise}
use Rattle.sem_reader.proofs.Canonical.{sorted_same, pair_self, pair_other, any_found, deny_made, deny_kept, same_both}

-- pairs that differ, of which the second is not less
pub steps : (p q : ℕ × ℕ) → is_lt (compare_pairs q p) ≡ false → is_same_pair p q ≡ false → compare_pairs p q ≡ Less
steps p q above apart = grind arith

pub comes : (p q : ℕ × ℕ) → compare_pairs p q ≡ Less → ComesBefore p q
comes p q less = grind arith

pub flips : (p q : ℕ × ℕ) → is_same_pair p q ≡ is_same_pair q p
flips p q = grind arith

pub alike : (p q : ℕ × ℕ) → is_same_pair p q ≡ true → p ≡ q
alike p q same = grind arith

pub pairs_total : IsTotalOrder compare_pairs
pairs_total = then_total (on_total (λ (p : ℕ × ℕ). p.0) nat_cmp_total) (on_total (λ (p : ℕ × ℕ). p.1) nat_cmp_total)

-- a sorted list of pairs that differ rises
rises : (pairs : List (ℕ × ℕ)) → IsSorted compare_pairs pairs → IsDistinct is_same_pair pairs → AllPairs ComesBefore pairs
rises pairs sorted apart i j d less within =
    let strict : IsStrictlySortedBy compare_pairs pairs = sorted_from_all_adjacent pairs_total pairs (
      0,
      0,
    ) (λ k inside. steps (get_or pairs k (0, 0)) (get_or pairs (k + 1) (0, 0)) (sorted k (0, 0) (omega arith) inside)
    (apart_from_distinct is_same_pair pairs k (k + 1) (0, 0) apart (omega arith) inside)) in
    comes (get_or pairs i d) (get_or pairs j d) (Less-from_sorted compare_pairs pairs i j d strict less within)

-- a VPE that is declared is one of the setup
pub in_vpes : (version kernels : ℕ) (ds : List Declaration) → AreAccepted version kernels ds → (v : ℕ) → IsSome (pe_in ds v) →
    (d : VpeDecl) × Contains (vpes_of ds) d × (d.vpe ≡ v)
unfolding vpes_of numbers vpe_in
in_vpes version kernels ds accepted v some =
    elim (some_or_none (pe_in ds v)) [
      | inl none ↦ absurd (true≢false (sym (rw none at some)))
      | inr found ↦
          let p : ℕ = found.0 in
          let d : VpeDecl = record { vpe = v; pe = p; roots = roots_in ds v; calls = calls_in ds v } in
          let small : v < VPES = node_small version v (placed version kernels ds accepted v p found.1).vpe in (
            d,
            gives (vpe_in ds) (range_with_len 0 128) v d (range_has 0 128 v (omega arith) (omega arith))
                (ap (option_map (λ (p : ℕ). record { vpe = v; pe = p; roots = roots_in ds v; calls = calls_in ds v })) found.1),
            refl,
          )
    ]

to_setup : (version kernels : ℕ) (ds : List Declaration) → AreAccepted version kernels ds → (p : ℕ × ℕ) → is_denied ds p.0 p.1 ≡ true →
    Contains (denies_of ds (vpes_of ds)) p
unfolding denies_of
to_setup version kernels ds accepted p some =
    let both = denied version kernels ds accepted p.0 p.1 some in
    let d = in_vpes version kernels ds accepted p.0 both.0 in
    let e = in_vpes version kernels ds accepted p.1 both.1 in
    let made : deny_of ds d.0.vpe e.0.vpe ≡ Some p = ap (λ (v : ℕ). deny_of ds v e.0.vpe) d.2
    ∙ (ap (λ (w : ℕ). deny_of ds p.0 w) e.2 ∙ deny_made ds p.0 p.1 some) in
    joins (λ (x : VpeDecl). filter_map (λ (y : VpeDecl). deny_of ds x.vpe y.vpe) (vpes_of ds)) (vpes_of ds) d.0 p d.1
    (gives (λ (y : VpeDecl). deny_of ds d.0.vpe y.vpe) (vpes_of ds) e.0 p e.1 made)

from_setup : (ds : List Declaration) (p : ℕ × ℕ) → Contains (denies_of ds (vpes_of ds)) p → is_denied ds p.0 p.1 ≡ true
unfolding denies_of
from_setup ds p within =
    let j = joined (λ (x : VpeDecl). filter_map (λ (y : VpeDecl). deny_of ds x.vpe y.vpe) (vpes_of ds)) (vpes_of ds) p within in
    let g = given (λ (y : VpeDecl). deny_of ds j.from.vpe y.vpe) (vpes_of ds) p j.has in
    let kept = deny_kept ds j.from.vpe g.from.vpe p g.gives in
    ap (λ (v : ℕ). is_denied ds v p.1) (sym kept.1) ∙ (ap (λ (w : ℕ). is_denied ds j.from.vpe w) (sym kept.2) ∙ kept.0)

-- the sorted pairs are those of the setup
pub denies_are : (version kernels : ℕ) (ds : List Declaration) (keys pairs : List (ℕ × ℕ)) → AreAccepted version kernels ds →
    ((v w : ℕ) → list_any (is_same_pair (v, w)) keys ≡ is_denied ds v w) → IsDistinct is_same_pair keys → IsPermutation keys pairs →
    IsSorted compare_pairs pairs → pairs ≡ denies_of ds (vpes_of ds)
denies_are version kernels ds keys pairs accepted has apart same sorted =
    sorted_same ComesBefore pair_self pair_other pairs (denies_of ds (vpes_of ds))
    (rises pairs sorted (IsDistinct-IsPermutation is_same_pair flips keys pairs same apart)) (denies_rise ds (vpes_of ds) (vpes_rise ds))
    (λ p within. to_setup version kernels ds accepted p (sym (has p.0 p.1)
    ∙ any_there (is_same_pair p) keys p (Contains-permutation pairs keys p (IsPermutation-sym keys pairs same) within) (same_both p.0 p.1)))
    (λ p within.
    let found = any_found (is_same_pair p) keys (has p.0 p.1 ∙ from_setup ds p within) in
    subst (Contains pairs) (sym (alike p found.0 found.2)) (Contains-permutation keys pairs found.0 same found.1))
