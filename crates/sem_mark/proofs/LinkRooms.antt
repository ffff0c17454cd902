-- How much room the children of capabilities need.
use Rattle.std.proofs.Common.{◌≡◌, suc, ◌+◌, ◌≤◌, true, false, List, [], ◌∷◌, ◌++◌, length, get_or, Some, refl, sym, ap, subst, inl, inr, arith, length-append}
use Rattle.std.specs.List.{All, flat_map}
use Rattle.std.specs.Option.{option_map_or}
use Rattle.std.proofs.lemmas.Bool.{cases_Bool, cond-true, cond-false}
use Rattle.std.proofs.lemmas.List.Sums.{sum_by-cons}
use Rattle.sem_key.specs.KeyName.{KeyName, key_eq}
use Rattle.sem_key.specs.Capability.{Capability}
use Rattle.sem_key.specs.CapList.{cap_of, link_count}
use Rattle.sem_key.proofs.KeyTests.{key_eq-true}
use Rattle.sem_mark.specs.Walks.{children_at, IsSpread}

module _ (c : Capability) (cs : List Capability) where
  at-here : (k : KeyName) → key_eq c.key k ≡ true → children_at (c ∷ cs) k ≡ c.children
  at-here k here = ap (λ o. option_map_or (λ (x : Capability). x.children) o []) (cond-true (key_eq c.key k) (Some c) (cap_of cs k) here)

  at-other : (k : KeyName) → key_eq c.key k ≡ false → children_at (c ∷ cs) k ≡ children_at cs k
  at-other k other = ap (λ o. option_map_or (λ (x : Capability). x.children) o []) (cond-false (key_eq c.key k) (Some c) (cap_of cs k) other)

  all-other : (ks : List KeyName) → All (λ k. key_eq c.key k ≡ false) ks → flat_map (children_at (c ∷ cs)) ks ≡ flat_map (children_at cs) ks
  all-other [] none = refl
  all-other (k ∷ ks) none = rw (at-other k (none 0 k (omega arith)), all-other ks (λ n d lt. none (suc n) d (omega arith))) refl

  one-more : (ks : List KeyName) → IsSpread ks → length (flat_map (children_at (c ∷ cs)) ks) ≤ length c.children + length (flat_map (children_at cs) ks)
  one-more [] spread = omega arith
  one-more (k ∷ ks) spread = elim (cases_Bool (key_eq c.key k)) [
    | inl here ↦
        let same : c.key ≡ k = key_eq-true c.key k here in
        let others = all-other ks (λ n d lt. subst (λ q. key_eq q (get_or ks n d) ≡ false) (sym same) (spread 0 (suc n) d (omega arith) (omega arith))) in
        let whole : flat_map (children_at (c ∷ cs)) (k ∷ ks) ≡ c.children ++ flat_map (children_at cs) ks = rw (at-here k here, others) refl in
        omega (arith, ap length whole, length-append c.children (flat_map (children_at cs) ks), length-append (children_at cs k) (flat_map (children_at cs) ks))
    | inr other ↦
        let rest = one-more ks (λ i j d lt within. spread (suc i) (suc j) d (omega arith) (omega arith)) in
        let same = ap length (at-other k other) in
        omega (
          arith,
          length-append (children_at (c ∷ cs) k) (flat_map (children_at (c ∷ cs)) ks),
          length-append (children_at cs k) (flat_map (children_at cs) ks),
        )
  ]

no-children : (ks : List KeyName) → flat_map (children_at []) ks ≡ []
no-children [] = refl
no-children (k ∷ ks) = no-children ks

-- capabilities, each given once, have no more children than there are links
pub children-few : (caps : List Capability) (ks : List KeyName) → IsSpread ks → length (flat_map (children_at caps) ks) ≤ link_count caps
children-few [] ks spread = rw (no-children ks) (omega arith)
children-few (c ∷ cs) ks spread =
    let count = sum_by-cons (λ (x : Capability). length x.children) c cs in
    let rest = children-few cs ks spread in
    omega (arith, one-more c cs ks spread)
