-- A fact that goes from a parent to the children that it leads to, and holds of a root, holds of its region and of the children of that.
use Rattle.std.proofs.Common.{◌≡◌, ℕ, zero, suc, ◌&&◌, true, false, not, List, [], ◌∷◌, length, Option, Some, None, refl, sym, subst, inl, inr, ◌⊎◌}
use Rattle.std.specs.List.{Contains, filter}
use Rattle.std.specs.Option.{option_map_or, is_none}
use Rattle.std.proofs.lemmas.Bool.{and_parts, or_cases}
use Rattle.sem_key.specs.KeyName.{KeyName, key_eq}
use Rattle.sem_key.specs.KeyList.{with_key}
use Rattle.sem_key.specs.Lists.{in_turn}
use Rattle.sem_key.specs.Capability.{Capability}
use Rattle.sem_key.specs.Region.{has_key, linked_from, next_reached, grow, region, children_of}
use Rattle.sem_key.proofs.KeyTests.{key_eq-true, Contains-from_has_key}
use Rattle.sem_key.proofs.Members.{found, Contains-head, Contains-tail, Contains-nil, Contains-from_filter, Contains-from_map, Contains-from_flat_map}
use Rattle.sem_key.proofs.KeySets.{with_key-from}

module _ (G : KeyName → KeyName → Type 0) (M : KeyName → Type 0) (spreads : (p k : KeyName) → G p k → M p →
    M k) (caps : List Capability) (links : (c : Capability) → Contains caps c → (k : KeyName) → Contains c.children k → G c.key k) where
  -- these keys have the fact
  abbrev Have : List KeyName → Type 0
  Have ks = (k : KeyName) → has_key ks k ≡ true → M k

  -- so have the children of what has it
  linked-doomed : (ks : List KeyName) → Have ks → (k : KeyName) → Contains (linked_from caps ks) k → M k
  linked-doomed ks have k among =
      let origin = Contains-from_flat_map (λ (c : Capability). c.children) (filter (λ c. is_none c.mark && has_key ks c.key) caps) k among in
      let kept = Contains-from_filter (λ c. is_none c.mark && has_key ks c.key) caps origin.0 origin.1 in
      spreads origin.0.key k (links origin.0 kept.0 k origin.2) (have origin.0.key (and_parts (is_none origin.0.mark) (has_key ks origin.0.key) kept.1).1)

  grown-doomed : (n : ℕ) (ks : List KeyName) → Have ks → Have (grow n caps ks)
  unfolding grow
  grown-doomed zero ks have = have
  grown-doomed (suc n) ks have = from (next_reached caps ks) refl (λ more all. grown-doomed n more all)
    where
      from : (o : Option Capability) → next_reached caps ks ≡ o → ((more : List KeyName) → Have more → Have (grow n caps more)) →
          Have (option_map_or (λ c. grow n caps (c.key ∷ ks)) o ks)
      from None none rest = have
      from (Some d) some rest = rest (d.key ∷ ks) (λ k has. elim (or_cases (key_eq k d.key) (has_key ks k) has) [
        | inl here ↦
            let there = found (λ c. (is_none c.mark) && (has_key (linked_from caps ks) c.key && not (has_key ks c.key))) caps d some in
            let outer = and_parts (is_none d.mark) (has_key (linked_from caps ks) d.key && not (has_key ks d.key)) there.1 in
            let inner = and_parts (has_key (linked_from caps ks) d.key) (not (has_key ks d.key)) outer.1 in
            subst M (sym (key_eq-true k d.key here)) (linked-doomed ks have d.key (Contains-from_has_key (linked_from caps ks) d.key inner.0))
        | inr before ↦ have k before
      ])

  pub region-doomed : (root : KeyName) → M root → (k : KeyName) → has_key (region caps root) k ≡ true → M k
  region-doomed root doomed k has =
      let reached : List KeyName = grow (length caps) caps (root ∷ []) in
      let only : Have (root ∷ []) = λ q one. elim (or_cases (key_eq q root) false one) [
        | inl same ↦ subst M (sym (key_eq-true q root same)) doomed
        | inr no' ↦ absurd cc
      ] in
      let origin = Contains-from_map (λ (c : Capability). c.key) (filter (λ c. is_none c.mark && has_key reached c.key) caps) k
      (Contains-from_has_key (region caps root) k has) in
      let kept = Contains-from_filter (λ c. is_none c.mark && has_key reached c.key) caps origin.0 origin.1 in
      subst M origin.2 (grown-doomed (length caps) (root ∷ []) only origin.0.key (and_parts (is_none origin.0.mark) (has_key reached origin.0.key) kept.1).1)

  -- what stands in a set of keys is one of them
  set-from : (ks found' : List KeyName) (k : KeyName) → Contains (in_turn (λ q list. with_key list q) ks found') k → Contains found' k ⊎ Contains ks k
  unfolding in_turn
  set-from [] found' k among = inl among
  set-from (q ∷ qs) found' k among = elim (set-from qs (with_key found' q) k among) [
    | inl there ↦ elim (with_key-from found' q k there) [
      | inl same ↦ inr (subst (Contains (q ∷ qs)) same (Contains-head q qs))
      | inr before ↦ inl before
    ]
    | inr later ↦ inr (Contains-tail q qs k later)
  ]

  pub children-doomed : (ks : List KeyName) → Have ks → (k : KeyName) → Contains (children_of caps ks) k → M k
  children-doomed ks have k among = elim (set-from (linked_from caps ks) [] k among) [
    | inl none ↦ absurd (Contains-nil k none)
    | inr linked ↦ linked-doomed ks have k linked
  ]
