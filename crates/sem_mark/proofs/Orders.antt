-- The region of a root and its children, from the keys that were walked to.
use Rattle.std.proofs.Common.{◌≡◌, Bool, true, List, [], get_or, Some, None, is_none, ◌&&◌, refl, sym, ◌∙◌, ap, subst}
use Rattle.std.specs.List.{All, Contains, filter, flat_map}
use Rattle.std.specs.Option.{option_map_or}
use Rattle.std.proofs.lemmas.Bool.{and_from, and_parts}
use Rattle.std.proofs.lemmas.List.Elements.{All-contains, Contains-get_or}
use Rattle.sem_key.specs.KeyName.{KeyName, IsValidKey, key_eq}
use Rattle.sem_key.specs.KeyList.{IsKeyList, key_set}
use Rattle.sem_key.specs.Capability.{Capability}
use Rattle.sem_key.specs.CapList.{cap_of, keys_of}
use Rattle.sem_key.specs.Region.{has_key, region, linked_from, children_of}
use Rattle.sem_key.proofs.Members.{found, Contains-filter, Contains-from_filter, Contains-map, Contains-flat_map, Contains-from_flat_map}
use Rattle.sem_key.proofs.KeyTests.{key_eq-true, Contains-from_has_key, has_key-from_Contains}
use Rattle.sem_key.proofs.Regions.{region-exact, region-rises, reached_cap, find-at}
use Rattle.sem_mark.specs.Walks.{children_at}
use Rattle.sem_mark.proofs.SortedKeys.{rising-same, key_set-same, key_set-rises, key_set-from}
use Rattle.sem_key.proofs.KeySets.{key_set-has}

module _ (caps : List Capability) (keys : IsKeyList (keys_of caps)) (root : KeyName) (ks : List KeyName) (same : (k : KeyName) →
    has_key ks k ≡ has_key (region caps root) k) where
  -- the capability of a listed key
  held : (k : KeyName) → Contains ks k → (c : Capability) × (cap_of caps k ≡ Some c) × (c.mark ≡ None)
  held k there = reached_cap caps root k ((region-exact caps root k keys.rising).0 (sym (same k) ∙ has_key-from_Contains ks k there))

  -- so the listed keys are valid
  pub listed-valid : All IsValidKey ks
  listed-valid n d within = valid (get_or ks n d) (Contains-get_or ks n d within)
    where
      valid : (k : KeyName) → Contains ks k → IsValidKey k
      valid k there =
          let c = (held k there).0 in
          let at = found (λ x. key_eq x.key k) caps c (held k there).1 in
          subst IsValidKey (key_eq-true c.key k at.1)
          (All-contains IsValidKey (keys_of caps) c.key keys.valid (Contains-map (λ (x : Capability). x.key) caps c at.0))

  -- and their set is the region
  pub region-sorted : key_set ks ≡ region caps root
  region-sorted = rising-same (key_set ks) (region caps root) (key_set-rises ks) (region-rises caps root keys.rising)
      (λ k there. Contains-from_has_key (region caps root) k (sym (same k) ∙ has_key-from_Contains ks k (key_set-from ks k there)))
      (λ k there. key_set-has ks (λ q among. All-contains IsValidKey ks q listed-valid among) k (Contains-from_has_key ks k (same k
      ∙ has_key-from_Contains (region caps root) k there)))

  abbrev taken : Capability → Bool
  taken c = is_none c.mark && has_key (region caps root) c.key

  -- what the listed capabilities lead to is what those of the region lead to
  links-to : (k : KeyName) → Contains (flat_map (children_at caps) ks) k → Contains (linked_from caps (region caps root)) k
  links-to k there = from (Contains-from_flat_map (children_at caps) ks k there)
    where
      from : (p : KeyName) × Contains ks p × Contains (children_at caps p) k → Contains (linked_from caps (region caps root)) k
      from (p, among, child) =
          let of_p = held p among in
          let c = of_p.0 in
          let there_p = found (λ x. key_eq x.key p) caps c of_p.1 in
          let key : c.key ≡ p = key_eq-true c.key p there_p.1 in
          let has : has_key (region caps root) c.key ≡ true = rw key (sym (same p) ∙ has_key-from_Contains ks p among) in
          let kept = Contains-filter taken caps c there_p.0 (and_from (is_none c.mark) (has_key (region caps root) c.key) (rw of_p.2 refl) has) in
          let child_c : Contains c.children k = subst (λ qs. Contains qs k) (ap (λ o. option_map_or (λ (x : Capability). x.children) o []) of_p.1) child in
          Contains-flat_map (λ (x : Capability). x.children) (filter taken caps) c k kept child_c

  links-from : (k : KeyName) → Contains (linked_from caps (region caps root)) k → Contains (flat_map (children_at caps) ks) k
  links-from k there = from (Contains-from_flat_map (λ (x : Capability). x.children) (filter taken caps) k there)
    where
      from : (c : Capability) × Contains (filter taken caps) c × Contains c.children k → Contains (flat_map (children_at caps) ks) k
      from (c, kept, child) =
          let origin = Contains-from_filter taken caps c kept in
          let parts = and_parts (is_none c.mark) (has_key (region caps root) c.key) origin.1 in
          let among = Contains-from_has_key ks c.key (same c.key ∙ parts.1) in
          let at : cap_of caps c.key ≡ Some c = find-at caps keys.rising c.key c origin.0 refl in
          Contains-flat_map (children_at caps) ks c.key k among
          (subst (λ qs. Contains qs k) (sym (ap (λ o. option_map_or (λ (x : Capability). x.children) o []) at)) child)

  -- so the sets of them are the same
  pub children-same : All IsValidKey (flat_map (children_at caps) ks) → key_set (flat_map (children_at caps) ks) ≡ children_of caps (region caps root)
  children-same valid = key_set-same (flat_map (children_at caps) ks) (linked_from caps (region caps root)) valid links-to links-from
