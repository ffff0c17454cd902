-- Lines of keys, where each grant was of a new key below one that was there.
use Rattle.std.proofs.Common.{◌≡◌, ℕ, zero, suc, ◌≤◌, false, List, [], ◌∷◌, ◌++◌, length, map, Option, Some, None, refl, sym, ◌∙◌, ap, subst, inl, inr, arith}
use Rattle.std.proofs.Common.{◌⊎◌}
use Rattle.std.specs.List.{Contains, find}
use Rattle.std.specs.Option.{option_map, option_map_or, option_or}
use Rattle.std.proofs.lemmas.Bool.{cond-true, cond-false, false_from_ne_true}
use Rattle.std.proofs.lemmas.List.{length-append, map-append}
use Rattle.std.proofs.lemmas.List.Elements.{Contains-append_left, Contains-append_right, Contains-append_cases}
use Rattle.std.proofs.lemmas.List.Folds.{find-append}
use Rattle.std.proofs.lemmas.Option.{same_Some}
use Rattle.sem_msg.specs.declared.entry.Entry.{Entry}
use Rattle.sem_key.specs.KeyName.{KeyName, key_eq}
use Rattle.sem_machine.specs.Journals.{parent_in, ancestry_in, grants}
use Rattle.sem_machine.specs.Safety.{IsLineage}
use Rattle.sem_key.proofs.KeyTests.{key_eq-same, key_eq-true}
use Rattle.sem_key.proofs.Members.{found, find_none, Contains-head, Contains-tail, Contains-nil, Contains-cons_cases, Contains-map}
use Rattle.sem_safety.specs.Growth.{grown, IsGrown, no_grants, granted_next}

-- a parent is that of a grant
pub parent-granted : (gs : List (KeyName × KeyName)) (k p : KeyName) → parent_in gs k ≡ Some p → Contains gs (p, k)
parent-granted gs k p is = from (find (λ (g : KeyName × KeyName). key_eq g.1 k) gs) refl is
  where
    from : (o : Option (KeyName × KeyName)) → find (λ (g : KeyName × KeyName). key_eq g.1 k) gs ≡ o → option_map (λ (g : KeyName × KeyName). g.0) o ≡ Some p →
        Contains gs (p, k)
    from None none some = absurd cc
    from (Some g) there some =
        let at = found (λ (g : KeyName × KeyName). key_eq g.1 k) gs g there in
        let child : g.1 ≡ k = key_eq-true g.1 k at.1 in
        let parent : g.0 ≡ p = same_Some g.0 p some in
        subst (Contains gs) (ap (λ x. (x, g.1)) parent ∙ ap (λ x. (p, x)) child) at.0

-- one grant more gives its child a parent, and no other key
pub parent-more : (gs : List (KeyName × KeyName)) (p c k : KeyName) → key_eq c k ≡ false → parent_in (gs ++ (p, c) ∷ []) k ≡ parent_in gs k
parent-more gs p c k other = ap (option_map (λ (g : KeyName × KeyName). g.0)) (find-append (λ (g : KeyName × KeyName). key_eq g.1 k) gs ((p, c) ∷ [])
    ∙ (ap (option_or (find (λ (g : KeyName × KeyName). key_eq g.1 k) gs)) (cond-false (key_eq c k) (Some (p, c)) None other)
    ∙ or-none (find (λ (g : KeyName × KeyName). key_eq g.1 k) gs)))
  where
    or-none : {X : Type 0} (o : Option X) → option_or o None ≡ o
    or-none None = refl
    or-none (Some x) = refl

pub parent-new : (roots : List KeyName) (gs : List (KeyName × KeyName)) (p c : KeyName) → (Contains (grown roots gs) c → ⊥) →
    parent_in (gs ++ (p, c) ∷ []) c ≡ Some p
parent-new roots gs p c new =
    let none : find (λ (g : KeyName × KeyName). key_eq g.1 c) gs ≡ None =
    find_none (λ (g : KeyName × KeyName). key_eq g.1 c) gs
    (λ g in_gs. false_from_ne_true (key_eq g.1 c)
    (λ same. new (subst (Contains (grown roots gs)) (key_eq-true g.1 c same) (Contains-append_right roots (map (λ (x : KeyName × KeyName). x.1) gs) g.1
    (Contains-map (λ (x : KeyName × KeyName). x.1) gs g in_gs))))) in
    ap (option_map (λ (g : KeyName × KeyName). g.0)) (find-append (λ (g : KeyName × KeyName). key_eq g.1 c) gs ((p, c) ∷ [])
    ∙ (ap (λ o. option_or o (find (λ (g : KeyName × KeyName). key_eq g.1 c) ((p, c) ∷ []))) none
    ∙ cond-true (key_eq c c) (Some (p, c)) None (key_eq-same c)))

-- the keys that are there once one more is granted
pub grown-more : (roots : List KeyName) (gs : List (KeyName × KeyName)) (p c k : KeyName) → Contains (grown roots (gs ++ (p, c) ∷ [])) k →
    Contains (grown roots gs) k ⊎ (c ≡ k)
grown-more roots gs p c k there = elim (Contains-append_cases roots (map (λ (g : KeyName × KeyName). g.1) (gs ++ (p, c) ∷ [])) k there) [
  | inl root ↦ inl (Contains-append_left roots (map (λ (g : KeyName × KeyName). g.1) gs) k root)
  | inr child ↦ elim (Contains-append_cases (map (λ (g : KeyName × KeyName). g.1) gs) (c ∷ []) k
      (subst (λ ks. Contains ks k) (map-append (λ (g : KeyName × KeyName). g.1) gs ((p, c) ∷ [])) child)) [
        | inl before ↦ inl (Contains-append_right roots (map (λ (g : KeyName × KeyName). g.1) gs) k before)
        | inr last ↦ elim (Contains-cons_cases c [] k last) [
          | inl same ↦ inr same
          | inr rest ↦ absurd (Contains-nil k rest)
        ]
      ]
]

pub grown-keeps : (roots : List KeyName) (gs : List (KeyName × KeyName)) (p c k : KeyName) → Contains (grown roots gs) k →
    Contains (grown roots (gs ++ (p, c) ∷ [])) k
grown-keeps roots gs p c k there = elim (Contains-append_cases roots (map (λ (g : KeyName × KeyName). g.1) gs) k there) [
  | inl root ↦ Contains-append_left roots (map (λ (g : KeyName × KeyName). g.1) (gs ++ (p, c) ∷ [])) k root
  | inr child ↦ Contains-append_right roots (map (λ (g : KeyName × KeyName). g.1) (gs ++ (p, c) ∷ [])) k
      (subst (λ ks. Contains ks k) (sym (map-append (λ (g : KeyName × KeyName). g.1) gs ((p, c) ∷ [])))
      (Contains-append_left (map (λ (g : KeyName × KeyName). g.1) gs) (c ∷ []) k child))
]

-- each parent is there
pub parent-grown : (roots : List KeyName) (gs : List (KeyName × KeyName)) → IsGrown roots gs → (p k : KeyName) → Contains gs (p, k) →
    Contains (grown roots gs) p
parent-grown roots _ no_grants p k there = absurd (Contains-nil (p, k) there)
parent-grown roots _ (granted_next gs q c before parent new) p k there = elim (Contains-append_cases gs ((q, c) ∷ []) (p, k) there) [
  | inl earlier ↦ grown-keeps roots gs q c p (parent-grown roots gs before p k earlier)
  | inr last ↦ elim (Contains-cons_cases (q, c) [] (p, k) last) [
    | inl same ↦ grown-keeps roots gs q c p (subst (Contains (grown roots gs)) (ap (λ (g : KeyName × KeyName). g.0) same) parent)
    | inr rest ↦ absurd (Contains-nil (p, k) rest)
  ]
]

-- one grant more leaves the lines of all keys that were there
module _ (roots : List KeyName) (gs : List (KeyName × KeyName)) (is : IsGrown roots gs) (p c : KeyName) (new : Contains (grown roots gs) c → ⊥) where
  apart : (k : KeyName) → Contains (grown roots gs) k → key_eq c k ≡ false
  apart k there = false_from_ne_true (key_eq c k) (λ same. new (subst (Contains (grown roots gs)) (sym (key_eq-true c k same)) there))

  pub line-stays : (n : ℕ) (k : KeyName) → Contains (grown roots gs) k → ancestry_in n (gs ++ (p, c) ∷ []) k ≡ ancestry_in n gs k
  unfolding ancestry_in
  line-stays zero k there = refl
  line-stays (suc n) k there = ap (λ ks. k ∷ ks) (ap (λ o. option_map_or (ancestry_in n (gs ++ (p, c) ∷ [])) o []) (parent-more gs p c k (apart k there))
      ∙ above (parent_in gs k) refl (λ q held. line-stays n q held))
    where
      above : (o : Option KeyName) → parent_in gs k ≡ o → ((q : KeyName) → Contains (grown roots gs) q → ancestry_in n (gs ++ (p, c) ∷ []) q ≡ ancestry_in n gs q) →
          option_map_or (ancestry_in n (gs ++ (p, c) ∷ [])) o [] ≡ option_map_or (ancestry_in n gs) o []
      above None none rest = refl
      above (Some q) some rest = rest q (parent-grown roots gs is q k (parent-granted gs k q some))

  -- and that of the child is the child and the line of its parent
  pub line-new : (n : ℕ) → Contains (grown roots gs) p → ancestry_in (suc n) (gs ++ (p, c) ∷ []) c ≡ c ∷ ancestry_in n gs p
  unfolding ancestry_in
  line-new n parent = ap (λ ks. c ∷ ks) (ap (λ o. option_map_or (ancestry_in n (gs ++ (p, c) ∷ [])) o []) (parent-new roots gs p c new) ∙ line-stays n p parent)

-- The line of a key that is there ends in a root, and each key of it is a child of the next.

-- more grants keep a lineage
lineage-more : (roots : List KeyName) (gs more : List (KeyName × KeyName)) (ks : List KeyName) → IsLineage roots gs ks → IsLineage roots (gs ++ more) ks
unfolding IsLineage
lineage-more roots gs more [] is = is
lineage-more roots gs more (k ∷ []) is = is
lineage-more roots gs more (k ∷ p ∷ ks) is = (Contains-append_left gs more (p, k) is.0, lineage-more roots gs more (p ∷ ks) is.1)

-- a line begins with its key
line-head : (n : ℕ) (gs : List (KeyName × KeyName)) (k : KeyName) → (ks : List KeyName) × (ancestry_in n gs k ≡ k ∷ ks)
unfolding ancestry_in
line-head zero gs k = ([], refl)
line-head (suc n) gs k = (option_map_or (ancestry_in n gs) (parent_in gs k) [], refl)

lineage-below : (roots : List KeyName) (gs : List (KeyName × KeyName)) (n : ℕ) (p k : KeyName) → Contains gs (p, k) → IsLineage roots gs (ancestry_in n gs p) →
    IsLineage roots gs (k ∷ ancestry_in n gs p)
unfolding IsLineage
lineage-below roots gs n p k granted is =
    let head = line-head n gs p in
    subst (λ ks. IsLineage roots gs (k ∷ ks)) (sym head.1) (granted, subst (IsLineage roots gs) head.1 is)

line-root : (n : ℕ) (k : KeyName) → ancestry_in n [] k ≡ k ∷ []
unfolding ancestry_in
line-root zero k = refl
line-root (suc n) k = refl

pub line-is_lineage : (roots : List KeyName) (gs : List (KeyName × KeyName)) → IsGrown roots gs → (n : ℕ) (k : KeyName) → length gs ≤ n →
    Contains (grown roots gs) k → IsLineage roots gs (ancestry_in n gs k)
unfolding IsLineage
line-is_lineage roots _ no_grants n k enough there = rw (line-root n k) (only (Contains-append_cases roots [] k there))
  where
    only : Contains roots k ⊎ Contains [] k → Contains roots k
    only (inl root) = root
    only (inr none) = absurd (Contains-nil k none)
line-is_lineage roots _ (granted_next gs p c before parent new) zero k enough there = absurd (omega (arith, length-append gs ((p, c) ∷ [])))
line-is_lineage roots _ (granted_next gs p c before parent new) (suc n) k enough there = elim (grown-more roots gs p c k there) [
  | inl earlier ↦
      let rest = line-is_lineage roots gs before (suc n) k (omega (arith, length-append gs ((p, c) ∷ []))) earlier in
      subst (IsLineage roots (gs ++ (p, c) ∷ [])) (sym (line-stays roots gs before p c new (suc n) k earlier))
      (lineage-more roots gs ((p, c) ∷ []) (ancestry_in (suc n) gs k) rest)
  | inr same ↦
      let above = line-is_lineage roots gs before n p (omega (arith, length-append gs ((p, c) ∷ []))) parent in
      let kept : IsLineage roots (gs ++ (p, c) ∷ []) (ancestry_in n (gs ++ (p, c) ∷ []) p) =
      subst (IsLineage roots (gs ++ (p, c) ∷ [])) (sym (line-stays roots gs before p c new n p parent))
      (lineage-more roots gs ((p, c) ∷ []) (ancestry_in n gs p) above) in
      let below : IsLineage roots (gs ++ (p, c) ∷ []) (c ∷ ancestry_in n (gs ++ (p, c) ∷ []) p) =
      lineage-below roots (gs ++ (p, c) ∷ []) n p c (Contains-append_right gs ((p, c) ∷ []) (p, c) (Contains-head (p, c) [])) kept in
      subst (λ x. IsLineage roots (gs ++ (p, c) ∷ []) (ancestry_in (suc n) (gs ++ (p, c) ∷ []) x)) same
      (subst (IsLineage roots (gs ++ (p, c) ∷ [])) (ap (λ ks. c ∷ ks) (line-stays roots gs before p c new n p parent)
      ∙ sym (line-new roots gs before p c new n parent)) below)
]

-- no more turns than grants are needed
pub line-enough : (roots : List KeyName) (gs : List (KeyName × KeyName)) → IsGrown roots gs → (n m : ℕ) (k : KeyName) → length gs ≤ n → length gs ≤ m →
    Contains (grown roots gs) k → ancestry_in n gs k ≡ ancestry_in m gs k
line-enough roots _ no_grants n m k enough enough' there = line-root n k ∙ sym (line-root m k)
line-enough roots _ (granted_next gs p c before parent new) zero m k enough enough' there = absurd (omega (arith, length-append gs ((p, c) ∷ [])))
line-enough roots _ (granted_next gs p c before parent new) (suc n) zero k enough enough' there = absurd (omega (arith, length-append gs ((p, c) ∷ [])))
line-enough roots _ (granted_next gs p c before parent new) (suc n) (suc m) k enough enough' there = elim (grown-more roots gs p c k there) [
  | inl earlier ↦ line-stays roots gs before p c new (suc n) k earlier
      ∙ (line-enough roots gs before (suc n) (suc m) k (omega (arith, length-append gs ((p, c) ∷ []))) (omega (arith, length-append gs ((p, c) ∷ []))) earlier
      ∙ sym (line-stays roots gs before p c new (suc m) k earlier))
  | inr same ↦ subst (λ x. ancestry_in (suc n) (gs ++ (p, c) ∷ []) x ≡ ancestry_in (suc m) (gs ++ (p, c) ∷ []) x) same (line-new roots gs before p c new n parent
      ∙ (ap (λ ks. c ∷ ks) (line-enough roots gs before n m p (omega (arith, length-append gs ((p, c) ∷ []))) (omega (arith, length-append gs ((p, c) ∷ [])))
      parent) ∙ sym (line-new roots gs before p c new m parent)))
]

-- Ancestors.

-- an ancestor is there
pub line-grown : (roots : List KeyName) (gs : List (KeyName × KeyName)) → IsGrown roots gs → (n : ℕ) (k a : KeyName) → Contains (grown roots gs) k →
    Contains (ancestry_in n gs k) a → Contains (grown roots gs) a
unfolding ancestry_in
line-grown roots gs is zero k a there in_line = elim (Contains-cons_cases k [] a in_line) [
  | inl same ↦ subst (Contains (grown roots gs)) same there
  | inr rest ↦ absurd (Contains-nil a rest)
]
line-grown roots gs is (suc n) k a there in_line = elim (Contains-cons_cases k (option_map_or (ancestry_in n gs) (parent_in gs k) []) a in_line) [
  | inl same ↦ subst (Contains (grown roots gs)) same there
  | inr rest ↦ above (parent_in gs k) refl rest (λ p held at. line-grown roots gs is n p a held at)
]
  where
    above : (o : Option KeyName) → parent_in gs k ≡ o → Contains (option_map_or (ancestry_in n gs) o []) a →
        ((p : KeyName) → Contains (grown roots gs) p → Contains (ancestry_in n gs p) a → Contains (grown roots gs) a) → Contains (grown roots gs) a
    above None none rest more = absurd (Contains-nil a rest)
    above (Some p) some rest more = more p (parent-grown roots gs is p k (parent-granted gs k p some)) rest

-- a key is its own ancestor
pub line-self : (n : ℕ) (gs : List (KeyName × KeyName)) (k : KeyName) → Contains (ancestry_in n gs k) k
line-self n gs k = let head = line-head n gs k in subst (λ ks. Contains ks k) (sym head.1) (Contains-head k head.0)

-- the ancestors of an ancestor are ancestors
pub line-above : (roots : List KeyName) (gs : List (KeyName × KeyName)) → IsGrown roots gs → (n : ℕ) (k a b : KeyName) → length gs ≤ n →
    Contains (grown roots gs) k → Contains (ancestry_in n gs k) a → Contains (ancestry_in n gs a) b → Contains (ancestry_in n gs k) b
line-above roots _ no_grants n k a b enough there in_k in_a =
    let one : Contains (k ∷ []) a = subst (λ ks. Contains ks a) (line-root n k) in_k in
    elim (Contains-cons_cases k [] a one) [
      | inl same ↦ subst (λ x. Contains (ancestry_in n [] x) b) (sym same) in_a
      | inr rest ↦ absurd (Contains-nil a rest)
    ]
line-above roots _ (granted_next gs p c before parent new) zero k a b enough there in_k in_a = absurd (omega (arith, length-append gs ((p, c) ∷ [])))
line-above roots _ (granted_next gs p c before parent new) (suc n) k a b enough there in_k in_a = elim (grown-more roots gs p c k there) [
  | inl earlier ↦
      let few : length gs ≤ suc n = omega (arith, length-append gs ((p, c) ∷ [])) in
      let in_line : Contains (ancestry_in (suc n) gs k) a = subst (λ ks. Contains ks a) (line-stays roots gs before p c new (suc n) k earlier) in_k in
      let a_there : Contains (grown roots gs) a = line-grown roots gs before (suc n) k a earlier in_line in
      let above : Contains (ancestry_in (suc n) gs a) b = subst (λ ks. Contains ks b) (line-stays roots gs before p c new (suc n) a a_there) in_a in
      subst (λ ks. Contains ks b) (sym (line-stays roots gs before p c new (suc n) k earlier))
      (line-above roots gs before (suc n) k a b few earlier in_line above)
  | inr same ↦
      let few : length gs ≤ n = omega (arith, length-append gs ((p, c) ∷ [])) in
      let line_c : ancestry_in (suc n) (gs ++ (p, c) ∷ []) k ≡ c ∷ ancestry_in n gs p =
      subst (λ x. ancestry_in (suc n) (gs ++ (p, c) ∷ []) x ≡ c ∷ ancestry_in n gs p) same
      (line-new roots gs before p c new n parent) in
      elim (Contains-cons_cases c (ancestry_in n gs p) a (subst (λ ks. Contains ks a) line_c in_k)) [
        | inl itself ↦ subst (λ x. Contains (ancestry_in (suc n) (gs ++ (p, c) ∷ []) x) b) (sym itself ∙ same) in_a
        | inr higher ↦
            let a_there : Contains (grown roots gs) a = line-grown roots gs before n p a parent higher in
            let shorter : ancestry_in (suc n) (gs ++ (p, c) ∷ []) a ≡ ancestry_in n gs a = line-stays roots gs before p c new (suc n) a a_there
            ∙ line-enough roots gs before (suc n) n a (omega (arith, few)) few a_there in
            let above : Contains (ancestry_in n gs a) b = subst (λ ks. Contains ks b) shorter in_a in
            subst (λ ks. Contains ks b) (sym line_c) (Contains-tail c (ancestry_in n gs p) b (line-above roots gs before n p a b few parent higher above))
      ]
]

-- what was granted is among the grown keys
pub child-grown : (roots : List KeyName) (gs : List (KeyName × KeyName)) (p k : KeyName) → Contains gs (p, k) → Contains (grown roots gs) k
child-grown roots gs p k there = Contains-append_right roots (map (λ (g : KeyName × KeyName). g.1) gs) k (Contains-map (λ (g : KeyName × KeyName). g.1) gs (
  p,
  k,
) there)

-- a key has one parent at most
pub parent-is : (roots : List KeyName) (gs : List (KeyName × KeyName)) → IsGrown roots gs → (p k : KeyName) → Contains gs (p, k) → parent_in gs k ≡ Some p
parent-is roots _ no_grants p k there = absurd (Contains-nil (p, k) there)
parent-is roots _ (granted_next gs q c before parent new) p k there = elim (Contains-append_cases gs ((q, c) ∷ []) (p, k) there) [
  | inl earlier ↦
      let apart : key_eq c k ≡ false =
      false_from_ne_true (key_eq c k) (λ same. new (subst (Contains (grown roots gs)) (sym (key_eq-true c k same)) (child-grown roots gs p k earlier))) in
      parent-more gs q c k apart ∙ parent-is roots gs before p k earlier
  | inr last ↦ elim (Contains-cons_cases (q, c) [] (p, k) last) [
    | inl same ↦
        let child : c ≡ k = ap (λ (g : KeyName × KeyName). g.1) same in
        let above : q ≡ p = ap (λ (g : KeyName × KeyName). g.0) same in
        subst (λ x. parent_in (gs ++ (q, c) ∷ []) x ≡ Some p) child (parent-new roots gs q c new ∙ ap Some above)
    | inr rest ↦ absurd (Contains-nil (p, k) rest)
  ]
]

-- a parent is an ancestor
pub parent-ancestor : (roots : List KeyName) (gs : List (KeyName × KeyName)) → IsGrown roots gs → (p k : KeyName) → Contains gs (p, k) →
    Contains (ancestry_in (length gs) gs k) p
unfolding ancestry_in
parent-ancestor roots gs is p k there = from (length gs) (some-grant gs there)
  where
    some-grant : (hs : List (KeyName × KeyName)) → Contains hs (p, k) → 1 ≤ length hs
    some-grant [] none = absurd (Contains-nil (p, k) none)
    some-grant (h ∷ hs) some = omega arith

    from : (n : ℕ) → 1 ≤ n → Contains (ancestry_in n gs k) p
    from zero few = absurd (omega (arith, few))
    from (suc n) few =
        Contains-tail k _ p (subst (λ o. Contains (option_map_or (ancestry_in n gs) o []) p) (sym (parent-is roots gs is p k there)) (line-self n gs p))

-- no more grants than entries
pub few-grants : (J : List Entry) → length (grants J) ≤ length J
few-grants [] = omega arith
few-grants (e ∷ es) = from e.grant refl (few-grants es)
  where
    from : (o : Option (KeyName × KeyName)) → e.grant ≡ o → length (grants es) ≤ length es → length (grants (e ∷ es)) ≤ suc (length es)
    from None none rest = rw none (omega (arith, rest))
    from (Some g) some rest = rw some (omega (arith, rest))
