-- After a complete schedule no key is stray.
use Rattle.std.proofs.Common.{◌≡◌, ℕ, List, [], ◌∷◌, length, Option, Some, None, refl, sym, ap, ◌∙◌, subst, inl, inr, arith}
use Rattle.std.specs.List.{flat_map, Contains}
use Rattle.std.specs.Prelude.{◌⊎◌, IsSome}
use Rattle.std.proofs.lemmas.Bool.{true≢false, cases_lt}
use Rattle.std.proofs.lemmas.List.{get_or_default, get_or_past}
use Rattle.sem_key.specs.KeyName.{KeyName, key_eq}
use Rattle.sem_key.specs.Capability.{Capability}
use Rattle.sem_key.specs.CapList.{with_cap}
use Rattle.sem_key.specs.Lists.{in_turn}
use Rattle.sem_key.proofs.KeyTests.{has_key-from_Contains, key_eq-true, key_eq-from}
use Rattle.sem_key.proofs.Members.{Contains-nil, Contains-cons_cases, Contains-head, Contains-tail, Contains-map, Contains-from_map, Contains-flat_map}
use Rattle.sem_key.proofs.Members.{Contains-from_flat_map, found, not_found}
use Rattle.sem_msg.specs.declared.entry.Entry.{Entry}
use Rattle.sem_msg.specs.Setup.{Setup, IsSetup}
use Rattle.sem_machine.specs.Sides.{Side, no_side, cap}
use Rattle.sem_machine.specs.Machine.{World, side}
use Rattle.sem_machine.specs.Schedules.{world_after}
use Rattle.sem_machine.specs.Journals.{forest}
use Rattle.sem_machine.specs.Living.{IsHeld, IsComplete}
use Rattle.sem_sound.proofs.Holding.{with_cap-has, with_cap-keeps, with_cap-from}
use Rattle.sem_revoke.proofs.IdleForest.{forest-held}
use Rattle.sem_revoke.proofs.Quieting.{quiet-idle}
use Rattle.sem_machine.specs.HeldKeys.{all_caps, keys_held}
use Rattle.sem_audit.specs.Straying.{missing, held_keys, stray_count}

-- keys that are all among the others
none-missing : (ks others : List KeyName) → ((k : KeyName) → Contains ks k → Contains others k) → missing ks others ≡ 0
none-missing [] others all = refl
none-missing (k ∷ ks) others all =
    rw (has_key-from_Contains others k (all k (Contains-head k ks)))
    (none-missing ks others (λ q among. all q (Contains-tail k ks q among)))

-- capabilities that are put in one after another
gathered-from : (cs found : List Capability) (c : Capability) → Contains (in_turn (λ x xs. with_cap xs x) cs found) c → Contains cs c ⊎ Contains found c
unfolding in_turn
gathered-from [] found c among = inr among
gathered-from (x ∷ xs) found c among = elim (gathered-from xs (with_cap found x) c among) [
  | inl later ↦ inl (Contains-tail x xs c later)
  | inr here ↦ elim (with_cap-from found x c here) [
    | inl same ↦ inl (subst (Contains (x ∷ xs)) same (Contains-head x xs))
    | inr old ↦ inr old
  ]
]

gathered-keeps : (cs found : List Capability) (c : Capability) → Contains cs c ⊎ Contains found c → Contains (in_turn (λ x xs. with_cap xs x) cs found) c
unfolding in_turn
gathered-keeps [] found c (inl none) = absurd (Contains-nil c none)
gathered-keeps [] found c (inr old) = old
gathered-keeps (x ∷ xs) found c (inr old) = gathered-keeps xs (with_cap found x) c (inr (with_cap-keeps found x c old))
gathered-keeps (x ∷ xs) found c (inl among) = elim (Contains-cons_cases x xs c among) [
  | inl same ↦ gathered-keeps xs (with_cap found x) c (inr (subst (Contains (with_cap found x)) same (with_cap-has found x)))
  | inr later ↦ gathered-keeps xs (with_cap found x) c (inl later)
]

module _ (W : World) where
  abbrev caps : List Capability
  caps = flat_map (λ (s : Side). s.caps) W.sides

  -- the held keys are the keys of all capabilities
  keys-are : (c : Capability) → Contains caps c → Contains (held_keys W.sides) c.key
  keys-are c among = Contains-map (λ (h : KeyName × ℕ). h.0) (keys_held W.sides) (c.key, c.selector)
      (Contains-map (λ (x : Capability). (x.key, x.selector)) (all_caps W.sides) c (gathered-keeps caps [] c (inl among)))

  keys-from : (k : KeyName) → Contains (held_keys W.sides) k → (c : Capability) × Contains caps c × (c.key ≡ k)
  keys-from k among =
      let h = Contains-from_map (λ (h : KeyName × ℕ). h.0) (keys_held W.sides) k among in
      let c = Contains-from_map (λ (x : Capability). (x.key, x.selector)) (all_caps W.sides) h.0 h.1 in
      elim (gathered-from caps [] c.0 c.1) [
        | inl here ↦ (c.0, here, ap (λ (p : KeyName × ℕ). p.0) c.2 ∙ h.2)
        | inr none ↦ absurd (Contains-nil c.0 none)
      ]

  -- and those are the keys that are held
  held-listed : (k : KeyName) → IsHeld W k → Contains (held_keys W.sides) k
  held-listed k (i, some) = from (cap (side W i) k) refl some
    where
      from : (o : Option Capability) → cap (side W i) k ≡ o → IsSome o → Contains (held_keys W.sides) k
      from None at some = absurd cc
      from (Some c) at some =
          let there = found (λ (x : Capability). key_eq x.key k) (side W i).caps c at in
          subst (Contains (held_keys W.sides)) (key_eq-true c.key k there.1) (keys-are c (of_side c there.0))
        where
          of_side : (x : Capability) → Contains (side W i).caps x → Contains caps x
          of_side x among = elim (cases_lt i (length W.sides)) [
            | inl low ↦ Contains-flat_map (λ (s : Side). s.caps) W.sides (side W i) x (i, low, sym (get_or_default W.sides i no_side (side W i) low)) among
            | inr high ↦ absurd (Contains-nil x (subst (λ (s : Side). Contains s.caps x) (get_or_past W.sides i no_side high) among))
          ]

  listed-held : (k : KeyName) → Contains (held_keys W.sides) k → IsHeld W k
  listed-held k among =
      let c = keys-from k among in
      let s = Contains-from_flat_map (λ (t : Side). t.caps) W.sides c.0 c.1 in
      from c.0 c.2 s.0 s.1 s.2
    where
      from : (c : Capability) → c.key ≡ k → (s : Side) → Contains W.sides s → Contains s.caps c → IsHeld W k
      from c same s (i, within, is) here =
          let at : side W i ≡ s = get_or_default W.sides i no_side s within ∙ is in
          (i, some (cap (side W i) k) refl)
        where
          inside : Contains (side W i).caps c
          inside = subst (λ (t : Side). Contains t.caps c) (sym (get_or_default W.sides i no_side s within ∙ is)) here

          some : (o : Option Capability) → cap (side W i) k ≡ o → IsSome (cap (side W i) k)
          some (Some d) at = subst IsSome (sym at) refl
          some None at =
              let no' = not_found (λ (x : Capability). key_eq x.key k) (side W i).caps c at inside in
              absurd (true≢false (sym (key_eq-from c.key k same) ∙ no'))

pub none-stray : (T : Setup) → IsSetup T → (J : List Entry) → IsComplete T J → stray_count T J (world_after T J).sides ≡ 0
none-stray T valid J complete =
    let W : World = world_after T J in
    let idle = quiet-idle T valid J complete.schedule complete.quiet in
    let same = forest-held T valid J complete.schedule idle in
    let over = none-missing (held_keys W.sides) (forest T J) (λ k among. (same k).0 (listed-held W k among)) in
    let under = none-missing (forest T J) (held_keys W.sides) (λ k among. held-listed W k ((same k).1 among)) in
    omega (arith, over, under)
