-- The lives of all keys at the start, and at the end.
use Rattle.std.proofs.Common.{◌≡◌, ℕ, ◌<◌, List, [], ◌∷◌, map, Option, Some, None, IsSome, refl, sym, ap, ◌∙◌, subst, inl, inr, arith}
use Rattle.std.specs.Prelude.{unwrap_or}
use Rattle.std.specs.List.{Contains, cons_option, filter_map}
use Rattle.std.specs.Option.{option_map, option_map_or}
use Rattle.std.proofs.lemmas.Bool.{cases_Bool, cases_lt, cond-true, cond-false, true≢false}
use Rattle.std.proofs.lemmas.List.{get_or_past}
use Rattle.sem_key.specs.declared.limits.TheConstants.{VPES}
use Rattle.sem_key.specs.KeyName.{KeyName, key_eq}
use Rattle.sem_key.specs.Capability.{Capability}
use Rattle.sem_key.specs.KeyList.{key_set}
use Rattle.sem_key.specs.Region.{has_key}
use Rattle.sem_key.proofs.KeyTests.{Contains-from_has_key, has_key-from_Contains}
use Rattle.sem_key.proofs.Members.{Contains-head, Contains-tail, found}
use Rattle.sem_msg.specs.declared.entry.Entry.{Entry}
use Rattle.sem_msg.specs.declared.state.Parked.{Parked}
use Rattle.sem_msg.specs.Setup.{Setup, IsSetup}
use Rattle.sem_msg.specs.Lookups.{owner_of, kernel_of}
use Rattle.sem_machine.specs.Sides.{Side, cap, parked}
use Rattle.sem_machine.specs.Machine.{side, start}
use Rattle.sem_machine.specs.Schedules.{IsSchedule, world_after}
use Rattle.sem_machine.specs.Journals.{root_keys, made}
use Rattle.sem_safety.proofs.CarryingWorlds.{used-made}
use Rattle.sem_safety.proofs.FirstCaps.{root-held}
use Rattle.sem_sound.proofs.Scheduling.{schedule-sound}
use Rattle.sem_revoke.proofs.Opening.{key_set-from}
use Rattle.sem_revoke.proofs.Readying.{schedule-homes, schedule-past}
use Rattle.sem_query.specs.declared.holder.Holder.TheVariants.{Unmarked}
use Rattle.sem_query.specs.Whereabouts.{held_with, held_as, unheld, is_coming, whereabouts}
use Rattle.sem_query.specs.Lives.{KeyLife, life_of_root, life, lives}
use Rattle.sem_query.specs.Building.{begun_life, life_so_far}
use Rattle.sem_query.proofs.Telling.{tells, nobody, first-made, start-unmarked}
use Rattle.sem_query.proofs.There.{some-of}
use Rattle.sem_query.proofs.Indexing.{made-life}

module _ (T : Setup) (valid : IsSetup T) (k : KeyName) where
  abbrev at_owner : Option Capability
  at_owner = cap (side (start T) (owner_of T k)) k

  -- a root is held by its owner at the start, unmarked
  root-at : Contains (root_keys T) k → (c : Capability) × (at_owner ≡ Some c) × (c.mark ≡ None)
  root-at root =
      let i : ℕ = kernel_of T k.vpe in
      let c = some-of (cap (side (start T) i) k) (root-held T valid k root) in
      let home : owner_of T k ≡ i = schedule-homes T valid [] (nobody T valid k) i k c.0 c.1 in (
        c.0,
        ap (λ j. cap (side (start T) j) k) home
            ∙ c.1,
        start-unmarked T i c.0 (found (λ (x : Capability). key_eq x.key k) (side (start T) i).caps c.0 c.1).0,
      )

  -- no other key is
  no-root : (Contains (root_keys T) k → ⊥) → at_owner ≡ None
  no-root none = by at_owner refl
    where
      by : (o : Option Capability) → at_owner ≡ o → o ≡ None
      by None is = refl
      by (Some c) is = absurd
          (none (first-made T valid k
          (used-made T [] (nobody T valid k) k (inl (inl (owner_of T k, subst (λ (o : Option Capability). IsSome o) (sym is) refl))))))

  pub begun-is : begun_life k (option_map (λ (c : Capability). c.selector) at_owner) ≡ life_so_far T [] k
  begun-is = elim (cases_Bool (has_key (root_keys T) k)) [
    | inl root ↦
        let c = root-at (Contains-from_has_key (root_keys T) k root) in
        let there : whereabouts T (start T) k ≡ Unmarked c.0.selector = ap (λ o. option_map_or held_as o (unheld (is_coming k (start T)))) c.1
        ∙ ap (λ m. held_with m c.0.selector) c.2 in
        ap (λ (o : Option Capability). begun_life k (option_map (λ (x : Capability). x.selector) o)) c.1
        ∙ (ap (life_of_root k) (sym there)
        ∙ sym (ap (λ (o : Option KeyLife). unwrap_or o (begun_life k None))
        (cond-true (has_key (root_keys T) k) (Some (life_of_root k (whereabouts T (start T) k))) None root)))
    | inr other ↦
        ap (λ (o : Option Capability). begun_life k (option_map (λ (x : Capability). x.selector) o))
        (no-root (λ root. true≢false (sym (has_key-from_Contains (root_keys T) k root) ∙ other)))
        ∙ sym (ap (λ (o : Option KeyLife). unwrap_or o (begun_life k None))
        (cond-false (has_key (root_keys T) k) (Some (life_of_root k (whereabouts T (start T) k))) None other))
  ]

module _ (T : Setup) (valid : IsSetup T) (J : List Entry) (runs : IsSchedule T J) where
  -- at the end each made key has its life
  all-lives : (ks : List KeyName) → ((k : KeyName) → Contains ks k → IsSome (life T J k)) → map (life_so_far T J) ks ≡ filter_map (life T J) ks
  all-lives [] each = refl
  all-lives (k ∷ ks) each = by (life T J k) refl (each k (Contains-head k ks)) (all-lives ks (λ q among. each q (Contains-tail k ks q among)))
    where
      by : (o : Option KeyLife) → life T J k ≡ o → IsSome o → map (life_so_far T J) ks ≡ filter_map (life T J) ks →
          life_so_far T J k ∷ map (life_so_far T J) ks ≡ cons_option (life T J k) (filter_map (life T J) ks)
      by None none some rest = absurd cc
      by (Some l) is some rest =
          ap (λ (o : Option KeyLife). unwrap_or o (begun_life k None) ∷ map (life_so_far T J) ks) is
          ∙ (ap (λ xs. l ∷ xs) rest
          ∙ sym (ap (λ (o : Option KeyLife). cons_option o (filter_map (life T J) ks)) is))

  pub lives-are : map (life_so_far T J) (key_set (made T J)) ≡ lives T J
  lives-are = all-lives (key_set (made T J)) (λ k among. made-life T valid J runs k (key_set-from (made T J) k among))

  -- only VPEs in their range have waiting calls
  pub parked-low : (i v : ℕ) (p : Parked) → parked (side (world_after T J) i) v ≡ Some p → v < VPES
  parked-low i v p is = elim (cases_lt i T.kernels) [
    | inl below ↦ elim (cases_lt v VPES) [
      | inl low ↦ low
      | inr past ↦
          let places = ((schedule-sound T valid J runs).sides i below).park_places in
          let none = get_or_past (side (world_after T J) i).parks v None (omega (arith, places, past)) in
          let clash : None ≡ Some p = sym none ∙ is in absurd cc
    ]
    | inr above ↦ let clash : None ≡ Some p = sym (ap (λ (t : Side). parked t v) (schedule-past T J runs i above)) ∙ is in absurd cc
  ]

-- the life so far of a key is the key's
pub so-far-keyed : (T : Setup) → IsSetup T → (J : List Entry) → IsSchedule T J → (k : KeyName) → (life_so_far T J k).key ≡ k
so-far-keyed T valid J runs k = by (life T J k) refl
  where
    by : (o : Option KeyLife) → life T J k ≡ o → (unwrap_or o (begun_life k None)).key ≡ k
    by None none = refl
    by (Some l) some = (tells T valid k J runs).of_key l some
