-- A capability stays as it is as long as it is held: a key that is gone does not come back.
use Rattle.std.proofs.Common.{◌≡◌, ◌⊎◌, ℕ, zero, suc, ◌≤◌, false, List, [], ◌∷◌, ◌++◌, Option, Some, None, refl, sym, ◌∙◌, subst, inl, inr, arith}
use Rattle.std.specs.List.{Contains}
use Rattle.std.proofs.lemmas.Bool.{cases_Bool}
use Rattle.std.proofs.lemmas.Option.{same_Some}
use Rattle.std.proofs.lemmas.List.{append_assoc, append-nil}
use Rattle.sem_key.specs.KeyName.{KeyName}
use Rattle.sem_key.specs.Capability.{Capability}
use Rattle.sem_msg.specs.declared.entry.Entry.{Entry}
use Rattle.sem_msg.specs.Setup.{Setup, IsSetup}
use Rattle.sem_msg.specs.Lookups.{owner_of}
use Rattle.sem_machine.specs.Sides.{cap}
use Rattle.sem_machine.specs.Machine.{World, side}
use Rattle.sem_machine.specs.Schedules.{IsSchedule, world_after}
use Rattle.sem_machine.specs.Journals.{made}
use Rattle.sem_machine.specs.Living.{HoldsCap}
use Rattle.sem_safety.proofs.Lives.{all_held}
use Rattle.sem_safety.proofs.LiveWorlds.{at_world}
use Rattle.sem_safety.proofs.HeldOnce.{keys-distinct}
use Rattle.sem_safety.proofs.CarryingWorlds.{used-made}
use Rattle.sem_safety.proofs.OneLife.{all-new}
use Rattle.sem_revoke.proofs.Alive.{weighs-live}
use Rattle.sem_revoke.proofs.Viewing.{on_its_way}
use Rattle.sem_query.specs.Changes.{grants_key}
use Rattle.sem_query.proofs.Bearing.{IsKin, kin-same, kin-next}
use Rattle.sem_query.proofs.Passing.{same-kin, counts, granted-pair, with-e, at, owner-bears, when-not}
use Rattle.sem_query.proofs.Telling.{made-keeps}

module _ (T : Setup) (valid : IsSetup T) (k : KeyName) (c : Capability) where
  -- by what the owner holds, and the number of the places where the key is live: it is held as it was, or gone
  abbrev Stands : World → Option Capability → Type 0
  Stands W o = ((d : Capability) × (o ≡ Some d) × IsKin c d) ⊎ (at_world k all_held W ≡ 0)

  abbrev StandsAfter : List Entry → Type 0
  StandsAfter J = Stands (world_after T J) (cap (side (world_after T J) (owner_of T k)) k)

  -- an entry that does not grant the key
  module _ (J later : List Entry) (e : Entry) (runs : IsSchedule T (J ++ e ∷ later)) (there : Contains (made T J) k) where
    before : IsSchedule T J
    before = (at T valid (J ++ e ∷ later) runs J later e refl k).0

    after : IsSchedule T (J ++ e ∷ [])
    after = with-e T valid (J ++ e ∷ later) runs J later e refl k

    ungranted : grants_key k e ≡ false
    ungranted = elim (cases_Bool (grants_key k e)) [
      | inl is ↦ let g = granted-pair k e.grant is in absurd (all-new T valid (J ++ e ∷ later) runs J later e g.0 k refl g.1 there)
      | inr none ↦ none
    ]

    fewer : (at_world k all_held (world_after T (J ++ e ∷ [])) ≤ at_world k all_held (world_after T J))
        × (at_world k on_its_way (world_after T (J ++ e ∷ [])) ≤ at_world k on_its_way (world_after T J))
    fewer = when-not T valid (J ++ e ∷ later) runs J later e refl k ungranted

    still : StandsAfter J → StandsAfter (J ++ e ∷ [])
    still (inr gone) = inr (let few = fewer.0 in omega (arith, few, gone))
    still (inl (m, held, kin)) = by (cap (side (world_after T (J ++ e ∷ [])) (owner_of T k)) k) refl
      where
        gone : (n : ℕ) → cap (side (world_after T (J ++ e ∷ [])) (owner_of T k)) k ≡ None → at_world k all_held (world_after T (J ++ e ∷ [])) ≡ n →
            at_world k all_held (world_after T (J ++ e ∷ [])) ≡ 0
        gone zero none is = is
        gone (suc n) none is =
            let was = counts T valid J before k in
            let coming = (counts T valid (J ++ e ∷ []) after k).unheld none (omega (arith, is)) in
            let few = fewer.1 in
            let one = was.held m held in
            let most = was.most in
            absurd (omega (arith, coming, few, one, most))

        by : (o : Option Capability) → cap (side (world_after T (J ++ e ∷ [])) (owner_of T k)) k ≡ o →
            Stands (world_after T (J ++ e ∷ [])) (cap (side (world_after T (J ++ e ∷ [])) (owner_of T k)) k)
        by (Some d) is =
            let distinct = keys-distinct T valid J before (owner_of T k) in
            let distinct' = keys-distinct T valid (J ++ e ∷ []) after (owner_of T k) in
            let bears = owner-bears T valid (J ++ e ∷ later) runs J later e refl k in
            inl (d, is, kin-next c m d kin (same-kin k _ _ distinct distinct' bears m d held is))
        by None none = inr (gone (at_world k all_held (world_after T (J ++ e ∷ []))) none refl)

  stands : (later J : List Entry) → IsSchedule T (J ++ later) → Contains (made T J) k → StandsAfter J → StandsAfter (J ++ later)
  stands [] J runs there is = subst StandsAfter (sym (append-nil J)) is
  stands (e ∷ later) J runs there is =
      let parts : (J ++ e ∷ []) ++ later ≡ J ++ e ∷ later = append_assoc J (e ∷ []) later in
      subst StandsAfter parts (stands later (J ++ e ∷ []) (subst (IsSchedule T) (sym parts) runs) (made-keeps T k J e there) (still J later e runs there is))

-- the first entries of a schedule are one
first-of : (T : Setup) → IsSetup T → (later J : List Entry) → IsSchedule T (J ++ later) → KeyName → IsSchedule T J
first-of T valid [] J runs k = subst (IsSchedule T) (append-nil J) runs
first-of T valid (e ∷ later) J runs k = (at T valid (J ++ e ∷ later) runs J later e refl k).0

-- a capability that is held at two times is the same one
pub held-on : (T : Setup) → IsSetup T → (J later : List Entry) (k : KeyName) (c d : Capability) → IsSchedule T (J ++ later)
    → HoldsCap (world_after T J) (owner_of T k) k c → HoldsCap (world_after T (J ++ later)) (owner_of T k) k d
    → (d.selector ≡ c.selector) × (d.object ≡ c.object)
held-on T valid J later k c d runs was is =
    let before : IsSchedule T J = first-of T valid later J runs k in
    let first = counts T valid J before k in
    let last = counts T valid (J ++ later) runs k in
    let alive = first.held c was in
    let there : Contains (made T J) k = used-made T J before k (inl (weighs-live k (world_after T J) (omega (arith, alive)))) in
    elim (stands T valid k c later J runs there (inl (c, was, kin-same c))) [
      | inl (m, held, kin) ↦
          let same : m ≡ d = same_Some m d (sym held ∙ is) in
          (subst (λ (x : Capability). x.selector ≡ c.selector) same kin.selector, subst (λ (x : Capability). x.object ≡ c.object) same kin.object)
      | inr gone ↦ let one = last.held d is in absurd (omega (arith, gone, one))
    ]
