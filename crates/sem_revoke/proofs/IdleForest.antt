-- What an idle world holds is the forest: what was cut off is gone, and so is all below it.
use Rattle.std.proofs.Common.{◌≡◌, ◌⊎◌, ℕ, zero, suc, ◌≤◌, true, false, not, List, [], ◌∷◌, ◌++◌, Option, Some, None, is_some, length, filter, refl, sym, ap}
use Rattle.std.proofs.Common.{◌∙◌, subst, inl, inr, arith}
use Rattle.std.specs.Prelude.{◌↔◌, IsSome}
use Rattle.std.specs.List.{Contains}
use Rattle.std.specs.Option.{option_map_or}
use Rattle.std.proofs.lemmas.Bool.{cases_lt, true≢false, false_from_ne_true}
use Rattle.std.proofs.lemmas.List.Elements.{Contains-append_cases}
use Rattle.sem_key.specs.KeyName.{KeyName, key_eq}
use Rattle.sem_key.specs.KeyList.{with_key}
use Rattle.sem_key.specs.Region.{has_key}
use Rattle.sem_key.specs.Lists.{in_turn}
use Rattle.sem_key.specs.Capability.{Capability}
use Rattle.sem_key.proofs.KeyTests.{key_eq-true, Contains-from_has_key}
use Rattle.sem_key.proofs.Members.{found, list_any-some, Contains-head, Contains-tail, Contains-nil, Contains-cons_cases, Contains-filter, Contains-from_filter}
use Rattle.sem_msg.specs.declared.entry.Entry.{Entry}
use Rattle.sem_msg.specs.declared.message.Message.TheVariants.{ObtainOk, Ack}
use Rattle.sem_msg.specs.Setup.{Setup, IsSetup}
use Rattle.sem_msg.specs.Lookups.{kernel_of, owner_of}
use Rattle.sem_machine.specs.Sides.{Side, cap, parked, is_alive}
use Rattle.sem_machine.specs.Resumes.{can_resume}
use Rattle.sem_machine.specs.Machine.{World, side}
use Rattle.sem_machine.specs.Schedules.{IsSchedule, world_after}
use Rattle.sem_machine.specs.Journals.{grants, parent_in, ancestry_in, ancestry, cut, cut_from, has_ended, descends_from_any, forest, made, root_keys}
use Rattle.sem_machine.specs.Living.{HoldsCap, IsHeld, IsLive, IsIdle}
use Rattle.sem_safety.proofs.GrownLines.{line-self, few-grants, child-grown, line-enough, parent-is, parent-granted}
use Rattle.sem_sound.proofs.Named.{declared-kernel}
use Rattle.sem_sound.proofs.Scheduling.{schedule-sound}
use Rattle.sem_revoke.specs.Resting.{IsCutOff}
use Rattle.sem_revoke.specs.Resting.IsStirring.{by_message, by_call}
use Rattle.sem_key.proofs.KeySets.{with_key-from}
use Rattle.sem_safety.proofs.OneLife.{all-grown}
use Rattle.sem_safety.proofs.CarryingWorlds.{used-made}
use Rattle.sem_revoke.specs.Rest.{IsBeingCut}
use Rattle.sem_revoke.proofs.Cuts.{cut-answered}
use Rattle.sem_revoke.proofs.DeadCapsWorlds.{dead-marked}
use Rattle.sem_revoke.proofs.Ended.{all-dead}
use Rattle.sem_revoke.proofs.Granted.{nothing-lost}
use Rattle.sem_revoke.proofs.IdleJobs.{still, deeper, no-marks, unparked-so}
use Rattle.sem_revoke.proofs.Linking.{all-linked}
use Rattle.sem_revoke.proofs.Readying.{schedule-past}
use Rattle.sem_revoke.proofs.Serving.{schedule-served, all-gone}
use Rattle.sem_revoke.proofs.Waits.{Resting}

line-alone : (n : ℕ) (gs : List (KeyName × KeyName)) (k : KeyName) → parent_in gs k ≡ None → ancestry_in n gs k ≡ k ∷ []
unfolding ancestry_in
line-alone zero gs k none = refl
line-alone (suc n) gs k none = ap (λ o. k ∷ option_map_or (ancestry_in n gs) o []) none

-- what stands in a set of keys is one of them
turned-from : (ks found' : List KeyName) (k : KeyName) → Contains (in_turn (λ q list. with_key list q) ks found') k → Contains found' k ⊎ Contains ks k
unfolding in_turn
turned-from [] found' k among = inl among
turned-from (q ∷ qs) found' k among = elim (turned-from qs (with_key found' q) k among) [
  | inl there ↦ elim (with_key-from found' q k there) [
    | inl same ↦ inr (subst (Contains (q ∷ qs)) same (Contains-head q qs))
    | inr before ↦ inl before
  ]
  | inr later ↦ inr (Contains-tail q qs k later)
]

module _ (T : Setup) (valid : IsSetup T) (J : List Entry) (runs : IsSchedule T J) (idle : IsIdle (world_after T J)) where
  abbrev W : World
  W = world_after T J

  abbrev gs : List (KeyName × KeyName)
  gs = grants J

  abbrev depth : KeyName → ℕ
  depth k = length (ancestry_in (suc (length J)) gs k)

  -- a capability is held by the kernel of its VPE
  home-of : (i : ℕ) (k : KeyName) (c : Capability) → HoldsCap W i k c → (kernel_of T k.vpe ≡ i) × (owner_of T k ≡ i)
  home-of i k c held = elim (cases_lt i T.kernels) [
    | inr high ↦ absurd (let none : None ≡ Some c = sym (ap (λ (s : Side). cap s k) (schedule-past T J runs i high)) ∙ held in absurd cc)
    | inl low ↦
        let there = found (λ (x : Capability). key_eq x.key k) (side W i).caps c held in
        let own = (((schedule-sound T valid J runs).sides i low).caps c there.0).own in
        let same : c.key ≡ k = key_eq-true c.key k there.1 in
        (ap (λ (q : KeyName). kernel_of T q.vpe) (sym same) ∙ (declared-kernel T c.key.pe c.key.vpe own.0.1 ∙ own.1), ap (owner_of T) (sym same) ∙ own.1)
  ]

  -- no VPE that is dead holds anything
  none-dead : (i : ℕ) (k : KeyName) (c : Capability) → HoldsCap W i k c → is_alive (side W (kernel_of T k.vpe)) k.vpe ≡ false → ⊥
  none-dead i k c held dead =
      let at' = (home-of i k c held).0 in
      let marked = dead-marked T valid J runs k c (subst (λ n. HoldsCap W n k c) (sym at') held) dead in
      let none = no-marks T valid J runs idle i k c held in
      true≢false (sym marked ∙ ap (λ (o : Option ℕ). is_some o) none)

  -- a held key as its capability
  pub held-cap : (k : KeyName) → IsHeld W k → (j : ℕ) × (d : Capability) × HoldsCap W j k d
  held-cap k (j, some) = from (cap (side W j) k) refl some
    where
      from : (o : Option Capability) → cap (side W j) k ≡ o → IsSome o → (n : ℕ) × (d : Capability) × HoldsCap W n k d
      from None at some = absurd cc
      from (Some d) at some = (j, d, at)

  -- what is held was not cut off
  pub uncut-itself : (k : KeyName) → IsHeld W k → IsCutOff J k → ⊥
  uncut-itself k held (inr over) = let there = held-cap k held in none-dead there.0 k there.1 there.2 (all-dead k.vpe T J runs over)
  uncut-itself k held (inl cuts) = elim (cut-answered T valid J runs k cuts) [
    | inr done ↦ all-gone T valid J runs k k (inl (inl held)) (line-self (length J) gs k) done
    | inl waits ↦ being waits
  ]
    where
      being : IsBeingCut J k → ⊥
      being B =
          let w = (schedule-served T valid J runs).rest B.vpe B.keys k B.waits B.among in
          let rest : Resting None (side W (owner_of T w.0)) k w.0 B.vpe (parked (side W (owner_of T w.0)) B.vpe) = w.1.rest in
          let none = unparked-so T valid J runs idle (owner_of T w.0) B.vpe in
          let dead : is_alive (side W (owner_of T w.0)) B.vpe ≡ false = subst (Resting None (side W (owner_of T w.0)) k w.0 B.vpe) none rest in
          let over : is_alive (side W (kernel_of T B.own.vpe)) B.own.vpe ≡ false = ap (λ u. is_alive (side W (kernel_of T u)) u) B.whose
          ∙ (ap (λ n. is_alive (side W n) B.vpe) w.1.home ∙ dead) in
          elim B.below [
            | inl same ↦ let there = held-cap k held in
                none-dead there.0 k there.1 there.2 (ap (λ (q : KeyName). is_alive (side W (kernel_of T q.vpe)) q.vpe) same ∙ over)
            | inr granted ↦ let up = all-linked T valid J runs B.own k (inl held) granted in none-dead (owner_of T B.own) B.own up.0 up.1 over
          ]

  -- what is live is held
  pub live-held : (k : KeyName) → IsLive W k → IsHeld W k
  live-held k (inl held) = held
  live-held k (inr (inl granted)) = absurd (still W idle (by_message (ObtainOk granted.parent k granted.object) granted.arriving))
  live-held k (inr (inr (inl acked))) = absurd (still W idle (by_message (Ack k true) acked))
  live-held k (inr (inr (inr ready))) = absurd (still W idle (by_call ready.kernel ready.vpe (ap can_resume ready.ready)))

  -- the line of a child goes on with that of its parent
  line-on : (p k a : KeyName) → Contains gs (p, k) → Contains (ancestry J k) a → (k ≡ a) ⊎ Contains (ancestry J p) a
  unfolding ancestry_in
  line-on p k a granted among =
      let grown_so = all-grown T valid J runs in
      let few = few-grants J in
      let there = child-grown (root_keys T) gs p k granted in
      let longer : ancestry J k ≡ ancestry_in (suc (length J)) gs k =
      line-enough (root_keys T) gs grown_so (length J) (suc (length J)) k few (omega (arith, few)) there in
      from (subst (λ ks. Contains ks a) longer among)
    where
      from : Contains (ancestry_in (suc (length J)) gs k) a → (k ≡ a) ⊎ Contains (ancestry J p) a
      from here = Contains-cons_cases k (ancestry J p) a (subst (λ (o : Option KeyName). Contains (k ∷ option_map_or (ancestry_in (length J) gs) o []) a)
          (parent-is (root_keys T) gs (all-grown T valid J runs) p k granted) here)

  -- nor was what is above it
  uncut-step : (k : KeyName) → IsHeld W k → (a : KeyName) → Contains (ancestry J k) a → IsCutOff J a →
      ((p : KeyName) → Contains gs (p, k) → IsHeld W p → Contains (ancestry J p) a → ⊥) → ⊥
  uncut-step k held a among cut' rest = from (parent_in gs k) refl
    where
      from : (o : Option KeyName) → parent_in gs k ≡ o → ⊥
      from None at = uncut-itself k held
          (subst (IsCutOff J) (sym (only (Contains-cons_cases k [] a (subst (λ ks. Contains ks a) (line-alone (length J) gs k at) among)))) cut')
        where
          only : (k ≡ a) ⊎ Contains [] a → k ≡ a
          only (inl same) = same
          only (inr none) = absurd (Contains-nil a none)
      from (Some p) at =
          let granted = parent-granted gs k p at in
          elim (line-on p k a granted among) [
            | inl same ↦ uncut-itself k held (subst (IsCutOff J) (sym same) cut')
            | inr above ↦ let up = all-linked T valid J runs p k (inl held) granted in rest p granted (owner_of T p, subst IsSome (sym up.1) refl) above
          ]

  uncut : (n : ℕ) (k : KeyName) → IsHeld W k → depth k ≤ n → (a : KeyName) → Contains (ancestry J k) a → IsCutOff J a → ⊥
  uncut zero k held small a among cut' = uncut-step k held a among cut' (λ p granted held' above. let more = deeper T valid J runs p k granted in
      absurd (omega (arith, more, small)))
  uncut (suc n) k held small a among cut' = uncut-step k held a among cut' (λ p granted held' above. let more = deeper T valid J runs p k granted in
      uncut n p held' (omega (arith, more, small)) a above cut')

  abbrev cuts : List KeyName
  cuts = cut_from [] J

  abbrev dead : List KeyName
  dead = filter (λ (k : KeyName). has_ended J k.vpe) (made T J)

  cut-is : (a : KeyName) → has_key (cut T J) a ≡ true → IsCutOff J a
  cut-is a has = elim (turned-from (cuts ++ dead) [] a (Contains-from_has_key (cut T J) a has)) [
    | inl none ↦ absurd (Contains-nil a none)
    | inr some ↦ elim (Contains-append_cases cuts dead a some) [
      | inl one ↦ inl one
      | inr two ↦ inr (Contains-from_filter (λ (k : KeyName). has_ended J k.vpe) (made T J) a two).1
    ]
  ]

  -- what is held is the forest
  pub forest-held : (k : KeyName) → IsHeld W k ↔ Contains (forest T J) k
  forest-held k = (
    λ held. Contains-filter (λ q. not (descends_from_any J (cut T J) q)) (made T J) k (used-made T J runs k (inl (inl held))) (free held),
    λ among. live-held k (nothing-lost T valid J runs k among),
  )
    where
      free : IsHeld W k → not (descends_from_any J (cut T J) k) ≡ true
      free held = ap not (false_from_ne_true (descends_from_any J (cut T J) k) (λ descends.
          let some = list_any-some (has_key (cut T J)) (ancestry J k) descends in
          uncut (depth k) k held (omega arith) some.0 some.1 (cut-is some.0 some.2)))
