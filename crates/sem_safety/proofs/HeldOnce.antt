-- A key is held once: by one kernel at most, and no kernel holds it twice.
use Rattle.std.proofs.Common.{◌≡◌, ℕ, zero, suc, ◌+◌, ◌≤◌, ◌<◌, true, List, [], ◌∷◌, length, get_or, Some, refl, sym, ap, inl, inr, arith}
use Rattle.std.specs.List.{sum_by}
use Rattle.std.proofs.lemmas.Bool.{cases_Bool, cases_eq, cond-true}
use Rattle.std.proofs.lemmas.List.Elements.{Contains-get_or}
use Rattle.std.proofs.lemmas.List.Sums.{sum_by-cons}
use Rattle.sem_key.specs.KeyName.{KeyName, key_eq}
use Rattle.sem_key.specs.Capability.{Capability}
use Rattle.sem_msg.specs.declared.entry.Entry.{Entry}
use Rattle.sem_msg.specs.Setup.{Setup, IsSetup}
use Rattle.sem_machine.specs.Sides.{Side, no_side, cap}
use Rattle.sem_machine.specs.Machine.{World, side}
use Rattle.sem_machine.specs.Schedules.{IsSchedule, world_after}
use Rattle.sem_machine.specs.Living.{HoldsCap}
use Rattle.sem_key.proofs.KeyTests.{key_eq-same, key_eq-true, key_eq-from}
use Rattle.sem_key.proofs.Members.{found}
use Rattle.sem_safety.specs.Observations.{AreDistinct}
use Rattle.sem_safety.proofs.Lives.{all_held, at_cap, at_side}
use Rattle.sem_safety.proofs.LiveWorlds.{lives-once}
use Rattle.sem_safety.proofs.SoundWorlds.{held-once}
use Rattle.sem_machine.proofs.Weighing.{weigh-among}

-- an element weighs no more than all
pub weigh-at : {X : Type 0} (w : X → ℕ) (d : X) → w d ≡ 0 → (xs : List X) (i : ℕ) → w (get_or xs i d) ≤ sum_by w xs
weigh-at w d none [] i = omega (arith, none)
weigh-at w d none (x ∷ xs) zero = let all = sum_by-cons w x xs in omega (arith, all)
weigh-at w d none (x ∷ xs) (suc i) = let all = sum_by-cons w x xs in let rest = weigh-at w d none xs i in omega (arith, all, rest)

-- two elements at different places weigh together no more than all
pub weigh-two : {X : Type 0} (w : X → ℕ) (d : X) → w d ≡ 0 → (xs : List X) (i j : ℕ) → (i ≡ j → ⊥) → w (get_or xs i d) + w (get_or xs j d) ≤ sum_by w xs
weigh-two w d none [] i j apart = omega (arith, none)
weigh-two w d none (x ∷ xs) zero zero apart = absurd (apart refl)
weigh-two w d none (x ∷ xs) zero (suc j) apart = let all = sum_by-cons w x xs in let one = weigh-at w d none xs j in omega (arith, all, one)
weigh-two w d none (x ∷ xs) (suc i) zero apart = let all = sum_by-cons w x xs in let one = weigh-at w d none xs i in omega (arith, all, one)
weigh-two w d none (x ∷ xs) (suc i) (suc j) apart = let all = sum_by-cons w x xs in let rest = weigh-two w d none xs i j (λ same. apart (ap suc same)) in
    omega (arith, all, rest)

-- what is held weighs
held-weighs : (k : KeyName) (s : Side) (c : Capability) → cap s k ≡ Some c → 1 ≤ at_side k all_held s
held-weighs k s c held =
    let there = found (λ x. key_eq x.key k) s.caps c held in
    let one : at_cap k all_held c ≡ 1 = cond-true (key_eq c.key k) 1 0 there.1 in
    let among = weigh-among (at_cap k all_held) s.caps c there.0 in
    omega (arith, one, among)

pub one-kernel : (T : Setup) → IsSetup T → (J : List Entry) → IsSchedule T J → (i j : ℕ) (k : KeyName) (c d : Capability) → HoldsCap (world_after T J) i k c →
    HoldsCap (world_after T J) j k d → i ≡ j
one-kernel T valid J runs i j k c d first second = elim (cases_eq i j) [
  | inl same ↦ same
  | inr apart ↦
      let W : World = world_after T J in
      let once = lives-once k all_held T valid J runs in
      let one = held-weighs k (side W i) c first in
      let two = held-weighs k (side W j) d second in
      let both = weigh-two (at_side k all_held) no_side refl W.sides i j apart in
      absurd (omega (arith, once, one, two, both))
]

pub keys-distinct : (T : Setup) → IsSetup T → (J : List Entry) → IsSchedule T J → (i : ℕ) → AreDistinct (side (world_after T J) i).caps
keys-distinct T valid J runs i =
    λ a b d before within. elim (cases_Bool (key_eq (get_or (side (world_after T J) i).caps a d).key (get_or (side (world_after T J) i).caps b d).key)) [
      | inr differ ↦ differ
      | inl same ↦ absurd (twice (side (world_after T J) i).caps a b d before within same (λ k. held-once k T valid J runs i))
    ]
  where
    twice : (cs : List Capability) (a b : ℕ) (d : Capability) → a < b → b < length cs → key_eq (get_or cs a d).key (get_or cs b d).key ≡ true →
        ((k : KeyName) → sum_by (at_cap k all_held) cs ≤ 1) → ⊥
    twice [] a b d before within same once = omega (arith, within)
    twice (c ∷ cs) zero zero d before within same once = omega (arith, before)
    twice (c ∷ cs) (suc a) zero d before within same once = omega (arith, before)
    twice (c ∷ cs) zero (suc b) d before within same once =
        let k : KeyName = c.key in
        let all = sum_by-cons (at_cap k all_held) c cs in
        let one : at_cap k all_held c ≡ 1 = cond-true (key_eq c.key k) 1 0 (key_eq-same k) in
        let two : at_cap k all_held (get_or cs b d) ≡ 1 =
        cond-true (key_eq (get_or cs b d).key k) 1 0 (key_eq-from (get_or cs b d).key k (sym (key_eq-true c.key (get_or cs b d).key same))) in
        let among = weigh-among (at_cap k all_held) cs (get_or cs b d) (Contains-get_or cs b d (omega (arith, within))) in
        let most = once k in
        omega (arith, all, one, two, among, most)
    twice (c ∷ cs) (suc a) (suc b) d before within same once = twice cs a b d (omega (arith, before)) (omega (arith, within)) same (λ k. let all =
        sum_by-cons (at_cap k all_held) c cs in let most = once k in omega (arith, all, most))
