-- Which keys are near: no message goes to the parent of such a key. It is the key of a root, or was granted within a
-- kernel.
use Rattle.std.proofs.Common.{◌≡◌, ℕ, ◌&&◌, Bool, true, List, Option, Some, None, refl, sym, ap, ◌∙◌, arith, eq-eqb}
use Rattle.std.specs.Prelude.{◌==◌}
use Rattle.std.specs.List.{Contains, find}
use Rattle.std.specs.Option.{option_map, option_map_or}
use Rattle.std.proofs.lemmas.Bool.{cond-true, and_from, eqb-true}
use Rattle.sem_key.specs.KeyName.{KeyName, key_eq}
use Rattle.sem_msg.specs.declared.entry.Entry.{Entry}
use Rattle.sem_msg.specs.Setup.{Setup, IsSetup}
use Rattle.sem_msg.specs.Lookups.{owner_of}
use Rattle.sem_machine.specs.Schedules.{IsSchedule}
use Rattle.sem_machine.specs.Journals.{grants, parent_in, root_keys}
use Rattle.sem_key.proofs.KeyTests.{key_eq-true}
use Rattle.sem_key.proofs.Members.{found}
use Rattle.sem_machine.proofs.Weighing.{weigh-among}
use Rattle.sem_safety.proofs.Tokens.{of_key}
use Rattle.sem_safety.proofs.OneLife.{schedule-once, all-grown}
use Rattle.sem_safety.proofs.GrownLines.{parent-is}
use Rattle.sem_safety.proofs.CarryingWorlds.{among-grants}
use Rattle.sem_bound.proofs.Layering.{IsNearGrant}

-- the key has no parent in a journal, or one of its own kernel
abbrev pub near : Setup → List Entry → KeyName → Bool
near T J k = option_map_or (λ p. owner_of T p == owner_of T k) (parent_in (grants J) k) true

module _ (T : Setup) (valid : IsSetup T) (J : List Entry) (runs : IsSchedule T J) where
  abbrev granted_parent : (p k : KeyName) → Type 0
  granted_parent p k = parent_in (grants J) k ≡ Some p

  parent-of : (p k : KeyName) → Contains (grants J) (p, k) → granted_parent p k
  parent-of p k among = parent-is (root_keys T) (grants J) (all-grown T valid J runs) p k among

  -- a grant within a kernel is of a near key
  pub grant-near : (e : Entry) → Contains J e → IsNearGrant T (near T J) e.grant
  grant-near e among p k granted same =
      ap (λ (o : Option KeyName). option_map_or (λ q. owner_of T q == owner_of T k) o true)
      (parent-of p k (among-grants J e (p, k) among granted)) ∙ eq-eqb (owner_of T p) (owner_of T k) same

  -- and a near key was granted within its kernel, if at all
  pub near-grant : (p k : KeyName) → near T J k ≡ true → Contains (grants J) (p, k) → owner_of T p ≡ owner_of T k
  near-grant p k is among =
      eqb-true (owner_of T p) (owner_of T k)
      (sym (ap (λ (o : Option KeyName). option_map_or (λ q. owner_of T q == owner_of T k) o true)
      (parent-of p k among)) ∙ is)

  -- no root is granted
  pub root-near : (k : KeyName) → Contains (root_keys T) k → near T J k ≡ true
  root-near k root = from (find (λ (g : KeyName × KeyName). key_eq g.1 k) (grants J)) refl
    where
      from : (o : Option (KeyName × KeyName)) → find (λ (g : KeyName × KeyName). key_eq g.1 k) (grants J) ≡ o →
          option_map_or (λ p. owner_of T p == owner_of T k) (option_map (λ (g : KeyName × KeyName). g.0) o) true
          ≡ true
      from None none = refl
      from (Some g) some =
          let there = found (λ (h : KeyName × KeyName). key_eq h.1 k) (grants J) g some in
          let w : KeyName → ℕ = of_key k.vpe k.number in
          let one : w k ≡ 1 = cond-true ((k.vpe == k.vpe) && (k.number == k.number)) 1 0
          (and_from (k.vpe == k.vpe) (k.number == k.number) (eq-eqb k.vpe k.vpe refl)
          (eq-eqb k.number k.number refl)) in
          let same : w g.1 ≡ w k = ap w (key_eq-true g.1 k there.1) in
          let roots = weigh-among w (root_keys T) k root in
          let children = weigh-among (λ (h : KeyName × KeyName). w h.1) (grants J) g there.0 in
          let once = (schedule-once k.vpe k.number T valid J runs).once in
          absurd (omega (arith, one, same, roots, children, once))
