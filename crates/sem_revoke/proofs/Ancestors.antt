-- All ancestors of a key in use are held.
use Rattle.std.proofs.Common.{◌≡◌, ◌⊎◌, ℕ, zero, suc, List, [], length, Option, Some, None, refl, ap, ◌∙◌, subst, inl, inr}
use Rattle.std.specs.List.{Contains}
use Rattle.std.specs.Option.{option_map_or}
use Rattle.sem_key.specs.KeyName.{KeyName}
use Rattle.sem_key.specs.Capability.{Capability}
use Rattle.sem_msg.specs.declared.entry.Entry.{Entry}
use Rattle.sem_msg.specs.Setup.{Setup, IsSetup}
use Rattle.sem_msg.specs.Lookups.{owner_of}
use Rattle.sem_machine.specs.Sides.{cap}
use Rattle.sem_machine.specs.Machine.{side}
use Rattle.sem_machine.specs.Living.{HoldsCap}
use Rattle.sem_machine.specs.Safety.{IsInUse}
use Rattle.sem_machine.specs.Schedules.{IsSchedule, world_after}
use Rattle.sem_machine.specs.Journals.{grants, ancestry, ancestry_in, parent_in}
use Rattle.sem_key.proofs.Members.{Contains-nil, Contains-cons_cases}
use Rattle.sem_safety.proofs.GrownLines.{parent-granted}
use Rattle.sem_safety.proofs.SoundWorlds.{all-endpoints}
use Rattle.sem_revoke.specs.Views.{Alive}
use Rattle.sem_revoke.proofs.Worlds.{whole}
use Rattle.sem_revoke.proofs.Events.{Par, Made}
use Rattle.sem_revoke.proofs.Readying.{schedule-homes}
use Rattle.sem_revoke.proofs.Linking.{live-alive, holds}

module _ (T : Setup) (valid : IsSetup T) (J : List Entry) (runs : IsSchedule T J) where
  abbrev IsAliveNow : KeyName → Type 0
  IsAliveNow k = Alive (owner_of T) (Par (grants J)) (Made T (grants J)) (whole T (world_after T J)) k

  abbrev IsHeldNow : KeyName → Type 0
  IsHeldNow k = (c : Capability) × HoldsCap (world_after T J) (owner_of T k) k c

  -- what is in use is alive
  pub used-alive : (k : KeyName) → IsInUse (world_after T J) k → IsAliveNow k
  used-alive k (inl live) = live-alive T valid J runs (Par (grants J)) (Made T (grants J)) k live
  used-alive k (inr (v, n, binds)) =
      let sound = all-endpoints T valid J runs binds.kernel v n binds.bound binds.at_endpoint in
      let held : cap (side (world_after T J) binds.kernel) k ≡ Some sound.capability =
      subst (λ q. cap (side (world_after T J) binds.kernel) q ≡ Some sound.capability) binds.to_key sound.held in
      inl (sound.capability, ap (λ a. cap (side (world_after T J) a) k) (schedule-homes T valid J runs binds.kernel k sound.capability held) ∙ held)

  -- an ancestor is the key itself, or held
  pub ancestor-held : (n : ℕ) (k a : KeyName) → IsAliveNow k → Contains (ancestry_in n (grants J) k) a → (k ≡ a) ⊎ IsHeldNow a
  unfolding ancestry_in
  ancestor-held zero k a alive among = elim (Contains-cons_cases k [] a among) [ inl same ↦ inl same | inr none ↦ absurd (Contains-nil a none) ]
  ancestor-held (suc n) k a alive among = elim (Contains-cons_cases k (option_map_or (ancestry_in n (grants J)) (parent_in (grants J) k) []) a among) [
    | inl same ↦ inl same
    | inr above ↦ inr (from (parent_in (grants J) k) refl (λ p live there. ancestor-held n p a live there) above)
  ]
    where
      from : (o : Option KeyName) → parent_in (grants J) k ≡ o → ((p : KeyName) → IsAliveNow p → Contains (ancestry_in n (grants J) p) a → (p ≡ a) ⊎ IsHeldNow a) →
          Contains (option_map_or (ancestry_in n (grants J)) o []) a → IsHeldNow a
      from None none rest above = absurd (Contains-nil a above)
      from (Some p) some rest above =
          let leads = (holds T valid J runs).linked p k (parent-granted (grants J) k p some) alive in
          elim (rest p (inl (leads.0, leads.1)) above) [
            | inl same ↦ subst IsHeldNow same (leads.0, leads.1)
            | inr held ↦ held
          ]

  -- so all are alive
  pub ancestor-alive : (k a : KeyName) → IsInUse (world_after T J) k → Contains (ancestry J k) a → IsAliveNow a
  ancestor-alive k a used among = elim (ancestor-held (length J) k a (used-alive k used) among) [
    | inl same ↦ subst IsAliveNow same (used-alive k used)
    | inr held ↦ inl (held.0, held.1)
  ]

  pub ancestors-held : (k a : KeyName) → IsInUse (world_after T J) k → Contains (ancestry J k) a → (k ≡ a) ⊎ IsHeldNow a
  ancestors-held k a used among = ancestor-held (length J) k a (used-alive k used) among
