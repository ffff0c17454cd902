-- What stands at a selector of a sound side.
use Rattle.std.proofs.Common.{◌≡◌, ℕ, ◌<◌, true, Option, Some, None, is_some, is_none, refl, sym, ap, ◌∙◌}
use Rattle.std.proofs.lemmas.Bool.{true≢false, and_parts}
use Rattle.std.specs.Prelude.{◌==◌}
use Rattle.sem_msg.specs.declared.call.Call.TheVariants.{Revoke}
use Rattle.sem_msg.specs.declared.event.Act.TheVariants.{Call as Calls}
use Rattle.sem_msg.specs.Lookups.{kernel_of}
use Rattle.sem_machine.specs.Steps.{unshown, cutting}
use Rattle.sem_machine.specs.Calls.{call_row, with_held}
use Rattle.sem_machine.specs.Revokes.{revoke_begun}
use Rattle.sem_machine.specs.Machine.{next_call, is_locally_enabled}
use Rattle.sem_key.specs.KeyName.{KeyName, key_eq}
use Rattle.sem_key.specs.Capability.{Capability}
use Rattle.sem_key.proofs.KeyTests.{key_eq-true, key_eq-from}
use Rattle.sem_key.proofs.Members.{found, not_found}
use Rattle.sem_msg.specs.declared.state.Slot.{Slot}
use Rattle.sem_msg.specs.declared.state.Slot.TheVariants.{Free, Held, Promised}
use Rattle.sem_msg.specs.Setup.{Setup, IsSetup}
use Rattle.sem_machine.specs.Sides.{Side, slot, own, cap, cap_in, parked, is_alive}
use Rattle.sem_machine.specs.Sound.{IsSound}
use Rattle.sem_sound.proofs.Holding.{one-cap}

module _ (T : Setup) (valid : IsSetup T) (i : ℕ) (few : i < T.kernels) (s : Side) (sound : IsSound T i s) where
  -- what is at a selector is held
  pub slot-cap : (v sel : ℕ) (k : KeyName) → slot s v sel ≡ Held k → (c : Capability) × (cap s k ≡ Some c)
  slot-cap v sel k at = from (cap s k) refl
    where
      from : (o : Option Capability) → cap s k ≡ o → (c : Capability) × (cap s k ≡ Some c)
      from (Some c) some = (c, some)
      from None none =
          let there = (sound.held v sel k at).1 in
          absurd (true≢false (sym (key_eq-from there.0.key k there.2) ∙ not_found (λ (x : Capability). key_eq x.key k) s.caps there.0 none there.1))

  -- and only there
  pub one-slot : (v sel sel' : ℕ) (k : KeyName) → slot s v sel ≡ Held k → slot s v sel' ≡ Held k → sel ≡ sel'
  one-slot v sel sel' k at at' =
      let a = (sound.held v sel k at).1 in
      let b = (sound.held v sel' k at').1 in
      let same : a.0 ≡ b.0 = one-cap T valid i few None None None None s sound a.0 b.0 a.1 b.1 (a.2 ∙ sym b.2) in
      sym a.3 ∙ (ap (λ (c : Capability). c.selector) same ∙ b.3)

  -- the capability at a selector
  pub own-held : (v sel : ℕ) (c : Capability) → own s v sel ≡ Some c → (slot s v sel ≡ Held c.key) × (cap s c.key ≡ Some c) × (c.key.vpe ≡ v)
  own-held v sel c held = from (slot s v sel) refl held
    where
      from : (x : Slot) → slot s v sel ≡ x → cap_in s x ≡ Some c → (slot s v sel ≡ Held c.key) × (cap s c.key ≡ Some c) × (c.key.vpe ≡ v)
      from Free at none = absurd cc
      from Promised at none = absurd cc
      from (Held k) at some =
          let same : c.key ≡ k = key_eq-true c.key k (found (λ (x : Capability). key_eq x.key k) s.caps c some).1 in
          (at ∙ ap Held (sym same), ap (cap s) same ∙ some, ap (λ (q : KeyName). q.vpe) same ∙ (sound.held v sel k at).0)

  pub held-own : (v sel : ℕ) (k : KeyName) (c : Capability) → slot s v sel ≡ Held k → cap s k ≡ Some c → own s v sel ≡ Some c
  held-own v sel k c at held = ap (cap_in s) at ∙ held

pub same_Held : (a b : KeyName) → Held a ≡ Held b → a ≡ b
same_Held a b same = cc same

-- a revoke of what is held cuts it off
pub revoke-cuts : (T : Setup) (i : ℕ) (s : Side) (v src : ℕ) (c : Capability) → own s v src ≡ Some c
    → ◌≡◌ {A = Option KeyName} (call_row T i s v (Revoke src)).outcome.cut (Some c.key)
unfolding call_row
revoke-cuts T i s v src c held = ap (λ o. (with_held o (λ (x : Capability). cutting x.key (unshown (revoke_begun T i v x.key x.mark s))) s).outcome.cut) held

-- who may call has a call left
pub called : (T : Setup) (i : ℕ) (s : Side) (v : ℕ) → is_locally_enabled T i s (Calls v) ≡ true → is_some (next_call T s v) ≡ true
unfolding is_locally_enabled
called T i s v enabled = (and_parts (is_none (parked s v)) _ (and_parts (is_alive s v) _ (and_parts (kernel_of T v == i) _ enabled).1).1).1
