-- What a sound side gives to the calls that work on its stores.
use Rattle.std.proofs.Common.{◌≡◌, ℕ, ◌<◌, ◌&&◌, true, Option, Some, None, refl, sym, ◌∙◌, ap, subst, inl, inr, arith, eq-eqb}
use Rattle.std.specs.Prelude.{◌==◌, nat_lt, IfSome}
use Rattle.std.specs.List.{Contains, sum_by}
use Rattle.std.proofs.lemmas.Bool.{cases_Bool, ltb-true, and_from}
use Rattle.sem_key.specs.declared.key.Kind.{Kind}
use Rattle.sem_key.specs.declared.object.Object.{Object}
use Rattle.sem_key.specs.KeyName.{KeyName, key_eq}
use Rattle.sem_key.specs.PlaceName.{PlaceName, keyed}
use Rattle.sem_key.specs.Capability.{Capability}
use Rattle.sem_key.proofs.Members.{found, list_any-at}
use Rattle.sem_key.proofs.KeyTests.{key_eq-true}
use Rattle.sem_msg.specs.declared.setup.VpeDecl.{VpeDecl}
use Rattle.sem_msg.specs.declared.state.Parked.{Parked}
use Rattle.sem_msg.specs.declared.state.Parked.TheVariants.{ObtainWait, ObtainReady, ObtainCancelled, DelegateWait, DelegateReady, RevokeWait, Ready}
use Rattle.sem_msg.specs.declared.state.Pending.{Pending}
use Rattle.sem_msg.specs.Setup.{Setup, IsSetup}
use Rattle.sem_msg.specs.Lookups.{kernel_of, owner_of, is_declared, pe_of}
use Rattle.sem_machine.specs.Sides.{Side, row, cap, own, parked, pending}
use Rattle.sem_machine.specs.Asks.{is_obtain_wait}
use Rattle.sem_machine.specs.Sound.{IsSound, IsSoundCap, IsNamed, bit, kept, keeps_number}
use Rattle.sem_machine.proofs.Weighing.{weigh-among}
use Rattle.sem_sound.proofs.Counts.{bit-most}
use Rattle.sem_sound.proofs.Named.{kernel-decl, declared-below}
use Rattle.sem_sound.proofs.Holding.{cap-among}
use Rattle.sem_sound.proofs.Calling.{own-among}

module _ (T : Setup) (valid : IsSetup T) (i : ℕ) (few : i < T.kernels) where
  -- a VPE of a kernel is declared
  pub declared-here : (v : ℕ) → kernel_of T v ≡ i → is_declared T v ≡ true
  declared-here v here =
      let d = kernel-decl T valid v (subst (λ k. k < T.kernels) (sym here) few) in
      list_any-at (λ (x : VpeDecl). x.vpe == v) T.vpes d.0 d.2 (eq-eqb d.0.vpe v d.3)

  -- the owner of a named key is a kernel
  pub owner-below : (k : KeyName) → IsNamed T k → owner_of T k < T.kernels
  owner-below k named = declared-below T valid k.pe k.vpe named.1

  module _ (s : Side) (is : IsSound T i s) where
    abbrev holders : ℕ → ℕ → ℕ
    holders v n = sum_by (λ (c : Capability). bit ((c.key.vpe == v) && (c.key.number == n))) s.caps

    abbrev takers : ℕ → ℕ → ℕ
    takers v n = sum_by (λ (p : Pending). bit ((p.key.vpe == v) && (p.key.number == n))) s.pendings

    -- a number that no capability of a VPE has is of no key that is held
    pub unused-absent : (k : KeyName) → holders k.vpe k.number ≡ 0 → cap s k ≡ None
    unused-absent k none = from (cap s k) refl
      where
        from : (o : Option Capability) → cap s k ≡ o → cap s k ≡ None
        from None at = at
        from (Some c) at =
            let there = cap-among T valid i few None None None None s is k c at in
            let weighs = weigh-among (λ (x : Capability). bit ((x.key.vpe == k.vpe) && (x.key.number == k.number))) s.caps c there.0 in
            let both : bit ((k.vpe == k.vpe) && (k.number == k.number)) ≡ 1 =
            ap bit (and_from (k.vpe == k.vpe) (k.number == k.number) (eq-eqb k.vpe k.vpe refl) (eq-eqb k.number k.number refl)) in
            let one : bit ((c.key.vpe == k.vpe) && (c.key.number == k.number)) ≡ 1 =
            ap (λ (q : KeyName). bit ((q.vpe == k.vpe) && (q.number == k.number))) there.1 ∙ both in
            absurd (omega (arith, weighs, one, none))

    -- no capability has the number that a VPE draws next
    pub next-absent : (v : ℕ) (kind : Kind) → cap s (record { pe = pe_of T v; vpe = v; kind = kind; number = (row s v).next_number }) ≡ None
    next-absent v kind =
        let n : ℕ = (row s v).next_number in
        let used = is.numbers v n in
        unused-absent (record { pe = pe_of T v; vpe = v; kind = kind; number = n }) (elim (cases_Bool (nat_lt n n)) [
          | inl less ↦ absurd (let below = ltb-true n n less in omega (arith, below))
          | inr not_less ↦ let nothing : bit (nat_lt n n) ≡ 0 = ap bit not_less in omega (arith, used, nothing)
        ])

    -- nor the number that a parked call keeps
    pub kept-absent : (k : KeyName) → keeps_number k.number (kept (parked s k.vpe)) ≡ 1 → cap s k ≡ None
    kept-absent k keeps =
        let used = is.numbers k.vpe k.number in
        let most = bit-most (nat_lt k.number (row s k.vpe).next_number) in
        unused-absent k (omega (arith, used, most, keeps))

    waits-keeps : (n : ℕ) (p : Option Parked) → is_obtain_wait n p ≡ true → keeps_number n (kept p) ≡ 1
    waits-keeps n None none = absurd cc
    waits-keeps n (Some (ObtainWait number sel)) same = ap bit same
    waits-keeps n (Some (ObtainReady key parent object sel)) none = absurd cc
    waits-keeps n (Some ObtainCancelled) none = absurd cc
    waits-keeps n (Some (DelegateWait parent)) none = absurd cc
    waits-keeps n (Some (DelegateReady parent key)) none = absurd cc
    waits-keeps n (Some (RevokeWait j)) none = absurd cc
    waits-keeps n (Some (Ready code)) none = absurd cc

    -- that of the place for which a call waits
    pub place-absent : (place : PlaceName) → is_obtain_wait place.number (parked s place.vpe) ≡ true → (kind : Kind) → cap s (keyed place kind) ≡ None
    place-absent place waits kind = kept-absent (keyed place kind) (waits-keeps place.number (parked s place.vpe) waits)

    -- that of the key which a call is about to install
    pub ready-absent : (v : ℕ) (key parent : KeyName) (object : Object) (sel : ℕ) → parked s v ≡ Some (ObtainReady key parent object sel) →
        (key.vpe ≡ v) × (cap s key ≡ None)
    ready-absent v key parent object sel at =
        let own_key : key.vpe ≡ v = (is.calls v (ObtainReady key parent object sel) at).1.0 in
        let there : parked s key.vpe ≡ Some (ObtainReady key parent object sel) = ap (parked s) own_key ∙ at in
        (own_key, kept-absent key (ap (λ o. keeps_number key.number (kept o)) there ∙ ap bit (eq-eqb key.number key.number refl)))

    -- nor the number of a pending delegation
    pub pending-absent : (k : KeyName) (p : Pending) → pending s k ≡ Some p → cap s k ≡ None
    pending-absent k p at =
        let there = found (λ (q : Pending). key_eq q.key k) s.pendings p at in
        let same : p.key ≡ k = key_eq-true p.key k there.1 in
        let weighs = weigh-among (λ (q : Pending). bit ((q.key.vpe == k.vpe) && (q.key.number == k.number))) s.pendings p there.0 in
        let both : bit ((k.vpe == k.vpe) && (k.number == k.number)) ≡ 1 =
        ap bit (and_from (k.vpe == k.vpe) (k.number == k.number) (eq-eqb k.vpe k.vpe refl) (eq-eqb k.number k.number refl)) in
        let one : bit ((p.key.vpe == k.vpe) && (p.key.number == k.number)) ≡ 1 = ap (λ (q : KeyName). bit ((q.vpe == k.vpe) && (q.number == k.number))) same
        ∙ both in
        let used = is.numbers k.vpe k.number in
        let most = bit-most (nat_lt k.number (row s k.vpe).next_number) in
        unused-absent k (omega (arith, used, most, weighs, one))

    -- what stands at an own selector is sound
    pub own-sound : (v sel : ℕ) (P : Capability → Type 0) → ((c : Capability) → Contains s.caps c → IsSoundCap T i c → P c) → IfSome (own s v sel) P
    own-sound v sel P each = from (own s v sel) refl
      where
        from : (o : Option Capability) → own s v sel ≡ o → IfSome o P
        from None at = tt
        from (Some c) at = let there = own-among T valid i few s is v sel c at in each c there.0 (is.caps c there.0)
