-- Upcalls keep the sum.
use Rattle.std.proofs.Common.{◌≡◌, ◌≢◌, ℕ, ◌+◌, ◌≤◌, ◌++◌, ◌&&◌, Bool, true, false, not}
use Rattle.std.proofs.Common.{Option, Some, None, is_none, refl, sym, ap, ◌∙◌, arith, eq-eqb}
use Rattle.std.specs.Prelude.{◌==◌, if◌then◌else◌}
use Rattle.std.specs.Option.{option_map_or, option_and_then}
use Rattle.std.specs.List.{Contains}
use Rattle.std.proofs.lemmas.Bool.{cond_both, cond-true, eqb-true, ne_eqb, true≢false}
use Rattle.sem_key.specs.declared.object.Object.{Object}
use Rattle.sem_key.specs.KeyName.{KeyName}
use Rattle.sem_key.specs.PlaceName.{PlaceName, keyed}
use Rattle.sem_key.specs.Capability.{Capability}
use Rattle.sem_msg.specs.declared.code.Code.{Code}
use Rattle.sem_msg.specs.declared.code.Code.TheVariants.{Refused}
use Rattle.sem_msg.specs.declared.entry.Consent.TheVariants.{Yes, No}
use Rattle.sem_msg.specs.declared.message.Message.TheVariants.{ObtainOk}
use Rattle.sem_msg.specs.declared.message.Message.TheVariants.{DelegatePrepared}
use Rattle.sem_msg.specs.declared.message.Target.{Target}
use Rattle.sem_msg.specs.declared.message.Target.TheVariants.{Sel as SelTarget, Serv as ServTarget}
use Rattle.sem_msg.specs.declared.message.Target.TheVariants.{Offer as OfferTarget}
use Rattle.sem_msg.specs.declared.state.Ask.{Ask}
use Rattle.sem_msg.specs.declared.state.Ask.TheVariants.{Obtain as ObtainAsk, Delegate as DelegateAsk}
use Rattle.sem_msg.specs.declared.state.Parked.{Parked}
use Rattle.sem_msg.specs.declared.state.Parked.TheVariants.{ObtainWait, ObtainReady, ObtainCancelled, DelegateWait}
use Rattle.sem_msg.specs.declared.state.Parked.TheVariants.{DelegateReady, RevokeWait, Ready}
use Rattle.sem_msg.specs.declared.state.Pending.{Pending}
use Rattle.sem_msg.specs.declared.state.Slot.TheVariants.{Promised}
use Rattle.sem_msg.specs.Setup.{Setup}
use Rattle.sem_msg.specs.Lookups.{kernel_of, owner_of, place_owner, pe_owner, pe_of, denies, offered}
use Rattle.sem_machine.specs.Sides.{Side, cap, own, parked, drawn, promised}
use Rattle.sem_machine.specs.Sides.{linked, pending_added, send}
use Rattle.sem_machine.specs.Steps.{Step, unshown, asking}
use Rattle.sem_machine.specs.Asks.{asker, is_unawaited, waits_for, ask_refused}
use Rattle.sem_machine.specs.Calls.{next_key, destination_tests}
use Rattle.sem_machine.specs.Upcalls.{source, source_tests, given, given_kind, given_here, child_given, obtain_consent}
use Rattle.sem_machine.specs.Upcalls.{parent_tests, delegate_here, delegate_prepared, delegate_consent, consented}
use Rattle.sem_machine.specs.Upcalls.{ask_decided}
use Rattle.sem_machine.proofs.FirstCodes.{unless-keeps, unless-passed}
use Rattle.sem_messages.specs.Messages.{is_across}
use Rattle.sem_messages.proofs.Tallies.{Tally, of_ask, of_side, side-drawn, side-slot, side-send}
use Rattle.sem_messages.proofs.Tallies.{side-pending}
use Rattle.sem_safety.specs.Observations.{AreDistinct}
use Rattle.sem_messages.proofs.Links.{side-linked_near, side-linked, side-bare}
use Rattle.sem_messages.proofs.Falling.{AreLed, of_grant, IsFalling, Revokings}
use Rattle.sem_messages.proofs.Rows.{IsOfKernel, cap-among, own-among, installed-same, ask-near}
use Rattle.sem_messages.proofs.Rows.{ask-far, grant-near, ask_refused-falls}

-- a place that is asked for has the PE of its VPE
abbrev pub IsAddressed : Setup → Ask → Type 0
IsAddressed T (ObtainAsk place target) = place_owner T place ≡ kernel_of T place.vpe
IsAddressed T (DelegateAsk parent object sel) = Unit {0}

-- what a VPE is asked for is among what its kernel holds
source-among : (T : Setup) (s : Side) (v : ℕ) (target : Target) (p : Capability) → source T s v target ≡ Some p →
    Contains s.caps p
source-among T s v (SelTarget w sel) p held = own-among s v sel p held
source-among T s v (ServTarget service) p held = (cap-among s service p held).0
source-among T s v (OfferTarget service index) p held = from (offered T service index) held
  where
    from : (o : Option ℕ) → option_and_then (own s v) o ≡ Some p → Contains s.caps p
    from None none = absurd cc
    from (Some sel) some = own-among s v sel p some

-- a grant to another kernel counts
pub grant-far : (T : Setup) (g : ℕ) (p k : KeyName) → owner_of T p ≢ owner_of T k → of_grant T g (Some (p, k)) ≡ g
grant-far T g p k apart = cond-true (is_across T (p, k)) g 0 (ap not (ne_eqb (owner_of T p) (owner_of T k) apart))

module _ (T : Setup) (K : Tally) (i : ℕ) where
  here-same : (k p : KeyName) (object : Object) (state : Option Parked) (s : Side) →
      of_side T K i (given_here k p object state s) ≡ of_side T K i s
  here-same k p object (Some (ObtainWait number sel)) s = installed-same T K i s k (Some p) sel object
  here-same k p object None s = refl
  here-same k p object (Some (ObtainReady key parent o sel)) s = refl
  here-same k p object (Some ObtainCancelled) s = refl
  here-same k p object (Some (DelegateWait parent)) s = refl
  here-same k p object (Some (DelegateReady parent key)) s = refl
  here-same k p object (Some (RevokeWait job)) s = refl
  here-same k p object (Some (Ready code)) s = refl

module _ (T : Setup) (P N : Tally) (gl lead gr : ℕ) (F : IsFalling P N (gl + lead) gr) (A : AreLed T P N lead)
    (i : ℕ) (R : Revokings T P N i) where
  -- Upcalls. The ask was taken out, and is answered.
  abbrev pub Paid : Ask → Side → Step → Type 0
  Paid a s x = ((of_side T P i x.side + of_side T N i s) + of_ask T N i a) + of_grant T gl x.outcome.grant
      ≤ ((of_side T P i s + of_side T N i x.side) + of_ask T P i a) + of_grant T gr x.outcome.grant

  refused-paid : (code : Code) (a : Ask) (s : Side) → Paid a s (unshown (ask_refused T i code a s))
  refused-paid code a s = let less = ask_refused-falls T P N gl lead gr F A i R code a s in omega (arith, less)

  module _ (s : Side) (home : (c : Capability) → Contains s.caps c → IsOfKernel T i c.key)
      (distinct : AreDistinct s.caps) where
    child_given-paid : (place : PlaceName) (target : Target) (p : Capability) → owner_of T p.key ≡ i →
        place_owner T place ≡ kernel_of T place.vpe → Paid (ObtainAsk place target) s (child_given T i place target s p)
    child_given-paid place target p own' addressed =
        let a : Ask = ObtainAsk place target in
        let k : KeyName = keyed place (given_kind target p) in
        let object : Object = given target place.vpe p in
        let linking : Side = linked p.key k s in
        let child : owner_of T k ≡ kernel_of T place.vpe = addressed in
        cond_both (kernel_of T place.vpe == i) (given_here k p.key object (parked linking place.vpe) linking)
        (send (place_owner T place) (ObtainOk p.key k object) linking)
        (λ t. ((of_side T P i t + of_side T N i s) + of_ask T N i a) + of_grant T gl (Some (p.key, k))
        ≤ ((of_side T P i s + of_side T N i t) + of_ask T P i a) + of_grant T gr (Some (p.key, k)))
        (λ near.
        let same : owner_of T p.key ≡ owner_of T k =
        own' ∙ sym (child ∙ eqb-true (kernel_of T place.vpe) i near) in
        let l = grant-near T P N gl lead gr F A i R gl p.key k same in
        let r = grant-near T P N gl lead gr F A i R gr p.key k same in
        let none = ask-near T N i a near in
        let q = here-same T P i k p.key object (parked linking place.vpe) linking in
        let n = here-same T N i k p.key object (parked linking place.vpe) linking in
        let lp = side-linked_near T P i s p.key k (A.near i k (child ∙ eqb-true (kernel_of T place.vpe) i near)) in
        let ln = side-bare T N i A.bare s linking.caps in
        omega (arith, l, r, none, q, n, lp, ln))
        (λ far.
        let apart : owner_of T p.key ≢ owner_of T k =
        λ same. true≢false (sym (eq-eqb (kernel_of T place.vpe) i (sym child ∙ (sym same ∙ own'))) ∙ far) in
        let l = grant-far T gl p.key k apart in
        let r = grant-far T gr p.key k apart in
        let one = ask-far T P i a far in
        let two = ask-far T N i a far in
        let q = side-send T P i linking (place_owner T place) (ObtainOk p.key k object) in
        let n = side-send T N i linking (place_owner T place) (ObtainOk p.key k object) in
        let less = F.given place target p.key k object in
        let lp = side-linked T P i s p.key k distinct in
        let ln = side-bare T N i A.bare s linking.caps in
        let most = A.most i k in
        omega (arith, l, r, one, two, q, n, less, lp, ln, most))

    delegate_here-paid : (v : ℕ) (parent : KeyName) (object : Object) (sel : ℕ) → owner_of T parent ≡ i →
        pe_owner T (pe_of T v) ≡ i → (kernel_of T parent.vpe == i) ≡ true →
        Paid (DelegateAsk parent object sel) s (delegate_here T v parent object sel s)
    delegate_here-paid v parent object sel own' pe near =
        let a : Ask = DelegateAsk parent object sel in
        let k : KeyName = next_key T s v parent.kind in
        let linking : Side = linked parent k (drawn v s) in
        let l = grant-near T P N gl lead gr F A i R gl parent k (own' ∙ sym pe) in
        let r = grant-near T P N gl lead gr F A i R gr parent k (own' ∙ sym pe) in
        let dp = side-drawn T P i s v in
        let dn = side-drawn T N i s v in
        let q = installed-same T P i linking k (Some parent) sel object in
        let n = installed-same T N i linking k (Some parent) sel object in
        let none = ask-near T N i a near in
        let lp = side-linked_near T P i (drawn v s) parent k (A.near i k pe) in
        let ln = side-bare T N i A.bare (drawn v s) linking.caps in
        omega (arith, l, r, dp, dn, q, n, none, lp, ln)

    delegate_prepared-paid : (v : ℕ) (parent : KeyName) (object : Object) (sel : ℕ) →
        (kernel_of T parent.vpe == i) ≡ false →
        Paid (DelegateAsk parent object sel) s (delegate_prepared T v parent object sel s)
    delegate_prepared-paid v parent object sel far =
        let a : Ask = DelegateAsk parent object sel in
        let k : KeyName = next_key T s v parent.kind in
        let p : Pending = record { key = k; parent = parent; object = object; sel = sel } in
        let taking : Side = promised v sel (drawn v s) in
        let preparing : Side = pending_added p taking in
        let dp = side-drawn T P i s v in
        let dn = side-drawn T N i s v in
        let sp = side-slot T P i (drawn v s) v sel Promised in
        let sn = side-slot T N i (drawn v s) v sel Promised in
        let ap' = side-pending T P i taking p in
        let an = side-pending T N i taking p in
        let q = side-send T P i preparing (owner_of T parent) (DelegatePrepared parent k) in
        let n = side-send T N i preparing (owner_of T parent) (DelegatePrepared parent k) in
        let one = ask-far T P i a far in
        let two = ask-far T N i a far in
        let less = F.prepared parent k object sel in
        omega (arith, dp, dn, sp, sn, ap', an, q, n, one, two, less)

    module _ (v : ℕ) (pe : pe_owner T (pe_of T v) ≡ i) where
      obtain_consent-paid : (place : PlaceName) (target : Target) → place_owner T place ≡ kernel_of T place.vpe →
          Paid (ObtainAsk place target) s (obtain_consent T i v place target s)
      obtain_consent-paid place target addressed =
          unless-passed (Paid (ObtainAsk place target) s) (source_tests target (source T s v target)) _ _
          (λ code. refused-paid code (ObtainAsk place target) s)
          (λ passed. pick (source T s v target) refl passed.0)
        where
          pick : (o : Option Capability) → source T s v target ≡ o → is_none o ≡ false →
              Paid (ObtainAsk place target) s (option_map_or (child_given T i place target s) o (unshown s))
          pick None there some = absurd cc
          pick (Some p) there some =
              child_given-paid place target p (home p (source-among T s v target p there)).0 addressed

      -- the parent of a delegation that the tests found
      parent-home : (parent : KeyName) (o : Option Capability) → cap s parent ≡ o → is_none o ≡ false →
          owner_of T parent ≡ i
      parent-home parent None there some = absurd cc
      parent-home parent (Some c) there some =
          let at = cap-among s parent c there in ap (owner_of T) (sym at.1) ∙ (home c at.0).0

      delegate_consent-paid : (parent : KeyName) (object : Object) (sel : ℕ) →
          Paid (DelegateAsk parent object sel) s (delegate_consent T i v parent object sel s)
      delegate_consent-paid parent object sel =
          let a : Ask = DelegateAsk parent object sel in
          cond_both (kernel_of T parent.vpe == i) _ _ (Paid a s)
          (λ near. unless-passed (Paid a s) (parent_tests (cap s parent) ++ destination_tests s v sel) _ _
          (λ code. refused-paid code a s)
          (λ passed. delegate_here-paid v parent object sel
          (parent-home parent (cap s parent) refl passed.0) pe near))
          (λ far. unless-keeps (Paid a s) (destination_tests s v sel) _ _ (λ code. refused-paid code a s)
          (delegate_prepared-paid v parent object sel far))

      consented-paid : (a : Ask) → IsAddressed T a → Paid a s (consented T i v a s)
      consented-paid (ObtainAsk place target) addressed = obtain_consent-paid place target addressed
      consented-paid (DelegateAsk parent object sel) addressed = delegate_consent-paid parent object sel

      pub decided-paid : (a : Ask) → IsAddressed T a → Paid a s (ask_decided T i v a s)
      decided-paid a addressed = from (kernel_of T (asker a) == i) refl
        where
          asked-on : Paid a s (if denies T v (asker a) then asking (asker a) No (unshown (ask_refused T i Refused a s))
              else asking (asker a) Yes (consented T i v a s))
          asked-on = cond_both (denies T v (asker a)) _ _ (Paid a s) (λ _. refused-paid Refused a s)
              (λ _. consented-paid a addressed)

          un-far : (kernel_of T (asker a) == i) ≡ false → is_unawaited T i s a ≡ false
          un-far far = ap (λ b. b && not (waits_for a (parked s (asker a)))) far

          from : (b : Bool) → (kernel_of T (asker a) == i) ≡ b → Paid a s (ask_decided T i v a s)
          from true near = cond_both (is_unawaited T i s a) _ _ (Paid a s)
              (λ _. let none = ask-near T N i a near in omega (arith, none)) (λ _. asked-on)
          from false far =
              cond_both (is_unawaited T i s a) _ _ (Paid a s)
              (λ un. let waits : is_unawaited T i s a ≡ false = un-far far in absurd (true≢false (sym un ∙ waits)))
              (λ _. asked-on)
