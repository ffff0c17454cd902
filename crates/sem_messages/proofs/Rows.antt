-- Refused asks, ends of VPEs and calls keep the sum.
use Rattle.std.proofs.Common.{◌≡◌, ℕ, ◌+◌, ◌≤◌, Bool, true, false, List, [], ◌∷◌, Option, Some, None, refl, sym, ap}
use Rattle.std.proofs.Common.{◌∙◌, arith, eq-eqb, subst, not, ◌&&◌}
use Rattle.std.specs.Prelude.{◌==◌}
use Rattle.std.specs.Option.{option_map_or}
use Rattle.std.specs.List.{Contains, sum_by}
use Rattle.std.proofs.lemmas.Bool.{cond_both, cond-true, cond-false}
use Rattle.std.proofs.lemmas.List.Sums.{sum_by-cons}
use Rattle.sem_key.specs.declared.object.Object.{Object}
use Rattle.sem_key.specs.ObjectRanges.{object_kind}
use Rattle.sem_key.specs.KeyName.{KeyName, key_eq}
use Rattle.sem_key.specs.PlaceName.{PlaceName}
use Rattle.sem_key.specs.Lists.{in_turn}
use Rattle.sem_key.specs.Capability.{Capability}
use Rattle.sem_key.specs.CapList.{fresh}
use Rattle.sem_msg.specs.declared.call.Call.{Call}
use Rattle.sem_msg.specs.declared.code.Code.{Code}
use Rattle.sem_msg.specs.declared.code.Code.TheVariants.{Dead}
use Rattle.sem_msg.specs.Codes.{code_number}
use Rattle.sem_msg.specs.declared.message.Message.TheVariants.{ObtainReq, ObtainNo, DelegateReq, DelegateNo, Ack}
use Rattle.sem_msg.specs.declared.message.Message.TheVariants.{Orphan}
use Rattle.sem_msg.specs.declared.message.Target.{Target}
use Rattle.sem_msg.specs.declared.state.Ask.{Ask}
use Rattle.sem_msg.specs.declared.state.Ask.TheVariants.{Obtain as ObtainAsk, Delegate as DelegateAsk}
use Rattle.sem_msg.specs.declared.state.Parked.{Parked}
use Rattle.sem_msg.specs.declared.state.Parked.TheVariants.{ObtainWait, ObtainReady, ObtainCancelled, DelegateWait}
use Rattle.sem_msg.specs.declared.state.Parked.TheVariants.{DelegateReady, RevokeWait, Ready}
use Rattle.sem_msg.specs.declared.state.Slot.{Slot}
use Rattle.sem_msg.specs.declared.state.Slot.TheVariants.{Free, Held, Promised}
use Rattle.sem_msg.specs.Setup.{Setup}
use Rattle.sem_msg.specs.Lookups.{kernel_of, owner_of, place_owner, pe_owner, pe_of}
use Rattle.sem_machine.specs.Sides.{Side, row, cap, cap_in, own, slot, parked, drawn, promised, parked_as, unparked}
use Rattle.sem_machine.specs.Sides.{asked, buried, linked, installed, cap_added, send}
use Rattle.sem_machine.specs.Steps.{Step}
use Rattle.sem_machine.specs.Asks.{target_vpe, asker, is_unawaited, promise_freed, call_refused, refusal_sent}
use Rattle.sem_machine.specs.Asks.{ask_refused, waits_for}
use Rattle.sem_machine.specs.Calls.{next_key, next_place, child_made, ask_made, offer_made, call_row}
use Rattle.sem_machine.specs.Revokes.{begin, revoke_begun}
use Rattle.sem_machine.specs.Ends.{ask_ended, call_ended, revoked_if_left, keys_of_vpe, ended}
use Rattle.sem_key.proofs.KeyTests.{key_eq-true}
use Rattle.sem_key.proofs.Members.{found}
use Rattle.sem_machine.proofs.Folds.{in_turn-keeps}
use Rattle.sem_safety.proofs.JobIds.{HasIds, ids}
use Rattle.sem_safety.proofs.KeptRows.{ask_ended-in, call_ended-in, revoked_if_there-in}
use Rattle.sem_safety.proofs.GoingOn.{AnyVpe}
use Rattle.sem_safety.proofs.Layers.{facts}
use Rattle.sem_safety.proofs.Onwards.{Any, AnyPlace}
use Rattle.sem_safety.proofs.Skeleton.{CallLeaves, call_row-by}
use Rattle.sem_messages.specs.Messages.{is_across}
use Rattle.sem_messages.proofs.Tallies.{Tally, of_ask, of_side, side-drawn, side-slot, side-buried, side-asked_near}
use Rattle.sem_messages.proofs.Tallies.{side-send}
use Rattle.sem_messages.proofs.Links.{side-fresh, side-linked_near, side-bare}
use Rattle.sem_messages.proofs.Falling.{AreLed, of_grant, IsFalling, Falls, Revokings}

-- A key of a VPE of kernel i.
abbrev pub IsOfKernel : Setup → ℕ → KeyName → Type 0
IsOfKernel T i k = (owner_of T k ≡ i) × (kernel_of T k.vpe ≡ i)

-- what is found under a key, or stands at a selector, is among what is held
pub cap-among : (s : Side) (k : KeyName) (c : Capability) → cap s k ≡ Some c → Contains s.caps c × (c.key ≡ k)
cap-among s k c some =
    let there = found (λ (x : Capability). key_eq x.key k) s.caps c some in (there.0, key_eq-true c.key k there.1)

pub own-among : (s : Side) (v sel : ℕ) (c : Capability) → own s v sel ≡ Some c → Contains s.caps c
own-among s v sel c held = from (slot s v sel) held
  where
    from : (x : Slot) → cap_in s x ≡ Some c → Contains s.caps c
    from Free none = absurd cc
    from Promised none = absurd cc
    from (Held k) some = (cap-among s k c some).0

-- Changes that count nothing.
module _ (T : Setup) (K : Tally) (i : ℕ) where
  pub installed-same : (s : Side) (k : KeyName) (parent : Option KeyName) (sel : ℕ) (object : Object) →
      of_side T K i (installed k parent sel object s) ≡ of_side T K i s
  installed-same s k parent sel object =
      let added = side-fresh T K i s k parent sel object in
      let slot' = side-slot T K i (cap_added (fresh k parent sel object) s) k.vpe sel (Held k) in
      omega (arith, added, slot')

  freed-same : (p : Option Parked) (v : ℕ) (s : Side) → of_side T K i (promise_freed p v s) ≡ of_side T K i s
  freed-same (Some (ObtainWait number sel)) v s = side-slot T K i s v sel Free
  freed-same None v s = refl
  freed-same (Some (ObtainReady key parent object sel)) v s = refl
  freed-same (Some ObtainCancelled) v s = refl
  freed-same (Some (DelegateWait parent)) v s = refl
  freed-same (Some (DelegateReady parent key)) v s = refl
  freed-same (Some (RevokeWait job)) v s = refl
  freed-same (Some (Ready code)) v s = refl

  pub refused-same : (code v : ℕ) (s : Side) → of_side T K i (call_refused code v s) ≡ of_side T K i s
  refused-same code v s = let frees = freed-same (parked s v) v s in omega (arith, frees)

  -- what an ask counts
  pub ask-near : (a : Ask) → (kernel_of T (asker a) == i) ≡ true → of_ask T K i a ≡ 0
  ask-near a here = cond-true (kernel_of T (asker a) == i) 0 (K.ask a) here

  pub ask-far : (a : Ask) → (kernel_of T (asker a) == i) ≡ false → of_ask T K i a ≡ K.ask a
  ask-far a far = cond-false (kernel_of T (asker a) == i) 0 (K.ask a) far

module _ (T : Setup) (P N : Tally) (gl lead gr : ℕ) (F : IsFalling P N (gl + lead) gr) (A : AreLed T P N lead)
    (i : ℕ) (R : Revokings T P N i) where
  -- the sum of a step
  abbrev pub Fell : Side → Step → Type 0
  Fell s x = (of_side T P i x.side + of_side T N i s) + of_grant T gl x.outcome.grant
      ≤ (of_side T P i s + of_side T N i x.side) + of_grant T gr x.outcome.grant

  pub grant-near : (g : ℕ) (p k : KeyName) → owner_of T p ≡ owner_of T k → of_grant T g (Some (p, k)) ≡ 0
  grant-near g p k same = cond-false (is_across T (p, k)) g 0 (ap not (eq-eqb (owner_of T p) (owner_of T k) same))

  pub send-falls : (s : Side) (j : ℕ) (m : _) → P.out m ≤ N.out m → Falls T P N i s (send j m s)
  send-falls s j m less =
      let p = side-send T P i s j m in
      let n = side-send T N i s j m in
      omega (arith, p, n, less)

  -- a refused ask answers what it counts
  pub ask_refused-falls : (code : Code) (a : Ask) (s : Side) →
      (of_side T P i (ask_refused T i code a s) + of_side T N i s) + of_ask T N i a
      ≤ (of_side T P i s + of_side T N i (ask_refused T i code a s)) + of_ask T P i a
  ask_refused-falls code a s =
      cond_both (kernel_of T (asker a) == i) (call_refused (code_number code) (asker a) s) (refusal_sent T code a s)
      (λ t. (of_side T P i t + of_side T N i s) + of_ask T N i a
      ≤ (of_side T P i s + of_side T N i t) + of_ask T P i a)
      (λ here.
      let p = refused-same T P i (code_number code) (asker a) s in
      let n = refused-same T N i (code_number code) (asker a) s in
      let none = ask-near T N i a here in
      omega (arith, p, n, none))
      (λ far.
      let one = ask-far T P i a far in
      let two = ask-far T N i a far in
      let sent' = told a in
      omega (arith, one, two, sent'))
    where
      told : (b : Ask) → (of_side T P i (refusal_sent T code b s) + of_side T N i s) + N.ask b
          ≤ (of_side T P i s + of_side T N i (refusal_sent T code b s)) + P.ask b
      told (ObtainAsk place target) =
          let p = side-send T P i s (place_owner T place) (ObtainNo place (code_number code)) in
          let n = side-send T N i s (place_owner T place) (ObtainNo place (code_number code)) in
          let less = F.no_obtain place target (code_number code) in
          omega (arith, p, n, less)
      told (DelegateAsk parent object sel) =
          let p = side-send T P i s (owner_of T parent) (DelegateNo parent (code_number code)) in
          let n = side-send T N i s (owner_of T parent) (DelegateNo parent (code_number code)) in
          let less = F.no_delegate parent object sel (code_number code) in
          omega (arith, p, n, less)

  -- The end of a VPE.
  ask_ended-falls : (a : Ask) (s : Side) → (of_side T P i (ask_ended T i a s) + of_side T N i s) + of_ask T N i a
      ≤ (of_side T P i s + of_side T N i (ask_ended T i a s)) + of_ask T P i a
  ask_ended-falls a s =
      from (kernel_of T (asker a) == i) refl
    where
      from : (b : Bool) → (kernel_of T (asker a) == i) ≡ b →
          (of_side T P i (ask_ended T i a s) + of_side T N i s) + of_ask T N i a
          ≤ (of_side T P i s + of_side T N i (ask_ended T i a s)) + of_ask T P i a
      from true here = cond_both (is_unawaited T i s a) s (ask_refused T i Dead a s)
          (λ t. (of_side T P i t + of_side T N i s) + of_ask T N i a
          ≤ (of_side T P i s + of_side T N i t) + of_ask T P i a)
          (λ _. let none = ask-near T N i a here in omega (arith, none)) (λ _. ask_refused-falls Dead a s)
      from false far =
          let waits : is_unawaited T i s a ≡ false = ap (λ b. b && not (waits_for a (parked s (asker a)))) far in
          subst (λ t. (of_side T P i t + of_side T N i s) + of_ask T N i a
          ≤ (of_side T P i s + of_side T N i t) + of_ask T P i a)
          (sym (cond-false (is_unawaited T i s a) s (ask_refused T i Dead a s) waits)) (ask_refused-falls Dead a s)

  asks_ended-fall : (asks : List Ask) (s : Side) →
      (of_side T P i (in_turn (ask_ended T i) asks s) + of_side T N i s) + sum_by (of_ask T N i) asks
      ≤ (of_side T P i s + of_side T N i (in_turn (ask_ended T i) asks s)) + sum_by (of_ask T P i) asks
  unfolding in_turn
  asks_ended-fall [] s = omega arith
  asks_ended-fall (a ∷ asks) s =
      let rest = asks_ended-fall asks (ask_ended T i a s) in
      let one = ask_ended-falls a s in
      let p = sum_by-cons (of_ask T P i) a asks in
      let n = sum_by-cons (of_ask T N i) a asks in
      omega (arith, rest, one, p, n)

  call_ended-falls : (p : Option Parked) (v : ℕ) (s : Side) → Falls T P N i s (call_ended T p v s)
  call_ended-falls None v s = omega arith
  call_ended-falls (Some (ObtainWait number sel)) v s = omega arith
  call_ended-falls (Some (ObtainReady key parent object sel)) v s =
      send-falls s (owner_of T parent) (Orphan parent key) (F.orphan parent key)
  call_ended-falls (Some ObtainCancelled) v s = omega arith
  call_ended-falls (Some (DelegateWait parent)) v s = omega arith
  call_ended-falls (Some (DelegateReady parent key)) v s =
      send-falls s (owner_of T key) (Ack key false) (F.no key)
  call_ended-falls (Some (RevokeWait j)) v s = R.leaves s j v
  call_ended-falls (Some (Ready code)) v s = omega arith

  abbrev revoked_if_there : KeyName → Option Capability → Side → Side
  revoked_if_there k None s = s
  revoked_if_there k (Some c) s = option_map_or (λ m. s) c.mark (begin T i k None [] false s)

  revoked-falls : (k : KeyName) (o : Option Capability) (s : Side) → HasIds s → Falls T P N i s (revoked_if_there k o s)
  revoked-falls k None s has = omega arith
  revoked-falls k (Some c) s has = by_mark c.mark
    where
      by_mark : (mark : Option ℕ) → Falls T P N i s (option_map_or (λ n. s) mark (begin T i k None [] false s))
      by_mark (Some n) = omega arith
      by_mark None = R.begins s has k []

  pub ended-falls : (v : ℕ) (s : Side) → HasIds s → Falls T P N i s (ended T i v s)
  unfolding ended
  ended-falls v s has =
      let asks : List Ask = (row s v).asks in
      let answered : Side = in_turn (ask_ended T i) asks (buried v s) in
      let left : Side = call_ended T (parked answered v) v (unparked v answered) in
      let p = side-buried T P i s v in
      let n = side-buried T N i s v in
      let two = asks_ended-fall asks (buried v s) in
      let three : Falls T P N i answered left = call_ended-falls (parked answered v) v (unparked v answered) in
      let light : Falls T P N i s left = omega (arith, p, n, two, three) in
      let kept : HasIds answered =
      in_turn-keeps HasIds (ask_ended T i)
      (λ a t is. ask_ended-in (facts Any AnyPlace) AnyVpe HasIds ids T i a t is) asks (buried v s)
      (ids.keeps_buried s has v tt) in
      let kept' : HasIds left =
      call_ended-in (facts Any AnyPlace) AnyVpe HasIds ids T (parked answered v) v (unparked v answered)
      (ids.keeps_unparked answered kept v) in
      (in_turn-keeps (λ t. Falls T P N i s t × HasIds t) (revoked_if_left T i)
      (λ k t is. (
        (let more = revoked-falls k (cap t k) t is.1 in let so = is.0 in omega (arith, more, so)),
        revoked_if_there-in (facts Any AnyPlace) AnyVpe HasIds ids T i k (cap t k) t is.1 tt,
      )) (keys_of_vpe left v) left (light, kept')).0

  -- Calls.
  module _ (s : Side) (has : HasIds s) (home : (c : Capability) → Contains s.caps c → IsOfKernel T i c.key) (v : ℕ)
      (here : kernel_of T v ≡ i) (pe : pe_owner T (pe_of T v) ≡ i) where
    child-falls : (src dst : ℕ) (object : Object) (p : Capability) → own s v src ≡ Some p →
        Fell s (child_made T v dst object p.key s)
    child-falls src dst object p held =
        let k : KeyName = next_key T s v (object_kind object) in
        let linking : Side = linked p.key k (drawn v s) in
        let dp = side-drawn T P i s v in
        let dn = side-drawn T N i s v in
        let ip = installed-same T P i linking k (Some p.key) dst object in
        let in' = installed-same T N i linking k (Some p.key) dst object in
        let same : owner_of T p.key ≡ owner_of T k = (home p (own-among s v src p held)).0 ∙ sym pe in
        let l = grant-near gl p.key k same in
        let r = grant-near gr p.key k same in
        let lp = side-linked_near T P i (drawn v s) p.key k (A.near i k pe) in
        let ln = side-bare T N i A.bare (drawn v s) linking.caps in
        omega (arith, dp, dn, ip, in', l, r, lp, ln)

    ask-falls : (dst : ℕ) (target : Target) → Fell s (ask_made T i v dst target s)
    ask-falls dst target =
        let place : PlaceName = next_place T s v in
        let w : ℕ = target_vpe target in
        let promising : Side = promised v dst (drawn v s) in
        let waiting : Side = parked_as v (ObtainWait place.number dst) promising in
        let dp = side-drawn T P i s v in
        let dn = side-drawn T N i s v in
        let sp = side-slot T P i (drawn v s) v dst Promised in
        let sn = side-slot T N i (drawn v s) v dst Promised in
        cond_both (kernel_of T w == i) (asked w (ObtainAsk place target) waiting)
        (send (kernel_of T w) (ObtainReq place target) waiting) (λ t. (of_side T P i t + of_side T N i s) + 0
        ≤ (of_side T P i s + of_side T N i t) + 0)
        (λ within.
        let near : (kernel_of T v == i) ≡ true = eq-eqb (kernel_of T v) i here in
        let p = side-asked_near T P i waiting w (ObtainAsk place target)
        (ask-near T P i (ObtainAsk place target) near) in
        let n = side-asked_near T N i waiting w (ObtainAsk place target)
        (ask-near T N i (ObtainAsk place target) near) in
        omega (arith, dp, dn, sp, sn, p, n))
        (λ across.
        let sent' = send-falls waiting (kernel_of T w) (ObtainReq place target) (F.obtain place target) in
        omega (arith, dp, dn, sp, sn, sent'))

    offer-falls : (src w dst : ℕ) (p : Capability) → own s v src ≡ Some p → Fell s (offer_made T i v w dst p s)
    offer-falls src w dst p held =
        let waiting : Side = parked_as v (DelegateWait p.key) s in
        cond_both (kernel_of T w == i) (asked w (DelegateAsk p.key p.object dst) waiting)
        (send (kernel_of T w) (DelegateReq p.key p.object w dst) waiting)
        (λ t. (of_side T P i t + of_side T N i s) + 0 ≤ (of_side T P i s + of_side T N i t) + 0)
        (λ within.
        let near : (kernel_of T p.key.vpe == i) ≡ true =
        eq-eqb (kernel_of T p.key.vpe) i (home p (own-among s v src p held)).1 in
        let a : Ask = DelegateAsk p.key p.object dst in
        let q = side-asked_near T P i waiting w a (ask-near T P i a near) in
        let n = side-asked_near T N i waiting w a (ask-near T N i a near) in
        omega (arith, q, n))
        (λ across.
        let sent' = send-falls waiting (kernel_of T w) (DelegateReq p.key p.object w dst)
        (F.delegate p.key p.object w dst) in omega (arith, sent'))

    begun-falls : (k : KeyName) (mark : Option ℕ) → Falls T P N i s (revoke_begun T i v k mark s)
    begun-falls k None = R.begins (parked_as v (RevokeWait s.next_job) s) (ids.keeps_parked s has v _ tt) k (v ∷ [])
    begun-falls k (Some j) = R.waits (parked_as v (RevokeWait j) s) j v

    leaves : CallLeaves (Fell s) T i v s
    leaves = record {
      answered = λ code. omega arith;
      child = λ src dst object p held. child-falls src dst object p held;
      ask = λ dst target. ask-falls dst target;
      offer = λ src w dst p held. offer-falls src w dst p held;
      revoke = λ src c held. let fell = begun-falls c.key c.mark in omega (arith, fell);
      clear = λ src c held unmarked.
          let fell = R.clears s has v c.key in
          omega (arith, fell);
      bound = λ ep src c held. omega arith;
      rung = λ ep f. omega arith;
      ends = let fell = ended-falls v s has in omega (arith, fell);
    }

    pub call_row-falls : (c : Call) → Fell s (call_row T i s v c)
    call_row-falls c = call_row-by (Fell s) T i v s leaves c
