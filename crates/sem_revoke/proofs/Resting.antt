-- The other rows leave those at rest who wait for a revoke; and the end of a VPE, and a revoke that begins.
use Rattle.std.proofs.Common.{◌≡◌, ◌⊎◌, ℕ, ◌+◌, ◌<◌, ◌++◌, Bool, true, false, not, ◌&&◌, List, [], ◌∷◌, length, drop, Option, Some, None, slice_get, refl, sym}
use Rattle.std.proofs.Common.{ap, ◌∙◌, subst, inl, inr, arith, eq-eqb}
use Rattle.std.specs.Prelude.{◌==◌, if◌then◌else◌, nat_lt}
use Rattle.std.specs.List.{Contains, filter}
use Rattle.std.proofs.lemmas.List.Elements.{Contains-append_cases, Contains-append_left, Contains-append_right}
use Rattle.sem_msg.specs.JobRows.{with_number}
use Rattle.std.specs.Option.{option_map}
use Rattle.std.proofs.lemmas.Bool.{cases_order, eqb-false, lt-ltb, cases_Bool, cond-true, cond-false, cond_both, eqb-true, true≢false, false_from_ne_true}
use Rattle.std.proofs.lemmas.Bool.{or_parts}
use Rattle.std.proofs.lemmas.Option.{same_Some}
use Rattle.sem_key.specs.declared.object.Object.{Object}
use Rattle.sem_key.specs.declared.object.Object.TheVariants.{Send, Recv}
use Rattle.sem_key.specs.KeyName.{KeyName, key_eq}
use Rattle.sem_key.specs.KeyList.{with_key}
use Rattle.sem_key.specs.Lists.{in_turn, put}
use Rattle.sem_key.specs.ObjectRanges.{object_kind}
use Rattle.sem_key.specs.PlaceName.{PlaceName, keyed}
use Rattle.sem_key.specs.Capability.{Capability}
use Rattle.sem_key.specs.CapList.{fresh}
use Rattle.sem_msg.specs.declared.call.Call.{Call}
use Rattle.sem_msg.specs.declared.call.Call.TheVariants.{Derive, Gate, Obtain, Delegate, OpenSession, AskOffer, Revoke, Bind, Read, Write, Send as SendCall}
use Rattle.sem_msg.specs.declared.call.Call.TheVariants.{Credit, Exit, Clear}
use Rattle.sem_msg.specs.declared.message.Target.{Target}
use Rattle.sem_msg.specs.declared.message.Target.TheVariants.{Sel as SelTarget, Serv as ServTarget, Offer as OfferTarget}
use Rattle.sem_msg.specs.declared.message.Message.{Message}
use Rattle.sem_msg.specs.declared.message.Message.TheVariants.{ObtainReq, ObtainOk, ObtainNo, DelegateReq, DelegatePrepared, DelegateNo, Ack, Orphan, RevokeReq}
use Rattle.sem_msg.specs.declared.message.Message.TheVariants.{RevokeDone, Unlink}
use Rattle.sem_msg.specs.declared.setup.Service.{Service}
use Rattle.sem_msg.specs.declared.state.Ask.{Ask}
use Rattle.sem_msg.specs.declared.state.Ask.TheVariants.{Obtain as ObtainAsk, Delegate as DelegateAsk}
use Rattle.sem_msg.specs.declared.state.Parked.{Parked}
use Rattle.sem_msg.specs.declared.state.Parked.TheVariants.{ObtainWait, ObtainReady, ObtainCancelled, DelegateWait, DelegateReady, RevokeWait, Ready}
use Rattle.sem_msg.specs.declared.state.Pending.{Pending}
use Rattle.sem_msg.specs.declared.state.Slot.TheVariants.{Free, Held, Promised}
use Rattle.sem_msg.specs.declared.state.Slot.{Slot}
use Rattle.sem_msg.specs.Rows.{JobRow, VpeRow, Endpoint}
use Rattle.sem_msg.specs.declared.limits.TheConstants.{ASKS}
use Rattle.sem_msg.specs.declared.code.Code.{Code}
use Rattle.sem_msg.specs.Codes.{code_number}
use Rattle.sem_key.proofs.KeySets.{with_key-from}
use Rattle.sem_msg.specs.Setup.{Setup}
use Rattle.sem_msg.specs.Lookups.{kernel_of, owner_of, place_owner, denies, service_named}
use Rattle.sem_msg.specs.declared.code.Code.TheVariants.{NoCap, Refused, Dead, NoService, BadKind}
use Rattle.sem_machine.specs.Sides.{Side, row, cap, own, endpoint, parked, pending, is_alive, with_row, with_slot, drawn, promised, parked_as, unparked, asked}
use Rattle.sem_machine.specs.Sides.{ask_taken, buried, linked, installed, cap_added, pending_removed, freed, ready, send}
use Rattle.sem_machine.specs.Steps.{Step, unshown, answer}
use Rattle.sem_machine.specs.Asks.{asker, target_vpe, is_unawaited, waits_for, ask_refused, call_refused, promise_freed, refusal_sent}
use Rattle.sem_key.specs.Region.{has_key, region, children_of}
use Rattle.sem_machine.specs.Revokes.{begin, waiter_added, revoke_begun, request_or_adopt, opened}
use Rattle.sem_machine.specs.Ends.{ask_ended, call_ended, revoked_if_left, keys_of_vpe, ended}
use Rattle.sem_machine.specs.Calls.{next_key, next_place, child_made, derive_tests, narrowed, gate_tests, ask_made, obtain_tests, open_tests, offer_tests}
use Rattle.sem_machine.specs.Calls.{delegate_tests, offer_made, bind_tests, destination_tests, call_row}
use Rattle.sem_msg.specs.Uses.{memory_tests, send_tests, credit_tests}
use Rattle.sem_machine.specs.Upcalls.{source, source_tests, given, given_kind, given_here, child_given, parent_tests, delegate_here, delegate_prepared}
use Rattle.sem_machine.specs.Upcalls.{consented, ask_decided, upcall_row}
use Rattle.sem_machine.specs.Handles.{is_here, is_key_declared, is_place_declared, is_target_declared, is_object_declared, is_stray, handle_row, handled}
use Rattle.sem_machine.specs.Handles.{obtain_ready, acknowledged}
use Rattle.sem_machine.specs.Resumes.{delegate_granted, delegate_resumed, resumed}
use Rattle.sem_key.proofs.KeyTests.{key_eq-true, Contains-from_has_key, has_key-from_Contains}
use Rattle.sem_key.proofs.Members.{Contains-nil, Contains-head, Contains-tail, Contains-cons_cases, Contains-filter, Contains-from_filter, Contains-from_map}
use Rattle.sem_safety.specs.Onward.{IsOnward}
use Rattle.sem_safety.specs.Observations.{ObservedSide}
use Rattle.sem_safety.proofs.Layers.{facts}
use Rattle.sem_machine.proofs.Folds.{in_turn-keeps}
use Rattle.sem_safety.proofs.GoingOn.{AnyVpe}
use Rattle.sem_safety.proofs.Onwards.{Any, AnyPlace, onward, onward-same}
use Rattle.sem_machine.proofs.Folds.{option-keeps}
use Rattle.sem_safety.proofs.KeptRows.{ask_ended-in}
use Rattle.sem_machine.proofs.FirstCodes.{unless-keeps}
use Rattle.sem_safety.proofs.Updates.{seen-cap_added, seen-cap_changed}
use Rattle.sem_revoke.proofs.Growing.{IsPlainCall}
use Rattle.sem_revoke.proofs.Waits.{Resting, CapsOn, Serves, IsServed, same-caps, same-jobs, resting-on, asks-rest, asks-wait, row-at, parked-here}
use Rattle.sem_revoke.proofs.Waiting.{Waiting, waiting-rows, row-kept, waiting-parked, waiting-send, waiting-refused, begun, begun-jobs, root-begun}
use Rattle.sem_revoke.proofs.Waiting.{waiting-begun, waiting-settling, waiting-settled, awaited, waiting-unparked, waiting-left}

-- what a change of a row leaves of a VPE
pub alive-with : (v : ℕ) (f : VpeRow → VpeRow) (s : Side) (w : ℕ) → ((r : VpeRow) → (f r).alive ≡ r.alive) → is_alive (with_row v f s) w ≡ is_alive s w
alive-with v f s w same = ap (λ (r : VpeRow). r.alive) (row-at v f s w) ∙ elim (cases_Bool (w == v)) [
  | inl here ↦ ap (λ (r : VpeRow). r.alive) (cond-true (w == v) (f (row s v)) (row s w) here)
      ∙ (same (row s v) ∙ ap (λ n. (row s n).alive) (sym (eqb-true w v here)))
  | inr other ↦ ap (λ (r : VpeRow). r.alive) (cond-false (w == v) (f (row s v)) (row s w) other)
]

-- pend tells which call cuts off which key, by its own key; base is the side before
module _ (pend : ℕ → KeyName → KeyName → Type 0) (base : Side) where
  abbrev held_as : Side → Side
  held_as t = record t { caps = base.caps }

  -- those at rest are so with the capabilities from before; and of a call's own key no capability comes, its mark stays, and no link comes to what the call
  -- cuts off
  pub record Quiet (t : Side) : Type 0 where
    pub waiting : Waiting pend None (held_as t)
    pub marks : (v : ℕ) (k r : KeyName) → pend v k r → CapsOn k r base t

  -- a VPE that does not wait for a revoke
  abbrev pub Busy : Side → ℕ → Type 0
  Busy t w = ((k r : KeyName) → Resting None (held_as t) k r w (parked t w) → ⊥) × ((n : ℕ) → parked t w ≡ Some (RevokeWait n) → ⊥)

  pub kept-q : (t : Side) (v : ℕ) (f : VpeRow → VpeRow) → ((row t v).alive ≡ false → (f (row t v)).alive ≡ false) → Quiet t → Quiet (with_row v f t)
  kept-q t v f dead Q = record { waiting = row-kept pend None (held_as t) Q.waiting v f dead; marks = Q.marks }

  ends-q : (t : Side) (es : List (List (Option Endpoint))) → Quiet t → Quiet (record t { endpoints = es })
  ends-q t es Q = record { waiting = waiting-rows pend None (held_as t) Q.waiting t.vpes es (λ w down. down); marks = Q.marks }

  park-q : (t : Side) (w : ℕ) (p : Option Parked) → Busy t w → Quiet t → Quiet (record t { parks = put None t.parks w p })
  park-q t w p busy Q = record {
    waiting = waiting-parked pend None (held_as t) Q.waiting w p (λ k r pends. absurd (busy.0 k r (Q.waiting.rests w k r pends)))
        (λ x among open_ waits. absurd (busy.1 x.id (Q.waiting.waiters x among open_ w waits)));
    marks = Q.marks;
  }

  -- a VPE that calls is alive, and no call of it is parked
  pub busy-calling : (t : Side) (w : ℕ) → parked t w ≡ None → is_alive t w ≡ true → Busy t w
  busy-calling t w none alive = (
    λ k r rest. true≢false (sym alive ∙ subst (Resting None (held_as t) k r w) none rest),
    λ n wait. (let two : None ≡ Some (RevokeWait n) = sym none ∙ wait in absurd cc),
  )

  busy-asking : (t : Side) (a : Ask) (w : ℕ) → waits_for a (parked t w) ≡ true → Busy t w
  busy-asking t a w waits = (λ k r rest. asks-rest (held_as t) k r w a (parked t w) waits rest, λ n wait. asks-wait a n (ap (waits_for a) (sym wait) ∙ waits))

  busy-waiting : (t : Side) (w number sel : ℕ) → parked t w ≡ Some (ObtainWait number sel) → Busy t w
  busy-waiting t w number sel is = (
    λ k r rest. subst (Resting None (held_as t) k r w) is rest,
    λ n wait. (let two : Some (ObtainWait number sel) ≡ Some (RevokeWait n) = sym is ∙ wait in absurd cc),
  )

  -- and it does not after a change of rows that leaves it alive
  pub busy-with : (t : Side) (v : ℕ) (f : VpeRow → VpeRow) (w : ℕ) → ((r : VpeRow) → (f r).alive ≡ r.alive) → Busy t w → Busy (with_row v f t) w
  busy-with t v f w live busy = (
    λ k r rest. busy.0 k r (resting-on None (held_as (with_row v f t)) (held_as t) k r w (parked t w)
        (same-caps k r (held_as (with_row v f t)) (held_as t) (λ q. refl)) (same-jobs k r w (held_as (with_row v f t)) (held_as t) refl) (omega arith)
        (λ down. sym (alive-with v f t w live) ∙ down) rest),
    busy.1,
  )

  -- Small changes.
  drawn-q : (t : Side) (v : ℕ) → Quiet t → Quiet (drawn v t)
  drawn-q t v Q = kept-q t v (λ r. record r { next_number = r.next_number + 1 }) (λ down. down) Q

  slot-q : (t : Side) (v sel : ℕ) (state : Slot) → Quiet t → Quiet (with_slot v sel state t)
  slot-q t v sel state Q = kept-q t v (λ r. record r { slots = put Free r.slots sel state }) (λ down. down) Q

  asked-q : (t : Side) (v : ℕ) (a : Ask) → Quiet t → Quiet (asked v a t)
  asked-q t v a Q = kept-q t v (λ r. record r { asks = if nat_lt (length r.asks) ASKS then r.asks ++ a ∷ [] else r.asks }) (λ down. down) Q

  pendings-q : (t : Side) (ps : List Pending) → Quiet t → Quiet (record t { pendings = ps })
  pendings-q t ps Q = record {
    waiting = record {
      rests = λ v k r pends. resting-on None (held_as t) (held_as (record t { pendings = ps })) k r v (parked t v)
          (same-caps k r (held_as t) (held_as (record t { pendings = ps })) (λ q. refl))
          (same-jobs k r v (held_as t) (held_as (record t { pendings = ps })) refl) (omega arith) (λ down. down) (Q.waiting.rests v k r pends);
      waiters = Q.waiting.waiters;
      keepers = Q.waiting.keepers;
      roots = Q.waiting.roots;
      drawn = Q.waiting.drawn;
      rises = Q.waiting.rises;
    };
    marks = Q.marks;
  }

  send-q : (t : Side) (j : ℕ) (m : Message) → Quiet t → Quiet (send j m t)
  send-q t j m Q = record { waiting = waiting-send pend None (held_as t) Q.waiting j m; marks = Q.marks }

  -- no call that waits has that key for its own, and none cuts it off
  abbrev pub Unrooted : KeyName → Type 0
  Unrooted q = (v : ℕ) (k r : KeyName) → pend v k r → q ≡ r → ⊥

  abbrev pub Uncut : KeyName → Type 0
  Uncut q = (v : ℕ) (k r : KeyName) → pend v k r → q ≡ k → ⊥

  added-q : (t : Side) (c : Capability) → Unrooted c.key → Quiet t → Quiet (cap_added c t)
  added-q t c new Q = record {
    waiting = Q.waiting;
    marks = λ v k r pends d held. Q.marks v k r pends d (sym (ap (λ (z : ObservedSide). z.cap r) (seen-cap_added c t)
        ∙ cond-false (key_eq r c.key) (Some c) (cap t r) (false_from_ne_true (key_eq r c.key) (λ same. new v k r pends (sym (key_eq-true r c.key same)))))
        ∙ held);
  }

  linked-q : (t : Side) (p q : KeyName) → Uncut q → Quiet t → Quiet (linked p q t)
  linked-q t p q new Q = record {
    waiting = Q.waiting;
    marks = λ v k r pends c held.
        let d = back r c held in
        let e = Q.marks v k r pends d.0 d.1 in
        (e.0, e.1, λ n marked. sym d.2 ∙ e.2 n marked, λ none. d.3 k (new v k r pends) (e.3 none));
  }
    where
      f : Capability → Capability
      f c = record c { children = with_key c.children q }

      -- another child is not there still
      others : (ks : List KeyName) (k : KeyName) → (q ≡ k → ⊥) → has_key ks k ≡ false → has_key (with_key ks q) k ≡ false
      others ks k other none =
          false_from_ne_true (has_key (with_key ks q) k) (λ has. elim (with_key-from ks q k (Contains-from_has_key (with_key ks q) k has)) [
            | inl same ↦ other same
            | inr before ↦ true≢false (sym (has_key-from_Contains ks k before) ∙ none)
          ])

      mapped : (o : Option Capability) (c : Capability) → option_map f o ≡ Some c → (d : Capability) × (o ≡ Some d) × (d.mark ≡ c.mark)
          × ((k : KeyName) → (q ≡ k → ⊥) → has_key d.children k ≡ false → has_key c.children k ≡ false)
      mapped None c none = absurd cc
      mapped (Some d) c some =
          let same = same_Some (f d) c some in (
            d,
            refl,
            ap (λ (x : Capability). x.mark) same,
            λ k other none. ap (λ (x : Capability). has_key x.children k) (sym same)
                ∙ others d.children k other none,
          )

      back : (k : KeyName) (c : Capability) → cap (linked p q t) k ≡ Some c → (d : Capability) × (cap t k ≡ Some d) × (d.mark ≡ c.mark)
          × ((z : KeyName) → (q ≡ z → ⊥) → has_key d.children z ≡ false → has_key c.children z ≡ false)
      back k c held =
          let seen = ap (λ (z : ObservedSide). z.cap k) (seen-cap_changed p f t (λ x. refl)) in
          elim (cases_Bool (key_eq k p)) [
            | inl same ↦ mapped (cap t k) c (sym (seen ∙ cond-true (key_eq k p) (option_map f (cap t k)) (cap t k) same) ∙ held)
            | inr differ ↦ (c, sym (seen ∙ cond-false (key_eq k p) (option_map f (cap t k)) (cap t k) differ) ∙ held, refl, λ z other none. none)
          ]

  installed-q : (t : Side) (k : KeyName) (parent : Option KeyName) (sel : ℕ) (object : Object) → Unrooted k → Quiet t → Quiet (installed k parent sel object t)
  installed-q t k parent sel object new Q = slot-q (cap_added (fresh k parent sel object) t) k.vpe sel (Held k) (added-q t (fresh k parent sel object) new Q)

  refused-q : (T : Setup) (i : ℕ) (code : Code) (a : Ask) (t : Side) → ((kernel_of T (asker a) == i) ≡ true → waits_for a (parked t (asker a)) ≡ true) →
      Quiet t → Quiet (ask_refused T i code a t)
  refused-q T i code a t waits Q = cond_both (kernel_of T (asker a) == i) (call_refused (code_number code) (asker a) t) (refusal_sent T code a t) Quiet
      (λ here. calling (waits here)) (λ _. refusal a)
    where
      refusal : (a : Ask) → Quiet (refusal_sent T code a t)
      refusal (ObtainAsk place target) = send-q t _ _ Q
      refusal (DelegateAsk parent object sel) = send-q t _ _ Q

      calling : waits_for a (parked t (asker a)) ≡ true → Quiet (call_refused (code_number code) (asker a) t)
      calling waiting' = by (parked t (asker a)) (busy-asking t a (asker a) waiting')
        where
          by : (p : Option Parked) → Busy t (asker a) → Quiet (ready (code_number code) (asker a) (promise_freed p (asker a) t))
          by None busy = park-q t (asker a) (Some (Ready (code_number code))) busy Q
          by (Some (ObtainWait number sel)) busy = park-q (freed (asker a) sel t) (asker a) (Some (Ready (code_number code)))
              (busy-with t (asker a) (λ r. record r { slots = put Free r.slots sel Free }) (asker a) (λ r. refl) busy) (slot-q t (asker a) sel Free Q)
          by (Some (ObtainReady key parent object sel)) busy = park-q t (asker a) (Some (Ready (code_number code))) busy Q
          by (Some ObtainCancelled) busy = park-q t (asker a) (Some (Ready (code_number code))) busy Q
          by (Some (DelegateWait parent)) busy = park-q t (asker a) (Some (Ready (code_number code))) busy Q
          by (Some (DelegateReady parent key)) busy = park-q t (asker a) (Some (Ready (code_number code))) busy Q
          by (Some (RevokeWait n)) busy = park-q t (asker a) (Some (Ready (code_number code))) busy Q
          by (Some (Ready code')) busy = park-q t (asker a) (Some (Ready (code_number code))) busy Q

  -- Steps: what they grant was not revoked.
  abbrev pub Calm : Step → Type 0
  Calm x = ((p k : KeyName) → ◌≡◌ {A = Option (KeyName × KeyName)} x.outcome.grant (Some (p, k)) → Unrooted k × Uncut k) → Quiet x.side

  -- Calls.
  child-q : (T : Setup) (v dst : ℕ) (object : Object) (parent : KeyName) (t : Side) → Quiet t → Calm (child_made T v dst object parent t)
  child-q T v dst object parent t Q = λ grants.
      let k : KeyName = next_key T t v (object_kind object) in
      let new = grants parent k refl in
      installed-q (linked parent k (drawn v t)) k (Some parent) dst object new.0 (linked-q (drawn v t) parent k new.1 (drawn-q t v Q))

  ask-q : (T : Setup) (i v dst : ℕ) (target : Target) (t : Side) → Busy t v → Quiet t → Calm (ask_made T i v dst target t)
  ask-q T i v dst target t busy Q = λ _.
      let place : PlaceName = next_place T t v in
      let w : ℕ = target_vpe target in
      let inner : Side = promised v dst (drawn v t) in
      let waiting : Side = parked_as v (ObtainWait place.number dst) inner in
      let busy' : Busy inner v = busy-with (drawn v t) v (λ r. record r { slots = put Free r.slots dst Promised }) v (λ r. refl)
      (busy-with t v (λ r. record r { next_number = r.next_number + 1 }) v (λ r. refl) busy) in
      let W : Quiet waiting = park-q inner v (Some (ObtainWait place.number dst)) busy' (slot-q (drawn v t) v dst Promised (drawn-q t v Q)) in
      cond_both (kernel_of T w == i) (asked w (ObtainAsk place target) waiting) (send (kernel_of T w) (ObtainReq place target) waiting) Quiet
      (λ _. asked-q waiting w (ObtainAsk place target) W) (λ _. send-q waiting (kernel_of T w) (ObtainReq place target) W)

  offer-q : (T : Setup) (i v w dst : ℕ) (p : Capability) (t : Side) → Busy t v → Quiet t → Calm (offer_made T i v w dst p t)
  offer-q T i v w dst p t busy Q = λ _.
      let waiting : Side = parked_as v (DelegateWait p.key) t in
      let W : Quiet waiting = park-q t v (Some (DelegateWait p.key)) busy Q in
      cond_both (kernel_of T w == i) (asked w (DelegateAsk p.key p.object dst) waiting) (send (kernel_of T w) (DelegateReq p.key p.object w dst) waiting) Quiet
      (λ _. asked-q waiting w (DelegateAsk p.key p.object dst) W) (λ _. send-q waiting (kernel_of T w) (DelegateReq p.key p.object w dst) W)

  pub call-q : (T : Setup) (i : ℕ) (t : Side) (v : ℕ) (c : Call) → IsPlainCall c → Busy t v → Quiet t → Calm (call_row T i t v c)
  unfolding call_row
  call-q T i t v (Derive src dst off len rights) quiet busy Q = unless-keeps Calm (derive_tests t v src dst off len rights) _ _ (λ code _. Q)
      (option-keeps Calm (λ (p : Capability). child_made T v dst (narrowed off len rights p.object) p.key t) (own t v src) (answer NoCap t)
      (λ p held. child-q T v dst (narrowed off len rights p.object) p.key t Q) (λ _. Q))
  call-q T i t v (Gate src dst label credits) quiet busy Q =
      unless-keeps Calm (gate_tests t v src dst credits) _ _ (λ code _. Q)
      (option-keeps Calm (λ (p : Capability). child_made T v dst (Send p.key label credits) p.key t) (own t v src) (answer NoCap t)
      (λ p held. child-q T v dst (Send p.key label credits) p.key t Q) (λ _. Q))
  call-q T i t v (Obtain dst w src) quiet busy Q = unless-keeps Calm (obtain_tests T i t v dst w) _ _ (λ code _. Q) (ask-q T i v dst (SelTarget w src) t busy Q)
  call-q T i t v (Delegate src w dst) quiet busy Q =
      unless-keeps Calm (delegate_tests T i t v src w) _ _ (λ code _. Q) (option-keeps Calm (λ (p : Capability). offer_made T i v w dst p t) (own t v src)
      (answer NoCap t) (λ p held. offer-q T i v w dst p t busy Q) (λ _. Q))
  call-q T i t v (OpenSession dst name) quiet busy Q =
      unless-keeps Calm (open_tests T i t v dst name) _ _ (λ code _. Q) (option-keeps Calm (λ (x : Service). ask_made T i v dst (ServTarget x.key) t)
      (service_named T name) (answer NoService t) (λ x there. ask-q T i v dst (ServTarget x.key) t busy Q) (λ _. Q))
  call-q T i t v (AskOffer dst session index) quiet busy Q =
      unless-keeps Calm (offer_tests T i t v dst session) _ _ (λ code _. Q) (option-keeps Calm (λ (k : KeyName). ask_made T i v dst (OfferTarget k index) t) _
      (answer BadKind t) (λ k there. ask-q T i v dst (OfferTarget k index) t busy Q) (λ _. Q))
  call-q T i t v (Revoke src) quiet busy Q = absurd quiet
  call-q T i t v (Bind ep src) quiet busy Q =
      unless-keeps Calm (bind_tests t v src) _ _ (λ code _. Q) (option-keeps Calm _ (own t v src) (answer NoCap t) (λ c held _. ends-q t _ Q) (λ _. Q))
  call-q T i t v (Read ep off len) quiet busy Q = unless-keeps Calm (memory_tests 1 off len (endpoint t v ep)) _ _ (λ code _. Q) (λ _. Q)
  call-q T i t v (Write ep off len) quiet busy Q = unless-keeps Calm (memory_tests 2 off len (endpoint t v ep)) _ _ (λ code _. Q) (λ _. Q)
  call-q T i t v (SendCall ep len) quiet busy Q = unless-keeps Calm (send_tests (endpoint t v ep)) _ _ (λ code _. Q) (λ _. ends-q t _ Q)
  call-q T i t v (Credit ep) quiet busy Q = unless-keeps Calm (credit_tests (endpoint t v ep)) _ _ (λ code _. Q) (λ _. ends-q t _ Q)
  call-q T i t v Exit quiet busy Q = absurd quiet
  call-q T i t v (Clear src) quiet busy Q = absurd quiet

  -- Upcalls.
  given-q : (k p : KeyName) (object : Object) (state : Option Parked) (t : Side) → parked t k.vpe ≡ state → Unrooted k → Quiet t →
      Quiet (given_here k p object state t)
  given-q k p object (Some (ObtainWait number sel)) t is new Q =
      let busy : Busy t k.vpe = busy-waiting t k.vpe number sel is in
      park-q (installed k (Some p) sel object t) k.vpe (Some (Ready 0))
      (busy-with (cap_added (fresh k (Some p) sel object) t) k.vpe (λ r. record r { slots = put Free r.slots sel (Held k) }) k.vpe (λ r. refl) busy)
      (installed-q t k (Some p) sel object new Q)
  given-q k p object None t is new Q = Q
  given-q k p object (Some (ObtainReady key parent object' sel)) t is new Q = Q
  given-q k p object (Some ObtainCancelled) t is new Q = Q
  given-q k p object (Some (DelegateWait parent)) t is new Q = Q
  given-q k p object (Some (DelegateReady parent key)) t is new Q = Q
  given-q k p object (Some (RevokeWait j)) t is new Q = Q
  given-q k p object (Some (Ready code)) t is new Q = Q

  child_given-q : (T : Setup) (i : ℕ) (place : PlaceName) (target : Target) (t : Side) (p : Capability) → Quiet t → Calm (child_given T i place target t p)
  child_given-q T i place target t p Q = λ grants.
      let k : KeyName = keyed place (given_kind target p) in
      let object : Object = given target place.vpe p in
      let linking : Side = linked p.key k t in
      let new = grants p.key k refl in
      let L : Quiet linking = linked-q t p.key k new.1 Q in
      cond_both (kernel_of T place.vpe == i) (given_here k p.key object (parked linking place.vpe) linking)
      (send (place_owner T place) (ObtainOk p.key k object) linking) Quiet (λ _. given-q k p.key object (parked linking place.vpe) linking refl new.0 L)
      (λ _. send-q linking (place_owner T place) (ObtainOk p.key k object) L)

  here-q : (T : Setup) (v : ℕ) (parent : KeyName) (object : Object) (sel : ℕ) (t : Side) → Busy t parent.vpe → Quiet t →
      Calm (delegate_here T v parent object sel t)
  here-q T v parent object sel t busy Q = λ grants.
      let k : KeyName = next_key T t v parent.kind in
      let new = grants parent k refl in
      let linking : Side = linked parent k (drawn v t) in
      let busy' : Busy linking parent.vpe = busy-with t v (λ r. record r { next_number = r.next_number + 1 }) parent.vpe (λ r. refl) busy in
      park-q (installed k (Some parent) sel object linking) parent.vpe (Some (Ready 0))
      (busy-with (cap_added (fresh k (Some parent) sel object) linking) k.vpe (λ r. record r { slots = put Free r.slots sel (Held k) }) parent.vpe
      (λ r. refl) busy') (installed-q linking k (Some parent) sel object new.0 (linked-q (drawn v t) parent k new.1 (drawn-q t v Q)))

  prepared-q : (T : Setup) (v : ℕ) (parent : KeyName) (object : Object) (sel : ℕ) (t : Side) → Quiet t → Calm (delegate_prepared T v parent object sel t)
  prepared-q T v parent object sel t Q = λ _. send-q _ _ _ (pendings-q (promised v sel (drawn v t)) _ (slot-q (drawn v t) v sel Promised (drawn-q t v Q)))

  consented-q : (T : Setup) (i v : ℕ) (a : Ask) (t : Side) → ((kernel_of T (asker a) == i) ≡ true → waits_for a (parked t (asker a)) ≡ true) → Quiet t →
      Calm (consented T i v a t)
  consented-q T i v (ObtainAsk place target) t waits Q =
      unless-keeps Calm (source_tests target (source T t v target)) _ _ (λ code _. refused-q T i code (ObtainAsk place target) t waits Q)
      (option-keeps Calm (child_given T i place target t) (source T t v target) (unshown t) (λ p held. child_given-q T i place target t p Q) (λ _. Q))
  consented-q T i v (DelegateAsk parent object sel) t waits Q =
      cond_both (kernel_of T parent.vpe == i) _ _ Calm
      (λ here. unless-keeps Calm (parent_tests (cap t parent) ++ destination_tests t v sel) _ _
      (λ code _. refused-q T i code (DelegateAsk parent object sel) t waits Q)
      (here-q T v parent object sel t (busy-asking t (DelegateAsk parent object sel) parent.vpe (waits here)) Q))
      (λ _. unless-keeps Calm (destination_tests t v sel) _ _ (λ code _. refused-q T i code (DelegateAsk parent object sel) t waits Q)
      (prepared-q T v parent object sel t Q))

  pub upcall-q : (T : Setup) (i : ℕ) (t : Side) (v : ℕ) → Quiet t → Calm (upcall_row T i t v)
  unfolding upcall_row
  upcall-q T i t v Q = option-keeps Calm (λ (a : Ask). ask_decided T i v a (ask_taken v t)) (slice_get (row t v).asks 0) (unshown t)
      (λ a there. decided a (ask_taken v t) (kept-q t v (λ r. record r { asks = drop 1 r.asks }) (λ down. down) Q)) (λ _. Q)
    where
      decided : (a : Ask) (u : Side) → Quiet u → Calm (ask_decided T i v a u)
      decided a u Q' = cond_both (is_unawaited T i u a) _ _ Calm (λ _ _. Q')
          (λ waits. cond_both (denies T v (asker a)) _ _ Calm (λ _ _. refused-q T i Refused a u (awaited pend T i u a waits) Q')
          (λ _. consented-q T i v a u (awaited pend T i u a waits) Q'))

  -- Parked calls: the one that goes on is not at rest, or is answered.
  unparked-q : (t : Side) (v : ℕ) → Busy t v → Quiet t → Quiet (unparked v t)
  unparked-q t v busy Q = park-q t v None busy Q

  delegated-q : (T : Setup) (parent key : KeyName) (o : Option Capability) (t : Side) → Quiet t → Calm (delegate_resumed T parent key o t)
  delegated-q T parent key None t Q = λ _. send-q t _ _ Q
  delegated-q T parent key (Some c) t Q = by_mark c.mark
    where
      by_mark : (m : Option ℕ) → Calm (delegate_granted T parent key m t)
      by_mark None = λ grants. send-q (linked parent key t) _ _ (linked-q t parent key (grants parent key refl).1 Q)
      by_mark (Some j) = λ _. send-q t _ _ Q

  abbrev pub Unrevoked : Option Parked → Type 0
  Unrevoked None = Unit {0}
  Unrevoked (Some (ObtainWait number sel)) = Unit {0}
  Unrevoked (Some (ObtainReady key parent object sel)) = Unrooted key
  Unrevoked (Some ObtainCancelled) = Unit {0}
  Unrevoked (Some (DelegateWait parent)) = Unit {0}
  Unrevoked (Some (DelegateReady parent key)) = Unit {0}
  Unrevoked (Some (RevokeWait j)) = Unit {0}
  Unrevoked (Some (Ready code)) = Unit {0}

  pub resumed-q : (T : Setup) (p : Option Parked) (t : Side) → Unrevoked p → Quiet t → Calm (resumed T p t)
  resumed-q T None t new Q = λ _. Q
  resumed-q T (Some (ObtainWait number sel)) t new Q = λ _. Q
  resumed-q T (Some (ObtainReady key parent object sel)) t new Q = λ _. installed-q t key (Some parent) sel object new Q
  resumed-q T (Some ObtainCancelled) t new Q = λ _. Q
  resumed-q T (Some (DelegateWait parent)) t new Q = λ _. Q
  resumed-q T (Some (DelegateReady parent key)) t new Q = delegated-q T parent key (cap t parent) t Q
  resumed-q T (Some (RevokeWait j)) t new Q = λ _. Q
  resumed-q T (Some (Ready code)) t new Q = λ _. Q

  -- Messages.

  refusing-q : (t : Side) (code w : ℕ) (a : Ask) → waits_for a (parked t w) ≡ true → Quiet t → Quiet (call_refused code w t)
  refusing-q t code w a waits Q = by (parked t w) (busy-asking t a w waits)
    where
      by : (p : Option Parked) → Busy t w → Quiet (ready code w (promise_freed p w t))
      by None busy = park-q t w (Some (Ready code)) busy Q
      by (Some (ObtainWait number sel)) busy =
          park-q (freed w sel t) w (Some (Ready code)) (busy-with t w (λ r. record r { slots = put Free r.slots sel Free }) w (λ r. refl) busy)
          (slot-q t w sel Free Q)
      by (Some (ObtainReady key parent object sel)) busy = park-q t w (Some (Ready code)) busy Q
      by (Some ObtainCancelled) busy = park-q t w (Some (Ready code)) busy Q
      by (Some (DelegateWait parent)) busy = park-q t w (Some (Ready code)) busy Q
      by (Some (DelegateReady parent key)) busy = park-q t w (Some (Ready code)) busy Q
      by (Some (RevokeWait n)) busy = park-q t w (Some (Ready code)) busy Q
      by (Some (Ready code')) busy = park-q t w (Some (Ready code)) busy Q

  ready-q : (parent key : KeyName) (object : Object) (state : Option Parked) (t : Side) → parked t key.vpe ≡ state → Quiet t →
      Quiet (obtain_ready parent key object state t)
  ready-q parent key object (Some (ObtainWait number sel)) t is Q =
      park-q t key.vpe (Some (ObtainReady key parent object sel)) (busy-waiting t key.vpe number sel is) Q
  ready-q parent key object None t is Q = Q
  ready-q parent key object (Some (ObtainReady key' parent' object' sel)) t is Q = Q
  ready-q parent key object (Some ObtainCancelled) t is Q = Q
  ready-q parent key object (Some (DelegateWait parent')) t is Q = Q
  ready-q parent key object (Some (DelegateReady parent' key')) t is Q = Q
  ready-q parent key object (Some (RevokeWait j)) t is Q = Q
  ready-q parent key object (Some (Ready code)) t is Q = Q

  -- what is alive and not a stray waits
  not-without : (alive waits : Bool) → (alive && not waits) ≡ false → alive ≡ true → waits ≡ true
  not-without true true h is = refl
  not-without true false h is = absurd cc
  not-without false waits h is = absurd cc

  -- the keys that a message brings
  abbrev pub Unbrought : Message → Type 0
  Unbrought (ObtainReq place target) = Unit {0}
  Unbrought (ObtainOk parent key object) = Unit {0}
  Unbrought (ObtainNo place code) = Unit {0}
  Unbrought (DelegateReq parent object vpe sel) = Unit {0}
  Unbrought (DelegatePrepared parent key) = Unit {0}
  Unbrought (DelegateNo parent code) = Unit {0}
  Unbrought (Ack key true) = Unrooted key
  Unbrought (Ack key false) = Unit {0}
  Unbrought (Orphan parent key) = ⊥
  Unbrought (RevokeReq key job) = ⊥
  Unbrought (RevokeDone job) = ⊥
  Unbrought (Unlink parent key) = ⊥

  pub handled-q : (T : Setup) (i from : ℕ) (m : Message) (t : Side) → Unbrought m → Quiet t → Quiet (handled T i t from m)
  unfolding handle_row
  handled-q T i from (ObtainReq place target) t new Q =
      cond_both (is_stray T i t (ObtainReq place target)) t _ Quiet (λ _. Q)
      (λ good. cond_both (is_alive t (target_vpe target)) (asked (target_vpe target) (ObtainAsk place target) t)
      (ask_refused T i Dead (ObtainAsk place target) t) Quiet (λ _. asked-q t (target_vpe target) (ObtainAsk place target) Q)
      (λ _. refused-q T i Dead (ObtainAsk place target) t
      (λ here. absurd (true≢false (sym here
      ∙ (or_parts (not (is_here T i (target_vpe target))) (is_here T i place.vpe)
      (or_parts (not (is_target_declared T target)) _ (or_parts (not (is_place_declared T place)) _ good).1).1).1))) Q))
  handled-q T i from (ObtainOk parent key object) t new Q = cond_both (is_stray T i t (ObtainOk parent key object)) t _ Quiet (λ _. Q)
      (λ good. cond_both (is_alive t key.vpe) (obtain_ready parent key object (parked t key.vpe) t) (send (owner_of T parent) (Orphan parent key) t) Quiet
      (λ _. ready-q parent key object (parked t key.vpe) t refl Q) (λ _. send-q t _ _ Q))
  handled-q T i from (ObtainNo place code) t new Q =
      cond_both (is_stray T i t (ObtainNo place code)) t _ Quiet (λ _. Q) (λ good. cond_both (is_alive t place.vpe) (call_refused code place.vpe t) t Quiet
      (λ alive. refusing-q t code place.vpe (ObtainAsk place (SelTarget 0 0))
      (not-without (is_alive t place.vpe) (waits_for (ObtainAsk place (SelTarget 0 0)) (parked t place.vpe))
      (or_parts (not (is_here T i place.vpe)) _ (or_parts (not (is_place_declared T place)) _ good).1).1 alive) Q) (λ _. Q))
  handled-q T i from (DelegateReq parent object vpe sel) t new Q = cond_both (is_stray T i t (DelegateReq parent object vpe sel)) t _ Quiet (λ _. Q)
      (λ good. cond_both (is_alive t vpe) (asked vpe (DelegateAsk parent object sel) t) (ask_refused T i Dead (DelegateAsk parent object sel) t) Quiet
      (λ _. asked-q t vpe (DelegateAsk parent object sel) Q)
      (λ _. refused-q T i Dead (DelegateAsk parent object sel) t
      (λ here. absurd (true≢false (sym here
      ∙ (or_parts (not (is_here T i vpe)) (is_here T i parent.vpe)
      (or_parts (not (is_object_declared T object)) _ (or_parts (not (is_key_declared T parent)) _ good).1).1).1))) Q))
  handled-q T i from (DelegatePrepared parent key) t new Q = cond_both (is_stray T i t (DelegatePrepared parent key)) t _ Quiet (λ _. Q)
      (λ good. cond_both (is_alive t parent.vpe) (parked_as parent.vpe (DelegateReady parent key) t) (send (owner_of T key) (Ack key false) t) Quiet
      (λ alive. park-q t parent.vpe (Some (DelegateReady parent key))
      (busy-asking t (DelegateAsk parent (Recv 0) 0) parent.vpe
      (not-without (is_alive t parent.vpe) (waits_for (DelegateAsk parent (Recv 0) 0) (parked t parent.vpe))
      (or_parts (is_here T i key.vpe) _
      (or_parts (not (is_here T i parent.vpe)) _ (or_parts (not (is_key_declared T key)) _ (or_parts (not (is_key_declared T parent)) _ good).1).1).1).1
      alive)) Q)
      (λ _. send-q t _ _ Q))
  handled-q T i from (DelegateNo parent code) t new Q =
      cond_both (is_stray T i t (DelegateNo parent code)) t _ Quiet (λ _. Q) (λ good. cond_both (is_alive t parent.vpe) (call_refused code parent.vpe t) t Quiet
      (λ alive. refusing-q t code parent.vpe (DelegateAsk parent (Recv 0) 0)
      (not-without (is_alive t parent.vpe) (waits_for (DelegateAsk parent (Recv 0) 0) (parked t parent.vpe))
      (or_parts (not (is_here T i parent.vpe)) _ (or_parts (not (is_key_declared T parent)) _ good).1).1 alive) Q) (λ _. Q))
  handled-q T i from (Ack key true) t new Q =
      cond_both (is_stray T i t (Ack key true)) t _ Quiet (λ _. Q) (λ good. option-keeps Quiet (acknowledged T key true t) (pending t key) t
      (λ p there. cond_both (is_alive t key.vpe) (installed key (Some p.parent) p.sel p.object (pending_removed key t))
      (send (owner_of T p.parent) (Orphan p.parent key) (pending_removed key t)) Quiet
      (λ _. installed-q (pending_removed key t) key (Some p.parent) p.sel p.object new (pendings-q t _ Q))
      (λ _. send-q (pending_removed key t) _ _ (pendings-q t _ Q))) Q)
  handled-q T i from (Ack key false) t new Q =
      cond_both (is_stray T i t (Ack key false)) t _ Quiet (λ _. Q) (λ good. option-keeps Quiet (acknowledged T key false t) (pending t key) t
      (λ p there. slot-q (pending_removed key t) key.vpe p.sel Free (pendings-q t _ Q)) Q)
  handled-q T i from (Orphan parent key) t new Q = absurd new
  handled-q T i from (RevokeReq key job) t new Q = absurd new
  handled-q T i from (RevokeDone job) t new Q = absurd new
  handled-q T i from (Unlink parent key) t new Q = absurd new

-- The end of a VPE.
module _ (pend : ℕ → KeyName → KeyName → Type 0) where
  pub waiting-ended : (T : Setup) (i v : ℕ) (s : Side) → Waiting pend None s → Waiting pend None (ended T i v s)
  unfolding ended
  waiting-ended T i v s R =
      let asks : List Ask = (row s v).asks in
      let dead : Side = buried v s in
      let D : Waiting pend None dead = row-kept pend None s R v (λ r. record r { alive = false; asks = [] }) (λ down. refl) in
      let O = (onward dead).kept in
      let answered : Side = in_turn (ask_ended T i) asks dead in
      let told : Waiting pend None answered × IsOnward dead answered = in_turn-keeps (λ (t : Side). Waiting pend None t
      × IsOnward dead t) (ask_ended T i) (λ a t here. (
        cond_both (is_unawaited T i t a) t (ask_refused T i Dead a t) (Waiting pend None) (λ _. here.0)
            (λ waits. waiting-refused pend T i Dead a t (awaited pend T i t a waits) here.0),
        ask_ended-in (facts Any AnyPlace) AnyVpe (IsOnward dead) O T i a t here.1,
      )) asks dead (D, onward-same dead) in
      let down : is_alive answered v ≡ false = false_from_ne_true (is_alive answered v) (λ live. true≢false (sym (told.1.dead v live)
      ∙ ap (λ (r : VpeRow). r.alive) (row-at v (λ r. record r { alive = false; asks = [] }) s v
      ∙ cond-true (v == v) (record (row s v) { alive = false; asks = [] }) (row s v) (eq-eqb v v refl)))) in
      let left : Waiting pend None (call_ended T (parked answered v) v (unparked v answered)) = waiting-unparked pend v answered down told.0 T in
      in_turn-keeps (Waiting pend None) (revoked_if_left T i) (λ k t here. waiting-left pend T i k t here)
      (keys_of_vpe (call_ended T (parked answered v) v (unparked v answered)) v) (call_ended T (parked answered v) v (unparked v answered)) left

number-from : (ws : List ℕ) (v w : ℕ) → Contains (with_number ws v) w → (v ≡ w) ⊎ Contains ws w
number-from ws v w among = elim (Contains-append_cases (filter (λ n. nat_lt n v) ws) (v ∷ filter (λ n. nat_lt v n) ws) w among) [
  | inl low ↦ inr (Contains-from_filter (λ n. nat_lt n v) ws w low).0
  | inr rest ↦ elim (Contains-cons_cases v (filter (λ n. nat_lt v n) ws) w rest) [
    | inl same ↦ inl same
    | inr high ↦ inr (Contains-from_filter (λ n. nat_lt v n) ws w high).0
  ]
]

number-there : (ws : List ℕ) (v : ℕ) → Contains (with_number ws v) v
number-there ws v = Contains-append_right (filter (λ n. nat_lt n v) ws) (v ∷ filter (λ n. nat_lt v n) ws) v (Contains-head v (filter (λ n. nat_lt v n) ws))

number-keeps : (ws : List ℕ) (v w : ℕ) → Contains ws w → Contains (with_number ws v) w
number-keeps ws v w among = elim (cases_order w v) [
  | inl same ↦ subst (Contains (with_number ws v)) (sym same) (number-there ws v)
  | inr (inl low) ↦ Contains-append_left (filter (λ n. nat_lt n v) ws) (v ∷ filter (λ n. nat_lt v n) ws) w
      (Contains-filter (λ n. nat_lt n v) ws w among (lt-ltb w v low))
  | inr (inr high) ↦ Contains-append_right (filter (λ n. nat_lt n v) ws) (v ∷ filter (λ n. nat_lt v n) ws) w
      (Contains-tail v (filter (λ n. nat_lt v n) ws) w (Contains-filter (λ n. nat_lt v n) ws w among (lt-ltb v w high)))
]

-- A revoke or a clear of r begins, by VPE v: the keys that are new, which it cuts off, are waited for too.
module _ (pend more : ℕ → KeyName → KeyName → Type 0) (v : ℕ) (r0 : KeyName) (new : KeyName → Type 0) (split : (w : ℕ) (k r : KeyName) → more w k r →
    pend w k r ⊎ ((w ≡ v) × (r ≡ r0) × new k)) where
  -- those that wait, with the one whose job serves it
  one-more : (n : ℕ) (t : Side) → parked t v ≡ Some (RevokeWait n) → n < t.next_job →
      ((k : KeyName) → new k → (c : Capability) → cap t r0 ≡ Some c → IsServed t k r0 v n c) → Waiting pend None t → Waiting more None t
  one-more n t parks low served R = record {
    rests = λ w k r is. elim (split w k r is) [
      | inl before ↦ R.rests w k r before
      | inr (here, own, now) ↦ subst (λ z. Resting None t k r z (parked t z)) (sym here)
          (subst (λ z. Resting None t k z v (parked t v)) (sym own) (subst (Resting None t k r0 v) (sym parks) (
            low,
            λ open_ c held. served k now c held,
            λ y none. let no' : None ≡ Some y = none in absurd cc,
          )))
    ];
    waiters = R.waiters;
    keepers = R.keepers;
    roots = R.roots;
    drawn = R.drawn;
    rises = R.rises;
  }

  -- the job of an id has one more that waits
  module _ (j : ℕ) (t : Side) (parks : parked t v ≡ Some (RevokeWait j)) (R : Waiting pend None t) where
    abbrev joins : JobRow → JobRow
    joins x = record x { waiters = with_number x.waiters v }

    -- each job was there, and who waits for it is as before, or v
    was : (y : JobRow) → Contains (waiter_added j v t).jobs y
        → (x : JobRow) × Contains t.jobs x × (x.id ≡ y.id) × (x.root ≡ y.root) × (x.keep ≡ y.keep) × ((w : ℕ) → Contains x.waiters w → Contains y.waiters w)
        × ((w : ℕ) → Contains y.waiters w → ((w ≡ v) × (x.id ≡ j)) ⊎ Contains x.waiters w) × (x.id ≡ j → Contains y.waiters v)
    was y among =
        let origin = Contains-from_map (λ (x : JobRow). if x.id == j then joins x else x) t.jobs y among in
        let x : JobRow = origin.0 in
        elim (cases_Bool (x.id == j)) [
          | inl here ↦
              let is : joins x ≡ y = sym (cond-true (x.id == j) (joins x) x here) ∙ origin.2 in (
                x,
                origin.1,
                ap (λ (z : JobRow). z.id) is,
                ap (λ (z : JobRow). z.root) is,
                ap (λ (z : JobRow). z.keep) is,
                λ w waits. subst (λ (z : JobRow). Contains z.waiters w) is (number-keeps x.waiters v w waits),
                λ w waits. elim (number-from x.waiters v w (subst (λ (z : JobRow). Contains z.waiters w) (sym is) waits))
                    [ inl same ↦ inl (sym same, eqb-true x.id j here) | inr before ↦ inr before ],
                λ id. subst (λ (z : JobRow). Contains z.waiters v) is (number-there x.waiters v),
              )
          | inr other ↦
              let is : x ≡ y = sym (cond-false (x.id == j) (joins x) x other) ∙ origin.2 in (
                x,
                origin.1,
                ap (λ (z : JobRow). z.id) is,
                ap (λ (z : JobRow). z.root) is,
                ap (λ (z : JobRow). z.keep) is,
                λ w waits. subst (λ (z : JobRow). Contains z.waiters w) is waits,
                λ w waits. inr (subst (λ (z : JobRow). Contains z.waiters w) (sym is) waits),
                λ id. absurd (eqb-false x.id j other id),
              )
        ]

    waiting-added : Waiting pend None (waiter_added j v t)
    waiting-added = record {
      rests = λ w k r pends. resting-on None t (waiter_added j v t) k r w (parked t w) (same-caps k r t (waiter_added j v t) (λ q. refl))
          (λ y among low. let x = was y among in (x.0, x.1, x.2, λ (waits, leaves). (x.5 w waits, λ own root. sym x.4 ∙ leaves own (x.3 ∙ root)))) (omega arith)
          (λ down. down) (R.rests w k r pends);
      waiters = λ y among open_ w waits. let x = was y among in elim (x.6 w waits) [
        | inl (here, id) ↦ ap (parked t) here ∙ (parks ∙ ap (λ n. Some (RevokeWait n)) (sym id ∙ x.2))
        | inr before ↦ R.waiters x.0 x.1 (λ none. none) w before ∙ ap (λ n. Some (RevokeWait n)) x.2
      ];
      keepers = λ y among keeps. let x = was y among in
          x.5 y.root.vpe (subst (λ (q : KeyName). Contains x.0.waiters q.vpe) x.3 (R.keepers x.0 x.1 (x.4 ∙ keeps)));
      roots = λ y among open_ c held. let x = was y among in R.roots x.0 x.1 (λ none. none) c (ap (cap t) x.3 ∙ held) ∙ ap Some x.2;
      drawn = λ y among. let x = was y among in let low = R.drawn x.0 x.1 in let id = x.2 in omega (arith, low, id);
      rises = R.rises;
    }

  module _ (T : Setup) (i : ℕ) (s : Side) (c : Capability) (held : cap s r0 ≡ Some c) (busy : Busy pend s s v) (own_key : r0.vpe ≡ v)
      (R : Waiting pend None s) where
    parking : (n : ℕ) → Waiting pend None (parked_as v (RevokeWait n) s)
    parking n = waiting-parked pend None s R v (Some (RevokeWait n)) (λ k r pends. absurd (busy.0 k r (R.rests v k r pends)))
        (λ x among open_ waits. absurd (busy.1 x.id (R.waiters x among open_ v waits)))

    parks : (n : ℕ) → parked (parked_as v (RevokeWait n) s) v ≡ Some (RevokeWait n)
    parks n = parked-here s v (Some (RevokeWait n))

    single : (w : ℕ) → Contains (v ∷ []) w → w ≡ v
    single w among = elim (Contains-cons_cases v [] w among) [ inl same ↦ sym same | inr none ↦ absurd (Contains-nil w none) ]

    -- a job begins for it
    pub waiting-beginning : (keep : Bool) → ((k : KeyName) → new k → k ≡ r0 → keep ≡ false) → c.mark ≡ None →
        Waiting more None (begin T i r0 None (v ∷ []) keep (parked_as v (RevokeWait s.next_job) s))
    unfolding opened
    waiting-beginning keep leaves unmarked =
        let j : ℕ = s.next_job in
        let p : Side = parked_as v (RevokeWait j) s in
        let Q : Waiting pend None p = parking j in
        let here : (w : ℕ) → Contains (v ∷ []) w →
        parked p w ≡ Some (RevokeWait j) = λ w among. subst (λ z. parked p z ≡ Some (RevokeWait j)) (sym (single w among)) (parks j) in
        let keeper : keep ≡ true → Contains (v ∷ []) r0.vpe = λ _. subst (Contains (v ∷ [])) (sym own_key) (Contains-head v []) in
        let fresh_root : (d : Capability) → cap p r0 ≡ Some d → d.mark ≡ None = λ d held'. ap (λ (x : Capability). x.mark) (same_Some d c (sym held' ∙ held))
        ∙ unmarked in
        let t : Side = begun pend p r0 None (v ∷ []) keep Q here keeper fresh_root in
        let first : Waiting pend None t = waiting-begun pend p r0 None (v ∷ []) keep Q here keeper fresh_root in
        let second : Waiting more None t = one-more j t (parks j) (omega arith)
        (λ k now d held'. (
          root-begun pend p r0 None (v ∷ []) keep Q here keeper fresh_root d held',
          λ x among id. elim (begun-jobs pend p r0 None (v ∷ []) keep Q here keeper fresh_root x among) [
            | inl before ↦ let low = Q.drawn x before in absurd (omega (arith, low, id))
            | inr same ↦ subst (λ (z : JobRow). Serves z k r0 v) same (Contains-head v [], λ own root. leaves k now own)
          ],
        ))
        first in
        waiting-settled more T i j _ (in_turn-keeps (Waiting more None) (request_or_adopt T i j) (λ q u is. waiting-settling more T i j q u is)
        (children_of s.caps (region s.caps r0)) t second)

    -- or it joins the job that has marked the key: a clear of the key by another is none, since the key is one of v
    pub waiting-revoked : ((n : ℕ) → c.mark ≡ Some n → n < s.next_job) → ((n : ℕ) → parked s v ≡ Some (RevokeWait n) → ⊥) →
        Waiting more None (revoke_begun T i v r0 c.mark s)
    waiting-revoked drawn calls = from c.mark refl
      where
        joined : (j : ℕ) → c.mark ≡ Some j → Waiting more None (waiter_added j v (parked_as v (RevokeWait j) s))
        joined j marked =
            let p : Side = parked_as v (RevokeWait j) s in
            let u : Side = waiter_added j v p in
            one-more j u (parks j) (drawn j marked)
            (λ k now d held'. (
              ap (λ (x : Capability). x.mark) (same_Some d c (sym held' ∙ held)) ∙ marked,
              λ y among id. let x = was j p (parks j) (parking j) y among in (
                x.7 (x.2 ∙ id),
                λ own root. false_from_ne_true y.keep (λ keeps.
                    let waits = R.keepers x.0 x.1 (x.4 ∙ keeps) in
                    let mine : x.0.root.vpe ≡ v = ap (λ (q : KeyName). q.vpe) (x.3 ∙ root) ∙ own_key in
                    calls x.0.id (R.waiters x.0 x.1 (λ none. none) v (subst (Contains x.0.waiters) mine waits))),
              ),
            ))
            (waiting-added j p (parks j) (parking j))

        from : (m : Option ℕ) → c.mark ≡ m → Waiting more None (revoke_begun T i v r0 m s)
        from (Some j) marked = joined j marked
        from None unmarked = waiting-beginning false (λ k now own. refl) unmarked
