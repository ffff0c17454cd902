-- The rows that revoke nothing: what was held is held on, with its mark and its links, no job changes, and no message of a revoke is sent.
use Rattle.std.proofs.Common.{◌≡◌, ◌⊎◌, ℕ, ◌≤◌, ◌++◌, Bool, true, false, List, [], ◌∷◌, Option, Some, None, slice_get, refl, sym, ap, ◌∙◌, subst, inl, inr}
use Rattle.std.proofs.Common.{arith, append-nil, append_assoc}
use Rattle.std.specs.Prelude.{◌==◌, if◌then◌else◌}
use Rattle.std.specs.List.{sum_by}
use Rattle.std.specs.Option.{option_map}
use Rattle.std.proofs.lemmas.Bool.{cases_Bool, cases_eq, cond-true, cond-false, cond_both, eqb-true}
use Rattle.std.proofs.lemmas.Option.{same_Some}
use Rattle.std.proofs.lemmas.List.Sums.{sum_by_push}
use Rattle.sem_key.specs.declared.object.Object.{Object}
use Rattle.sem_key.specs.declared.object.Object.TheVariants.{Send}
use Rattle.sem_key.specs.KeyName.{KeyName, IsValidKey, key_eq}
use Rattle.sem_key.specs.KeyList.{with_key}
use Rattle.sem_key.specs.ObjectRanges.{object_kind}
use Rattle.sem_key.specs.PlaceName.{PlaceName, keyed}
use Rattle.sem_key.specs.Capability.{Capability}
use Rattle.sem_key.specs.CapList.{fresh}
use Rattle.sem_msg.specs.declared.call.Call.{Call}
use Rattle.sem_msg.specs.declared.call.Call.TheVariants.{Derive, Gate, Obtain, Delegate, OpenSession, AskOffer, Revoke, Bind, Read, Write, Send as SendCall}
use Rattle.sem_msg.specs.declared.call.Call.TheVariants.{Credit, Exit, Clear}
use Rattle.sem_msg.specs.declared.message.Message.{Message}
use Rattle.sem_msg.specs.declared.message.Message.TheVariants.{ObtainReq, ObtainOk, ObtainNo, DelegateReq, DelegatePrepared, DelegateNo, Ack, Orphan, RevokeReq}
use Rattle.sem_msg.specs.declared.message.Message.TheVariants.{RevokeDone, Unlink}
use Rattle.sem_msg.specs.declared.message.Target.{Target}
use Rattle.sem_msg.specs.declared.message.Target.TheVariants.{Sel as SelTarget, Serv as ServTarget, Offer as OfferTarget}
use Rattle.sem_msg.specs.declared.setup.Service.{Service}
use Rattle.sem_msg.specs.declared.state.Ask.{Ask}
use Rattle.sem_msg.specs.declared.state.Ask.TheVariants.{Obtain as ObtainAsk, Delegate as DelegateAsk}
use Rattle.sem_msg.specs.declared.state.Parked.{Parked}
use Rattle.sem_msg.specs.declared.state.Parked.TheVariants.{ObtainWait, ObtainReady, ObtainCancelled, DelegateWait, DelegateReady, RevokeWait, Ready}
use Rattle.sem_msg.specs.declared.state.Pending.{Pending}
use Rattle.sem_msg.specs.Rows.{VpeRow, Endpoint}
use Rattle.sem_msg.specs.Setup.{Setup}
use Rattle.sem_msg.specs.Lookups.{kernel_of, owner_of, place_owner, denies, service_named}
use Rattle.sem_msg.specs.declared.code.Code.{Code}
use Rattle.sem_msg.specs.Codes.{code_number}
use Rattle.sem_msg.specs.declared.code.Code.TheVariants.{NoCap, Refused, Dead, NoService, BadKind}
use Rattle.sem_machine.specs.Sides.{Side, row, cap, own, endpoint, parked, unparked, outbox, is_alive, drawn, promised, parked_as, asked, ask_taken, linked}
use Rattle.sem_machine.specs.Sides.{installed, cap_added, pending_removed, pending_added, send}
use Rattle.sem_machine.specs.Steps.{Step, unshown, answer}
use Rattle.sem_machine.specs.Asks.{asker, target_vpe, is_unawaited, promise_freed, call_refused, refusal_sent, ask_refused}
use Rattle.sem_key.specs.Region.{has_key}
use Rattle.sem_machine.specs.Calls.{next_key, next_place, child_made, with_held, derive_tests, narrowed, gate_tests, ask_made, obtain_tests, open_tests}
use Rattle.sem_machine.specs.Calls.{offer_tests, delegate_tests, offer_made, bind_tests, destination_tests, call_row}
use Rattle.sem_msg.specs.Uses.{memory_tests, send_tests, credit_tests}
use Rattle.sem_machine.specs.Upcalls.{source, source_tests, given, given_kind, given_here, child_given, obtain_consent, parent_tests, delegate_here}
use Rattle.sem_machine.specs.Upcalls.{delegate_prepared, delegate_consent, consented, ask_decided, upcall_row}
use Rattle.sem_machine.specs.Handles.{obtain_ready, delegation_dropped}
use Rattle.sem_machine.specs.Resumes.{delegate_granted, delegate_resumed, resumed, resume_row}
use Rattle.sem_key.proofs.KeyTests.{key_eq-same, key_eq-true, Contains-from_has_key, has_key-from_Contains}
use Rattle.sem_safety.specs.Observations.{ObservedSide}
use Rattle.sem_key.proofs.KeySets.{with_key-has, with_key-keeps, with_key-from}
use Rattle.sem_machine.proofs.Folds.{option-keeps}
use Rattle.sem_machine.proofs.FirstCodes.{unless-keeps}
use Rattle.sem_safety.proofs.Updates.{seen-cap_added, seen-cap_changed, seen-send}
use Rattle.sem_safety.proofs.Lives.{at_key, at_message}
use Rattle.sem_revoke.specs.Scales.{Scale, sum_from, of_messages}
use Rattle.sem_revoke.proofs.Scaling.{put-from}

-- the messages that are of no revoke
abbrev pub is_plain : Message → Bool
is_plain (ObtainReq place target) = true
is_plain (ObtainOk parent key object) = true
is_plain (ObtainNo place code) = true
is_plain (DelegateReq parent object vpe sel) = true
is_plain (DelegatePrepared parent key) = true
is_plain (DelegateNo parent code) = true
is_plain (Ack key accepted) = true
is_plain (Orphan parent key) = false
is_plain (RevokeReq key job) = false
is_plain (RevokeDone job) = false
is_plain (Unlink parent key) = false

-- a scale on which they weigh nothing
abbrev pub IsOfRevokes : Scale → Type 0
IsOfRevokes S = (from to : ℕ) (m : Message) → is_plain m ≡ true → S.message from to m ≡ 0

-- the calls that revoke nothing
abbrev pub IsPlainCall : Call → Type 0
IsPlainCall (Derive src dst off len rights) = Unit {0}
IsPlainCall (Gate src dst label credits) = Unit {0}
IsPlainCall (Obtain dst w src) = Unit {0}
IsPlainCall (Delegate src w dst) = Unit {0}
IsPlainCall (OpenSession dst name) = Unit {0}
IsPlainCall (AskOffer dst session index) = Unit {0}
IsPlainCall (Revoke src) = ⊥
IsPlainCall (Bind ep src) = Unit {0}
IsPlainCall (Read ep off len) = Unit {0}
IsPlainCall (Write ep off len) = Unit {0}
IsPlainCall (SendCall ep len) = Unit {0}
IsPlainCall (Credit ep) = Unit {0}
IsPlainCall Exit = ⊥
IsPlainCall (Clear src) = ⊥

-- s is the side before, i its kernel; link tells which key is granted below which
module _ (own_by : KeyName → ℕ) (i : ℕ) (s : Side) (link : KeyName → KeyName → Type 0) (valid : (p k : KeyName) → link p k →
    IsValidKey k) (new : (p k : KeyName) → link p k → cap s k ≡ None) (parent : (p k : KeyName) → link p k → (d : Capability) × (cap s p ≡ Some d)) where
  -- no link is made yet, and one is
  abbrev pub Unlinked : KeyName → KeyName → Type 0
  Unlinked p k = ◌≡◌ {A = Option (KeyName × KeyName)} None (Some (p, k))

  abbrev pub LinkedNow : KeyName → KeyName → KeyName → KeyName → Type 0
  LinkedNow p k q r = ◌≡◌ {A = Option (KeyName × KeyName)} (Some (p, k)) (Some (q, r))

  -- D tells which links are made by now
  pub record Grown (D : KeyName → KeyName → Type 0) (t : Side) : Type 0 where
    pub on : (p : KeyName) (d : Capability) → cap s p ≡ Some d → (e : Capability) × (cap t p ≡ Some e) × (e.mark ≡ d.mark)
        × ((k : KeyName) → has_key d.children k ≡ true → has_key e.children k ≡ true)
    pub back : (p : KeyName) (e : Capability) (n : ℕ) → cap t p ≡ Some e → e.mark ≡ Some n → (d : Capability) × (cap s p ≡ Some d) × (d.mark ≡ Some n)
        × ((k : KeyName) → has_key e.children k ≡ true → (has_key d.children k ≡ true) ⊎ link p k)
    pub valid_links : (p : KeyName) (e : Capability) (k : KeyName) → cap t p ≡ Some e → has_key e.children k ≡ true → IsValidKey k
    pub leads : (p k : KeyName) → D p k → ((d : Capability) × (cap s p ≡ Some d)) × ((e : Capability) × (cap t p ≡ Some e) × (has_key e.children k ≡ true))
    pub jobs : t.jobs ≡ s.jobs
    pub inbox : t.inbox ≡ s.inbox
    -- each key that is sent is granted, and goes to its owner
    pub sends : (j : ℕ) → (ms : List Message) × (outbox t j ≡ outbox s j ++ ms) × ((k : KeyName) → 1 ≤ sum_by (at_message k) ms →
        (own_by k ≡ j) × ((p : KeyName) × link p k))
    pub outs : (S : Scale) → IsOfRevokes S → sum_from (of_messages S i) 0 t.outs ≡ sum_from (of_messages S i) 0 s.outs

  -- at the start, where the links are to valid keys
  pub grown-start : ((p : KeyName) (e : Capability) (k : KeyName) → cap s p ≡ Some e → has_key e.children k ≡ true → IsValidKey k) → Grown Unlinked s
  grown-start valid' = record {
    on = λ p d held. (d, held, refl, λ k child. child);
    back = λ p e n held marked. (e, held, marked, λ k child. inl child);
    valid_links = valid';
    leads = λ p k none. absurd cc;
    jobs = refl;
    inbox = refl;
    sends = λ j. ([], sym (append-nil (outbox s j)), λ k some. absurd (omega (arith, some)));
    outs = λ S quiet. refl;
  }

  pub grown-vpes : {D : KeyName → KeyName → Type 0} {es : List (List (Option Endpoint))} {ps : List (Option Parked)} → (t : Side) (vs : List VpeRow) →
      Grown D t → Grown D (record t { vpes = vs; endpoints = es; parks = ps })
  grown-vpes t vs G = record {
    on = G.on;
    back = G.back;
    valid_links = G.valid_links;
    leads = G.leads;
    jobs = G.jobs;
    inbox = G.inbox;
    sends = G.sends;
    outs = G.outs;
  }

  pub grown-pendings : {D : KeyName → KeyName → Type 0} → (t : Side) (ps : List Pending) → Grown D t → Grown D (record t { pendings = ps })
  grown-pendings t ps G = record {
    on = G.on;
    back = G.back;
    valid_links = G.valid_links;
    leads = G.leads;
    jobs = G.jobs;
    inbox = G.inbox;
    sends = G.sends;
    outs = G.outs;
  }

  no-weight : (S : Scale) (n : ℕ) → of_messages S i n [] ≡ 0
  no-weight S n = refl

  pub grown-send : {D : KeyName → KeyName → Type 0} → (t : Side) (j : ℕ) (m : Message) → is_plain m ≡ true →
      ((k : KeyName) → 1 ≤ at_message k m → (own_by k ≡ j) × ((p : KeyName) × link p k)) → Grown D t → Grown D (send j m t)
  grown-send t j m quiet gives G = record {
    on = G.on;
    back = G.back;
    valid_links = G.valid_links;
    leads = G.leads;
    jobs = G.jobs;
    inbox = G.inbox;
    sends = λ q. more q;
    outs = λ S of.
        let sum = put-from (of_messages S i) [] (no-weight S) t.outs j (outbox t j ++ m ∷ []) in
        let push = sum_by_push (S.message i j) (outbox t j) m in
        let none = of i j m quiet in
        let before = G.outs S of in
        omega (arith, sum, push, none, before);
  }
    where
      out : (q : ℕ) → outbox (send j m t) q ≡ (if q == j then outbox t j ++ m ∷ [] else outbox t q)
      out q = ap (λ (z : ObservedSide). z.outbox q) (seen-send j m t)

      more : (q : ℕ) → (ms : List Message) × (outbox (send j m t) q ≡ outbox s q ++ ms) × ((k : KeyName) → 1 ≤ sum_by (at_message k) ms →
          (own_by k ≡ q) × ((p : KeyName) × link p k))
      more q = elim (cases_Bool (q == j)) [
        | inl same ↦
            let before = G.sends j in
            let is : q ≡ j = eqb-true q j same in (
              before.0 ++ m ∷ [],
              out q ∙ (cond-true (q == j) (outbox t j ++ m ∷ []) (outbox t q) same
                  ∙ (ap (λ xs. xs ++ m ∷ []) before.1 ∙ (append_assoc (outbox s j) before.0 (m ∷ []) ∙ ap (λ n. outbox s n ++ (before.0 ++ m ∷ [])) (sym is)))),
              λ k some.
                  let push = sum_by_push (at_message k) before.0 m in
                  elim (cases_eq (sum_by (at_message k) before.0) 0) [
                    | inl none ↦ let g = gives k (omega (arith, push, none, some)) in (g.0 ∙ sym is, g.1)
                    | inr old ↦ let g = before.2 k (omega (arith, old)) in (g.0 ∙ sym is, g.1)
                  ],
            )
        | inr other ↦ let before = G.sends q in (before.0, out q ∙ (cond-false (q == j) (outbox t j ++ m ∷ []) (outbox t q) other ∙ before.1), before.2)
      ]

  pub grown-added : {D : KeyName → KeyName → Type 0} → (t : Side) (c : Capability) → cap s c.key ≡ None → c.children ≡ [] → c.mark ≡ None → Grown D t →
      Grown D (cap_added c t)
  grown-added t c absent childless unmarked G = record {
    on = λ p d held. elim (cases_Bool (key_eq p c.key)) [
      | inl same ↦ let none : None ≡ Some d = sym absent ∙ (ap (cap s) (sym (key_eq-true p c.key same)) ∙ held) in absurd cc
      | inr differ ↦ let e = G.on p d held in (e.0, cap-u p ∙ (cond-false (key_eq p c.key) (Some c) (cap t p) differ ∙ e.1), e.2, e.3)
    ];
    back = λ p e n held marked. elim (cases_Bool (key_eq p c.key)) [
      | inl same ↦
          let is : c ≡ e = same_Some c e (sym (cap-u p ∙ cond-true (key_eq p c.key) (Some c) (cap t p) same) ∙ held) in
          let none : None ≡ Some n = sym unmarked ∙ (ap (λ (x : Capability). x.mark) is ∙ marked) in
          absurd cc
      | inr differ ↦ G.back p e n (sym (cap-u p ∙ cond-false (key_eq p c.key) (Some c) (cap t p) differ) ∙ held) marked
    ];
    valid_links = λ p e k held child. elim (cases_Bool (key_eq p c.key)) [
      | inl same ↦
          let is : c ≡ e = same_Some c e (sym (cap-u p ∙ cond-true (key_eq p c.key) (Some c) (cap t p) same) ∙ held) in
          let none : has_key [] k ≡ true = ap (λ ks. has_key ks k) (sym childless) ∙ (ap (λ (x : Capability). has_key x.children k) is ∙ child) in
          absurd cc
      | inr differ ↦ G.valid_links p e k (sym (cap-u p ∙ cond-false (key_eq p c.key) (Some c) (cap t p) differ) ∙ held) child
    ];
    leads = λ p k now. elim (cases_Bool (key_eq p c.key)) [
      | inl same ↦ let d = (G.leads p k now).0 in let none : None ≡ Some d.0 = sym absent ∙ (ap (cap s) (sym (key_eq-true p c.key same)) ∙ d.1) in absurd cc
      | inr differ ↦ let e = (G.leads p k now).1 in ((G.leads p k now).0, (e.0, cap-u p ∙ (cond-false (key_eq p c.key) (Some c) (cap t p) differ ∙ e.1), e.2))
    ];
    jobs = G.jobs;
    inbox = G.inbox;
    sends = G.sends;
    outs = G.outs;
  }
    where
      cap-u : (p : KeyName) → cap (cap_added c t) p ≡ (if key_eq p c.key then Some c else cap t p)
      cap-u p = ap (λ (z : ObservedSide). z.cap p) (seen-cap_added c t)

  pub grown-linked : (t : Side) (p k : KeyName) → link p k → Grown Unlinked t → Grown (LinkedNow p k) (linked p k t)
  grown-linked t p k is_link G = record {
    on = λ q d held. let e = G.on q d held in let u = on-u q e.0 e.1 in (u.0, u.1, u.2 ∙ e.2, λ r child. u.3 r (e.3 r child));
    back = λ q e n held marked. let d = back-u q e held in let b = G.back q d.0 n d.1 (d.2 ∙ marked) in (
      b.0,
      b.1,
      b.2,
      λ r child. elim (d.3 r child) [
        | inl before ↦ b.3 r before
        | inr (at, same) ↦ inr (subst (λ z. link z r) (sym at) (subst (link p) same is_link))
      ],
    );
    valid_links = λ q e r held child. let d = back-u q e held in
        elim (d.3 r child) [ inl before ↦ G.valid_links q d.0 r d.1 before | inr (at, same) ↦ subst IsValidKey same (valid p k is_link) ];
    leads = λ q r now.
        let pair : ◌≡◌ {A = KeyName × KeyName} (p, k) (q, r) = same_Some (p, k) (q, r) now in
        subst (λ z. ((d : Capability) × (cap s z ≡ Some d)) × ((e : Capability) × (cap (linked p k t) z ≡ Some e) × (has_key e.children r ≡ true)))
        (ap (λ (g : KeyName × KeyName). g.0) pair)
        (subst (λ z. ((d : Capability) × (cap s p ≡ Some d)) × ((e : Capability) × (cap (linked p k t) p ≡ Some e) × (has_key e.children z ≡ true)))
        (ap (λ (g : KeyName × KeyName). g.1) pair) here);
    jobs = G.jobs;
    inbox = G.inbox;
    sends = G.sends;
    outs = G.outs;
  }
    where
      f : Capability → Capability
      f c = record c { children = with_key c.children k }

      here : ((d : Capability) × (cap s p ≡ Some d)) × ((e : Capability) × (cap (linked p k t) p ≡ Some e) × (has_key e.children k ≡ true))
      here =
          let d = parent p k is_link in
          let e = G.on p d.0 d.1 in (
            d,
            (
              f e.0,
              ap (λ (z : ObservedSide). z.cap p) (seen-cap_changed p f t (λ c. refl))
                  ∙ (cond-true (key_eq p p) (option_map f (cap t p)) (cap t p) (key_eq-same p) ∙ ap (option_map f) e.1),
              has_key-from_Contains (with_key e.0.children k) k (with_key-has e.0.children k),
            ),
          )

      cap-u : (q : KeyName) → cap (linked p k t) q ≡ (if key_eq q p then option_map f (cap t q) else cap t q)
      cap-u q = ap (λ (z : ObservedSide). z.cap q) (seen-cap_changed p f t (λ c. refl))

      on-u : (q : KeyName) (d : Capability) → cap t q ≡ Some d → (e : Capability) × (cap (linked p k t) q ≡ Some e) × (e.mark ≡ d.mark)
          × ((r : KeyName) → has_key d.children r ≡ true → has_key e.children r ≡ true)
      on-u q d held = elim (cases_Bool (key_eq q p)) [
        | inl same ↦ (
          f d,
          cap-u q ∙ (cond-true (key_eq q p) (option_map f (cap t q)) (cap t q) same ∙ ap (option_map f) held),
          refl,
          λ r child. has_key-from_Contains (with_key d.children k) r (with_key-keeps d.children k r (valid p k is_link) (G.valid_links q d r held child)
              (Contains-from_has_key d.children r child)),
        )
        | inr differ ↦ (d, cap-u q ∙ (cond-false (key_eq q p) (option_map f (cap t q)) (cap t q) differ ∙ held), refl, λ r child. child)
      ]

      mapped : (o : Option Capability) (e : Capability) → option_map f o ≡ Some e → (d : Capability) × (o ≡ Some d) × (f d ≡ e)
      mapped None e none = absurd cc
      mapped (Some d) e some = (d, refl, same_Some (f d) e some)

      back-u : (q : KeyName) (e : Capability) → cap (linked p k t) q ≡ Some e → (d : Capability) × (cap t q ≡ Some d) × (d.mark ≡ e.mark)
          × ((r : KeyName) → has_key e.children r ≡ true → (has_key d.children r ≡ true) ⊎ ((q ≡ p) × (k ≡ r)))
      back-u q e held = elim (cases_Bool (key_eq q p)) [
        | inl same ↦
            let d = mapped (cap t q) e (sym (cap-u q ∙ cond-true (key_eq q p) (option_map f (cap t q)) (cap t q) same) ∙ held) in (
              d.0,
              d.1,
              ap (λ (x : Capability). x.mark) d.2,
              λ r child. elim (with_key-from d.0.children k r
                  (Contains-from_has_key (with_key d.0.children k) r (ap (λ (x : Capability). has_key x.children r) d.2 ∙ child))) [
                    | inl is_k ↦ inr (key_eq-true q p same, is_k)
                    | inr before ↦ inl (has_key-from_Contains d.0.children r before)
                  ],
            )
        | inr differ ↦ (e, sym (cap-u q ∙ cond-false (key_eq q p) (option_map f (cap t q)) (cap t q) differ) ∙ held, refl, λ r child. inl child)
      ]

  pub grown-installed : {D : KeyName → KeyName → Type 0} → (t : Side) (k : KeyName) (parent : Option KeyName) (sel : ℕ) (object : Object) → cap s k ≡ None →
      Grown D t → Grown D (installed k parent sel object t)
  grown-installed t k parent sel object absent G =
      grown-vpes (cap_added (fresh k parent sel object) t) _ (grown-added t (fresh k parent sel object) absent refl refl G)

  -- a key that is sent
  gift-of : (q k : KeyName) (j : ℕ) → own_by k ≡ j → (p : KeyName) → link p k → 1 ≤ at_key q k → (own_by q ≡ j) × ((r : KeyName) × link r q)
  gift-of q k j at p is some = elim (cases_Bool (key_eq k q)) [
    | inl same ↦ subst (λ z. (own_by z ≡ j) × ((r : KeyName) × link r z)) (key_eq-true k q same) (at, (p, is))
    | inr differ ↦ let none : at_key q k ≡ 0 = cond-false (key_eq k q) 1 0 differ in absurd (omega (arith, none, some))
  ]

  -- Steps.

  -- what the step grants is so
  abbrev pub Grants : Step → Type 0
  Grants x = (p k : KeyName) → x.outcome.grant ≡ Some (p, k) → link p k

  abbrev pub Grows : Step → Type 0
  Grows x = Grants x → Grown (λ p k. ◌≡◌ {A = Option (KeyName × KeyName)} x.outcome.grant (Some (p, k))) x.side

  refused-grown : (T : Setup) (code : Code) (a : Ask) (t : Side) → Grown Unlinked t → Grown Unlinked (ask_refused T i code a t)
  refused-grown T code a t G = cond_both (kernel_of T (asker a) == i) (call_refused (code_number code) (asker a) t) (refusal_sent T code a t) (Grown Unlinked)
      (λ _. grown-vpes (promise_freed (parked t (asker a)) (asker a) t) _ (promise (parked t (asker a)) (asker a))) (λ _. refusal a)
    where
      promise : (p : Option Parked) (v : ℕ) → Grown Unlinked (promise_freed p v t)
      promise None v = G
      promise (Some (ObtainWait number sel)) v = grown-vpes t _ G
      promise (Some (ObtainReady key parent object sel)) v = G
      promise (Some ObtainCancelled) v = G
      promise (Some (DelegateWait parent)) v = G
      promise (Some (DelegateReady parent key)) v = G
      promise (Some (RevokeWait j)) v = G
      promise (Some (Ready code')) v = G

      refusal : (a : Ask) → Grown Unlinked (refusal_sent T code a t)
      refusal (ObtainAsk place target) = grown-send t (place_owner T place) (ObtainNo place (code_number code)) refl (λ k some. absurd (omega (arith, some))) G
      refusal (DelegateAsk parent object sel) = grown-send t (owner_of T parent) (DelegateNo parent (code_number code)) refl
          (λ k some. absurd (omega (arith, some))) G

  -- Calls.

  child-grown : (T : Setup) (v dst : ℕ) (object : Object) (parent : KeyName) (t : Side) → Grown Unlinked t → Grows (child_made T v dst object parent t)
  child-grown T v dst object parent t G = λ grants.
      let k : KeyName = next_key T t v (object_kind object) in
      let is_link = grants parent k refl in
      grown-installed (linked parent k (drawn v t)) k (Some parent) dst object (new parent k is_link)
      (grown-linked (drawn v t) parent k is_link (grown-vpes t _ G))

  held-grown : (o : Option Capability) (f : Capability → Step) (t : Side) → Grown Unlinked t → ((c : Capability) → Grows (f c)) → Grows (with_held o f t)
  held-grown o f t G each = option-keeps Grows f o (answer NoCap t) (λ c some. each c) (λ _. G)

  ask-grown : (T : Setup) (v dst : ℕ) (target : Target) (t : Side) → Grown Unlinked t → Grows (ask_made T i v dst target t)
  ask-grown T v dst target t G = λ _.
      let place : PlaceName = next_place T t v in
      let w : ℕ = target_vpe target in
      let waiting : Side = parked_as v (ObtainWait place.number dst) (promised v dst (drawn v t)) in
      let W : Grown Unlinked waiting = grown-vpes (promised v dst (drawn v t)) _ (grown-vpes (drawn v t) _ (grown-vpes t _ G)) in
      cond_both (kernel_of T w == i) (asked w (ObtainAsk place target) waiting) (send (kernel_of T w) (ObtainReq place target) waiting) (Grown Unlinked)
      (λ _. grown-vpes waiting _ W) (λ _. grown-send waiting (kernel_of T w) (ObtainReq place target) refl (λ k some. absurd (omega (arith, some))) W)

  offer-grown : (T : Setup) (v w dst : ℕ) (p : Capability) (t : Side) → Grown Unlinked t → Grows (offer_made T i v w dst p t)
  offer-grown T v w dst p t G = λ _.
      let waiting : Side = parked_as v (DelegateWait p.key) t in
      let W : Grown Unlinked waiting = grown-vpes t _ G in
      cond_both (kernel_of T w == i) (asked w (DelegateAsk p.key p.object dst) waiting) (send (kernel_of T w) (DelegateReq p.key p.object w dst) waiting)
      (Grown Unlinked) (λ _. grown-vpes waiting _ W) (λ _. grown-send waiting (kernel_of T w) (DelegateReq p.key p.object w dst) refl
      (λ k some. absurd (omega (arith, some))) W)

  pub call-grown : (T : Setup) (t : Side) (v : ℕ) (c : Call) → IsPlainCall c → Grown Unlinked t → Grows (call_row T i t v c)
  unfolding call_row
  call-grown T t v (Derive src dst off len rights) quiet G = unless-keeps Grows (derive_tests t v src dst off len rights) _ _ (λ code _. G)
      (held-grown (own t v src) _ t G (λ p. child-grown T v dst (narrowed off len rights p.object) p.key t G))
  call-grown T t v (Gate src dst label credits) quiet G =
      unless-keeps Grows (gate_tests t v src dst credits) _ _ (λ code _. G)
      (held-grown (own t v src) _ t G (λ p. child-grown T v dst (Send p.key label credits) p.key t G))
  call-grown T t v (Obtain dst w src) quiet G = unless-keeps Grows (obtain_tests T i t v dst w) _ _ (λ code _. G) (ask-grown T v dst (SelTarget w src) t G)
  call-grown T t v (Delegate src w dst) quiet G =
      unless-keeps Grows (delegate_tests T i t v src w) _ _ (λ code _. G) (held-grown (own t v src) _ t G (λ p. offer-grown T v w dst p t G))
  call-grown T t v (OpenSession dst name) quiet G =
      unless-keeps Grows (open_tests T i t v dst name) _ _ (λ code _. G) (option-keeps Grows (λ (x : Service). ask_made T i v dst (ServTarget x.key) t)
      (service_named T name) (answer NoService t) (λ x there. ask-grown T v dst (ServTarget x.key) t G) (λ _. G))
  call-grown T t v (AskOffer dst session index) quiet G =
      unless-keeps Grows (offer_tests T i t v dst session) _ _ (λ code _. G) (option-keeps Grows (λ (k : KeyName). ask_made T i v dst (OfferTarget k index) t) _
      (answer BadKind t) (λ k there. ask-grown T v dst (OfferTarget k index) t G) (λ _. G))
  call-grown T t v (Revoke src) quiet G = absurd quiet
  call-grown T t v (Bind ep src) quiet G = unless-keeps Grows (bind_tests t v src) _ _ (λ code _. G) (held-grown (own t v src) _ t G (λ c _. grown-vpes t _ G))
  call-grown T t v (Read ep off len) quiet G = unless-keeps Grows (memory_tests 1 off len (endpoint t v ep)) _ _ (λ code _. G) (λ _. G)
  call-grown T t v (Write ep off len) quiet G = unless-keeps Grows (memory_tests 2 off len (endpoint t v ep)) _ _ (λ code _. G) (λ _. G)
  call-grown T t v (SendCall ep len) quiet G = unless-keeps Grows (send_tests (endpoint t v ep)) _ _ (λ code _. G) (λ _. grown-vpes t _ G)
  call-grown T t v (Credit ep) quiet G = unless-keeps Grows (credit_tests (endpoint t v ep)) _ _ (λ code _. G) (λ _. grown-vpes t _ G)
  call-grown T t v Exit quiet G = absurd quiet
  call-grown T t v (Clear src) quiet G = absurd quiet

  -- Upcalls.

  given-grown : {D : KeyName → KeyName → Type 0} → (k p : KeyName) (object : Object) (state : Option Parked) (t : Side) → cap s k ≡ None → Grown D t →
      Grown D (given_here k p object state t)
  given-grown k p object (Some (ObtainWait number sel)) t absent G =
      grown-vpes (installed k (Some p) sel object t) _ (grown-installed t k (Some p) sel object absent G)
  given-grown k p object None t absent G = G
  given-grown k p object (Some (ObtainReady key parent object' sel)) t absent G = G
  given-grown k p object (Some ObtainCancelled) t absent G = G
  given-grown k p object (Some (DelegateWait parent)) t absent G = G
  given-grown k p object (Some (DelegateReady parent key)) t absent G = G
  given-grown k p object (Some (RevokeWait j)) t absent G = G
  given-grown k p object (Some (Ready code)) t absent G = G

  child_given-grown : (T : Setup) (own : (k : KeyName) → own_by k ≡ owner_of T k) (place : PlaceName) (target : Target) (t : Side) (p : Capability) →
      Grown Unlinked t → Grows (child_given T i place target t p)
  child_given-grown T own place target t p G = λ grants.
      let k : KeyName = keyed place (given_kind target p) in
      let object : Object = given target place.vpe p in
      let linking : Side = linked p.key k t in
      let is_link = grants p.key k refl in
      let L : Grown (LinkedNow p.key k) linking = grown-linked t p.key k is_link G in
      cond_both (kernel_of T place.vpe == i) (given_here k p.key object (parked linking place.vpe) linking)
      (send (place_owner T place) (ObtainOk p.key k object) linking) (Grown (LinkedNow p.key k))
      (λ _. given-grown k p.key object (parked linking place.vpe) linking (new p.key k is_link) L)
      (λ _. grown-send linking (place_owner T place) (ObtainOk p.key k object) refl (λ q some. gift-of q k (place_owner T place) (own k) p.key is_link some)
      L)

  obtain-grown : (T : Setup) (own : (k : KeyName) → own_by k ≡ owner_of T k) (v : ℕ) (place : PlaceName) (target : Target) (t : Side) → Grown Unlinked t →
      Grows (obtain_consent T i v place target t)
  obtain-grown T own v place target t G =
      unless-keeps Grows (source_tests target (source T t v target)) _ _ (λ code _. refused-grown T code (ObtainAsk place target) t G)
      (option-keeps Grows (child_given T i place target t) (source T t v target) (unshown t) (λ p held. child_given-grown T own place target t p G) (λ _. G))

  here-grown : (T : Setup) (v : ℕ) (parent : KeyName) (object : Object) (sel : ℕ) (t : Side) → Grown Unlinked t → Grows (delegate_here T v parent object sel t)
  here-grown T v parent object sel t G = λ grants.
      let k : KeyName = next_key T t v parent.kind in
      let is_link = grants parent k refl in
      let linking : Side = linked parent k (drawn v t) in
      grown-vpes (installed k (Some parent) sel object linking) _ (grown-installed linking k (Some parent) sel object (new parent k is_link)
      (grown-linked (drawn v t) parent k is_link (grown-vpes t _ G)))

  prepared-grown : (T : Setup) (v : ℕ) (parent : KeyName) (object : Object) (sel : ℕ) (t : Side) → Grown Unlinked t →
      Grows (delegate_prepared T v parent object sel t)
  prepared-grown T v parent object sel t G = λ _.
      let k : KeyName = next_key T t v parent.kind in
      let p : Pending = record { key = k; parent = parent; object = object; sel = sel } in
      let promising : Side = promised v sel (drawn v t) in
      grown-send (pending_added p promising) (owner_of T parent) (DelegatePrepared parent k) refl (λ k some. absurd (omega (arith, some)))
      (grown-pendings promising _ (grown-vpes (drawn v t) _ (grown-vpes t _ G)))

  delegate-grown : (T : Setup) (v : ℕ) (parent : KeyName) (object : Object) (sel : ℕ) (t : Side) → Grown Unlinked t →
      Grows (delegate_consent T i v parent object sel t)
  delegate-grown T v parent object sel t G =
      cond_both (kernel_of T parent.vpe == i) _ _ Grows
      (λ _. unless-keeps Grows (parent_tests (cap t parent) ++ destination_tests t v sel) _ _
      (λ code _. refused-grown T code (DelegateAsk parent object sel) t G) (here-grown T v parent object sel t G))
      (λ _. unless-keeps Grows (destination_tests t v sel) _ _ (λ code _. refused-grown T code (DelegateAsk parent object sel) t G)
      (prepared-grown T v parent object sel t G))

  consented-grown : (T : Setup) (own : (k : KeyName) → own_by k ≡ owner_of T k) (v : ℕ) (a : Ask) (t : Side) → Grown Unlinked t → Grows (consented T i v a t)
  consented-grown T own v (ObtainAsk place target) t G = obtain-grown T own v place target t G
  consented-grown T own v (DelegateAsk parent object sel) t G = delegate-grown T v parent object sel t G

  pub upcall-grown : (T : Setup) (own : (k : KeyName) → own_by k ≡ owner_of T k) (t : Side) (v : ℕ) → Grown Unlinked t → Grows (upcall_row T i t v)
  unfolding upcall_row
  upcall-grown T own t v G = option-keeps Grows (λ (a : Ask). ask_decided T i v a (ask_taken v t)) (slice_get (row t v).asks 0) (unshown t)
      (λ a there. decided a (ask_taken v t) (grown-vpes t _ G)) (λ _. G)
    where
      decided : (a : Ask) (u : Side) → Grown Unlinked u → Grows (ask_decided T i v a u)
      decided a u G' =
          cond_both (is_unawaited T i u a) _ _ Grows (λ _ _. G')
          (λ _. cond_both (denies T v (asker a)) _ _ Grows (λ _ _. refused-grown T Refused a u G') (λ _. consented-grown T own v a u G'))

  -- Messages.

  ready-grown : (parent key : KeyName) (object : Object) (state : Option Parked) (t : Side) → Grown Unlinked t →
      Grown Unlinked (obtain_ready parent key object state t)
  ready-grown parent key object (Some (ObtainWait number sel)) t G = grown-vpes t _ G
  ready-grown parent key object None t G = G
  ready-grown parent key object (Some (ObtainReady key' parent' object' sel)) t G = G
  ready-grown parent key object (Some ObtainCancelled) t G = G
  ready-grown parent key object (Some (DelegateWait parent')) t G = G
  ready-grown parent key object (Some (DelegateReady parent' key')) t G = G
  ready-grown parent key object (Some (RevokeWait j)) t G = G
  ready-grown parent key object (Some (Ready code)) t G = G

  refusing-grown : (code v : ℕ) (t : Side) → Grown Unlinked t → Grown Unlinked (call_refused code v t)
  refusing-grown code v t G = grown-vpes (promise_freed (parked t v) v t) _ (promise (parked t v))
    where
      promise : (p : Option Parked) → Grown Unlinked (promise_freed p v t)
      promise None = G
      promise (Some (ObtainWait number sel)) = grown-vpes t _ G
      promise (Some (ObtainReady key parent object sel)) = G
      promise (Some ObtainCancelled) = G
      promise (Some (DelegateWait parent)) = G
      promise (Some (DelegateReady parent key)) = G
      promise (Some (RevokeWait j)) = G
      promise (Some (Ready code')) = G

  pub obtain_asked-grown : (T : Setup) (place : PlaceName) (target : Target) (t : Side) → Grown Unlinked t →
      Grown Unlinked (if is_alive t (target_vpe target) then asked (target_vpe target) (ObtainAsk place target) t
      else ask_refused T i Dead (ObtainAsk place target) t)
  obtain_asked-grown T place target t G = cond_both (is_alive t (target_vpe target)) (asked (target_vpe target) (ObtainAsk place target) t)
      (ask_refused T i Dead (ObtainAsk place target) t) (Grown Unlinked) (λ _. grown-vpes t _ G) (λ _. refused-grown T Dead (ObtainAsk place target) t G)

  pub delegate_asked-grown : (T : Setup) (parent : KeyName) (object : Object) (vpe sel : ℕ) (t : Side) → Grown Unlinked t →
      Grown Unlinked (if is_alive t vpe then asked vpe (DelegateAsk parent object sel) t else ask_refused T i Dead (DelegateAsk parent object sel) t)
  delegate_asked-grown T parent object vpe sel t G = cond_both (is_alive t vpe) (asked vpe (DelegateAsk parent object sel) t)
      (ask_refused T i Dead (DelegateAsk parent object sel) t) (Grown Unlinked) (λ _. grown-vpes t _ G)
      (λ _. refused-grown T Dead (DelegateAsk parent object sel) t G)

  pub obtain_ok-grown : (parent key : KeyName) (object : Object) (t : Side) → Grown Unlinked t →
      Grown Unlinked (obtain_ready parent key object (parked t key.vpe) t)
  obtain_ok-grown parent key object t G = ready-grown parent key object (parked t key.vpe) t G

  pub no-grown : (code v : ℕ) (t : Side) → Grown Unlinked t → Grown Unlinked (if is_alive t v then call_refused code v t else t)
  no-grown code v t G = cond_both (is_alive t v) (call_refused code v t) t (Grown Unlinked) (λ _. refusing-grown code v t G) (λ _. G)

  pub delegate_ready-grown : (T : Setup) (parent key : KeyName) (t : Side) → Grown Unlinked t →
      Grown Unlinked (if is_alive t parent.vpe then parked_as parent.vpe (DelegateReady parent key) t else send (owner_of T key) (Ack key false) t)
  delegate_ready-grown T parent key t G = cond_both (is_alive t parent.vpe) (parked_as parent.vpe (DelegateReady parent key) t)
      (send (owner_of T key) (Ack key false) t) (Grown Unlinked) (λ _. grown-vpes t _ G)
      (λ _. grown-send t (owner_of T key) (Ack key false) refl (λ k some. absurd (omega (arith, some))) G)

  pub held-installed : (key : KeyName) (t : Side) (p : Pending) → cap s key ≡ None → Grown Unlinked t →
      Grown Unlinked (installed key (Some p.parent) p.sel p.object (pending_removed key t))
  held-installed key t p absent G = grown-installed (pending_removed key t) key (Some p.parent) p.sel p.object absent (grown-pendings t _ G)

  pub dropped-grown : (key : KeyName) (t : Side) (p : Pending) → Grown Unlinked t → Grown Unlinked (delegation_dropped key t p)
  dropped-grown key t p G = grown-vpes (pending_removed key t) _ (grown-pendings t _ G)

  -- Parked calls.

  granted-grown : (T : Setup) (own : (k : KeyName) → own_by k ≡ owner_of T k) (parent key : KeyName) (mark : Option ℕ) (t : Side) → Grown Unlinked t →
      Grows (delegate_granted T parent key mark t)
  granted-grown T own parent key None t G = λ grants. grown-send (linked parent key t) (owner_of T key) (Ack key true) refl
      (λ q some. gift-of q key (owner_of T key) (own key) parent (grants parent key refl) some) (grown-linked t parent key (grants parent key refl) G)
  granted-grown T own parent key (Some j) t G = λ _. grown-send t (owner_of T key) (Ack key false) refl (λ k some. absurd (omega (arith, some))) G

  delegated-grown : (T : Setup) (own : (k : KeyName) → own_by k ≡ owner_of T k) (parent key : KeyName) (o : Option Capability) (t : Side) → Grown Unlinked t →
      Grows (delegate_resumed T parent key o t)
  delegated-grown T own parent key None t G = λ _. grown-send t (owner_of T key) (Ack key false) refl (λ k some. absurd (omega (arith, some))) G
  delegated-grown T own parent key (Some c) t G = granted-grown T own parent key c.mark t G

  -- the key of an install is not held yet
  abbrev pub Installs : Option Parked → Type 0
  Installs None = Unit {0}
  Installs (Some (ObtainWait number sel)) = Unit {0}
  Installs (Some (ObtainReady key parent object sel)) = cap s key ≡ None
  Installs (Some ObtainCancelled) = Unit {0}
  Installs (Some (DelegateWait parent)) = Unit {0}
  Installs (Some (DelegateReady parent key)) = Unit {0}
  Installs (Some (RevokeWait j)) = Unit {0}
  Installs (Some (Ready code)) = Unit {0}

  resumed-grown : (T : Setup) (own : (k : KeyName) → own_by k ≡ owner_of T k) (p : Option Parked) (t : Side) → Installs p → Grown Unlinked t →
      Grows (resumed T p t)
  resumed-grown T own None t absent G = λ _. G
  resumed-grown T own (Some (ObtainWait number sel)) t absent G = λ _. G
  resumed-grown T own (Some (ObtainReady key parent object sel)) t absent G = λ _. grown-installed t key (Some parent) sel object absent G
  resumed-grown T own (Some ObtainCancelled) t absent G = λ _. G
  resumed-grown T own (Some (DelegateWait parent)) t absent G = λ _. G
  resumed-grown T own (Some (DelegateReady parent key)) t absent G = delegated-grown T own parent key (cap t parent) t G
  resumed-grown T own (Some (RevokeWait j)) t absent G = λ _. G
  resumed-grown T own (Some (Ready code)) t absent G = λ _. G

  pub resume-grown : (T : Setup) (own : (k : KeyName) → own_by k ≡ owner_of T k) (t : Side) (v : ℕ) → Installs (parked t v) → Grown Unlinked t →
      Grows (resume_row T t v)
  unfolding resume_row
  resume-grown T own t v absent G = resumed-grown T own (parked t v) (unparked v t) absent (grown-vpes t _ G)
