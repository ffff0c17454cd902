-- Who changes the parked call of a VPE: the VPE itself, an ask or a message of it, or a job for which it waits. Where nothing of these is about, the call stays
-- as it is; and a pending delegation stays until it is acknowledged.
use Rattle.sem_msg.specs.ParkedStates.{is_ready_with}
use Rattle.std.proofs.Common.{◌≡◌, ◌⊎◌, ℕ, ◌+◌, true, false, not, ◌&&◌, List, [], ◌∷◌, ◌++◌, drop, filter, find, length, get_or, nat_lt}
use Rattle.std.proofs.Common.{Option, Some, None, refl, sym, ap, ◌∙◌, subst, inl, inr}
use Rattle.std.specs.Prelude.{◌==◌, if◌then◌else◌}
use Rattle.std.specs.List.{Contains}
use Rattle.std.proofs.lemmas.Bool.{cases_Bool, cases_eq, cond_both, cond-true, cond-false, false_from_ne_true}
use Rattle.std.proofs.lemmas.List.Elements.{Contains-append_cases}
use Rattle.sem_key.specs.declared.object.Object.{Object}
use Rattle.sem_key.specs.KeyName.{KeyName, key_eq}
use Rattle.sem_key.specs.Lists.{in_turn, put}
use Rattle.sem_key.specs.Capability.{Capability}
use Rattle.sem_key.specs.CapList.{fresh}
use Rattle.sem_key.proofs.KeyTests.{key_eq-true}
use Rattle.sem_key.proofs.Members.{Contains-nil, Contains-cons_cases, Contains-from_filter, Contains-from_map, Contains-tail}
use Rattle.sem_key.proofs.Puts.{get_or-put_same, get_or-put_other}
use Rattle.sem_msg.specs.declared.code.Code.{Code}
use Rattle.sem_msg.specs.declared.code.Code.TheVariants.{Ok as OkCode, Dead}
use Rattle.sem_msg.specs.Codes.{code_number}
use Rattle.sem_msg.specs.declared.limits.TheConstants.{ASKS}
use Rattle.sem_msg.specs.declared.message.Message.{Message}
use Rattle.sem_msg.specs.declared.message.Message.TheVariants.{ObtainNo, DelegateNo, Ack, Orphan}
use Rattle.sem_msg.specs.declared.state.Ask.{Ask}
use Rattle.sem_msg.specs.declared.state.Ask.TheVariants.{Obtain as ObtainAsk, Delegate as DelegateAsk}
use Rattle.sem_msg.specs.declared.state.Parked.{Parked}
use Rattle.sem_msg.specs.declared.state.Parked.TheVariants.{ObtainWait, ObtainReady, ObtainCancelled, DelegateWait, DelegateReady, RevokeWait, Ready}
use Rattle.sem_msg.specs.declared.state.Pending.{Pending}
use Rattle.sem_msg.specs.declared.state.Slot.{Slot}
use Rattle.sem_msg.specs.declared.state.Slot.TheVariants.{Free, Held}
use Rattle.sem_msg.specs.Rows.{JobRow, VpeRow, no_vpe}
use Rattle.sem_msg.specs.JobRows.{without_number}
use Rattle.sem_msg.specs.Setup.{Setup}
use Rattle.sem_msg.specs.Lookups.{owner_of, place_owner, kernel_of}
use Rattle.sem_machine.specs.Sides.{Side, row, cap, parked, pending, with_slot, ready, parked_as, unparked, asked, ask_taken, buried, drawn, installed}
use Rattle.sem_machine.specs.Sides.{pending_added, pending_removed, send, cap_added}
use Rattle.sem_machine.specs.Asks.{asker, is_unawaited, promise_freed, call_refused, refusal_sent, ask_refused}
use Rattle.sem_machine.specs.Revokes.{begin, waiter_left}
use Rattle.sem_machine.specs.Revokes.{revoke_begun, clear_begun, revoke_requested, revoke_done}
use Rattle.sem_machine.specs.Ends.{ask_ended, call_ended, revoked_if_left, keys_of_vpe, ended}
use Rattle.sem_machine.proofs.Folds.{in_turn-keeps, in_turn-keeps_each, option-keeps}
use Rattle.sem_safety.proofs.AskWeights.{waits}
use Rattle.sem_revoke.proofs.Rowing.{revoked_if_there}
use Rattle.sem_revoke.proofs.Waits.{parked-here, parked-other}
use Rattle.sem_revoke.proofs.KnownWaiters.{KnowsWaiters, begin-known, one-waiter, revoked-known, requested-known, done-known}

module _ (v : ℕ) (k0 : KeyName) (Touched : Type 0) (q : Option Parked) (d : Option Pending) where
  abbrev pub IsLoud : Option Parked → Type 0
  IsLoud p = (waits p ≡ false) × Touched

  -- the call is in the state q, or something touched it; and what may touch it
  pub record Quiet (t : Side) : Type 0 where
    pub park : (parked t v ≡ q) ⊎ IsLoud (parked t v)
    pub life : ((row t v).alive ≡ true) ⊎ Touched
    pub waiters : (x : JobRow) → Contains t.jobs x → Contains x.waiters v → Touched
    pub asks : (u : ℕ) (a : Ask) → Contains (row t u).asks a → asker a ≡ v → Touched
    pub pend : (p : Pending) → d ≡ Some p → pending t k0 ≡ Some p

  -- Small changes.

  pub quiet-send : (j : ℕ) (m : Message) (t : Side) → Quiet t → Quiet (send j m t)
  quiet-send j m t Q = record { park = Q.park; life = Q.life; waiters = Q.waiters; asks = Q.asks; pend = Q.pend }

  pub quiet-caps : (cs : List Capability) (t : Side) → Quiet t → Quiet (record t { caps = cs })
  quiet-caps cs t Q = record { park = Q.park; life = Q.life; waiters = Q.waiters; asks = Q.asks; pend = Q.pend }

  pub quiet-park : (t : Side) → Quiet t → (w : ℕ) (p : Option Parked) → (w ≡ v → IsLoud p) → Quiet (record t { parks = put None t.parks w p })
  quiet-park t Q w p loud = record {
    park = elim (cases_eq v w) [
      | inl same ↦ inr (subst IsLoud (sym (ap (parked (record t { parks = put None t.parks w p })) same ∙ parked-here t w p)) (loud (sym same)))
      | inr other ↦ subst (λ (x : Option Parked). (x ≡ q) ⊎ IsLoud x) (sym (parked-other t w p v other)) Q.park
    ];
    life = Q.life;
    waiters = Q.waiters;
    asks = Q.asks;
    pend = Q.pend;
  }

  pub quiet-row : (t : Side) → Quiet t → (w : ℕ) (r : VpeRow) → (r.alive ≡ (row t w).alive) ⊎ (w ≡ v → Touched) →
      ((a : Ask) → Contains r.asks a → Contains (row t w).asks a ⊎ (asker a ≡ v → Touched)) → Quiet (record t { vpes = put no_vpe t.vpes w r })
  quiet-row t Q w r lives old = record {
    park = Q.park;
    life = elim (cases_eq v w) [
      | inl same ↦
          let at : get_or (put no_vpe t.vpes w r) v no_vpe ≡ r = ap (λ n. get_or (put no_vpe t.vpes w r) n no_vpe) same ∙ get_or-put_same no_vpe t.vpes w r in
          elim lives [
            | inl alive ↦ elim Q.life [
              | inl before ↦ inl (ap (λ (x : VpeRow). x.alive) at ∙ (alive ∙ (ap (λ n. (row t n).alive) (sym same) ∙ before)))
              | inr touched ↦ inr touched
            ]
            | inr touched ↦ inr (touched (sym same))
          ]
      | inr other ↦ elim Q.life [
        | inl before ↦ inl (ap (λ (x : VpeRow). x.alive) (get_or-put_other no_vpe t.vpes w v r other) ∙ before)
        | inr touched ↦ inr touched
      ]
    ];
    waiters = Q.waiters;
    asks = λ u a among who. elim (cases_eq u w) [
      | inl same ↦
          let at : get_or (put no_vpe t.vpes w r) u no_vpe ≡ r = ap (λ n. get_or (put no_vpe t.vpes w r) n no_vpe) same ∙ get_or-put_same no_vpe t.vpes w r in
          elim (old a (subst (λ (x : VpeRow). Contains x.asks a) at among)) [ inl before ↦ Q.asks w a before who | inr touched ↦ touched who ]
      | inr other ↦ Q.asks u a (subst (λ (x : VpeRow). Contains x.asks a) (get_or-put_other no_vpe t.vpes w u r other) among) who
    ];
    pend = Q.pend;
  }

  pub quiet-slot : (t : Side) → Quiet t → (w sel : ℕ) (state : Slot) → Quiet (with_slot w sel state t)
  quiet-slot t Q w sel state = quiet-row t Q w (record (row t w) { slots = put Free (row t w).slots sel state }) (inl refl) (λ a among. inl among)

  pub quiet-drawn : (t : Side) → Quiet t → (w : ℕ) → Quiet (drawn w t)
  quiet-drawn t Q w = quiet-row t Q w (record (row t w) { next_number = (row t w).next_number + 1 }) (inl refl) (λ a among. inl among)

  pub quiet-asked : (t : Side) → Quiet t → (w : ℕ) (a : Ask) → (asker a ≡ v → Touched) → Quiet (asked w a t)
  quiet-asked t Q w a touched = quiet-row t Q w (record (row t w) {
    asks = if nat_lt (length (row t w).asks) ASKS then (row t w).asks ++ a ∷ []
        else (row t w).asks;
  }) (inl refl)
      (λ b. cond_both (nat_lt (length (row t w).asks) ASKS) ((row t w).asks ++ a ∷ []) (row t w).asks (λ xs. Contains xs b →
      Contains (row t w).asks b ⊎ (asker b ≡ v → Touched))
      (λ _ among. elim (Contains-append_cases (row t w).asks (a ∷ []) b among) [
        | inl before ↦ inl before
        | inr now ↦ elim (Contains-cons_cases a [] b now) [
          | inl same ↦ inr (subst (λ x. asker x ≡ v → Touched) same touched)
          | inr none ↦ absurd (Contains-nil b none)
        ]
      ])
      (λ _ among. inl among))

  pub quiet-taken : (t : Side) → Quiet t → (w : ℕ) → Quiet (ask_taken w t)
  quiet-taken t Q w = quiet-row t Q w (record (row t w) { asks = drop 1 (row t w).asks }) (inl refl) (λ a among. inl (behind (row t w).asks a among))
    where
      behind : (xs : List Ask) (a : Ask) → Contains (drop 1 xs) a → Contains xs a
      behind [] a among = among
      behind (x ∷ xs) a among = Contains-tail x xs a among

  pub quiet-installed : (t : Side) → Quiet t → (k : KeyName) (parent : Option KeyName) (sel : ℕ) (object : Object) → Quiet (installed k parent sel object t)
  quiet-installed t Q k parent sel object = quiet-slot (cap_added (fresh k parent sel object) t) (quiet-caps (cap_added (fresh k parent sel object) t).caps t Q)
      k.vpe sel (Held k)

  pub quiet-added : (t : Side) → Quiet t → (p : Pending) → Quiet (pending_added p t)
  quiet-added t Q p = record { park = Q.park; life = Q.life; waiters = Q.waiters; asks = Q.asks; pend = λ x is. kept t.pendings (Q.pend x is) }
    where
      kept : {x : Pending} → (xs : List Pending) → find (λ (y : Pending). key_eq y.key k0) xs ≡ Some x →
          find (λ (y : Pending). key_eq y.key k0) (xs ++ p ∷ []) ≡ Some x
      kept [] none = absurd cc
      kept (y ∷ ys) some = elim (cases_Bool (key_eq y.key k0)) [
        | inl same ↦ cond-true (key_eq y.key k0) (Some y) (find (λ (y : Pending). key_eq y.key k0) (ys ++ p ∷ [])) same
            ∙ (sym (cond-true (key_eq y.key k0) (Some y) (find (λ (y : Pending). key_eq y.key k0) ys) same) ∙ some)
        | inr differ ↦ cond-false (key_eq y.key k0) (Some y) (find (λ (y : Pending). key_eq y.key k0) (ys ++ p ∷ [])) differ
            ∙ kept ys (sym (cond-false (key_eq y.key k0) (Some y) (find (λ (y : Pending). key_eq y.key k0) ys) differ) ∙ some)
      ]

  pub quiet-removed : (t : Side) → Quiet t → (k : KeyName) → (k ≡ k0 → (x : Pending) → d ≡ Some x → ⊥) → Quiet (pending_removed k t)
  quiet-removed t Q k other = record {
    park = Q.park;
    life = Q.life;
    waiters = Q.waiters;
    asks = Q.asks;
    pend = λ x is. kept (λ same. other same x is) t.pendings (Q.pend x is);
  }
    where
      kept : {x : Pending} → (k ≡ k0 → ⊥) → (xs : List Pending) → find (λ (y : Pending). key_eq y.key k0) xs ≡ Some x →
          find (λ (y : Pending). key_eq y.key k0) (filter (λ (y : Pending). not (key_eq y.key k)) xs) ≡ Some x
      kept apart [] none = absurd cc
      kept {x} apart (y ∷ ys) some = elim (cases_Bool (key_eq y.key k0)) [
        | inl same ↦
            let differs : key_eq y.key k ≡ false = false_from_ne_true (key_eq y.key k) (λ is. apart (sym (key_eq-true y.key k is)
            ∙ key_eq-true y.key k0 same)) in
            subst (λ zs. find (λ (y : Pending). key_eq y.key k0) zs ≡ Some x)
            (sym (cond-true (not (key_eq y.key k)) (y ∷ filter (λ (y : Pending). not (key_eq y.key k)) ys)
            (filter (λ (y : Pending). not (key_eq y.key k)) ys) (ap not differs)))
            (cond-true (key_eq y.key k0) (Some y) (find (λ (y : Pending). key_eq y.key k0) (filter (λ (y : Pending). not (key_eq y.key k)) ys)) same
            ∙ (sym (cond-true (key_eq y.key k0) (Some y) (find (λ (y : Pending). key_eq y.key k0) ys) same) ∙ some))
        | inr differ ↦
            let rest = kept apart ys (sym (cond-false (key_eq y.key k0) (Some y) (find (λ (y : Pending). key_eq y.key k0) ys) differ) ∙ some) in
            cond_both (not (key_eq y.key k)) (y ∷ filter (λ (y : Pending). not (key_eq y.key k)) ys) (filter (λ (y : Pending). not (key_eq y.key k)) ys)
            (λ zs. find (λ (y : Pending). key_eq y.key k0) zs ≡ Some x)
            (λ _. cond-false (key_eq y.key k0) (Some y) (find (λ (y : Pending). key_eq y.key k0) (filter (λ (y : Pending). not (key_eq y.key k)) ys)) differ
            ∙ rest)
            (λ _. rest)
      ]

  pub quiet-jobs : (t : Side) → Quiet t → (xs : List JobRow) → ((y : JobRow) → Contains xs y → Contains y.waiters v → Touched) → Quiet (record t { jobs = xs })
  quiet-jobs t Q xs touched = record { park = Q.park; life = Q.life; waiters = touched; asks = Q.asks; pend = Q.pend }

  pub quiet-ready : (t : Side) → Quiet t → (number w : ℕ) → (w ≡ v → Touched) → Quiet (ready number w t)
  quiet-ready t Q number w touched = quiet-park t Q w (Some (Ready number)) (λ same. (refl, touched same))

  -- A job begins.

  abbrev knows : KnowsWaiters v Touched Quiet
  knows = record {
    waits = λ t Q. Q.waiters;
    jobs = quiet-jobs;
    numbers = λ t Q number. record { park = Q.park; life = Q.life; waiters = Q.waiters; asks = Q.asks; pend = Q.pend };
    wakes = λ t Q w touched. quiet-ready t Q (code_number OkCode) w touched;
    slots = quiet-slot;
    caps = λ t Q cs. quiet-caps cs t Q;
    endpoints = λ t Q es. record { park = Q.park; life = Q.life; waiters = Q.waiters; asks = Q.asks; pend = Q.pend };
    sends = λ t Q j m. quiet-send j m t Q;
  }

  -- Refusals.

  pub quiet-refused : (number w : ℕ) (t : Side) → (w ≡ v → Touched) → Quiet t → Quiet (call_refused number w t)
  quiet-refused number w t touched Q = quiet-ready (promise_freed (parked t w) w t) (from (parked t w)) number w touched
    where
      from : (p : Option Parked) → Quiet (promise_freed p w t)
      from None = Q
      from (Some (ObtainWait n sel)) = quiet-slot t Q w sel Free
      from (Some (ObtainReady key parent object sel)) = Q
      from (Some ObtainCancelled) = Q
      from (Some (DelegateWait parent)) = Q
      from (Some (DelegateReady parent key)) = Q
      from (Some (RevokeWait j)) = Q
      from (Some (Ready code)) = Q

  pub quiet-ask_refused : (T : Setup) (i : ℕ) (code : Code) (a : Ask) (t : Side) → (asker a ≡ v → Touched) → Quiet t → Quiet (ask_refused T i code a t)
  quiet-ask_refused T i code a t touched Q = cond_both (kernel_of T (asker a) == i) _ _ Quiet (λ _. quiet-refused (code_number code) (asker a) t touched Q)
      (λ _. from a)
    where
      from : (b : Ask) → Quiet (refusal_sent T code b t)
      from (ObtainAsk place target) = quiet-send (place_owner T place) (ObtainNo place (code_number code)) t Q
      from (DelegateAsk parent object sel) = quiet-send (owner_of T parent) (DelegateNo parent (code_number code)) t Q

  -- The end of a VPE.

  pub quiet-ended : (T : Setup) (i u : ℕ) (t : Side) → (u ≡ v → Touched) → Quiet t → Quiet (ended T i u t)
  unfolding ended
  quiet-ended T i u t touched Q =
      let buried' : Quiet (buried u t) = quiet-row t Q u (record (row t u) { alive = false; asks = [] }) (inr touched) (λ a none. absurd (Contains-nil a none))
      in
      let answered : Side = in_turn (ask_ended T i) (row t u).asks (buried u t) in
      let told : Quiet answered =
      in_turn-keeps_each Quiet (ask_ended T i) (row t u).asks (λ a among s is. cond_both (is_unawaited T i s a) s (ask_refused T i Dead a s) Quiet (λ _. is)
      (λ _. quiet-ask_refused T i Dead a s (Q.asks u a among) is)) (buried u t) buried' in
      let last : Side = call_ended T (parked answered u) u (unparked u answered) in
      in_turn-keeps Quiet (revoked_if_left T i) (λ k s is. left k s is) (keys_of_vpe last u) last
      (owes (parked answered u) (unparked u answered) (quiet-park answered told u None (λ same. (refl, touched same))))
    where
      owes : (p : Option Parked) (s : Side) → Quiet s → Quiet (call_ended T p u s)
      owes None s is = is
      owes (Some (ObtainWait number sel)) s is = is
      owes (Some (ObtainReady key parent object sel)) s is = quiet-send (owner_of T parent) (Orphan parent key) s is
      owes (Some ObtainCancelled) s is = is
      owes (Some (DelegateWait parent)) s is = is
      owes (Some (DelegateReady parent key)) s is = quiet-send (owner_of T key) (Ack key false) s is
      owes (Some (RevokeWait j)) s is = quiet-jobs s is (waiter_left j u s).jobs (λ y among w.
          let x = Contains-from_map (λ (x : JobRow). record x { waiters = without_number x.waiters u; keep = x.keep && not ((x.id == j) && (x.root.vpe == u)) })
          s.jobs y among in
          is.waiters x.0 x.1 (Contains-from_filter (λ n. not (n == u)) x.0.waiters v (subst (λ (z : JobRow). Contains z.waiters v) (sym x.2) w)).0)
      owes (Some (Ready code)) s is = is

      left : (k : KeyName) (s : Side) → Quiet s → Quiet (revoked_if_left T i k s)
      left k s is = by_cap (cap s k)
        where
          by_cap : (o : Option Capability) → Quiet (revoked_if_there T i k o s)
          by_cap None = is
          by_cap (Some c) = option-keeps Quiet (λ (m : ℕ). s) c.mark (begin T i k None [] false s) (λ m marked. is)
              (begin-known v Touched Quiet knows T i k None [] false s (λ none. absurd (Contains-nil v none)) is)

  -- A revoke, a clear, and what comes from other kernels.

  pub quiet-revoked : (T : Setup) (i u : ℕ) (k : KeyName) (m : Option ℕ) (t : Side) → (u ≡ v → ⊥) → Quiet t → Quiet (revoke_begun T i u k m t)
  quiet-revoked T i u k m t other Q = revoked-known v Touched Quiet knows T i u k m t (λ same. absurd (other same))
      (λ j. quiet-park t Q u (Some (RevokeWait j)) (λ same. absurd (other same)))

  pub quiet-cleared : (T : Setup) (i u : ℕ) (k : KeyName) (t : Side) → (u ≡ v → ⊥) → Quiet t → Quiet (clear_begun T i u k t)
  quiet-cleared T i u k t other Q = begin-known v Touched Quiet knows T i k None (u ∷ []) true (parked_as u (RevokeWait t.next_job) t)
      (one-waiter v Touched Quiet knows u (λ same. absurd (other same))) (quiet-park t Q u (Some (RevokeWait t.next_job)) (λ same. absurd (other same)))

  pub quiet-requested : (T : Setup) (i from j : ℕ) (k : KeyName) (o : Option Capability) (t : Side) →
      (is_ready_with k (parked t k.vpe) ≡ true → k.vpe ≡ v → Touched) → Quiet t → Quiet (revoke_requested T i from j k o t)
  quiet-requested T i from j k o t touched Q = requested-known v Touched Quiet knows T i from j k o t
      (λ is u U. quiet-park u U k.vpe (Some ObtainCancelled) (λ same. (refl, touched is same))) Q

  pub quiet-done : (T : Setup) (i j : ℕ) (t : Side) → Quiet t → Quiet (revoke_done T i j t)
  quiet-done = done-known v Touched Quiet knows
