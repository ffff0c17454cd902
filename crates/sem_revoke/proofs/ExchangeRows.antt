-- The rows keep the tokens of an exchange while its call waits.
use Rattle.std.proofs.Common.{◌≡◌, ◌⊎◌, is_none, drop, ℕ, ◌+◌, ◌-◌, ◌≤◌, ◌<◌, Bool, true, false, ◌&&◌, List, [], ◌++◌, Option, Some, None, slice_get, get_or}
use Rattle.std.proofs.Common.{length, refl, sym, ap, ◌∙◌, subst, inl, inr, arith, eq-eqb}
use Rattle.std.specs.Prelude.{◌==◌}
use Rattle.std.specs.List.{sum_by}
use Rattle.std.specs.Option.{option_map_or}
use Rattle.sem_key.specs.ObjectRanges.{object_kind}
use Rattle.std.proofs.lemmas.Bool.{cases_Bool, cases_eq, cond_both, and_from, eqb-true}
use Rattle.sem_key.specs.declared.object.Object.{Object}
use Rattle.sem_key.specs.KeyName.{KeyName, key_eq}
use Rattle.sem_key.specs.PlaceName.{PlaceName, keyed}
use Rattle.sem_key.specs.Lists.{put, in_turn}
use Rattle.sem_key.specs.Capability.{Capability}
use Rattle.sem_key.proofs.Puts.{get_or-put_same, get_or-put_other}
use Rattle.sem_msg.specs.declared.limits.TheConstants.{ASKS}
use Rattle.sem_msg.specs.declared.call.Call.{Call}
use Rattle.sem_msg.specs.declared.code.Code.TheVariants.{Ok as OkCode, Refused}
use Rattle.sem_msg.specs.Codes.{code_number}
use Rattle.sem_msg.specs.declared.message.Message.{Message}
use Rattle.sem_msg.specs.declared.message.Message.TheVariants.{ObtainReq, ObtainOk, DelegateReq, DelegatePrepared, Ack, Orphan}
use Rattle.sem_msg.specs.declared.message.Target.{Target}
use Rattle.sem_msg.specs.declared.state.Ask.{Ask}
use Rattle.sem_msg.specs.declared.state.Ask.TheVariants.{Obtain as ObtainAsk, Delegate as DelegateAsk}
use Rattle.sem_msg.specs.declared.state.Parked.{Parked}
use Rattle.sem_msg.specs.declared.state.Parked.TheVariants.{ObtainWait, ObtainReady, ObtainCancelled, DelegateWait, DelegateReady, RevokeWait, Ready}
use Rattle.sem_msg.specs.declared.state.Slot.TheVariants.{Free, Promised, Held as HeldSlot}
use Rattle.sem_msg.specs.Rows.{VpeRow, no_vpe}
use Rattle.sem_msg.specs.Setup.{Setup}
use Rattle.sem_msg.specs.Lookups.{kernel_of, owner_of, place_owner, denies}
use Rattle.sem_machine.specs.Sides.{Side, row, cap, own, parked, drawn, promised, parked_as, unparked, asked, ask_taken, buried, linked, installed, send}
use Rattle.sem_machine.specs.Sides.{pending_added}
use Rattle.sem_machine.specs.Steps.{Step, unshown}
use Rattle.sem_machine.specs.Asks.{target_vpe, asker, is_unawaited, is_obtain_wait}
use Rattle.sem_machine.specs.Calls.{next_key, next_place, ask_made, offer_made, call_row, destination_tests}
use Rattle.sem_machine.specs.Upcalls.{source, source_tests, given, given_kind, given_here, child_given, parent_tests, delegate_here, delegate_prepared}
use Rattle.sem_machine.specs.Upcalls.{consented, ask_decided, upcall_row}
use Rattle.sem_machine.specs.Resumes.{delegate_granted, delegate_resumed, resumed, resume_row}
use Rattle.sem_machine.specs.Ends.{ask_ended, call_ended, keys_of_vpe, revoked_if_left, ended}
use Rattle.sem_machine.proofs.Folds.{in_turn-keeps}
use Rattle.sem_machine.proofs.FirstCodes.{unless-keeps, unless-passed}
use Rattle.sem_machine.proofs.Weighing.{weigh-put, weigh-drop, of_option}
use Rattle.sem_safety.proofs.Skeleton.{call_row-by}
use Rattle.sem_revoke.specs.Exchanges.{Exchange, waiter, is_waiting, of_ask, of_message, of_row}
use Rattle.sem_revoke.specs.Exchanges.Exchange.{Obtaining, Delegating}
use Rattle.sem_revoke.proofs.Exchanges.{Home, of_side', Loose, Same, Kept, kept-start, kept-less, kept-row, kept-slot, kept-park, kept-send, kept-asked}
use Rattle.sem_revoke.proofs.Exchanges.{kept-ask_refused, kept-dropped, kept-asks_ended, steady, ask-asker, ask-waits, ready-waits, none-waits, revoke-waits}
use Rattle.sem_revoke.proofs.Exchanges.{cases_some}
use Rattle.sem_revoke.proofs.Steady.{rest-steady, revoked-steady, cleared-steady, left_job-steady}
use Rattle.sem_revoke.proofs.Viewing.{one-true}
use Rattle.sem_revoke.proofs.Waits.{parked-here}

-- what is asked for, is sent for
pub req-obtain : (x : Exchange) (place : PlaceName) (target : Target) → of_ask x (ObtainAsk place target) ≡ of_message x (ObtainReq place target)
req-obtain (Obtaining v n) place target = refl
req-obtain (Delegating p) place target = refl

pub req-delegate : (x : Exchange) (parent : KeyName) (object : Object) (vpe sel : ℕ) →
    of_ask x (DelegateAsk parent object sel) ≡ of_message x (DelegateReq parent object vpe sel)
req-delegate (Obtaining v n) parent object vpe sel = refl
req-delegate (Delegating p) parent object vpe sel = refl

ok-obtain : (x : Exchange) (place : PlaceName) (target : Target) (p : Capability) (object : Object) →
    of_ask x (ObtainAsk place target) ≡ of_message x (ObtainOk p.key (keyed place (given_kind target p)) object)
ok-obtain (Obtaining v n) place target p object = refl
ok-obtain (Delegating q) place target p object = refl

prepared-delegate : (x : Exchange) (parent k : KeyName) (object : Object) (sel : ℕ) →
    of_ask x (DelegateAsk parent object sel) ≡ of_message x (DelegatePrepared parent k)
prepared-delegate (Obtaining v n) parent k object sel = refl
prepared-delegate (Delegating q) parent k object sel = refl

-- a call that asks for a place waits for just that exchange
asking-counts : (x : Exchange) (place : PlaceName) (target : Target) (sel : ℕ) → place.vpe ≡ waiter x →
    is_waiting x (Some (ObtainWait place.number sel)) ≡ true → of_ask x (ObtainAsk place target) ≡ 1
asking-counts (Obtaining v n) place target sel who waits =
    one-true ((place.vpe == v) && (place.number == n)) (and_from (place.vpe == v) (place.number == n) (eq-eqb place.vpe v who) waits)
asking-counts (Delegating p) place target sel who waits = absurd cc

offering-counts : (x : Exchange) (parent : KeyName) (object : Object) (sel : ℕ) → is_waiting x (Some (DelegateWait parent)) ≡ true →
    of_ask x (DelegateAsk parent object sel) ≡ 1
offering-counts (Obtaining v n) parent object sel waits = absurd cc
offering-counts (Delegating p) parent object sel waits = one-true (key_eq parent p) waits

module _ (x : Exchange) (T : Setup) (i : ℕ) (s0 : Side) where
  abbrev v : ℕ
  v = waiter x

  abbrev K : ℕ → Side → Type 0
  K m t = Kept x T i s0 m t

  -- a child is installed at a selector
  pub kept-installed : (m : ℕ) (t : Side) (k : KeyName) (parent : Option KeyName) (sel : ℕ) (object : Object) → K m t → K m (installed k parent sel object t)
  kept-installed m t k parent sel object is = kept-slot x T i s0 m (record t { caps = (installed k parent sel object t).caps }) k.vpe sel (HeldSlot k) is

  kept-drawn : (m : ℕ) (t : Side) (w : ℕ) → K m t → K m (drawn w t)
  kept-drawn m t w is = kept-row x T i s0 m t w (record (row t w) { next_number = (row t w).next_number + 1 }) (λ same home. refl) (omega arith) is

  -- The end of a VPE.
  pub kept-ended : (w : ℕ) (s : Side) (m : ℕ) → m ≤ of_side' x T i s0 s → kernel_of T w ≡ i → (Home x T i s0 → Same x T i s0 s) → K m (ended T i w s)
  unfolding ended
  kept-ended w s m few at still =
      let asks : List Ask = (row s w).asks in
      let answered : Side = in_turn (ask_ended T i) asks (buried w s) in
      let last : Side = call_ended T (parked answered w) w (unparked w answered) in
      in_turn-keeps (K m) (revoked_if_left T i) (λ k t here. rest-steady (K m) (steady x T i s0 m) T i k t here) (keys_of_vpe last w) last
      (owes (parked answered w) (unparked w answered) (gone (cases_eq w v)))
    where
      asks : List Ask
      asks = (row s w).asks

      answered : Side
      answered = in_turn (ask_ended T i) asks (buried w s)

      gone : (w ≡ v) ⊎ (w ≡ v → ⊥) → K m (unparked w answered)
      gone (inl same) = inl (
        ap (kernel_of T) (sym same) ∙ at,
        ap (λ u. is_waiting x (parked (unparked w answered) u)) (sym same)
            ∙ (ap (is_waiting x) (parked-here answered w None) ∙ none-waits x),
      )
      gone (inr other) = kept-park x T i s0 m answered w None (λ same. absurd (other same)) (
          let rows = weigh-put (of_row x) no_vpe refl s.vpes w (record (row s w) { alive = false; asks = [] }) in
          kept-less x T i s0 ((m - sum_by (of_ask x) asks) + sum_by (of_ask x) asks) m answered (omega arith)
          (kept-asks_ended x T i s0 asks (m - sum_by (of_ask x) asks) (buried w s)
          (inr (omega (arith, rows, few), λ home. inl ((still home).0, lives ∙ (still home).1)))))
        where
          lives : (row (buried w s) v).alive ≡ (row s v).alive
          lives = ap (λ (y : VpeRow). y.alive) (get_or-put_other no_vpe s.vpes w v (record (row s w) { alive = false; asks = [] }) (λ same. other (sym same)))

      owes : (p : Option Parked) (t : Side) → K m t → K m (call_ended T p w t)
      owes None t here = here
      owes (Some (ObtainWait number sel)) t here = here
      owes (Some (ObtainReady key parent object sel)) t here =
          kept-less x T i s0 (m + of_message x (Orphan parent key)) m (send (owner_of T parent) (Orphan parent key) t) (omega arith)
          (kept-send x T i s0 m t (owner_of T parent) (Orphan parent key) here)
      owes (Some ObtainCancelled) t here = here
      owes (Some (DelegateWait parent)) t here = here
      owes (Some (DelegateReady parent key)) t here = kept-less x T i s0 (m + of_message x (Ack key false)) m (send (owner_of T key) (Ack key false) t)
          (omega arith) (kept-send x T i s0 m t (owner_of T key) (Ack key false) here)
      owes (Some (RevokeWait j)) t here = left_job-steady (K m) (steady x T i s0 m) j w t here
      owes (Some (Ready code)) t here = here

  -- Calls.

  pub tok-row : (t : Side) (w : ℕ) (r : VpeRow) → of_row x r ≡ of_row x (row t w) →
      of_side' x T i s0 (record t { vpes = put no_vpe t.vpes w r }) ≡ of_side' x T i s0 t
  tok-row t w r same = let sum = weigh-put (of_row x) no_vpe refl t.vpes w r in omega (arith, sum, same)

  pub alive-row : (t : Side) (w : ℕ) (r : VpeRow) → r.alive ≡ (row t w).alive → (u : ℕ) →
      (row (record t { vpes = put no_vpe t.vpes w r }) u).alive ≡ (row t u).alive
  alive-row t w r same u = elim (cases_eq u w) [
    | inl here ↦ ap (λ (y : VpeRow). y.alive) (ap (λ n. get_or (put no_vpe t.vpes w r) n no_vpe) here ∙ get_or-put_same no_vpe t.vpes w r)
        ∙ (same ∙ ap (λ n. (row t n).alive) (sym here))
    | inr other ↦ ap (λ (y : VpeRow). y.alive) (get_or-put_other no_vpe t.vpes w u r other)
  ]

  -- queues stay
  pub asks-row : (t : Side) (w : ℕ) (r : VpeRow) → r.asks ≡ (row t w).asks → (u : ℕ) → (row (record t { vpes = put no_vpe t.vpes w r }) u).asks ≡ (row t u).asks
  asks-row t w r same u = elim (cases_eq u w) [
    | inl here ↦ ap (λ (y : VpeRow). y.asks) (ap (λ n. get_or (put no_vpe t.vpes w r) n no_vpe) here ∙ get_or-put_same no_vpe t.vpes w r)
        ∙ (same ∙ ap (λ n. (row t n).asks) (sym here))
    | inr other ↦ ap (λ (y : VpeRow). y.asks) (get_or-put_other no_vpe t.vpes w u r other)
  ]

  -- A VPE of this kernel comes to wait, and its ask goes into a queue or to another kernel.
  module _ (w : ℕ) (at : kernel_of T w ≡ i) (q : Parked) (a : Ask) (msg : Message) (s1 : Side) (m : ℕ) (few : m ≤ of_side' x T i s0 s1) (kept : K m s1)
      (lives : (row s1 w).alive ≡ true)
      (counts : w ≡ v → is_waiting x (Some q) ≡ true → (of_ask x a ≡ 1) × (of_message x msg ≡ 1)) where
    abbrev waiting : Side
    waiting = parked_as w q s1

    -- the state is that of another exchange
    other-wait : (w ≡ v → is_waiting x (Some q) ≡ false) → K m waiting
    other-wait none = kept-park x T i s0 m s1 w (Some q) (λ same home. none same) kept

    cases : ((w ≡ v) × (is_waiting x (Some q) ≡ true)) ⊎ (w ≡ v → is_waiting x (Some q) ≡ false)
    cases = elim (cases_eq w v) [
      | inr other ↦ inr (λ same. absurd (other same))
      | inl same ↦ elim (cases_Bool (is_waiting x (Some q))) [ inl waits ↦ inl (same, waits) | inr none ↦ inr (λ _. none) ]
    ]

    -- it is this exchange: it has a token now
    has-token : (t : Side) → w ≡ v → Kept x T i waiting (m + 1) t → K m t
    has-token t same (inl loose) = inl loose
    has-token t same (inr held) =
        let few' = held.0 in
        inr (
          omega (arith, few'),
          λ home. inr (
            omega (arith, few'),
            elim (held.1 home) [
              | inl still ↦ still.1 ∙ (ap (λ u. (row s1 u).alive) (sym same) ∙ lives)
              | inr has ↦ has.1
            ],
          ),
        )

    asked-kept : (u : ℕ) → length (row s1 u).asks < ASKS → K m (asked u a waiting)
    asked-kept u room = elim cases [
      | inl (same, waits) ↦
          let one = (counts same waits).0 in
          has-token (asked u a waiting) same (kept-less x T i waiting (m + of_ask x a) (m + 1) (asked u a waiting) (omega (arith, one))
          (kept-asked x T i waiting m waiting u a room (inr (few, λ home. inl (refl, refl)))))
      | inr none ↦ kept-less x T i s0 (m + of_ask x a) m (asked u a waiting) (omega arith) (kept-asked x T i s0 m waiting u a room (other-wait none))
    ]

    sent-kept : (j : ℕ) → K m (send j msg waiting)
    sent-kept j = elim cases [
      | inl (same, waits) ↦
          let one = (counts same waits).1 in
          has-token (send j msg waiting) same (kept-less x T i waiting (m + of_message x msg) (m + 1) (send j msg waiting) (omega (arith, one))
          (kept-send x T i waiting m waiting j msg (inr (few, λ home. inl (refl, refl)))))
      | inr none ↦ kept-less x T i s0 (m + of_message x msg) m (send j msg waiting) (omega arith) (kept-send x T i s0 m waiting j msg (other-wait none))
    ]

  module _ (w : ℕ) (at : kernel_of T w ≡ i) (s : Side) (m : ℕ) (few : m ≤ of_side' x T i s0 s) (same : Home x T i s0 →
      Same x T i s0 s) (lives : (row s w).alive ≡ true)
      (owns : (src : ℕ) (p : Capability) → own s w src ≡ Some p → p.key.vpe ≡ w) (room : (u : ℕ) → length (row s u).asks < ASKS) where
    is-now : K m s
    is-now = inr (few, λ home. inl (same home))

    asked-now : (dst : ℕ) (target : Target) → K m (ask_made T i w dst target s).side
    asked-now dst target =
        let place : PlaceName = next_place T s w in
        let u : ℕ = target_vpe target in
        let drawing : Side = drawn w s in
        let r1 : VpeRow = record (row s w) { next_number = (row s w).next_number + 1 } in
        let r2 : VpeRow = record (row drawing w) { slots = put Free (row drawing w).slots dst Promised } in
        let promising : Side = promised w dst drawing in
        let one = tok-row s w r1 refl in
        let two = tok-row drawing w r2 refl in
        let few' : m ≤ of_side' x T i s0 promising = omega (arith, few, one, two) in
        let kept : K m promising = kept-slot x T i s0 m drawing w dst Promised (kept-drawn m s w is-now) in
        let alive' : (row promising w).alive ≡ true = alive-row drawing w r2 refl w ∙ (alive-row s w r1 refl w ∙ lives) in
        let counts : w ≡ v → is_waiting x (Some (ObtainWait place.number dst)) ≡ true → (of_ask x (ObtainAsk place target) ≡ 1)
        × (of_message x (ObtainReq place target) ≡ 1) = λ who waits. (let one' = asking-counts x place target dst who waits in
        (one', sym (req-obtain x place target) ∙ one')) in
        cond_both (kernel_of T u == i) _ _ (K m)
        (λ _. asked-kept w at (ObtainWait place.number dst) (ObtainAsk place target) (ObtainReq place target) promising m few' kept alive' counts u
        (subst (λ (xs : List Ask). length xs < ASKS) (sym (asks-row drawing w r2 refl u ∙ asks-row s w r1 refl u)) (room u)))
        (λ _. sent-kept w at (ObtainWait place.number dst) (ObtainAsk place target) (ObtainReq place target) promising m few' kept alive' counts
        (kernel_of T u))

    offered-now : (u dst src : ℕ) (p : Capability) → own s w src ≡ Some p → K m (offer_made T i w u dst p s).side
    offered-now u dst src p held =
        let counts : w ≡ v → is_waiting x (Some (DelegateWait p.key)) ≡ true → (of_ask x (DelegateAsk p.key p.object dst) ≡ 1)
        × (of_message x (DelegateReq p.key p.object u dst) ≡ 1) = λ who waits. (let one = offering-counts x p.key p.object dst waits in
        (one, sym (req-delegate x p.key p.object u dst) ∙ one)) in
        cond_both (kernel_of T u == i) _ _ (K m)
        (λ _. asked-kept w at (DelegateWait p.key) (DelegateAsk p.key p.object dst) (DelegateReq p.key p.object u dst) s m few is-now lives counts u (room u))
        (λ _. sent-kept w at (DelegateWait p.key) (DelegateAsk p.key p.object dst) (DelegateReq p.key p.object u dst) s m few is-now lives counts
        (kernel_of T u))

    -- what is parked for a revoke waits for no exchange
    revoking : (j : ℕ) → K m (parked_as w (RevokeWait j) s)
    revoking j = kept-park x T i s0 m s w (Some (RevokeWait j)) (λ who home. revoke-waits x j) is-now

    pub call-kept : (c : Call) → K m (call_row T i s w c).side
    call-kept c = call_row-by (λ (y : Step). K m y.side) T i w s (record {
      answered = λ code. is-now;
      child = λ src dst object p held.
          let k : KeyName = next_key T s w (object_kind object) in
          kept-installed m (linked p.key k (drawn w s)) k (Some p.key) dst object (kept-drawn m s w is-now);
      ask = λ dst target. asked-now dst target;
      offer = λ src u dst p held. offered-now u dst src p held;
      revoke = λ src c held. revoked-steady (K m) (steady x T i s0 m) T i w c.key c.mark s revoking;
      clear = λ src c held unmarked. cleared-steady (K m) (steady x T i s0 m) T i w c.key s (revoking s.next_job);
      bound = λ ep src c held. is-now;
      rung = λ ep f. is-now;
      ends = kept-ended w s m few at same;
    }) c

  -- Upcalls.
  module _ (w : ℕ) (s : Side) (m : ℕ) (is : K m s) where
    given-kept : (place : PlaceName) (target : Target) (p : Capability) → is_unawaited T i s (ObtainAsk place target) ≡ false →
        K (m + of_ask x (ObtainAsk place target)) (child_given T i place target s p).side
    given-kept place target p awaited =
        let k : KeyName = keyed place (given_kind target p) in
        let object : Object = given target place.vpe p in
        let linking : Side = linked p.key k s in
        let same = ok-obtain x place target p object in
        cond_both (kernel_of T place.vpe == i) _ _ (K (m + of_ask x (ObtainAsk place target)))
        (λ here. local k object linking is (eqb-true (kernel_of T place.vpe) i here) refl (parked linking place.vpe) refl
        (cases_some (of_ask x (ObtainAsk place target))))
        (λ _. kept-less x T i s0 (m + of_message x (ObtainOk p.key k object)) (m + of_ask x (ObtainAsk place target))
        (send (place_owner T place) (ObtainOk p.key k object) linking) (omega (arith, same))
        (kept-send x T i s0 m linking (place_owner T place) (ObtainOk p.key k object) is))
      where
        local : (k : KeyName) (object : Object) (t : Side) → K m t → kernel_of T place.vpe ≡ i → k.vpe ≡ place.vpe → (q : Option Parked) →
            parked t place.vpe ≡ q → (of_ask x (ObtainAsk place target) ≡ 0) ⊎ (1 ≤ of_ask x (ObtainAsk place target)) →
            K (m + of_ask x (ObtainAsk place target)) (given_here k p.key object q t)
        local k object t here at of q there (inl none) = kept-less x T i s0 m (m + of_ask x (ObtainAsk place target)) (given_here k p.key object q t)
            (omega (arith, none)) (by q)
          where
            by : (q : Option Parked) → K m (given_here k p.key object q t)
            by (Some (ObtainWait number sel)) = kept-park x T i s0 m (installed k (Some p.key) sel object t) k.vpe (Some (Ready (code_number OkCode)))
                (λ who home. ready-waits x (code_number OkCode)) (kept-installed m t k (Some p.key) sel object here)
            by None = here
            by (Some (ObtainReady key parent object' sel)) = here
            by (Some ObtainCancelled) = here
            by (Some (DelegateWait parent)) = here
            by (Some (DelegateReady parent key)) = here
            by (Some (RevokeWait j)) = here
            by (Some (Ready code)) = here
        local k object t here at of q there (inr some) = by q there
          where
            who : place.vpe ≡ v
            who = ask-asker x (ObtainAsk place target) some

            home : Home x T i s0
            home = ap (kernel_of T) (sym who) ∙ at

            idle : (r : Option Parked) → parked t place.vpe ≡ r → is_obtain_wait place.number r ≡ false → Loose x T i s0 t
            idle r there none = (
              home,
              ap (λ u. is_waiting x (parked t u)) (sym who)
                  ∙ (ap (is_waiting x) there ∙ (ask-waits x (ObtainAsk place target) r some ∙ none)),
            )

            by : (r : Option Parked) → parked t place.vpe ≡ r → K (m + of_ask x (ObtainAsk place target)) (given_here k p.key object r t)
            by (Some (ObtainWait number sel)) there =
                inl (
                  home,
                  ap (λ u. is_waiting x (parked (given_here k p.key object (Some (ObtainWait number sel)) t) u)) (sym (of ∙ who))
                      ∙ (ap (is_waiting x) (parked-here (installed k (Some p.key) sel object t) k.vpe (Some (Ready (code_number OkCode))))
                      ∙ ready-waits x (code_number OkCode)),
                )
            by None there = inl (idle None there refl)
            by (Some (ObtainReady key parent object' sel)) there = inl (idle (Some (ObtainReady key parent object' sel)) there refl)
            by (Some ObtainCancelled) there = inl (idle (Some ObtainCancelled) there refl)
            by (Some (DelegateWait parent)) there = inl (idle (Some (DelegateWait parent)) there refl)
            by (Some (DelegateReady parent key)) there = inl (idle (Some (DelegateReady parent key)) there refl)
            by (Some (RevokeWait j)) there = inl (idle (Some (RevokeWait j)) there refl)
            by (Some (Ready code)) there = inl (idle (Some (Ready code)) there refl)

    here-kept : (parent : KeyName) (object : Object) (sel : ℕ) → kernel_of T parent.vpe ≡ i →
        K (m + of_ask x (DelegateAsk parent object sel)) (delegate_here T w parent object sel s).side
    here-kept parent object sel at =
        let k : KeyName = next_key T s w parent.kind in
        let t : Side = installed k (Some parent) sel object (linked parent k (drawn w s)) in
        elim (cases_some (of_ask x (DelegateAsk parent object sel))) [
          | inl none ↦ kept-less x T i s0 m (m + of_ask x (DelegateAsk parent object sel)) (parked_as parent.vpe (Ready (code_number OkCode)) t)
              (omega (arith, none))
              (kept-park x T i s0 m t parent.vpe (Some (Ready (code_number OkCode))) (λ who home. ready-waits x (code_number OkCode))
              (kept-installed m (linked parent k (drawn w s)) k (Some parent) sel object (kept-drawn m s w is)))
          | inr some ↦
              let who = ask-asker x (DelegateAsk parent object sel) some in
              inl (
                ap (kernel_of T) (sym who) ∙ at,
                ap (λ u. is_waiting x (parked (parked_as parent.vpe (Ready (code_number OkCode)) t) u)) (sym who)
                    ∙ (ap (is_waiting x) (parked-here t parent.vpe (Some (Ready (code_number OkCode)))) ∙ ready-waits x (code_number OkCode)),
              )
        ]

    prepared-kept : (parent : KeyName) (object : Object) (sel : ℕ) →
        K (m + of_ask x (DelegateAsk parent object sel)) (delegate_prepared T w parent object sel s).side
    prepared-kept parent object sel =
        let k : KeyName = next_key T s w parent.kind in
        let same = prepared-delegate x parent k object sel in
        let preparing : Side = pending_added (record { key = k; parent = parent; object = object; sel = sel }) (promised w sel (drawn w s)) in
        kept-less x T i s0 (m + of_message x (DelegatePrepared parent k)) (m + of_ask x (DelegateAsk parent object sel))
        (send (owner_of T parent) (DelegatePrepared parent k) preparing) (omega (arith, same))
        (kept-send x T i s0 m preparing (owner_of T parent) (DelegatePrepared parent k) (kept-slot x T i s0 m (drawn w s) w sel Promised (kept-drawn m s w is)))

    consented-kept : (a : Ask) → is_unawaited T i s a ≡ false → K (m + of_ask x a) (consented T i w a s).side
    consented-kept (ObtainAsk place target) awaited = unless-passed (λ (y : Step). K (m + of_ask x (ObtainAsk place target)) y.side)
        (source_tests target (source T s w target)) _ _ (λ code. kept-ask_refused x T i s0 m code (ObtainAsk place target) s is)
        (λ passed. from (source T s w target) passed.0)
      where
        from : (o : Option Capability) → is_none o ≡ false →
            K (m + of_ask x (ObtainAsk place target)) (option_map_or (child_given T i place target s) o (unshown s)).side
        from None none = absurd cc
        from (Some p) some = given-kept place target p awaited
    consented-kept (DelegateAsk parent object sel) awaited =
        cond_both (kernel_of T parent.vpe == i) _ _ (λ (y : Step). K (m + of_ask x (DelegateAsk parent object sel)) y.side)
        (λ here. unless-keeps (λ (y : Step). K (m + of_ask x (DelegateAsk parent object sel)) y.side) (parent_tests (cap s parent)
        ++ destination_tests s w sel) _ _ (λ code. kept-ask_refused x T i s0 m code (DelegateAsk parent object sel) s is)
        (here-kept parent object sel (eqb-true (kernel_of T parent.vpe) i here)))
        (λ remote. unless-keeps (λ (y : Step). K (m + of_ask x (DelegateAsk parent object sel)) y.side) (destination_tests s w sel) _ _
        (λ code. kept-ask_refused x T i s0 m code (DelegateAsk parent object sel) s is) (prepared-kept parent object sel))

    decided-kept : (a : Ask) → K (m + of_ask x a) (ask_decided T i w a s).side
    decided-kept a = cond_both (is_unawaited T i s a) _ _ (λ (y : Step). K (m + of_ask x a) y.side) (λ drops. kept-dropped x T i s0 m a s drops is)
        (λ awaited. cond_both (denies T w (asker a)) _ _ (λ (y : Step). K (m + of_ask x a) y.side) (λ _. kept-ask_refused x T i s0 m Refused a s is)
        (λ _. consented-kept a awaited))

  pub upcall-kept : (w : ℕ) → K (of_side' x T i s0 s0) (upcall_row T i s0 w).side
  unfolding upcall_row
  upcall-kept w = from (slice_get (row s0 w).asks 0) refl
    where
      from : (o : Option Ask) → slice_get (row s0 w).asks 0 ≡ o →
          K (of_side' x T i s0 s0) (option_map_or (λ a. ask_decided T i w a (ask_taken w s0)) o (unshown s0)).side
      from None none = kept-start x T i s0
      from (Some a) some =
          let t : Side = ask_taken w s0 in
          let r : VpeRow = record (row s0 w) { asks = drop 1 (row s0 w).asks } in
          let sum = weigh-put (of_row x) no_vpe refl s0.vpes w r in
          let head = weigh-drop (of_ask x) (row s0 w).asks in
          let one : of_option (of_ask x) (slice_get (row s0 w).asks 0) ≡ of_ask x a = ap (of_option (of_ask x)) some in
          let base : K (of_side' x T i s0 t) t = inr (omega arith, λ home. inl (refl, alive-row s0 w r refl v)) in
          kept-less x T i s0 (of_side' x T i s0 t + of_ask x a) (of_side' x T i s0 s0) (ask_decided T i w a t).side (omega (arith, sum, head, one))
          (decided-kept w t (of_side' x T i s0 t) base a)

  -- Parked calls that go on.
  pub resume-kept : (w : ℕ) → K (of_side' x T i s0 s0) (resume_row T s0 w).side
  unfolding resume_row
  resume-kept w = by (parked s0 w)
    where
      m : ℕ
      m = of_side' x T i s0 s0

      t : Side
      t = unparked w s0

      gone : K m (unparked w s0)
      gone = kept-park x T i s0 m s0 w None (λ who home. none-waits x) (kept-start x T i s0)

      acked : (key : KeyName) (accepted : Bool) (u : Side) → K m u → K m (send (owner_of T key) (Ack key accepted) u)
      acked key accepted u here = kept-less x T i s0 (m + of_message x (Ack key accepted)) m (send (owner_of T key) (Ack key accepted) u) (omega arith)
          (kept-send x T i s0 m u (owner_of T key) (Ack key accepted) here)

      granted : (parent key : KeyName) (o : Option ℕ) → K m (delegate_granted T parent key o (unparked w s0)).side
      granted parent key None = acked key true (linked parent key (unparked w s0)) gone
      granted parent key (Some j) = acked key false (unparked w s0) gone

      answered : (parent key : KeyName) (o : Option Capability) → K m (delegate_resumed T parent key o (unparked w s0)).side
      answered parent key None = acked key false (unparked w s0) gone
      answered parent key (Some c) = granted parent key c.mark

      by : (p : Option Parked) → K m (resumed T p (unparked w s0)).side
      by None = gone
      by (Some (ObtainWait number sel)) = gone
      by (Some (ObtainReady key parent object sel)) = kept-installed m (unparked w s0) key (Some parent) sel object gone
      by (Some ObtainCancelled) = gone
      by (Some (DelegateWait parent)) = gone
      by (Some (DelegateReady parent key)) = answered parent key (cap (unparked w s0) parent)
      by (Some (RevokeWait j)) = gone
      by (Some (Ready code)) = gone
