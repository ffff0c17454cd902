-- Each row keeps that who waits for a job is woken by it, and that marks name open jobs; so it holds along every run.
use Rattle.std.proofs.Common.{◌≡◌, ℕ, zero, suc, ◌+◌, ◌-◌, Bool, true, false, not, List, [], ◌∷◌, ◌++◌, length, map, drop, get_or, replicate, Option, Some}
use Rattle.std.proofs.Common.{None, slice_get, refl, sym, ap, ◌∙◌, subst, inl, inr, eq-eqb, ◌&&◌}
use Rattle.std.specs.Prelude.{◌==◌, ◌≢◌, nat_lt, if◌then◌else◌}
use Rattle.std.specs.List.{Contains, filter, find, range_with_len}
use Rattle.std.specs.Option.{option_map, option_map_or}
use Rattle.std.proofs.lemmas.Bool.{cases_Bool, cases_eq, cases_order, cond_both, cond-true, cond-false, ne_eqb, lt-ltb}
use Rattle.std.proofs.lemmas.List.Elements.{All-contains, Contains-append_left, Contains-append_right, Contains-append_cases}
use Rattle.sem_key.specs.declared.object.Object.{Object}
use Rattle.sem_key.specs.ObjectRanges.{object_kind}
use Rattle.sem_key.specs.KeyName.{KeyName, key_eq, key_lt}
use Rattle.sem_key.specs.KeyList.{with_key}
use Rattle.sem_key.specs.PlaceName.{PlaceName, keyed}
use Rattle.sem_key.specs.Lists.{in_turn}
use Rattle.sem_key.specs.Capability.{Capability}
use Rattle.sem_key.specs.CapList.{fresh}
use Rattle.sem_msg.specs.declared.limits.TheConstants.{ASKS}
use Rattle.sem_msg.specs.declared.call.Call.{Call}
use Rattle.sem_msg.specs.declared.entry.Entry.{Entry}
use Rattle.sem_msg.specs.declared.event.Act.{Act}
use Rattle.sem_msg.specs.declared.event.Act.TheVariants.{Call as Calls, Fetch, Handle, Upcall, Resume, Flush, Kill}
use Rattle.sem_msg.specs.declared.event.Event.{Event}
use Rattle.sem_msg.specs.declared.message.Message.{Message}
use Rattle.sem_msg.specs.declared.message.Message.TheVariants.{ObtainReq, ObtainOk, ObtainNo, DelegateReq, DelegatePrepared, DelegateNo, Ack, Orphan}
use Rattle.sem_msg.specs.declared.message.Message.TheVariants.{RevokeDone}
use Rattle.sem_msg.specs.declared.state.Ask.{Ask}
use Rattle.sem_msg.specs.declared.state.Ask.TheVariants.{Obtain as ObtainAsk, Delegate as DelegateAsk}
use Rattle.sem_msg.specs.declared.state.Parked.{Parked}
use Rattle.sem_msg.specs.declared.state.Parked.TheVariants.{ObtainWait, ObtainReady, ObtainCancelled, DelegateWait, DelegateReady, RevokeWait, Ready}
use Rattle.sem_msg.specs.declared.state.Pending.{Pending}
use Rattle.sem_msg.specs.declared.state.Slot.{Slot}
use Rattle.sem_msg.specs.declared.state.Slot.TheVariants.{Free, Held, Promised}
use Rattle.sem_msg.specs.declared.state.Up.TheVariants.{Remote}
use Rattle.sem_msg.specs.ParkedStates.{is_ready_with}
use Rattle.sem_msg.specs.Rows.{Endpoint, JobRow}
use Rattle.sem_msg.specs.JobRows.{with_number, without_number}
use Rattle.sem_msg.specs.Setup.{Setup}
use Rattle.sem_msg.specs.Lookups.{kernel_of, owner_of, place_owner, own_vpes}
use Rattle.sem_msg.specs.declared.code.Code.TheVariants.{Ok as OkCode, Dead}
use Rattle.sem_machine.specs.Sides.{Side, no_side, row, cap, cap_in, own, slot, job, endpoint, parked, is_alive, call_counted, drawn, promised, parked_as}
use Rattle.sem_machine.specs.Sides.{unparked, asked, ask_taken, buried, linked, installed, cap_added, with_inbox, pending_added, pending_removed, job_opened}
use Rattle.sem_machine.specs.Sides.{send, with_endpoint}
use Rattle.sem_machine.specs.Steps.{Step, unshown}
use Rattle.sem_machine.specs.Asks.{target_vpe, asker, is_unawaited, promise_freed, call_refused, refusal_sent, ask_refused}
use Rattle.sem_machine.specs.Calls.{next_key, next_place, call_row}
use Rattle.sem_machine.specs.Upcalls.{given, given_kind, given_here, ask_decided, upcall_row}
use Rattle.sem_machine.specs.Handles.{obtain_ready, acknowledged, handled}
use Rattle.sem_machine.specs.Resumes.{delegate_granted, delegate_resumed, resumed, resume_row}
use Rattle.sem_machine.specs.Revokes.{count_lowered, settled, begin, waiter_added, waiter_left, revoke_begun, ready_freed, obtain_cancelled, request_begun}
use Rattle.sem_machine.specs.Revokes.{revoke_requested, revoke_done, clear_begun}
use Rattle.sem_machine.specs.Ends.{ask_ended, call_ended, revoked_if_left, keys_of_vpe, ended}
use Rattle.sem_machine.specs.Machine.{World, side, with_side, start, start_side, empty_side, root_added, vpe_added, vpe_fresh, next_call, local_step, input_of}
use Rattle.sem_machine.specs.Machine.{after}
use Rattle.sem_machine.specs.Schedules.{run, world_after}
use Rattle.sem_key.proofs.Members.{found, Contains-head, Contains-tail, Contains-nil, Contains-cons_cases, Contains-filter, Contains-from_filter, Contains-map}
use Rattle.sem_key.proofs.Puts.{get_or-put_same, get_or-put_other}
use Rattle.sem_safety.proofs.CarryingWorlds.{stepped}
use Rattle.sem_safety.proofs.FirstCaps.{IsFirst, first-bare}
use Rattle.sem_safety.proofs.GoingOn.{moved-sides}
use Rattle.sem_machine.proofs.Folds.{option-keeps, in_turn-keeps}
use Rattle.sem_safety.proofs.JobIds.{ids, bare, side-ids}
use Rattle.sem_safety.proofs.Skeleton.{CallLeaves, call_row-by, ConsentLeaves, decided-by, HandleLeaves, handled-by}
use Rattle.sem_revoke.proofs.Open.{HasJob, IsOpen, open-row, open-park, open-slot, open-ready, open-caps, open-unlinked, open-send, open-changed, up-open}
use Rattle.sem_revoke.proofs.Open.{settled-open, begin-open, opened-open}
use Rattle.sem_msg.specs.declared.code.Code.{Code}
use Rattle.sem_msg.specs.Codes.{code_number}
use Rattle.sem_key.specs.declared.limits.TheConstants.{VPES}

-- Small changes.
open-parked : (s : Side) (v : ℕ) (p : Parked) → ((j : ℕ) → Some p ≡ Some (RevokeWait j) → ⊥) → IsOpen s → IsOpen (parked_as v p s)
open-parked s v p other is = open-park s v (Some p) is (λ j at. absurd (other j at))

open-unparked : (s : Side) (v : ℕ) → IsOpen s → IsOpen (unparked v s)
open-unparked s v is = open-park s v None is (λ j at. absurd cc)

open-endpoint : (s : Side) (v ep : ℕ) (e : Option Endpoint) → IsOpen s → IsOpen (with_endpoint v ep e s)
open-endpoint s v ep e is = record { awaited = is.awaited; marked = is.marked; ids = record { rise = is.ids.rise; drawn = is.ids.drawn } }

open-drawn : (s : Side) (v : ℕ) → IsOpen s → IsOpen (drawn v s)
open-drawn s v is = open-row s v (record (row s v) { next_number = (row s v).next_number + 1 }) is

open-asked : (s : Side) (v : ℕ) (a : Ask) → IsOpen s → IsOpen (asked v a s)
open-asked s v a is = open-row s v (record (row s v) { asks = if nat_lt (length (row s v).asks) ASKS then (row s v).asks ++ a ∷ [] else (row s v).asks }) is

open-added : (s : Side) (c : Capability) → c.mark ≡ None → IsOpen s → IsOpen (cap_added c s)
open-added s c unmarked is = record {
  awaited = is.awaited;
  marked = λ d among j at. elim (Contains-append_cases (filter (λ (x : Capability). key_lt x.key c.key) s.caps)
      (c ∷ filter (λ (x : Capability). not (key_lt x.key c.key)) s.caps) d among) [
        | inl before ↦ is.marked d (Contains-from_filter (λ (x : Capability). key_lt x.key c.key) s.caps d before).0 j at
        | inr rest ↦ elim (Contains-cons_cases c (filter (λ (x : Capability). not (key_lt x.key c.key)) s.caps) d rest) [
          | inl same ↦ absurd (fresh_not d j at same)
          | inr later ↦ is.marked d (Contains-from_filter (λ (x : Capability). not (key_lt x.key c.key)) s.caps d later).0 j at
        ]
      ];
  ids = record { rise = is.ids.rise; drawn = is.ids.drawn };
}
  where
    fresh_not : (d : Capability) (j : ℕ) → d.mark ≡ Some j → c ≡ d → ⊥
    fresh_not d j at same = let mark : c.mark ≡ Some j = ap (λ (x : Capability). x.mark) same ∙ at in absurd (cc (mark, unmarked))

open-installed : (s : Side) (k : KeyName) (parent : Option KeyName) (sel : ℕ) (object : Object) → IsOpen s → IsOpen (installed k parent sel object s)
open-installed s k parent sel object is =
    open-slot (cap_added (fresh k parent sel object) s) k.vpe sel (Held k) (open-added s (fresh k parent sel object) refl is)

open-linked : (s : Side) (p k : KeyName) → IsOpen s → IsOpen (linked p k s)
open-linked s p k is = open-caps s (λ c. key_eq c.key p) (λ c. record c { children = with_key c.children k }) (λ c j mark. inl mark) is

open-refused : (s : Side) (code v : ℕ) → IsOpen s → IsOpen (call_refused code v s)
open-refused s code v is = open-ready (promise_freed (parked s v) v s) v code (from (parked s v))
  where
    from : (p : Option Parked) → IsOpen (promise_freed p v s)
    from None = is
    from (Some (ObtainWait number sel)) = open-slot s v sel Free is
    from (Some (ObtainReady key parent object sel)) = is
    from (Some ObtainCancelled) = is
    from (Some (DelegateWait parent)) = is
    from (Some (DelegateReady parent key)) = is
    from (Some (RevokeWait j)) = is
    from (Some (Ready code')) = is

open-ask_refused : (T : Setup) (i : ℕ) (code : Code) (a : Ask) (s : Side) → IsOpen s → IsOpen (ask_refused T i code a s)
open-ask_refused T i code a s is = cond_both (kernel_of T (asker a) == i) (call_refused (code_number code) (asker a) s) (refusal_sent T code a s) IsOpen
    (λ _. open-refused s (code_number code) (asker a) is) (λ _. from a)
  where
    from : (b : Ask) → IsOpen (refusal_sent T code b s)
    from (ObtainAsk place target) = open-send s (place_owner T place) (ObtainNo place (code_number code)) is
    from (DelegateAsk parent object sel) = open-send s (owner_of T parent) (DelegateNo parent (code_number code)) is

-- A revoke.
number-in : (vs : List ℕ) (v : ℕ) → Contains (with_number vs v) v
number-in vs v = Contains-append_right (filter (λ w. nat_lt w v) vs) (v ∷ filter (λ w. nat_lt v w) vs) v (Contains-head v (filter (λ w. nat_lt v w) vs))

number-keeps : (vs : List ℕ) (v w : ℕ) → Contains vs w → Contains (with_number vs v) w
number-keeps vs v w among = elim (cases_order w v) [
  | inl same ↦ subst (Contains (with_number vs v)) (sym same) (number-in vs v)
  | inr (inl below) ↦ Contains-append_left (filter (λ u. nat_lt u v) vs) (v ∷ filter (λ u. nat_lt v u) vs) w
      (Contains-filter (λ u. nat_lt u v) vs w among (lt-ltb w v below))
  | inr (inr above) ↦ Contains-append_right (filter (λ u. nat_lt u v) vs) (v ∷ filter (λ u. nat_lt v u) vs) w
      (Contains-tail v (filter (λ u. nat_lt v u) vs) w (Contains-filter (λ u. nat_lt v u) vs w among (lt-ltb v w above)))
]

-- a clear
cleared-open : (T : Setup) (i v : ℕ) (k : KeyName) (s : Side) → IsOpen s → IsOpen (clear_begun T i v k s)
cleared-open T i v k s is =
    let opened : Side = job_opened k None (v ∷ []) true s in
    let x : JobRow = record { id = s.next_job; root = k; up = None; waiters = v ∷ []; count = 0; keep = true } in
    begin-open T i k None (v ∷ []) true (parked_as v (RevokeWait s.next_job) s)
    (open-park opened v (Some (RevokeWait s.next_job)) (opened-open s k None (v ∷ []) true is)
    (λ j at. (x, Contains-append_right s.jobs (x ∷ []) x (Contains-head x []), same_id j at, Contains-head v [])))
  where
    same_id : (j : ℕ) → Some (RevokeWait s.next_job) ≡ Some (RevokeWait j) → s.next_job ≡ j
    same_id j at = cc

begun-open : (T : Setup) (i v : ℕ) (k : KeyName) (mark : Option ℕ) (s : Side) → ((j : ℕ) → mark ≡ Some j → HasJob s.jobs j) → IsOpen s →
    IsOpen (revoke_begun T i v k mark s)
begun-open T i v k None s there is =
    let opened : Side = job_opened k None (v ∷ []) false s in
    let x : JobRow = record { id = s.next_job; root = k; up = None; waiters = v ∷ []; count = 0; keep = false } in
    begin-open T i k None (v ∷ []) false (parked_as v (RevokeWait s.next_job) s)
    (open-park opened v (Some (RevokeWait s.next_job)) (opened-open s k None (v ∷ []) false is)
    (λ j at. (x, Contains-append_right s.jobs (x ∷ []) x (Contains-head x []), same_id j at, Contains-head v [])))
  where
    same_id : (j : ℕ) → Some (RevokeWait s.next_job) ≡ Some (RevokeWait j) → s.next_job ≡ j
    same_id j at = cc
begun-open T i v k (Some n) s there is =
    let f : JobRow → JobRow = λ x. record x { waiters = with_number x.waiters v } in
    let added : Side = waiter_added n v s in
    let open_so = there n refl in
    let x : JobRow = open_so.0 in
    let g : JobRow → JobRow = λ y. if y.id == n then f y else y in
    let image : g x ≡ f x = cond-true (x.id == n) (f x) x (eq-eqb x.id n open_so.2) in
    open-park added v (Some (RevokeWait n)) (open-changed s n f (λ y. (refl, refl)) (λ y w waits. number-keeps y.waiters v w waits) is)
    (λ j at. (
      g x,
      Contains-map g s.jobs x open_so.1,
      (ap (λ (y : JobRow). y.id) image ∙ open_so.2)
          ∙ same_id j at,
      subst (λ (y : JobRow). Contains y.waiters v) (sym image) (number-in x.waiters v),
    ))
  where
    same_id : (j : ℕ) → Some (RevokeWait n) ≡ Some (RevokeWait j) → n ≡ j
    same_id j at = cc

request_begun-open : (T : Setup) (i from j : ℕ) (k : KeyName) (mark : Option ℕ) (s : Side) → IsOpen s → IsOpen (request_begun T i from j k mark s)
request_begun-open T i from j k None s is = begin-open T i k (Some (Remote from j)) [] false s (opened-open s k (Some (Remote from j)) [] false is)
request_begun-open T i from j k (Some m) s is = up-open s m (Remote from j) is

cancelled-open : (k : KeyName) (s : Side) → IsOpen s → IsOpen (obtain_cancelled k s)
cancelled-open k s is = cond_both (is_ready_with k (parked s k.vpe)) (parked_as k.vpe ObtainCancelled (ready_freed (parked s k.vpe) k.vpe s)) s IsOpen
    (λ _. open-parked (ready_freed (parked s k.vpe) k.vpe s) k.vpe ObtainCancelled (λ j at. absurd cc) (from (parked s k.vpe))) (λ _. is)
  where
    from : (p : Option Parked) → IsOpen (ready_freed p k.vpe s)
    from None = is
    from (Some (ObtainReady key parent object sel)) = open-slot s k.vpe sel Free is
    from (Some (ObtainWait number sel)) = is
    from (Some ObtainCancelled) = is
    from (Some (DelegateWait parent)) = is
    from (Some (DelegateReady parent key)) = is
    from (Some (RevokeWait j)) = is
    from (Some (Ready code)) = is

requested-open : (T : Setup) (i from j : ℕ) (k : KeyName) (o : Option Capability) (s : Side) → IsOpen s → IsOpen (revoke_requested T i from j k o s)
requested-open T i from j k (Some c) s is = request_begun-open T i from j k c.mark s is
requested-open T i from j k None s is = open-send (obtain_cancelled k s) from (RevokeDone j) (cancelled-open k s is)

done-open : (T : Setup) (i j : ℕ) (s : Side) → IsOpen s → IsOpen (revoke_done T i j s)
done-open T i j s is = from (job s j) s is
  where
    settled_if_there : Setup → ℕ → ℕ → Option JobRow → Side → Side
    settled_if_there T i j None s = s
    settled_if_there T i j (Some x) s = settled T i j (count_lowered j s)

    from : (o : Option JobRow) (s : Side) → IsOpen s → IsOpen (settled_if_there T i j o s)
    from None s is = is
    from (Some x) s is =
        settled-open T i j (count_lowered j s) (open-changed s j (λ y. record y { count = y.count - 1 }) (λ y. (refl, refl)) (λ y v waits. waits) is)

-- The end of a VPE.
left-open : (s : Side) (n v : ℕ) → parked s v ≡ None → IsOpen s → IsOpen (waiter_left n v s)
left-open s n v none is = record {
  awaited = λ w j at.
      let there = is.awaited w j at in
      let x : JobRow = there.0 in
      let f : JobRow → JobRow = λ y. record y { waiters = without_number y.waiters v; keep = y.keep && not ((y.id == n) && (y.root.vpe == v)) } in
      let other : w ≢ v = λ same. let here : parked s v ≡ Some (RevokeWait j) = ap (parked s) (sym same) ∙ at in absurd (cc (none, here)) in
      (f x, Contains-map f s.jobs x there.1, there.2, Contains-filter (λ u. not (u == v)) x.waiters w there.3 (ap not (ne_eqb w v other)));
  marked = λ c among j at.
      let there = is.marked c among j at in
      let f : JobRow → JobRow = λ y. record y { waiters = without_number y.waiters v; keep = y.keep && not ((y.id == n) && (y.root.vpe == v)) } in
      (f there.0, Contains-map f s.jobs there.0 there.1, there.2);
  ids = ids.keeps_left s is.ids n v;
}

call_ended-open : (T : Setup) (p : Option Parked) (v : ℕ) (s : Side) → parked s v ≡ None → IsOpen s → IsOpen (call_ended T p v s)
call_ended-open T None v s none is = is
call_ended-open T (Some (ObtainWait number sel)) v s none is = is
call_ended-open T (Some (ObtainReady key parent object sel)) v s none is = open-send s (owner_of T parent) (Orphan parent key) is
call_ended-open T (Some ObtainCancelled) v s none is = is
call_ended-open T (Some (DelegateWait parent)) v s none is = is
call_ended-open T (Some (DelegateReady parent key)) v s none is = open-send s (owner_of T key) (Ack key false) is
call_ended-open T (Some (RevokeWait j)) v s none is = left-open s j v none is
call_ended-open T (Some (Ready code)) v s none is = is

abbrev revoked_if_there : Setup → ℕ → KeyName → Option Capability → Side → Side
revoked_if_there T i k None s = s
revoked_if_there T i k (Some c) s = option_map_or (λ m. s) c.mark (begin T i k None [] false s)

revoked-open : (T : Setup) (i : ℕ) (k : KeyName) (o : Option Capability) (s : Side) → IsOpen s → IsOpen (revoked_if_there T i k o s)
revoked-open T i k None s is = is
revoked-open T i k (Some c) s is = option-keeps IsOpen (λ (m : ℕ). s) c.mark (begin T i k None [] false s) (λ m some. is)
    (begin-open T i k None [] false s (opened-open s k None [] false is))

ended-open : (T : Setup) (i v : ℕ) (s : Side) → IsOpen s → IsOpen (ended T i v s)
unfolding ended
ended-open T i v s is =
    let asks : List Ask = (row s v).asks in
    let dead : IsOpen (buried v s) = open-row s v (record (row s v) { alive = false; asks = [] }) is in
    let answered : Side = in_turn (ask_ended T i) asks (buried v s) in
    let told : IsOpen answered =
    in_turn-keeps IsOpen (ask_ended T i) (λ a t here. cond_both (is_unawaited T i t a) t (ask_refused T i Dead a t) IsOpen (λ _. here)
    (λ _. open-ask_refused T i Dead a t here)) asks (buried v s) dead in
    let none : parked (unparked v answered) v ≡ None = get_or-put_same None answered.parks v None in
    let left : Side = call_ended T (parked answered v) v (unparked v answered) in
    in_turn-keeps IsOpen (revoked_if_left T i) (λ k t here. revoked-open T i k (cap t k) t here) (keys_of_vpe left v) left
    (call_ended-open T (parked answered v) v (unparked v answered) none (open-unparked answered v told))

-- The rows.
own-among : (s : Side) (v sel : ℕ) (c : Capability) → own s v sel ≡ Some c → Contains s.caps c
own-among s v sel c held = from (slot s v sel) held
  where
    from : (x : Slot) → cap_in s x ≡ Some c → Contains s.caps c
    from Free none = absurd cc
    from Promised none = absurd cc
    from (Held k) some = (found (λ (x : Capability). key_eq x.key k) s.caps c some).0

abbrev OpenStep : Step → Type 0
OpenStep x = IsOpen x.side

call_row-open : (T : Setup) (i v : ℕ) (c : Call) (s : Side) → IsOpen s → IsOpen (call_row T i s v c).side
call_row-open T i v c s is = call_row-by OpenStep T i v s leaves c
  where
    leaves : CallLeaves OpenStep T i v s
    leaves = record {
      answered = λ code. is;
      child = λ src dst object p held. open-installed (linked p.key (next_key T s v (object_kind object)) (drawn v s)) (next_key T s v (object_kind object))
          (Some p.key) dst object (open-linked (drawn v s) p.key (next_key T s v (object_kind object)) (open-drawn s v is));
      ask = λ dst target.
          let place : PlaceName = next_place T s v in
          let w : ℕ = target_vpe target in
          let promising : Side = promised v dst (drawn v s) in
          let waiting : Side = parked_as v (ObtainWait place.number dst) promising in
          let waits : IsOpen waiting = open-parked promising v (ObtainWait place.number dst) (λ j at. absurd cc)
          (open-slot (drawn v s) v dst Promised (open-drawn s v is)) in
          cond_both (kernel_of T w == i) (asked w (ObtainAsk place target) waiting) (send (kernel_of T w) (ObtainReq place target) waiting) IsOpen
          (λ _. open-asked waiting w (ObtainAsk place target) waits) (λ _. open-send waiting (kernel_of T w) (ObtainReq place target) waits);
      offer = λ src w dst p held.
          let waiting : Side = parked_as v (DelegateWait p.key) s in
          let waits : IsOpen waiting = open-parked s v (DelegateWait p.key) (λ j at. absurd cc) is in
          cond_both (kernel_of T w == i) (asked w (DelegateAsk p.key p.object dst) waiting) (send (kernel_of T w) (DelegateReq p.key p.object w dst) waiting)
          IsOpen (λ _. open-asked waiting w (DelegateAsk p.key p.object dst) waits)
          (λ _. open-send waiting (kernel_of T w) (DelegateReq p.key p.object w dst) waits);
      revoke = λ src x held. begun-open T i v x.key x.mark s (λ j at. is.marked x (own-among s v src x held) j at) is;
      clear = λ src x held unmarked. cleared-open T i v x.key s is;
      bound = λ ep src x held. open-endpoint s v ep (Some (record { key = x.key; object = x.object; ring = [] })) is;
      rung = λ ep f. open-endpoint s v ep (option_map {T = Endpoint} (λ x. record x { ring = f x.ring }) (endpoint s v ep)) is;
      ends = ended-open T i v s is;
    }

given_here-open : (k p : KeyName) (object : Object) (state : Option Parked) (s : Side) → IsOpen s → IsOpen (given_here k p object state s)
given_here-open k p object (Some (ObtainWait number sel)) s is = open-ready (installed k (Some p) sel object s) k.vpe (code_number OkCode)
    (open-installed s k (Some p) sel object is)
given_here-open k p object None s is = is
given_here-open k p object (Some (ObtainReady key parent object' sel)) s is = is
given_here-open k p object (Some ObtainCancelled) s is = is
given_here-open k p object (Some (DelegateWait parent)) s is = is
given_here-open k p object (Some (DelegateReady parent key)) s is = is
given_here-open k p object (Some (RevokeWait j)) s is = is
given_here-open k p object (Some (Ready code)) s is = is

decided-open : (T : Setup) (i v : ℕ) (a : Ask) (s : Side) → IsOpen s → IsOpen (ask_decided T i v a s).side
decided-open T i v a s is = decided-by OpenStep (λ w x here. here) (λ w x here. here) (λ w x here. here) T i v a s leaves
  where
    leaves : ConsentLeaves OpenStep T i v a s
    leaves = record {
      nothing = is;
      refused = λ code. open-ask_refused T i code a s is;
      given = λ place target p same.
          let k : KeyName = keyed place (given_kind target p) in
          let object : Object = given target place.vpe p in
          let linking : Side = linked p.key k s in
          let links : IsOpen linking = open-linked s p.key k is in
          cond_both (kernel_of T place.vpe == i) (given_here k p.key object (parked linking place.vpe) linking)
          (send (place_owner T place) (ObtainOk p.key k object) linking) IsOpen
          (λ _. given_here-open k p.key object (parked linking place.vpe) linking links)
          (λ _. open-send linking (place_owner T place) (ObtainOk p.key k object) links);
      here = λ parent object sel same.
          let k : KeyName = next_key T s v parent.kind in
          let linking : Side = linked parent k (drawn v s) in
          open-ready (installed k (Some parent) sel object linking) parent.vpe (code_number OkCode)
          (open-installed linking k (Some parent) sel object (open-linked (drawn v s) parent k (open-drawn s v is)));
      prepared = λ parent object sel same.
          let k : KeyName = next_key T s v parent.kind in
          let p : Pending = record { key = k; parent = parent; object = object; sel = sel } in
          let promising : Side = promised v sel (drawn v s) in
          let promises : IsOpen promising = open-slot (drawn v s) v sel Promised (open-drawn s v is) in
          open-send (pending_added p promising) (owner_of T parent) (DelegatePrepared parent k) (record {
            awaited = promises.awaited;
            marked = promises.marked;
            ids = record { rise = promises.ids.rise; drawn = promises.ids.drawn };
          });
    }

obtain_ready-open : (parent key : KeyName) (object : Object) (state : Option Parked) (s : Side) → IsOpen s → IsOpen (obtain_ready parent key object state s)
obtain_ready-open parent key object (Some (ObtainWait number sel)) s is = open-parked s key.vpe (ObtainReady key parent object sel) (λ j at. absurd cc) is
obtain_ready-open parent key object None s is = is
obtain_ready-open parent key object (Some (ObtainReady key' parent' object' sel)) s is = is
obtain_ready-open parent key object (Some ObtainCancelled) s is = is
obtain_ready-open parent key object (Some (DelegateWait parent')) s is = is
obtain_ready-open parent key object (Some (DelegateReady parent' key')) s is = is
obtain_ready-open parent key object (Some (RevokeWait j)) s is = is
obtain_ready-open parent key object (Some (Ready code)) s is = is

acknowledged-open : (T : Setup) (key : KeyName) (accepted : Bool) (s : Side) (p : Pending) → IsOpen s → IsOpen (acknowledged T key accepted s p)
acknowledged-open T key true s p is =
    let t : Side = pending_removed key s in
    let left : IsOpen t = record { awaited = is.awaited; marked = is.marked; ids = record { rise = is.ids.rise; drawn = is.ids.drawn } } in
    cond_both (is_alive s key.vpe) (installed key (Some p.parent) p.sel p.object t) (send (owner_of T p.parent) (Orphan p.parent key) t) IsOpen
    (λ _. open-installed t key (Some p.parent) p.sel p.object left) (λ _. open-send t (owner_of T p.parent) (Orphan p.parent key) left)
acknowledged-open T key false s p is =
    open-slot (pending_removed key s) key.vpe p.sel Free (record {
      awaited = is.awaited;
      marked = is.marked;
      ids = record { rise = is.ids.rise; drawn = is.ids.drawn };
    })

handled-open : (T : Setup) (i : ℕ) (s : Side) (from : ℕ) (m : Message) → IsOpen s → IsOpen (handled T i s from m)
handled-open T i s from m is = handled-by IsOpen T i s from m leaves
  where
    leaves : HandleLeaves IsOpen T i s from m
    leaves = record {
      same = is;
      asked_obtain = λ place target same. open-asked s (target_vpe target) (ObtainAsk place target) is;
      dead_obtain = λ place target same. open-ask_refused T i Dead (ObtainAsk place target) s is;
      asked_delegate = λ parent object vpe sel same. open-asked s vpe (DelegateAsk parent object sel) is;
      dead_delegate = λ parent object vpe sel same. open-ask_refused T i Dead (DelegateAsk parent object sel) s is;
      given = λ parent key object same. obtain_ready-open parent key object (parked s key.vpe) s is;
      orphaned = λ parent key object same. open-send s (owner_of T parent) (Orphan parent key) is;
      no_obtain = λ place code same. open-refused s code place.vpe is;
      prepared = λ parent key same. open-parked s parent.vpe (DelegateReady parent key) (λ j at. absurd cc) is;
      given_up = λ parent key same. open-send s (owner_of T key) (Ack key false) is;
      no_delegate = λ parent code same. open-refused s code parent.vpe is;
      acked = λ key accepted p same there. acknowledged-open T key accepted s p is;
      unlinks = λ parent key. open-unlinked s parent key is;
      requests = λ key j same. requested-open T i from j key (cap s key) s is;
      dones = λ j same. done-open T i j s is;
    }

resumed-open : (T : Setup) (p : Option Parked) (s : Side) → IsOpen s → IsOpen (resumed T p s).side
resumed-open T (Some (Ready code)) s is = is
resumed-open T (Some (ObtainReady key parent object sel)) s is = open-installed s key (Some parent) sel object is
resumed-open T (Some ObtainCancelled) s is = is
resumed-open T (Some (DelegateReady parent key)) s is = by_cap (cap s parent)
  where
    by_mark : (mark : Option ℕ) → IsOpen (delegate_granted T parent key mark s).side
    by_mark None = open-send (linked parent key s) (owner_of T key) (Ack key true) (open-linked s parent key is)
    by_mark (Some j) = open-send s (owner_of T key) (Ack key false) is

    by_cap : (o : Option Capability) → IsOpen (delegate_resumed T parent key o s).side
    by_cap None = open-send s (owner_of T key) (Ack key false) is
    by_cap (Some c) = by_mark c.mark
resumed-open T None s is = is
resumed-open T (Some (ObtainWait number sel)) s is = is
resumed-open T (Some (DelegateWait parent)) s is = is
resumed-open T (Some (RevokeWait j)) s is = is

open-inbox : (s : Side) (message : Option (ℕ × Message)) → IsOpen s → IsOpen (with_inbox message s)
open-inbox s message is = record { awaited = is.awaited; marked = is.marked; ids = record { rise = is.ids.rise; drawn = is.ids.drawn } }

pub step-open : (T : Setup) (i : ℕ) (s : Side) (a : Act) (input : Option Message) → IsOpen s → IsOpen (local_step T i s a input).side
unfolding local_step upcall_row resume_row
step-open T i s (Calls v) input is = option-keeps OpenStep (call_row T i (call_counted v s) v) (next_call T s v) (unshown s)
    (λ c there. call_row-open T i v c (call_counted v s) (open-row s v (record (row s v) { next_call = (row s v).next_call + 1 }) is)) is
step-open T i s (Fetch from) input is = open-inbox s (option_map (λ m. (from, m)) input) is
step-open T i s Handle input is = option-keeps IsOpen (λ (m : ℕ × Message). handled T i (with_inbox None s) m.0 m.1) s.inbox s
    (λ m there. handled-open T i (with_inbox None s) m.0 m.1 (open-inbox s None is)) is
step-open T i s (Upcall v) input is = option-keeps OpenStep (λ (a : Ask). ask_decided T i v a (ask_taken v s)) (slice_get (row s v).asks 0) (unshown s)
    (λ a there. decided-open T i v a (ask_taken v s) (open-row s v (record (row s v) { asks = drop 1 (row s v).asks }) is)) is
step-open T i s (Resume v) input is = resumed-open T (parked s v) (unparked v s) (open-unparked s v is)
step-open T i s (Flush to) input is = record { awaited = is.awaited; marked = is.marked; ids = record { rise = is.ids.rise; drawn = is.ids.drawn } }
step-open T i s (Kill v) input is = ended-open T i v s is

-- Runs, as in SideLayers.
after-open : (T : Setup) (W : World) (e : Event) → ((i : ℕ) → IsOpen (side W i)) → (i : ℕ) → IsOpen (side (after T W e) i)
unfolding after
after-open T W e each i =
    let x : Step = stepped T W e in
    let V : World = with_side e.kernel x.side W in
    let now : IsOpen x.side = step-open T e.kernel (side W e.kernel) e.act (input_of W e.kernel e.act) (each e.kernel) in
    let here : IsOpen (side V i) = elim (cases_eq i e.kernel) [
      | inl same ↦ subst IsOpen (sym (ap (side V) same ∙ get_or-put_same no_side W.sides e.kernel x.side)) now
      | inr other ↦ subst IsOpen (sym (get_or-put_other no_side W.sides e.kernel i x.side other)) (each i)
    ] in
    subst (λ (sides : List Side). IsOpen (get_or sides i no_side)) (sym (moved-sides e.kernel (side W e.kernel) e.act V)) here

run-open : (T : Setup) (J : List Entry) (W : World) → ((i : ℕ) → IsOpen (side W i)) → (i : ℕ) → IsOpen (side (run T W J) i)
run-open T [] W each i = each i
run-open T (e ∷ es) W each i = run-open T es (after T W e.event) (after-open T W e.event each) i

-- The start: nobody is parked, and nothing is marked.
abbrev Unparked : Side → Type 0
Unparked s = (v : ℕ) → parked s v ≡ None

side-unparked : (T : Setup) (i : ℕ) → Unparked (start_side T i)
unfolding start_side
side-unparked T i = in_turn-keeps Unparked vpe_added (λ d t here. in_turn-keeps Unparked (root_added d) (λ r u is. is) d.roots (vpe_fresh d t) here)
    (own_vpes T i) (empty_side T) (empty VPES)
  where
    empty : (n v : ℕ) → get_or {A = Option Parked} (replicate n None) v None ≡ None
    empty zero v = refl
    empty (suc n) zero = refl
    empty (suc n) (suc v) = empty n v

side-open : (T : Setup) (i : ℕ) → IsOpen (start_side T i)
side-open T i = record {
  awaited = λ v j at. let none = side-unparked T i v in absurd (cc (none, at));
  marked = λ c among j at. let first : IsFirst c = All-contains IsFirst (start_side T i).caps c (first-bare T i) among in let none = first.unmarked in
      absurd (cc (none, at));
  ids = side-ids T i;
}

start-open : (T : Setup) (i : ℕ) → IsOpen (side (start T) i)
unfolding start
start-open T i = from (range_with_len 0 T.kernels) i
  where
    from : (is : List ℕ) (j : ℕ) → IsOpen (get_or (map (start_side T) is) j no_side)
    from [] j = record { awaited = λ v n at. absurd (nobody v n at); marked = λ c among n at. absurd (Contains-nil c among); ids = bare no_side refl }
      where
        nobody : (v n : ℕ) → parked no_side v ≡ Some (RevokeWait n) → ⊥
        nobody v n at = absurd cc
    from (n ∷ ns) zero = side-open T n
    from (n ∷ ns) (suc j) = from ns j

-- Whatever is done, who waits for a job waits for an open one that will wake it, and a mark names an open job.
pub all-open : (T : Setup) (J : List Entry) (i : ℕ) → IsOpen (side (world_after T J) i)
all-open T J i = run-open T J (start T) (start-open T) i

-- a job that is named is there
job-there : (s : Side) (j : ℕ) → HasJob s.jobs j → (x : JobRow) × (job s j ≡ Some x)
job-there s j (y, among, id) = from s.jobs among
  where
    from : (xs : List JobRow) → Contains xs y → (x : JobRow) × (find (λ (z : JobRow). z.id == j) xs ≡ Some x)
    from [] none = absurd (Contains-nil y none)
    from (z ∷ zs) in_zs = elim (cases_Bool (z.id == j)) [
      | inl pass ↦ (z, cond-true (z.id == j) (Some z) (find (λ (w : JobRow). w.id == j) zs) pass)
      | inr fail ↦ elim (Contains-cons_cases z zs y in_zs) [
        | inl same ↦ let at : (z.id == j) ≡ true = eq-eqb z.id j (ap (λ (w : JobRow). w.id) same ∙ id) in absurd (cc (at, fail))
        | inr later ↦ let rest = from zs later in (rest.0, cond-false (z.id == j) (Some z) (find (λ (w : JobRow). w.id == j) zs) fail ∙ rest.1)
      ]
    ]

pub awaited-so : (T : Setup) (J : List Entry) (i v j : ℕ) → parked (side (world_after T J) i) v ≡ Some (RevokeWait j) →
    (x : JobRow) × (job (side (world_after T J) i) j ≡ Some x)
awaited-so T J i v j at = let there = (all-open T J i).awaited v j at in job-there (side (world_after T J) i) j (there.0, there.1, there.2)

pub marks-open : (T : Setup) (J : List Entry) (i : ℕ) (k : KeyName) (c : Capability) (j : ℕ) → cap (side (world_after T J) i) k ≡ Some c → c.mark ≡ Some j →
    (x : JobRow) × (job (side (world_after T J) i) j ≡ Some x)
marks-open T J i k c j held at =
    job-there (side (world_after T J) i) j ((all-open T J i).marked c (found (λ (x : Capability). key_eq x.key k) (side (world_after T J) i).caps c held).0 j
    at)
