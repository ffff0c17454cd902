-- The dead are asked nothing: an ask comes to a VPE only while it lives, and its end answers all that wait.
use Rattle.std.proofs.Common.{◌≡◌, ℕ, ◌+◌, Bool, true, false, not, ◌&&◌, List, [], ◌∷◌, ◌++◌, drop, Option, Some, None, slice_get, get_or, length, refl, sym}
use Rattle.std.proofs.Common.{ap, ◌∙◌, inl, inr}
use Rattle.std.specs.Prelude.{◌==◌, nat_lt, if◌then◌else◌}
use Rattle.std.specs.Option.{option_and_then}
use Rattle.std.proofs.lemmas.Bool.{cases_eq, cond_both, true≢false}
use Rattle.sem_key.specs.declared.object.Object.{Object}
use Rattle.sem_key.specs.declared.object.Object.TheVariants.{Mem, Recv, Send as SendObject, Serv, Sess}
use Rattle.sem_key.specs.KeyName.{KeyName}
use Rattle.sem_key.specs.PlaceName.{PlaceName, keyed}
use Rattle.sem_key.specs.Lists.{in_turn, put}
use Rattle.sem_key.specs.Capability.{Capability}
use Rattle.sem_key.proofs.Puts.{get_or-put_same, get_or-put_other}
use Rattle.sem_msg.specs.declared.call.Call.{Call}
use Rattle.sem_msg.specs.declared.call.Call.TheVariants.{Derive, Gate, Obtain, Delegate, OpenSession, AskOffer, Revoke, Bind, Read, Write, Send as SendCall}
use Rattle.sem_msg.specs.declared.call.Call.TheVariants.{Credit, Exit, Clear}
use Rattle.sem_msg.specs.declared.code.Code.{Code}
use Rattle.sem_msg.specs.declared.code.Code.TheVariants.{Dead, NoService, BadKind, NoCap}
use Rattle.sem_msg.specs.declared.message.Message.{Message}
use Rattle.sem_msg.specs.declared.message.Message.TheVariants.{ObtainReq, ObtainOk, ObtainNo, DelegateReq, DelegatePrepared, DelegateNo, Ack, Orphan, RevokeReq}
use Rattle.sem_msg.specs.declared.message.Message.TheVariants.{RevokeDone, Unlink}
use Rattle.sem_msg.specs.declared.message.Target.{Target}
use Rattle.sem_msg.specs.declared.message.Target.TheVariants.{Sel as SelTarget, Serv as ServTarget, Offer as OfferTarget}
use Rattle.sem_msg.specs.declared.limits.TheConstants.{ASKS}
use Rattle.sem_msg.specs.declared.setup.Service.{Service}
use Rattle.sem_msg.specs.declared.setup.VpeDecl.{VpeDecl}
use Rattle.sem_msg.specs.declared.state.Ask.{Ask}
use Rattle.sem_msg.specs.declared.state.Ask.TheVariants.{Obtain as ObtainAsk, Delegate as DelegateAsk}
use Rattle.sem_msg.specs.declared.state.Parked.{Parked}
use Rattle.sem_msg.specs.declared.state.Parked.TheVariants.{ObtainWait, ObtainReady, ObtainCancelled, DelegateWait, DelegateReady, RevokeWait, Ready}
use Rattle.sem_msg.specs.declared.state.Pending.{Pending}
use Rattle.sem_msg.specs.declared.state.Slot.{Slot}
use Rattle.sem_msg.specs.declared.state.Slot.TheVariants.{Free, Held as HeldSlot, Promised}
use Rattle.sem_msg.specs.Rows.{VpeRow, no_vpe}
use Rattle.sem_msg.specs.VpeRows.{new_vpe, root_held}
use Rattle.sem_msg.specs.Setup.{Setup}
use Rattle.sem_msg.specs.Lookups.{kernel_of, service_named}
use Rattle.sem_msg.specs.Uses.{memory_tests, send_tests, credit_tests}
use Rattle.sem_machine.specs.Sides.{Side, row, cap, own, parked, pending, is_alive, call_counted, drawn, promised, parked_as, unparked, asked, ask_taken}
use Rattle.sem_machine.specs.Sides.{buried, linked, installed, with_slot, send, endpoint, pending_removed}
use Rattle.sem_machine.specs.Steps.{Step, unshown, answer}
use Rattle.sem_machine.specs.Asks.{target_vpe, asker, is_unawaited, promise_freed, ask_refused, refusal_sent}
use Rattle.sem_machine.specs.Calls.{next_place, next_key, child_made, narrowed, session_service, own_tests, derive_tests, gate_tests, ask_made, is_local_dead}
use Rattle.sem_machine.specs.Calls.{is_service_dead, object_passes, service_passes, obtain_tests, open_tests, offer_tests, offer_made, delegate_tests}
use Rattle.sem_machine.specs.Calls.{bind_tests, call_row}
use Rattle.sem_machine.specs.Upcalls.{given, given_kind, given_here, ask_decided, upcall_row}
use Rattle.sem_machine.specs.Handles.{is_stray, obtain_ready, acknowledged, handle_row, handled}
use Rattle.sem_machine.specs.Resumes.{delegate_granted, delegate_resumed, resumed, resume_row}
use Rattle.sem_machine.specs.Ends.{ask_ended, call_ended, keys_of_vpe, revoked_if_left, ended}
use Rattle.sem_machine.specs.Machine.{vpe_added, root_added, vpe_fresh}
use Rattle.sem_machine.proofs.Folds.{in_turn-keeps, option-keeps}
use Rattle.sem_machine.proofs.FirstCodes.{unless-keeps, unless-passed}
use Rattle.sem_safety.proofs.Skeleton.{decided-by}
use Rattle.sem_revoke.proofs.Steady.{IsSteady, rest-steady, revoked-steady, cleared-steady, requested-steady, done-steady, left_job-steady}
use Rattle.sem_key.specs.ObjectRanges.{object_kind}
use Rattle.std.proofs.lemmas.Option.{same_Some}

-- the dead of a side are asked nothing
abbrev pub Unasked : Side → Type 0
Unasked t = (u : ℕ) → (row t u).alive ≡ false → (row t u).asks ≡ []

row-kept : (t : Side) (v : ℕ) (r : VpeRow) → (r.alive ≡ false → r.asks ≡ []) → Unasked t → Unasked (record t { vpes = put no_vpe t.vpes v r })
row-kept t v r ok is u dead = elim (cases_eq u v) [
  | inl here ↦
      let new : get_or (put no_vpe t.vpes v r) u no_vpe ≡ r = ap (λ n. get_or (put no_vpe t.vpes v r) n no_vpe) here ∙ get_or-put_same no_vpe t.vpes v r in
      ap (λ (y : VpeRow). y.asks) new ∙ ok (sym (ap (λ (y : VpeRow). y.alive) new) ∙ dead)
  | inr other ↦
      let old = get_or-put_other no_vpe t.vpes v u r other in
      ap (λ (y : VpeRow). y.asks) old ∙ is u (sym (ap (λ (y : VpeRow). y.alive) old) ∙ dead)
]

alive-kept : (t : Side) (v : ℕ) (r : VpeRow) → r.alive ≡ (row t v).alive → (u : ℕ) → (row (record t { vpes = put no_vpe t.vpes v r }) u).alive ≡ (row t u).alive
alive-kept t v r same u = elim (cases_eq u v) [
  | inl here ↦ ap (λ (y : VpeRow). y.alive) (ap (λ n. get_or (put no_vpe t.vpes v r) n no_vpe) here ∙ get_or-put_same no_vpe t.vpes v r)
      ∙ (same ∙ ap (λ n. (row t n).alive) (sym here))
  | inr other ↦ ap (λ (y : VpeRow). y.alive) (get_or-put_other no_vpe t.vpes v u r other)
]

-- a selector changes, or a number is drawn
slot-kept : (t : Side) (v sel : ℕ) (x : Slot) → Unasked t → Unasked (with_slot v sel x t)
slot-kept t v sel x is = row-kept t v (record (row t v) { slots = put Free (row t v).slots sel x }) (is v) is

drawn-kept : (t : Side) (v : ℕ) → Unasked t → Unasked (drawn v t)
drawn-kept t v is = row-kept t v (record (row t v) { next_number = (row t v).next_number + 1 }) (is v) is

pub counted-kept : (t : Side) (v : ℕ) → Unasked t → Unasked (call_counted v t)
counted-kept t v is = row-kept t v (record (row t v) { next_call = (row t v).next_call + 1 }) (is v) is

-- who is asked lives
asked-kept : (t : Side) (v : ℕ) (a : Ask) → (row t v).alive ≡ true → Unasked t → Unasked (asked v a t)
asked-kept t v a lives is = row-kept t v (record (row t v) { asks = if nat_lt (length (row t v).asks) ASKS then (row t v).asks ++ a ∷ [] else (row t v).asks })
    (λ dead. absurd (true≢false (sym lives ∙ dead))) is

taken-kept : (t : Side) (v : ℕ) → Unasked t → Unasked (ask_taken v t)
taken-kept t v is = row-kept t v (record (row t v) { asks = drop 1 (row t v).asks }) (λ dead. ap (drop 1) (is v dead)) is

buried-kept : (t : Side) (v : ℕ) → Unasked t → Unasked (buried v t)
buried-kept t v is = row-kept t v (record (row t v) { alive = false; asks = [] }) (λ dead. refl) is

installed-kept : (t : Side) (k : KeyName) (parent : Option KeyName) (sel : ℕ) (object : Object) → Unasked t → Unasked (installed k parent sel object t)
installed-kept t k parent sel object is = slot-kept (record t { caps = (installed k parent sel object t).caps }) k.vpe sel (HeldSlot k) is

steady : IsSteady Unasked
steady = record {
  caps = λ t cs thin is. is;
  restores = λ u t x was among keeps is. is;
  bound = λ t es is. is;
  jobs = λ t js less is. is;
  opens = λ t root up ws is. is;
  frees = λ t v sel is. slot-kept t v sel Free is;
  wakes = λ t v is. is;
  sends = λ t j m loud is. is;
}

freed-kept : (p : Option Parked) (v : ℕ) (t : Side) → Unasked t → Unasked (promise_freed p v t)
freed-kept None v t is = is
freed-kept (Some (ObtainWait number sel)) v t is = slot-kept t v sel Free is
freed-kept (Some (ObtainReady key parent object sel)) v t is = is
freed-kept (Some ObtainCancelled) v t is = is
freed-kept (Some (DelegateWait parent)) v t is = is
freed-kept (Some (DelegateReady parent key)) v t is = is
freed-kept (Some (RevokeWait j)) v t is = is
freed-kept (Some (Ready number)) v t is = is

refused-kept : (T : Setup) (i : ℕ) (code : Code) (a : Ask) (t : Side) → Unasked t → Unasked (ask_refused T i code a t)
refused-kept T i code a t is = cond_both (kernel_of T (asker a) == i) _ _ Unasked (λ _. freed-kept (parked t (asker a)) (asker a) t is) (λ _. sends a)
  where
    sends : (b : Ask) → Unasked (refusal_sent T code b t)
    sends (ObtainAsk place target) = is
    sends (DelegateAsk parent object sel) = is

-- who is of this kernel, and not dead, lives
lives-so : (here alive : Bool) → (here && not alive) ≡ false → here ≡ true → alive ≡ true
lives-so true true none here = refl
lives-so true false none here = absurd cc
lives-so false alive none here = absurd cc

module _ (T : Setup) (i : ℕ) where
  abbrev Q : Step → Type 0
  Q x = Unasked x.side

  -- The end of a VPE.
  pub ended-unasked : (v : ℕ) (s : Side) → Unasked s → Unasked (ended T i v s)
  unfolding ended
  ended-unasked v s is =
      let asks : List Ask = (row s v).asks in
      let answered : Side = in_turn (ask_ended T i) asks (buried v s) in
      let told : Unasked answered =
      in_turn-keeps Unasked (ask_ended T i) (λ a t here. cond_both (is_unawaited T i t a) t (ask_refused T i Dead a t) Unasked (λ _. here)
      (λ _. refused-kept T i Dead a t here)) asks (buried v s) (buried-kept s v is) in
      let last : Side = call_ended T (parked answered v) v (unparked v answered) in
      in_turn-keeps Unasked (revoked_if_left T i) (λ k t here. rest-steady Unasked steady T i k t here) (keys_of_vpe last v) last
      (owes (parked answered v) (unparked v answered) told)
    where
      owes : (p : Option Parked) (t : Side) → Unasked t → Unasked (call_ended T p v t)
      owes None t here = here
      owes (Some (ObtainWait number sel)) t here = here
      owes (Some (ObtainReady key parent object sel)) t here = here
      owes (Some ObtainCancelled) t here = here
      owes (Some (DelegateWait parent)) t here = here
      owes (Some (DelegateReady parent key)) t here = here
      owes (Some (RevokeWait j)) t here = left_job-steady Unasked steady j v t here
      owes (Some (Ready code)) t here = here

  -- Calls.
  module _ (v : ℕ) (s : Side) (is : Unasked s) where
    ask-unasked : (dst : ℕ) (target : Target) → is_local_dead T i s (target_vpe target) ≡ false → Unasked (ask_made T i v dst target s).side
    ask-unasked dst target lives =
        let place : PlaceName = next_place T s v in
        let w : ℕ = target_vpe target in
        let waiting : Side = parked_as v (ObtainWait place.number dst) (promised v dst (drawn v s)) in
        let same : (row waiting w).alive ≡ (row s w).alive =
        alive-kept (drawn v s) v (record (row (drawn v s) v) { slots = put Free (row (drawn v s) v).slots dst Promised }) refl w
        ∙ alive-kept s v (record (row s v) { next_number = (row s v).next_number + 1 }) refl w in
        let kept : Unasked waiting = slot-kept (drawn v s) v dst Promised (drawn-kept s v is) in
        cond_both (kernel_of T w == i) (asked w (ObtainAsk place target) waiting) (send (kernel_of T w) (ObtainReq place target) waiting) Unasked
        (λ here. asked-kept waiting w (ObtainAsk place target) (same ∙ lives-so (kernel_of T w == i) (is_alive s w) lives here) kept)
        (λ _. kept)

    offer-unasked : (w dst : ℕ) (p : Capability) → is_local_dead T i s w ≡ false → Unasked (offer_made T i v w dst p s).side
    offer-unasked w dst p lives =
        let waiting : Side = parked_as v (DelegateWait p.key) s in
        cond_both (kernel_of T w == i) (asked w (DelegateAsk p.key p.object dst) waiting) (send (kernel_of T w) (DelegateReq p.key p.object w dst) waiting)
        Unasked
        (λ here. asked-kept waiting w (DelegateAsk p.key p.object dst) (lives-so (kernel_of T w == i) (is_alive s w) lives here) is)
        (λ _. is)

    child-unasked : (dst : ℕ) (object : Object) (p : KeyName) → Unasked (child_made T v dst object p s).side
    child-unasked dst object p = let k : KeyName = next_key T s v (object_kind object) in
        installed-kept (linked p k (drawn v s)) k (Some p) dst object (drawn-kept s v is)

    -- the service of a session lives
    session-lives : (o : Option Capability) → object_passes (is_service_dead T i s) o ≡ false → (k : KeyName) →
        option_and_then (λ (c : Capability). session_service c.object) o ≡ Some k → is_local_dead T i s k.vpe ≡ false
    session-lives None none k is' = absurd cc
    session-lives (Some c) none k is' = of c.object none is'
      where
        of : (o : Object) → is_service_dead T i s o ≡ false → session_service o ≡ Some k → is_local_dead T i s k.vpe ≡ false
        of (Mem base len rights) none is' = absurd cc
        of (Recv slots) none is' = absurd cc
        of (SendObject gate label credits) none is' = absurd cc
        of (Serv name) none is' = absurd cc
        of (Sess service ident) none is' = ap (λ (q : KeyName). is_local_dead T i s q.vpe) (sym (same_Some service k is')) ∙ none

    pub call-unasked : (c : Call) → Unasked (call_row T i s v c).side
    unfolding call_row
    call-unasked (Derive src dst off len rights) = unless-keeps Q (derive_tests s v src dst off len rights) _ _ (λ code. is)
        (option-keeps Q (λ (p : Capability). child_made T v dst (narrowed off len rights p.object) p.key s) (own s v src) (answer NoCap s)
        (λ p held. child-unasked dst (narrowed off len rights p.object) p.key) is)
    call-unasked (Gate src dst label credits) =
        unless-keeps Q (gate_tests s v src dst credits) _ _ (λ code. is)
        (option-keeps Q (λ (p : Capability). child_made T v dst (SendObject p.key label credits) p.key s) (own s v src) (answer NoCap s)
        (λ p held. child-unasked dst (SendObject p.key label credits) p.key) is)
    call-unasked (Obtain dst w src) = unless-passed Q (obtain_tests T i s v dst w) _ _ (λ code. is) (λ passed. ask-unasked dst (SelTarget w src) passed.1.1.0)
    call-unasked (Delegate src w dst) =
        unless-passed Q (delegate_tests T i s v src w) _ _ (λ code. is) (λ passed. option-keeps Q (λ (p : Capability). offer_made T i v w dst p s) (own s v src)
        (answer NoCap s) (λ p held. offer-unasked w dst p passed.1.1.1.1.1.0) is)
    call-unasked (OpenSession dst name) =
        unless-passed Q (open_tests T i s v dst name) _ _ (λ code. is) (λ passed. option-keeps Q (λ (x : Service). ask_made T i v dst (ServTarget x.key) s)
        (service_named T name) (answer NoService s)
        (λ x there. ask-unasked dst (ServTarget x.key) (sym (ap (service_passes (is_local_dead T i s)) there) ∙ passed.1.1.0)) is)
    call-unasked (AskOffer dst session index) =
        unless-passed Q (offer_tests T i s v dst session) _ _ (λ code. is)
        (λ passed. option-keeps Q (λ (k : KeyName). ask_made T i v dst (OfferTarget k index) s)
        (option_and_then (λ (c : Capability). session_service c.object) (own s v session)) (answer BadKind s)
        (λ k there. ask-unasked dst (OfferTarget k index) (session-lives (own s v session) passed.1.1.1.0 k there)) is)
    call-unasked (Revoke src) = option-keeps Q _ (own s v src) (answer NoCap s) (λ c held. revoked-steady Unasked steady T i v c.key c.mark s (λ j. is)) is
    call-unasked (Bind ep src) = unless-keeps Q (bind_tests s v src) _ _ (λ code. is) (option-keeps Q _ (own s v src) (answer NoCap s) (λ c held. is) is)
    call-unasked (Read ep off len) = unless-keeps Q (memory_tests 1 off len (endpoint s v ep)) _ _ (λ code. is) is
    call-unasked (Write ep off len) = unless-keeps Q (memory_tests 2 off len (endpoint s v ep)) _ _ (λ code. is) is
    call-unasked (SendCall ep len) = unless-keeps Q (send_tests (endpoint s v ep)) _ _ (λ code. is) is
    call-unasked (Credit ep) = unless-keeps Q (credit_tests (endpoint s v ep)) _ _ (λ code. is) is
    call-unasked Exit = ended-unasked v s is
    call-unasked (Clear src) =
        unless-keeps Q (own_tests (own s v src)) _ _ (λ code. is)
        (option-keeps Q _ (own s v src) (answer NoCap s) (λ c held. cleared-steady Unasked steady T i v c.key s is) is)

  -- Upcalls.
  given-unasked : (k p : KeyName) (object : Object) (q : Option Parked) (t : Side) → Unasked t → Unasked (given_here k p object q t)
  given-unasked k p object None t is = is
  given-unasked k p object (Some (ObtainWait number sel)) t is = installed-kept t k (Some p) sel object is
  given-unasked k p object (Some (ObtainReady key parent object' sel)) t is = is
  given-unasked k p object (Some ObtainCancelled) t is = is
  given-unasked k p object (Some (DelegateWait parent)) t is = is
  given-unasked k p object (Some (DelegateReady parent key)) t is = is
  given-unasked k p object (Some (RevokeWait j)) t is = is
  given-unasked k p object (Some (Ready code)) t is = is

  decided-unasked : (v : ℕ) (a : Ask) (s : Side) → Unasked s → Unasked (ask_decided T i v a s).side
  decided-unasked v a s is = decided-by Q (λ n x here. here) (λ n x here. here) (λ n x here. here) T i v a s (record {
    nothing = is;
    refused = λ code. refused-kept T i code a s is;
    given = λ place target p of.
        let k : KeyName = keyed place (given_kind target p) in
        let object : Object = given target place.vpe p in
        let linking : Side = linked p.key k s in
        cond_both (kernel_of T place.vpe == i) (given_here k p.key object (parked linking place.vpe) linking) _ Unasked
        (λ _. given-unasked k p.key object (parked linking place.vpe) linking is) (λ _. is);
    here = λ parent object sel of. let k : KeyName = next_key T s v parent.kind in
        installed-kept (linked parent k (drawn v s)) k (Some parent) sel object (drawn-kept s v is);
    prepared = λ parent object sel of. slot-kept (drawn v s) v sel Promised (drawn-kept s v is);
  })

  pub upcall-unasked : (v : ℕ) (s : Side) → Unasked s → Unasked (upcall_row T i s v).side
  unfolding upcall_row
  upcall-unasked v s is = option-keeps Q (λ (a : Ask). ask_decided T i v a (ask_taken v s)) (slice_get (row s v).asks 0) (unshown s)
      (λ a there. decided-unasked v a (ask_taken v s) (taken-kept s v is)) is

  -- Parked calls that go on.
  pub resume-unasked : (v : ℕ) (s : Side) → Unasked s → Unasked (resume_row T s v).side
  unfolding resume_row
  resume-unasked v s is = by (parked s v)
    where
      granted : (parent key : KeyName) (m : Option ℕ) → Unasked (delegate_granted T parent key m (unparked v s)).side
      granted parent key None = is
      granted parent key (Some j) = is

      answered : (parent key : KeyName) (o : Option Capability) → Unasked (delegate_resumed T parent key o (unparked v s)).side
      answered parent key None = is
      answered parent key (Some c) = granted parent key c.mark

      by : (p : Option Parked) → Unasked (resumed T p (unparked v s)).side
      by None = is
      by (Some (ObtainWait number sel)) = is
      by (Some (ObtainReady key parent object sel)) = installed-kept (unparked v s) key (Some parent) sel object is
      by (Some ObtainCancelled) = is
      by (Some (DelegateWait parent)) = is
      by (Some (DelegateReady parent key)) = answered parent key (cap (unparked v s) parent)
      by (Some (RevokeWait j)) = is
      by (Some (Ready code)) = is

  -- Messages.
  ready-unasked : (parent key : KeyName) (object : Object) (p : Option Parked) (s : Side) → Unasked s → Unasked (obtain_ready parent key object p s)
  ready-unasked parent key object None s is = is
  ready-unasked parent key object (Some (ObtainWait number sel)) s is = is
  ready-unasked parent key object (Some (ObtainReady key' parent' object' sel)) s is = is
  ready-unasked parent key object (Some ObtainCancelled) s is = is
  ready-unasked parent key object (Some (DelegateWait parent')) s is = is
  ready-unasked parent key object (Some (DelegateReady parent' key')) s is = is
  ready-unasked parent key object (Some (RevokeWait j)) s is = is
  ready-unasked parent key object (Some (Ready code)) s is = is

  handle-unasked : (s : Side) (from : ℕ) (m : Message) → Unasked s → Unasked (handle_row T i s from m)
  unfolding handle_row
  handle-unasked s from (ObtainReq place target) is =
      cond_both (is_alive s (target_vpe target)) _ _ Unasked (λ lives. asked-kept s (target_vpe target) (ObtainAsk place target) lives is)
      (λ _. refused-kept T i Dead (ObtainAsk place target) s is)
  handle-unasked s from (ObtainOk parent key object) is =
      cond_both (is_alive s key.vpe) _ _ Unasked (λ _. ready-unasked parent key object (parked s key.vpe) s is) (λ _. is)
  handle-unasked s from (ObtainNo place code) is = cond_both (is_alive s place.vpe) _ _ Unasked (λ _. freed-kept (parked s place.vpe) place.vpe s is) (λ _. is)
  handle-unasked s from (DelegateReq parent object vpe sel) is =
      cond_both (is_alive s vpe) _ _ Unasked (λ lives. asked-kept s vpe (DelegateAsk parent object sel) lives is)
      (λ _. refused-kept T i Dead (DelegateAsk parent object sel) s is)
  handle-unasked s from (DelegatePrepared parent key) is = cond_both (is_alive s parent.vpe) _ _ Unasked (λ _. is) (λ _. is)
  handle-unasked s from (DelegateNo parent code) is = cond_both (is_alive s parent.vpe) _ _ Unasked (λ _. freed-kept (parked s parent.vpe) parent.vpe s is)
      (λ _. is)
  handle-unasked s from (Ack key accepted) is = option-keeps Unasked (acknowledged T key accepted s) (pending s key) s (λ p there. acks accepted p) is
    where
      acks : (b : Bool) (p : Pending) → Unasked (acknowledged T key b s p)
      acks true p = cond_both (is_alive s key.vpe) _ _ Unasked (λ _. installed-kept (pending_removed key s) key (Some p.parent) p.sel p.object is) (λ _. is)
      acks false p = slot-kept (pending_removed key s) key.vpe p.sel Free is
  handle-unasked s from (Orphan parent key) is = is
  handle-unasked s from (RevokeReq key j) is = requested-steady Unasked steady T i from j key (cap s key) s (λ u ready' same here. here) is
  handle-unasked s from (RevokeDone j) is = done-steady Unasked steady T i j s is
  handle-unasked s from (Unlink parent key) is = is

  pub handled-unasked : (s : Side) (from : ℕ) (m : Message) → Unasked s → Unasked (handled T i s from m)
  handled-unasked s from m is = cond_both (is_stray T i s m) s (handle_row T i s from m) Unasked (λ _. is) (λ _. handle-unasked s from m is)

-- A side at the start.
pub vpe-unasked : (d : VpeDecl) (s : Side) → Unasked s → Unasked (vpe_added d s)
vpe-unasked d s is = in_turn-keeps Unasked (root_added d) (λ r t here. row-kept t d.vpe (root_held d r (row t d.vpe)) (here d.vpe) here) d.roots (vpe_fresh d s)
    (row-kept s d.vpe new_vpe (λ dead. absurd cc) is)
