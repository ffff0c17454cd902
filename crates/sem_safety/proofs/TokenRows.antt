-- What a step does to the tokens of a place: a token is made only for the number that a VPE draws in it, and a key is granted only for a token or for that
-- number.
use Rattle.std.proofs.Common.{◌≡◌, ℕ, suc, ◌+◌, ◌<◌, ◌≤◌, ◌&&◌, ◌⊎◌, inl, inr, true, false, [], ◌∷◌, ◌++◌, drop, Option, Some, None, slice_get, refl, sym, ap}
use Rattle.std.proofs.Common.{subst, arith}
use Rattle.std.specs.Prelude.{◌==◌, nat_lt, if◌then◌else◌}
use Rattle.std.specs.Option.{option_map_or}
use Rattle.std.proofs.lemmas.Bool.{cases_Bool, cond_both, cond-true, cond-false, lt-ltb, ltb-true, ne_eqb, eqb-true, and_parts}
use Rattle.sem_key.specs.declared.object.Object.{Object}
use Rattle.sem_key.specs.declared.object.Object.TheVariants.{Send}
use Rattle.sem_key.specs.ObjectRanges.{object_kind}
use Rattle.sem_key.specs.KeyName.{KeyName}
use Rattle.sem_key.specs.PlaceName.{PlaceName, keyed}
use Rattle.sem_key.specs.Capability.{Capability}
use Rattle.sem_msg.specs.declared.call.Call.{Call}
use Rattle.sem_msg.specs.declared.call.Call.TheVariants.{Derive, Gate, Obtain, Delegate, OpenSession, AskOffer, Revoke, Bind, Read, Write, Send as SendCall}
use Rattle.sem_msg.specs.declared.call.Call.TheVariants.{Credit, Exit, Clear}
use Rattle.sem_msg.specs.declared.message.Message.{Message}
use Rattle.sem_msg.specs.declared.message.Message.TheVariants.{ObtainReq, ObtainOk, ObtainNo, DelegateReq, DelegatePrepared, DelegateNo, Ack, Orphan, RevokeReq}
use Rattle.sem_msg.specs.declared.message.Message.TheVariants.{RevokeDone, Unlink}
use Rattle.sem_msg.specs.declared.message.Target.{Target}
use Rattle.sem_msg.specs.declared.message.Target.TheVariants.{Sel as SelTarget, Serv as ServTarget, Offer as OfferTarget}
use Rattle.sem_msg.specs.declared.entry.Consent.TheVariants.{No, Dropped}
use Rattle.sem_msg.specs.declared.event.Act.TheVariants.{Call as Calls, Handle, Upcall, Resume, Kill}
use Rattle.sem_msg.specs.declared.setup.Service.{Service}
use Rattle.sem_msg.specs.declared.state.Ask.{Ask}
use Rattle.sem_msg.specs.declared.state.Ask.TheVariants.{Obtain as ObtainAsk, Delegate as DelegateAsk}
use Rattle.sem_msg.specs.declared.state.Parked.{Parked}
use Rattle.sem_msg.specs.declared.state.Parked.TheVariants.{ObtainWait, ObtainReady, ObtainCancelled, DelegateWait, DelegateReady, RevokeWait, Ready}
use Rattle.sem_msg.specs.declared.state.Pending.{Pending}
use Rattle.sem_msg.specs.declared.state.Slot.TheVariants.{Promised}
use Rattle.sem_msg.specs.Rows.{VpeRow, no_vpe}
use Rattle.sem_msg.specs.Setup.{Setup}
use Rattle.sem_msg.specs.Lookups.{kernel_of, owner_of, place_owner, service_named, denies}
use Rattle.sem_msg.specs.declared.code.Code.{Code}
use Rattle.sem_msg.specs.Codes.{code_number}
use Rattle.sem_msg.specs.declared.code.Code.TheVariants.{Ok as OkCode, Dead, NoCap, NoService, BadKind, Refused, Revoking, Gone}
use Rattle.sem_machine.specs.Sides.{Side, row, cap, own, endpoint, parked, is_alive, call_counted, drawn, promised, parked_as, unparked, asked, ask_taken}
use Rattle.sem_machine.specs.Sides.{linked, installed, send, with_inbox, pending_added, with_endpoint}
use Rattle.sem_machine.specs.Steps.{Step, unshown, replied, answer, cutting, asking}
use Rattle.sem_machine.specs.Asks.{target_vpe, asker, is_unawaited, ask_refused}
use Rattle.sem_msg.specs.Uses.{memory_tests, send_tests, credit_tests}
use Rattle.sem_machine.specs.Endpoints.{message_rung, message_credited}
use Rattle.sem_machine.specs.Calls.{own_tests, next_key, next_place, child_made, narrowed, with_held, derive_tests, gate_tests, destination_tests, ask_made}
use Rattle.sem_machine.specs.Calls.{obtain_tests, open_tests, offer_tests, delegate_tests, offer_made, bind_tests, call_row}
use Rattle.sem_machine.specs.Upcalls.{source, source_tests, given, given_kind, given_here, child_given, obtain_consent, parent_tests, delegate_here}
use Rattle.sem_machine.specs.Upcalls.{delegate_prepared, delegate_consent, consented, ask_decided, upcall_row}
use Rattle.sem_machine.specs.Revokes.{clear_begun, revoke_begun}
use Rattle.sem_machine.specs.Ends.{ended}
use Rattle.sem_machine.specs.Handles.{is_stray, handle_row, handled}
use Rattle.sem_machine.specs.Resumes.{ack_sent, delegate_granted, delegate_resumed, resumed, resume_row}
use Rattle.sem_machine.specs.Machine.{next_call, local_step}
use Rattle.sem_key.proofs.Puts.{get_or-put_same}
use Rattle.sem_safety.specs.Onward.{IsOnward}
use Rattle.sem_safety.proofs.Onwards.{Any, AnyPlace, onward-same, onward, drawn-below}
use Rattle.sem_machine.proofs.Folds.{option-keeps}
use Rattle.sem_safety.proofs.KeptRevokes.{installed-in, ready-in, begun-in, cleared-in}
use Rattle.sem_machine.proofs.FirstCodes.{unless-keeps}
use Rattle.sem_safety.proofs.KeptRows.{ask_refused-in, ended-in}
use Rattle.sem_safety.proofs.KeptSteps.{given_here-in, handled-in}
use Rattle.sem_safety.proofs.GoingOn.{AnyVpe}
use Rattle.sem_safety.proofs.Layers.{facts, IsKept}
use Rattle.sem_machine.proofs.Weighing.{of_option}
use Rattle.sem_safety.proofs.Tokens.{at_place, of_key, of_message, of_parked, of_ask, of_inbox, of_side, of_grant, Others, side-parked, side-unparked}
use Rattle.sem_safety.proofs.Tokens.{side-asked, side-taken, side-send, side-inbox, weighed}

module _ (v0 n0 : ℕ) where
  -- one, if the VPE draws that number in the step
  abbrev pub drawing : Side → ℕ → Step → ℕ
  drawing s v x = if nat_lt (row s v).next_number (row x.side v).next_number then at_place v0 n0 v (row s v).next_number else 0

  -- the tokens after the step, with that which is granted, are no more than m and the number that is drawn
  abbrev pub Within : ℕ → Side → ℕ → Step → Type 0
  Within m s v x = of_side v0 n0 x.side + of_grant v0 n0 x.outcome.grant ≤ m + drawing s v x

  -- at most m tokens
  abbrev Few : ℕ → Side → Type 0
  Few m s = of_side v0 n0 s ≤ m

  -- a step that grants nothing
  light : (m : ℕ) (s : Side) (v : ℕ) (x : Step) → Few m x.side → x.outcome.grant ≡ None → Within m s v x
  light m s v x few none = let nothing : of_grant v0 n0 x.outcome.grant ≡ 0 = ap (of_grant v0 n0) none in omega (arith, few, nothing)

  -- a step in which the VPE draws
  heavy : (m : ℕ) (s : Side) (v : ℕ) (x : Step) → of_side v0 n0 x.side + of_grant v0 n0 x.outcome.grant ≤ m + at_place v0 n0 v (row s v).next_number →
      (row s v).next_number < (row x.side v).next_number → Within m s v x
  heavy m s v x few below = let drawn_now : drawing s v x ≡ at_place v0 n0 v (row s v).next_number =
      cond-true (nat_lt (row s v).next_number (row x.side v).next_number) _ _ (lt-ltb (row s v).next_number (row x.side v).next_number below) in
      omega (arith, few, drawn_now)

  -- whatever the VPE draws
  within : (m : ℕ) (s : Side) (v : ℕ) (x : Step) → of_side v0 n0 x.side + of_grant v0 n0 x.outcome.grant ≤ m → Within m s v x
  within m s v x few = omega (arith, few)

  -- Calls.
  module _ (m : ℕ) where
    abbrev L : IsKept (Others v0 n0) (Few m)
    L = weighed v0 n0 m

    child_made-within : (T : Setup) (v dst : ℕ) (object : Object) (parent : KeyName) (s : Side) → Few m s → Within m s v (child_made T v dst object parent s)
    child_made-within T v dst object parent s is =
        let k : KeyName = next_key T s v (object_kind object) in
        let x : Step = child_made T v dst object parent s in
        let few : Few m x.side =
        installed-in (Others v0 n0) (Few m) L (linked parent k (drawn v s)) (L.keeps_linked (drawn v s) (L.keeps_drawn s is v) parent k tt) k
        (Some parent) dst object tt in
        let same : of_grant v0 n0 x.outcome.grant ≡ at_place v0 n0 v (row s v).next_number = refl in
        let O = (onward (drawn v s)).kept in
        heavy m s v x (omega (arith, few, same))
        (drawn-below v s x.side (installed-in (facts Any AnyPlace) (IsOnward (drawn v s)) O (linked parent k (drawn v s))
        (O.keeps_linked (drawn v s) (onward-same (drawn v s)) parent k tt) k (Some parent) dst object tt))

    ask_made-within : (T : Setup) (i v dst : ℕ) (target : Target) (s : Side) → Few m s → Within m s v (ask_made T i v dst target s)
    ask_made-within T i v dst target s is =
        let place : PlaceName = next_place T s v in
        let w : ℕ = target_vpe target in
        let x : Step = ask_made T i v dst target s in
        let waiting : Side = parked_as v (ObtainWait place.number dst) (promised v dst (drawn v s)) in
        let kept : Few m waiting = L.keeps_parked (promised v dst (drawn v s)) (L.keeps_slot (drawn v s) (L.keeps_drawn s is v) v dst Promised tt) v
        (ObtainWait place.number dst) tt in
        let O = (onward (drawn v s)).kept in
        let on : IsOnward (drawn v s) waiting =
        O.keeps_parked (promised v dst (drawn v s)) (O.keeps_slot (drawn v s) (onward-same (drawn v s)) v dst Promised tt) v
        (ObtainWait place.number dst) tt in
        let after : IsOnward (drawn v s) x.side = cond_both (kernel_of T w == i) (asked w (ObtainAsk place target) waiting)
        (send (kernel_of T w) (ObtainReq place target) waiting) (IsOnward (drawn v s)) (λ _. O.keeps_asked waiting on w (ObtainAsk place target) tt)
        (λ _. O.keeps_send waiting on (kernel_of T w) (ObtainReq place target) tt) in
        let few : of_side v0 n0 x.side ≤ m + at_place v0 n0 v (row s v).next_number =
        cond_both (kernel_of T w == i) (asked w (ObtainAsk place target) waiting) (send (kernel_of T w) (ObtainReq place target) waiting)
        (λ t. of_side v0 n0 t ≤ m + at_place v0 n0 v (row s v).next_number)
        (λ _. let more : of_side v0 n0 (asked w (ObtainAsk place target) waiting) ≤ of_side v0 n0 waiting + at_place v0 n0 v (row s v).next_number =
        side-asked v0 n0 waiting w (ObtainAsk place target) in omega (arith, more, kept))
        (λ _. let more : of_side v0 n0 (send (kernel_of T w) (ObtainReq place target) waiting)
        ≡ of_side v0 n0 waiting + at_place v0 n0 v (row s v).next_number = side-send v0 n0 waiting (kernel_of T w) (ObtainReq place target) in
        omega (arith, more, kept)) in
        let none : of_grant v0 n0 x.outcome.grant ≡ 0 = refl in
        heavy m s v x (omega (arith, few, none)) (drawn-below v s x.side after)

    offer_made-within : (T : Setup) (i v w dst : ℕ) (p : Capability) (s : Side) → Few m s → Within m s v (offer_made T i v w dst p s)
    offer_made-within T i v w dst p s is =
        let waiting : Side = parked_as v (DelegateWait p.key) s in
        let kept : Few m waiting = L.keeps_parked s is v (DelegateWait p.key) tt in
        light m s v (offer_made T i v w dst p s) (cond_both (kernel_of T w == i) (asked w (DelegateAsk p.key p.object dst) waiting)
        (send (kernel_of T w) (DelegateReq p.key p.object w dst) waiting) (Few m) (λ _. L.keeps_asked waiting kept w (DelegateAsk p.key p.object dst) tt)
        (λ _. L.keeps_send waiting kept (kernel_of T w) (DelegateReq p.key p.object w dst) tt)) refl

    with_held-within : (o : Option Capability) (f : Capability → Step) (s : Side) (v : ℕ) → Few m s → ((c : Capability) → o ≡ Some c → Within m s v (f c)) →
        Within m s v (with_held o f s)
    with_held-within o f s v is each = option-keeps (Within m s v) f o (answer NoCap s) each (light m s v (answer NoCap s) is refl)

    call_row-within : (T : Setup) (i : ℕ) (s : Side) (v : ℕ) (c : Call) → Few m s → Within m s v (call_row T i s v c)
    unfolding call_row
    call_row-within T i s v (Derive src dst off len rights) is = unless-keeps (Within m s v) (derive_tests s v src dst off len rights) _ _
        (λ code. light m s v (answer code s) is refl)
        (with_held-within (own s v src) _ s v is (λ p held. child_made-within T v dst (narrowed off len rights p.object) p.key s is))
    call_row-within T i s v (Gate src dst label credits) is =
        unless-keeps (Within m s v) (gate_tests s v src dst credits) _ _ (λ code. light m s v (answer code s) is refl)
        (with_held-within (own s v src) _ s v is (λ p held. child_made-within T v dst (Send p.key label credits) p.key s is))
    call_row-within T i s v (Obtain dst w src) is = unless-keeps (Within m s v) (obtain_tests T i s v dst w) _ _ (λ code. light m s v (answer code s) is refl)
        (ask_made-within T i v dst (SelTarget w src) s is)
    call_row-within T i s v (Delegate src w dst) is =
        unless-keeps (Within m s v) (delegate_tests T i s v src w) _ _ (λ code. light m s v (answer code s) is refl)
        (with_held-within (own s v src) _ s v is (λ p held. offer_made-within T i v w dst p s is))
    call_row-within T i s v (OpenSession dst name) is =
        unless-keeps (Within m s v) (open_tests T i s v dst name) _ _ (λ code. light m s v (answer code s) is refl)
        (option-keeps (Within m s v) (λ (x : Service). ask_made T i v dst (ServTarget x.key) s) (service_named T name) (answer NoService s)
        (λ x there. ask_made-within T i v dst (ServTarget x.key) s is) (light m s v (answer NoService s) is refl))
    call_row-within T i s v (AskOffer dst session index) is =
        unless-keeps (Within m s v) (offer_tests T i s v dst session) _ _ (λ code. light m s v (answer code s) is refl)
        (option-keeps (Within m s v) (λ (k : KeyName). ask_made T i v dst (OfferTarget k index) s) _ (answer BadKind s)
        (λ k there. ask_made-within T i v dst (OfferTarget k index) s is) (light m s v (answer BadKind s) is refl))
    call_row-within T i s v (Revoke src) is =
        with_held-within (own s v src) _ s v is (λ c held. light m s v (cutting c.key (unshown (revoke_begun T i v c.key c.mark s)))
        (begun-in (Others v0 n0) (Few m) L T i v c.key c.mark s is tt) refl)
    call_row-within T i s v (Bind ep src) is = unless-keeps (Within m s v) (bind_tests s v src) _ _ (λ code. light m s v (answer code s) is refl)
        (with_held-within (own s v src) _ s v is
        (λ c held. light m s v (answer OkCode (with_endpoint v ep (Some (record { key = c.key; object = c.object; ring = [] })) s)) is refl))
    call_row-within T i s v (Read ep off len) is = unless-keeps (Within m s v) (memory_tests 1 off len (endpoint s v ep)) _ _
        (λ code. light m s v (answer code s) is refl) (light m s v (answer OkCode s) is refl)
    call_row-within T i s v (Write ep off len) is = unless-keeps (Within m s v) (memory_tests 2 off len (endpoint s v ep)) _ _
        (λ code. light m s v (answer code s) is refl) (light m s v (answer OkCode s) is refl)
    call_row-within T i s v (SendCall ep len) is = unless-keeps (Within m s v) (send_tests (endpoint s v ep)) _ _ (λ code. light m s v (answer code s) is refl)
        (light m s v (answer OkCode (message_rung v ep len s)) (L.keeps_rung s is v ep (λ ring. ring ++ len ∷ [])) refl)
    call_row-within T i s v (Credit ep) is = unless-keeps (Within m s v) (credit_tests (endpoint s v ep)) _ _ (λ code. light m s v (answer code s) is refl)
        (light m s v (answer OkCode (message_credited v ep s)) (L.keeps_rung s is v ep (λ ring. drop 1 ring)) refl)
    call_row-within T i s v (Clear src) is = unless-keeps (Within m s v) (own_tests (own s v src)) _ _ (λ code. light m s v (answer code s) is refl)
        (with_held-within (own s v src) _ s v is (λ c held. light m s v (cutting c.key (unshown (clear_begun T i v c.key s)))
        (cleared-in (Others v0 n0) (Few m) L T i v c.key s is tt) refl))
    call_row-within T i s v Exit is = light m s v (answer OkCode (ended T i v s)) (ended-in (Others v0 n0) AnyVpe (Few m) L T i v s is (λ k same. tt) tt) refl

    -- Upcalls, from the side without the ask.
    refused-few : (T : Setup) (i : ℕ) (code : Code) (a : Ask) (s : Side) → Few m s → Few m (ask_refused T i code a s)
    refused-few T i code a s is = ask_refused-in (Others v0 n0) AnyVpe (Few m) L T i code a s is

    delegate_here-within : (T : Setup) (v : ℕ) (parent : KeyName) (object : Object) (sel : ℕ) (s : Side) → Few m s →
        Within m s v (delegate_here T v parent object sel s)
    delegate_here-within T v parent object sel s is =
        let k : KeyName = next_key T s v parent.kind in
        let x : Step = delegate_here T v parent object sel s in
        let linking : Side = linked parent k (drawn v s) in
        let few : Few m x.side = ready-in (Others v0 n0) (Few m) L (installed k (Some parent) sel object linking)
        (installed-in (Others v0 n0) (Few m) L linking (L.keeps_linked (drawn v s) (L.keeps_drawn s is v) parent k tt) k (Some parent) sel object tt)
        (code_number OkCode) parent.vpe in
        let same : of_grant v0 n0 x.outcome.grant ≡ at_place v0 n0 v (row s v).next_number = refl in
        let O = (onward (drawn v s)).kept in
        heavy m s v x (omega (arith, few, same))
        (drawn-below v s x.side (ready-in (facts Any AnyPlace) (IsOnward (drawn v s)) O (installed k (Some parent) sel object linking)
        (installed-in (facts Any AnyPlace) (IsOnward (drawn v s)) O linking (O.keeps_linked (drawn v s) (onward-same (drawn v s)) parent k tt) k
        (Some parent) sel object tt) (code_number OkCode) parent.vpe))

    delegate_prepared-within : (T : Setup) (v : ℕ) (parent : KeyName) (object : Object) (sel : ℕ) (s : Side) → Few m s →
        Within m s v (delegate_prepared T v parent object sel s)
    delegate_prepared-within T v parent object sel s is =
        let k : KeyName = next_key T s v parent.kind in
        let x : Step = delegate_prepared T v parent object sel s in
        let p : Pending = record { key = k; parent = parent; object = object; sel = sel } in
        let promising : Side = promised v sel (drawn v s) in
        let preparing : Side = pending_added p promising in
        let kept : Few m preparing = L.keeps_pending_added promising (L.keeps_slot (drawn v s) (L.keeps_drawn s is v) v sel Promised tt) p tt in
        let O = (onward (drawn v s)).kept in
        let after : IsOnward (drawn v s) x.side =
        O.keeps_send preparing (O.keeps_pending_added promising (O.keeps_slot (drawn v s) (onward-same (drawn v s)) v sel Promised tt) p tt)
        (owner_of T parent) (DelegatePrepared parent k) tt in
        let more : of_side v0 n0 x.side ≡ of_side v0 n0 preparing + at_place v0 n0 v (row s v).next_number =
        side-send v0 n0 preparing (owner_of T parent) (DelegatePrepared parent k) in
        let none : of_grant v0 n0 x.outcome.grant ≡ 0 = refl in
        heavy m s v x (omega (arith, more, kept, none)) (drawn-below v s x.side after)

    delegate_consent-within : (T : Setup) (i v : ℕ) (parent : KeyName) (object : Object) (sel : ℕ) (s : Side) → Few m s →
        Within m s v (delegate_consent T i v parent object sel s)
    delegate_consent-within T i v parent object sel s is =
        cond_both (kernel_of T parent.vpe == i) _ _ (Within m s v)
        (λ _. unless-keeps (Within m s v) (parent_tests (cap s parent) ++ destination_tests s v sel) _ _
        (λ code. light m s v (unshown (ask_refused T i code (DelegateAsk parent object sel) s)) (refused-few T i code (DelegateAsk parent object sel) s is)
        refl) (delegate_here-within T v parent object sel s is))
        (λ _. unless-keeps (Within m s v) (destination_tests s v sel) _ _ (λ code. light m s v (unshown (ask_refused T i code (DelegateAsk parent object sel) s))
        (refused-few T i code (DelegateAsk parent object sel) s is) refl) (delegate_prepared-within T v parent object sel s is))

    -- the child takes the place of its ask
    child_given-within : (T : Setup) (i v : ℕ) (place : PlaceName) (target : Target) (s : Side) (p : Capability) →
        of_side v0 n0 s + at_place v0 n0 place.vpe place.number ≤ m → Within m s v (child_given T i place target s p)
    child_given-within T i v place target s p is =
        let k : KeyName = keyed place (given_kind target p) in
        let object : Object = given target place.vpe p in
        let linking : Side = linked p.key k s in
        let n : ℕ = of_side v0 n0 s in
        let N = weighed v0 n0 n in
        let kept : Few n linking = omega arith in
        let x : Step = child_given T i place target s p in
        let few : Few n x.side = cond_both (kernel_of T place.vpe == i) (given_here k p.key object (parked linking place.vpe) linking)
        (send (place_owner T place) (ObtainOk p.key k object) linking) (Few n)
        (λ _. given_here-in (Others v0 n0) AnyVpe (Few n) N k p.key object (parked linking place.vpe) linking kept tt)
        (λ _. N.keeps_send linking kept (place_owner T place) (ObtainOk p.key k object) tt) in
        let same : of_grant v0 n0 x.outcome.grant ≡ at_place v0 n0 place.vpe place.number = refl in
        within m s v x (omega (arith, few, same, is))

    obtain_consent-within : (T : Setup) (i v : ℕ) (place : PlaceName) (target : Target) (s : Side) →
        of_side v0 n0 s + at_place v0 n0 place.vpe place.number ≤ m → Within m s v (obtain_consent T i v place target s)
    obtain_consent-within T i v place target s is =
        let few : Few m s = omega (arith, is) in
        unless-keeps (Within m s v) (source_tests target (source T s v target)) _ _
        (λ code. light m s v (unshown (ask_refused T i code (ObtainAsk place target) s)) (refused-few T i code (ObtainAsk place target) s few) refl)
        (option-keeps (Within m s v) (child_given T i place target s) (source T s v target) (unshown s)
        (λ p held. child_given-within T i v place target s p is) (light m s v (unshown s) few refl))

    consented-within : (T : Setup) (i v : ℕ) (a : Ask) (s : Side) → of_side v0 n0 s + of_ask v0 n0 a ≤ m → Within m s v (consented T i v a s)
    consented-within T i v (ObtainAsk place target) s is = obtain_consent-within T i v place target s is
    consented-within T i v (DelegateAsk parent object sel) s is = delegate_consent-within T i v parent object sel s (let few : of_side v0 n0 s + 0 ≤ m = is in
        omega (arith, few))

    ask_decided-within : (T : Setup) (i v : ℕ) (a : Ask) (s : Side) → of_side v0 n0 s + of_ask v0 n0 a ≤ m → Within m s v (ask_decided T i v a s)
    ask_decided-within T i v a s is =
        let few : Few m s = omega (arith, is) in
        cond_both (is_unawaited T i s a) _ _ (Within m s v) (λ _. light m s v (asking (asker a) Dropped (unshown s)) few refl)
        (λ _. cond_both (denies T v (asker a)) _ _ (Within m s v) (λ _. light m s v (asking (asker a) No (unshown (ask_refused T i Refused a s)))
        (refused-few T i Refused a s few) refl) (λ _. consented-within T i v a s is))

  -- Messages.
  handled-few : (T : Setup) (i : ℕ) (s : Side) (from : ℕ) (msg : Message) → of_side v0 n0 (handled T i s from msg) ≤ of_side v0 n0 s + of_message v0 n0 msg
  unfolding handle_row
  handled-few T i s from (ObtainReq place target) =
      let m : ℕ = of_side v0 n0 s + at_place v0 n0 place.vpe place.number in
      let same : Few m s = omega arith in
      cond_both (is_stray T i s (ObtainReq place target)) s (handle_row T i s from (ObtainReq place target)) (Few m) (λ _. same)
      (λ _. cond_both (is_alive s (target_vpe target)) (asked (target_vpe target) (ObtainAsk place target) s) (ask_refused T i Dead (ObtainAsk place target) s)
      (Few m) (λ _. side-asked v0 n0 s (target_vpe target) (ObtainAsk place target)) (λ _. refused-few m T i Dead (ObtainAsk place target) s same))
  handled-few T i s from (DelegatePrepared parent key) =
      let m : ℕ = of_side v0 n0 s + of_key v0 n0 key in
      let same : Few m s = omega arith in
      cond_both (is_stray T i s (DelegatePrepared parent key)) s (handle_row T i s from (DelegatePrepared parent key)) (Few m) (λ _. same)
      (λ _. cond_both (is_alive s parent.vpe) (parked_as parent.vpe (DelegateReady parent key) s) (send (owner_of T key) (Ack key false) s) (Few m)
      (λ _. side-parked v0 n0 s parent.vpe (DelegateReady parent key)) (λ _. (weighed v0 n0 m).keeps_send s same (owner_of T key) (Ack key false) tt))
  handled-few T i s from (ObtainOk parent key object) = let few =
      handled-in (Others v0 n0) AnyVpe (Few (of_side v0 n0 s)) (weighed v0 n0 (of_side v0 n0 s)) T i s from (ObtainOk parent key object) (omega arith) tt in
      omega (arith, few)
  handled-few T i s from (ObtainNo place code) = let few = handled-in (Others v0 n0) AnyVpe (Few (of_side v0 n0 s)) (weighed v0 n0 (of_side v0 n0 s)) T i s from
      (ObtainNo place code) (omega arith) tt in omega (arith, few)
  handled-few T i s from (DelegateReq parent object vpe sel) = let few =
      handled-in (Others v0 n0) AnyVpe (Few (of_side v0 n0 s)) (weighed v0 n0 (of_side v0 n0 s)) T i s from (DelegateReq parent object vpe sel)
      (omega arith) tt in omega (arith, few)
  handled-few T i s from (DelegateNo parent code) = let few =
      handled-in (Others v0 n0) AnyVpe (Few (of_side v0 n0 s)) (weighed v0 n0 (of_side v0 n0 s)) T i s from (DelegateNo parent code) (omega arith) tt in
      omega (arith, few)
  handled-few T i s from (Ack key true) = let few = handled-in (Others v0 n0) AnyVpe (Few (of_side v0 n0 s)) (weighed v0 n0 (of_side v0 n0 s)) T i s from
      (Ack key true) (omega arith) tt in omega (arith, few)
  handled-few T i s from (Ack key false) = let few = handled-in (Others v0 n0) AnyVpe (Few (of_side v0 n0 s)) (weighed v0 n0 (of_side v0 n0 s)) T i s from
      (Ack key false) (omega arith) tt in omega (arith, few)
  handled-few T i s from (Orphan parent key) = let few = handled-in (Others v0 n0) AnyVpe (Few (of_side v0 n0 s)) (weighed v0 n0 (of_side v0 n0 s)) T i s from
      (Orphan parent key) (omega arith) tt in omega (arith, few)
  handled-few T i s from (RevokeReq key j) = let few = handled-in (Others v0 n0) AnyVpe (Few (of_side v0 n0 s)) (weighed v0 n0 (of_side v0 n0 s)) T i s from
      (RevokeReq key j) (omega arith) tt in omega (arith, few)
  handled-few T i s from (RevokeDone j) = let few = handled-in (Others v0 n0) AnyVpe (Few (of_side v0 n0 s)) (weighed v0 n0 (of_side v0 n0 s)) T i s from
      (RevokeDone j) (omega arith) tt in omega (arith, few)
  handled-few T i s from (Unlink parent key) = let few = handled-in (Others v0 n0) AnyVpe (Few (of_side v0 n0 s)) (weighed v0 n0 (of_side v0 n0 s)) T i s from
      (Unlink parent key) (omega arith) tt in omega (arith, few)

  -- Parked calls, from the side without the call.
  module _ (m : ℕ) where
    abbrev K : IsKept (Others v0 n0) (Few m)
    K = weighed v0 n0 m

    granted-within : (T : Setup) (parent key : KeyName) (mark : Option ℕ) (s : Side) (v : ℕ) → of_side v0 n0 s + of_key v0 n0 key ≤ m →
        Within m s v (delegate_granted T parent key mark s)
    granted-within T parent key None s v is =
        let x : Step = delegate_granted T parent key None s in
        let sent_so : of_side v0 n0 x.side ≡ of_side v0 n0 s + 0 = side-send v0 n0 (linked parent key s) (owner_of T key) (Ack key true) in
        let same : of_grant v0 n0 x.outcome.grant ≡ of_key v0 n0 key = refl in
        within m s v x (omega (arith, sent_so, same, is))
    granted-within T parent key (Some j) s v is =
        light m s v (answer Revoking (ack_sent T key false s)) (K.keeps_send s (omega (arith, is)) (owner_of T key) (Ack key false) tt) refl

    delegate_resumed-within : (T : Setup) (parent key : KeyName) (o : Option Capability) (s : Side) (v : ℕ) → of_side v0 n0 s + of_key v0 n0 key ≤ m →
        Within m s v (delegate_resumed T parent key o s)
    delegate_resumed-within T parent key None s v is =
        light m s v (answer Gone (ack_sent T key false s)) (K.keeps_send s (omega (arith, is)) (owner_of T key) (Ack key false) tt) refl
    delegate_resumed-within T parent key (Some c) s v is = granted-within T parent key c.mark s v is

    resumed-within : (T : Setup) (p : Option Parked) (s : Side) (v : ℕ) → of_side v0 n0 s + of_parked v0 n0 p ≤ m → Within m s v (resumed T p s)
    resumed-within T (Some (DelegateReady parent key)) s v is = delegate_resumed-within T parent key (cap s parent) s v is
    resumed-within T (Some (Ready number)) s v is = light m s v (replied number s) (let few : of_side v0 n0 s + 0 ≤ m = is in omega (arith, few)) refl
    resumed-within T (Some (ObtainReady key parent object sel)) s v is =
        light m s v (answer OkCode (installed key (Some parent) sel object s)) (installed-in (Others v0 n0) (Few m) K s (let few : of_side v0 n0 s + 0 ≤ m =
        is in omega (arith, few)) key (Some parent) sel object tt) refl
    resumed-within T (Some ObtainCancelled) s v is = light m s v (answer Gone s) (let few : of_side v0 n0 s + 0 ≤ m = is in omega (arith, few)) refl
    resumed-within T None s v is = light m s v (unshown s) (let few : of_side v0 n0 s + 0 ≤ m = is in omega (arith, few)) refl
    resumed-within T (Some (ObtainWait number sel)) s v is = light m s v (unshown s) (let few : of_side v0 n0 s + 0 ≤ m = is in omega (arith, few)) refl
    resumed-within T (Some (DelegateWait parent)) s v is = light m s v (unshown s) (let few : of_side v0 n0 s + 0 ≤ m = is in omega (arith, few)) refl
    resumed-within T (Some (RevokeWait j)) s v is = light m s v (unshown s) (let few : of_side v0 n0 s + 0 ≤ m = is in omega (arith, few)) refl

  -- Steps.

  -- a number is drawn as well from the side in which the VPE has drawn as much
  same-next : (m : ℕ) (s t : Side) (v : ℕ) (x : Step) → (row s v).next_number ≡ (row t v).next_number → Within m t v x → Within m s v x
  same-next m s t v x same few = subst (λ n. of_side v0 n0 x.side + of_grant v0 n0 x.outcome.grant ≤ m + (if nat_lt n (row x.side v).next_number
      then at_place v0 n0 v n else 0)) (sym same) few

  pub call-within : (T : Setup) (i : ℕ) (s : Side) (v : ℕ) (input : Option Message) → Within (of_side v0 n0 s) s v (local_step T i s (Calls v) input)
  unfolding local_step
  call-within T i s v input =
      let m : ℕ = of_side v0 n0 s in
      let counted : Side = call_counted v s in
      let few : Few m counted = (weighed v0 n0 m).keeps_counted s (omega arith) v in
      let same : (row s v).next_number ≡ (row counted v).next_number =
      sym (ap (λ (r : VpeRow). r.next_number) (get_or-put_same no_vpe s.vpes v (record (row s v) { next_call = (row s v).next_call + 1 }))) in
      option-keeps (Within m s v) (call_row T i counted v) (next_call T s v) (unshown s)
      (λ c there. same-next m s counted v (call_row T i counted v c) same (call_row-within m T i counted v c few))
      (light m s v (unshown s) (omega arith) refl)

  pub upcall-within : (T : Setup) (i : ℕ) (s : Side) (v : ℕ) (input : Option Message) → Within (of_side v0 n0 s) s v (local_step T i s (Upcall v) input)
  unfolding local_step upcall_row
  upcall-within T i s v input =
      let m : ℕ = of_side v0 n0 s in
      let left : Side = ask_taken v s in
      let taken = side-taken v0 n0 s v in
      let same : (row s v).next_number ≡ (row left v).next_number =
      sym (ap (λ (r : VpeRow). r.next_number) (get_or-put_same no_vpe s.vpes v (record (row s v) { asks = drop 1 (row s v).asks }))) in
      option-keeps (Within m s v) (λ (a : Ask). ask_decided T i v a left) (slice_get (row s v).asks 0) (unshown s)
      (λ a there. let first : of_option (of_ask v0 n0) (slice_get (row s v).asks 0) ≡ of_ask v0 n0 a = ap (of_option (of_ask v0 n0)) there in
      same-next m s left v (ask_decided T i v a left) same (ask_decided-within m T i v a left (omega (arith, taken, first))))
      (light m s v (unshown s) (omega arith) refl)

  -- where another VPE would draw, nothing is added
  no-slack : (m : ℕ) (s : Side) (x : Step) → Within m s (suc v0) x → of_side v0 n0 x.side + of_grant v0 n0 x.outcome.grant ≤ m
  no-slack m s x few =
      let other : (suc v0 == v0) ≡ false = ne_eqb (suc v0) v0 (λ same. omega (arith, same)) in
      let apart : at_place v0 n0 (suc v0) (row s (suc v0)).next_number ≡ 0 =
      cond-false ((suc v0 == v0) && ((row s (suc v0)).next_number == n0)) 1 0 (ap (λ b. b && ((row s (suc v0)).next_number == n0)) other) in
      let none : drawing s (suc v0) x ≡ 0 = cond_both (nat_lt (row s (suc v0)).next_number (row x.side (suc v0)).next_number) _ _ (λ n. n ≡ 0) (λ _. apart)
      (λ _. refl) in
      omega (arith, few, none)

  pub resume-few : (T : Setup) (i : ℕ) (s : Side) (v : ℕ) (input : Option Message) →
      of_side v0 n0 (local_step T i s (Resume v) input).side + of_grant v0 n0 (local_step T i s (Resume v) input).outcome.grant ≤ of_side v0 n0 s
  unfolding local_step resume_row
  resume-few T i s v input =
      let taken = side-unparked v0 n0 s v in
      no-slack (of_side v0 n0 s) (unparked v s) (resumed T (parked s v) (unparked v s)) (resumed-within (of_side v0 n0 s) T (parked s v) (unparked v s) (suc v0)
      (omega (arith, taken)))

  pub kill-few : (T : Setup) (i : ℕ) (s : Side) (v : ℕ) (input : Option Message) →
      of_side v0 n0 (local_step T i s (Kill v) input).side + of_grant v0 n0 (local_step T i s (Kill v) input).outcome.grant ≤ of_side v0 n0 s
  unfolding local_step
  kill-few T i s v input = let m : ℕ = of_side v0 n0 s in
      let few : of_side v0 n0 (ended T i v s) ≤ m = ended-in (Others v0 n0) AnyVpe (Few m) (weighed v0 n0 m) T i v s (omega arith) (λ k same. tt) tt in
      omega (arith, few)

  pub handle-few : (T : Setup) (i : ℕ) (s : Side) (input : Option Message) →
      of_side v0 n0 (local_step T i s Handle input).side + of_grant v0 n0 (local_step T i s Handle input).outcome.grant ≤ of_side v0 n0 s
  unfolding local_step
  handle-few T i s input = let few = from s.inbox refl in omega (arith, few)
    where
      from : (o : Option (ℕ × Message)) → s.inbox ≡ o → of_side v0 n0 (option_map_or (λ m. handled T i (with_inbox None s) m.0 m.1) o s) ≤ of_side v0 n0 s
      from None none = omega arith
      from (Some m) some =
          let few = handled-few T i (with_inbox None s) m.0 m.1 in
          let out : of_side v0 n0 (with_inbox None s) + of_inbox v0 n0 s.inbox ≡ of_side v0 n0 s + 0 = side-inbox v0 n0 s None in
          let there : of_inbox v0 n0 s.inbox ≡ of_message v0 n0 m.1 = ap (of_inbox v0 n0) some in
          omega (arith, few, out, there)

  -- what a VPE draws: nothing, or just that number
  pub drawing-cases : (s : Side) (v : ℕ) (x : Step) →
      (drawing s v x ≡ 0) ⊎ ((v ≡ v0) × ((row s v).next_number ≡ n0) × ((row s v).next_number < (row x.side v).next_number))
  drawing-cases s v x = elim (cases_Bool (nat_lt (row s v).next_number (row x.side v).next_number)) [
    | inr not_drawn ↦ inl (cond-false (nat_lt (row s v).next_number (row x.side v).next_number) _ _ not_drawn)
    | inl drawn_now ↦ elim (cases_Bool ((v == v0) && ((row s v).next_number == n0))) [
      | inl here ↦ let parts = and_parts (v == v0) ((row s v).next_number == n0) here in
          inr (eqb-true v v0 parts.0, eqb-true (row s v).next_number n0 parts.1, ltb-true (row s v).next_number (row x.side v).next_number drawn_now)
      | inr other ↦ inl (cond_both (nat_lt (row s v).next_number (row x.side v).next_number) _ _ (λ n. n ≡ 0)
          (λ _. cond-false ((v == v0) && ((row s v).next_number == n0)) 1 0 other) (λ _. refl))
    ]
  ]

  pub drawing-one : (s : Side) (v : ℕ) (x : Step) → drawing s v x ≤ 1
  drawing-one s v x = cond_both (nat_lt (row s v).next_number (row x.side v).next_number) _ _ (λ n. n ≤ 1)
      (λ _. cond_both ((v == v0) && ((row s v).next_number == n0)) 1 0 (λ n. n ≤ 1) (λ _. omega arith) (λ _. omega arith)) (λ _. omega arith)
