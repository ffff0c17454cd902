-- Calls and the ends of VPEs keep that a side speaks of what a text can speak of, and show no more.
use Rattle.std.proofs.Common.{◌≡◌, ℕ, ◌<◌, false, List, [], Option, Some, None, refl, subst, arith}
use Rattle.std.specs.Prelude.{◌==◌, if◌then◌else◌}
use Rattle.std.specs.List.{Contains}
use Rattle.std.specs.Option.{option_and_then, option_map_or}
use Rattle.std.proofs.lemmas.Bool.{cond_both, leb-false}
use Rattle.std.proofs.lemmas.List.Elements.{All-contains}
use Rattle.std.proofs.lemmas.Option.{same_Some, some_pair_parts}
use Rattle.sem_key.specs.declared.limits.TheConstants.{NUMBERS}
use Rattle.sem_key.specs.declared.object.Object.{Object}
use Rattle.sem_key.specs.declared.object.Object.TheVariants.{Mem, Recv, Send, Serv, Sess}
use Rattle.sem_key.specs.ObjectRanges.{object_kind}
use Rattle.sem_key.specs.KeyName.{KeyName, key_eq}
use Rattle.sem_key.specs.PlaceName.{PlaceName}
use Rattle.sem_key.specs.Lists.{in_turn}
use Rattle.sem_key.specs.Capability.{Capability}
use Rattle.sem_key.proofs.Members.{found}
use Rattle.sem_key.proofs.KeyTests.{key_eq-true}
use Rattle.sem_msg.specs.Calls.{IsValidCall}
use Rattle.sem_msg.specs.Versions.{most_vpes}
use Rattle.sem_msg.specs.declared.call.Call.{Call}
use Rattle.sem_msg.specs.declared.call.Call.TheVariants.{Derive, Gate, Obtain, Delegate, OpenSession, AskOffer, Revoke, Bind, Read, Write, Send as SendCall}
use Rattle.sem_msg.specs.declared.call.Call.TheVariants.{Credit, Exit, Clear}
use Rattle.sem_msg.specs.declared.code.Code.{Code}
use Rattle.sem_msg.specs.declared.code.Code.TheVariants.{Ok as OkCode, NoVpe, Dead, NoCap, Revoking, Refused, Occupied, Numbers, BadKind, Wider, NoService}
use Rattle.sem_msg.specs.declared.code.Code.TheVariants.{Gone, Unbound, Rights, Range, SelfExchange}
use Rattle.sem_msg.specs.declared.entry.Outcome.{Outcome}
use Rattle.sem_msg.specs.declared.message.Target.{Target}
use Rattle.sem_msg.specs.declared.message.Target.TheVariants.{Sel as SelTarget, Serv as ServTarget, Offer as OfferTarget}
use Rattle.sem_msg.specs.declared.message.Message.TheVariants.{ObtainReq, ObtainNo, DelegateReq, DelegateNo, Ack, Orphan}
use Rattle.sem_msg.specs.declared.setup.Service.{Service}
use Rattle.sem_msg.specs.declared.state.Ask.{Ask}
use Rattle.sem_msg.specs.declared.state.Ask.TheVariants.{Obtain as ObtainAsk, Delegate as DelegateAsk}
use Rattle.sem_msg.specs.declared.state.Parked.{Parked}
use Rattle.sem_msg.specs.declared.state.Parked.TheVariants.{ObtainWait, ObtainReady, ObtainCancelled, DelegateWait, DelegateReady, RevokeWait, Ready}
use Rattle.sem_msg.specs.declared.state.Slot.TheVariants.{Promised}
use Rattle.sem_msg.specs.Codes.{code_number}
use Rattle.sem_msg.specs.Setup.{Setup}
use Rattle.sem_msg.specs.Lookups.{pe_of, kernel_of, owner_of, place_owner, service_named}
use Rattle.sem_msg.specs.Uses.{memory_tests, send_tests, credit_tests}
use Rattle.sem_trace.specs.Ranges.{IsNode, IsKeyInText, IsPlaceInText}
use Rattle.sem_journal.specs.EntryRanges.{IsCode, GrantFits, CutFits}
use Rattle.sem_machine.specs.Sides.{Side, row, cap, own, endpoint, parked, drawn, promised, parked_as, unparked, asked, buried, linked, installed}
use Rattle.sem_machine.specs.Sides.{with_endpoint, send}
use Rattle.sem_machine.specs.Endpoints.{message_rung, message_credited}
use Rattle.sem_msg.specs.declared.entry.Consent.{Consent}
use Rattle.sem_machine.specs.Steps.{Step, unshown, replied, answer, granting, cutting, asking}
use Rattle.sem_machine.specs.Asks.{target_vpe, asker, is_unawaited, promise_freed, call_refused, refusal_sent, ask_refused}
use Rattle.sem_machine.specs.Revokes.{begin, revoke_begun, clear_begun}
use Rattle.sem_machine.specs.Ends.{ask_ended, call_ended, revoked_if_left, keys_of_vpe, ended}
use Rattle.sem_machine.specs.Calls.{own_tests, destination_tests, next_key, next_place, child_made, with_held, derive_tests, narrowed, gate_tests, ask_made}
use Rattle.sem_machine.specs.Calls.{obtain_tests, session_service, open_tests, offer_tests, delegate_tests, offer_made, bind_tests, call_row}
use Rattle.sem_machine.proofs.Folds.{in_turn-keeps, in_turn-keeps_each, option-keeps}
use Rattle.sem_machine.proofs.FirstCodes.{Passed, unless-keeps, unless-passed}
use Rattle.sem_fits.proofs.Near.{NearObject, NearTarget, NearCall, NearAsk, NearCap, NearRow, NearSide, row-near, parked-near, cap-near, own-near, drawn-near}
use Rattle.sem_fits.proofs.Near.{with_slot-near, asked-near, buried-near, parked_as-near, unparked-near, linked-near, send-near}
use Rattle.sem_fits.proofs.NearRevokes.{freed-in, installed-in, ready-in, begin-in, begun-in, cleared-in}

-- each code is one of a text
pub code-fits : (code : Code) → IsCode (code_number code)
code-fits OkCode = omega arith
code-fits NoVpe = omega arith
code-fits Dead = omega arith
code-fits NoCap = omega arith
code-fits Revoking = omega arith
code-fits Refused = omega arith
code-fits Occupied = omega arith
code-fits Numbers = omega arith
code-fits BadKind = omega arith
code-fits Wider = omega arith
code-fits NoService = omega arith
code-fits Gone = omega arith
code-fits Unbound = omega arith
code-fits Rights = omega arith
code-fits Range = omega arith
code-fits SelfExchange = omega arith

module _ (version : ℕ) where
  -- what a step shows speaks of what a text can speak of
  pub record NearShown (o : Outcome) : Type 0 where
    pub asker : (a : ℕ) (c : Consent) → o.asked ≡ Some (a, c) → IsNode version a
    pub granted : GrantFits version o.grant
    pub cut_so : CutFits version o.cut
    pub code : (n : ℕ) → o.reply ≡ Some n → IsCode n

  -- of the side of a step, and of what it shows
  abbrev pub NearStep : Step → Type 0
  NearStep x = NearSide version x.side × NearShown x.outcome

  -- a step that shows nothing
  pub plain-near : (s : Side) → NearSide version s → NearStep (unshown s)
  plain-near s is = (is, record { asker = λ a c none. absurd cc; granted = tt; cut_so = tt; code = λ n none. absurd cc })

  -- a step that replies
  pub replied-near : (number : ℕ) (s : Side) → IsCode number → NearSide version s → NearStep (replied number s)
  replied-near number s fits is = (
    is,
    record {
      asker = λ a c none. absurd cc;
      granted = tt;
      cut_so = tt;
      code = λ n some. subst IsCode
          (same_Some number n some) fits;
    },
  )

  -- a step that answers with a code
  pub answer-near : (code : Code) (s : Side) → NearSide version s → NearStep (answer code s)
  answer-near code s is = replied-near (code_number code) s (code-fits code) is

  -- a step that grants
  pub granting-near : (p k : KeyName) (x : Step) → IsKeyInText version p → IsKeyInText version k → NearStep x → NearStep (granting p k x)
  granting-near p k x parent key is = (is.0, record { asker = is.1.asker; granted = (parent, key); cut_so = is.1.cut_so; code = is.1.code })

  -- a step that cuts
  pub cutting-near : (k : KeyName) (x : Step) → IsKeyInText version k → NearStep x → NearStep (cutting k x)
  cutting-near k x key is = (is.0, record { asker = is.1.asker; granted = is.1.granted; cut_so = key; code = is.1.code })

  -- a step that tells who was asked
  pub asking-near : (a : ℕ) (c : Consent) (x : Step) → IsNode version a → NearStep x → NearStep (asking a c x)
  asking-near a c x node is = (
    is.0,
    record {
      asker = λ b d some. subst (IsNode version)
          (some_pair_parts a b c d some).0 node;
      granted = is.1.granted;
      cut_so = is.1.cut_so;
      code = is.1.code;
    },
  )

  -- A refused ask.
  promise_freed-in : (p : Option Parked) (v : ℕ) (s : Side) → NearSide version s → NearSide version (promise_freed p v s)
  promise_freed-in None v s is = is
  promise_freed-in (Some (ObtainWait number sel)) v s is = freed-in version s is v sel
  promise_freed-in (Some (ObtainReady key parent object sel)) v s is = is
  promise_freed-in (Some ObtainCancelled) v s is = is
  promise_freed-in (Some (DelegateWait parent)) v s is = is
  promise_freed-in (Some (DelegateReady parent key)) v s is = is
  promise_freed-in (Some (RevokeWait j)) v s is = is
  promise_freed-in (Some (Ready code)) v s is = is

  -- a waiting call that is refused
  pub call_refused-in : (number v : ℕ) (s : Side) → IsCode number → NearSide version s → NearSide version (call_refused number v s)
  call_refused-in number v s code is = ready-in version (promise_freed (parked s v) v s) (promise_freed-in (parked s v) v s is) number v code

  -- a refusal that is sent
  refusal_sent-in : (T : Setup) (code : Code) (a : Ask) (s : Side) → NearAsk version a → NearSide version s → NearSide version (refusal_sent T code a s)
  refusal_sent-in T code (ObtainAsk place target) s near is = send-near version s is (place_owner T place) (ObtainNo place (code_number code)) (
    near.0,
    code-fits code,
  )
  refusal_sent-in T code (DelegateAsk parent object sel) s near is = send-near version s is (owner_of T parent) (DelegateNo parent (code_number code))
      (near.0, code-fits code)

  -- an ask that is refused
  pub ask_refused-in : (T : Setup) (i : ℕ) (code : Code) (a : Ask) (s : Side) → NearAsk version a → NearSide version s →
      NearSide version (ask_refused T i code a s)
  ask_refused-in T i code a s near is = cond_both (kernel_of T (asker a) == i) (call_refused (code_number code) (asker a) s) (refusal_sent T code a s)
      (NearSide version) (λ _. call_refused-in (code_number code) (asker a) s (code-fits code) is) (λ _. refusal_sent-in T code a s near is)

  -- The end of a VPE.
  ask_ended-in : (T : Setup) (i : ℕ) (a : Ask) (s : Side) → NearAsk version a → NearSide version s → NearSide version (ask_ended T i a s)
  ask_ended-in T i a s near is = cond_both (is_unawaited T i s a) s (ask_refused T i Dead a s) (NearSide version) (λ _. is)
      (λ _. ask_refused-in T i Dead a s near is)

  -- what the parked call of a dead VPE owes
  call_ended-in : (T : Setup) (p : Option Parked) (v : ℕ) (s : Side) → NearCall version p → NearSide version s → NearSide version (call_ended T p v s)
  call_ended-in T None v s near is = is
  call_ended-in T (Some (ObtainWait number sel)) v s near is = is
  call_ended-in T (Some (ObtainReady key parent object sel)) v s near is = send-near version s is (owner_of T parent) (Orphan parent key) (near.1, near.0)
  call_ended-in T (Some ObtainCancelled) v s near is = is
  call_ended-in T (Some (DelegateWait parent)) v s near is = is
  call_ended-in T (Some (DelegateReady parent key)) v s near is = send-near version s is (owner_of T key) (Ack key false) near.1
  call_ended-in T (Some (RevokeWait j)) v s near is = is
  call_ended-in T (Some (Ready code)) v s near is = is

  -- the capability, revoked if it is there and not marked
  abbrev revoked_if_there : Setup → ℕ → KeyName → Option Capability → Side → Side
  revoked_if_there T i k None s = s
  revoked_if_there T i k (Some c) s = option_map_or (λ m. s) c.mark (begin T i k None [] false s)

  -- a key of a dead VPE
  revoked_if_there-in : (T : Setup) (i : ℕ) (k : KeyName) (o : Option Capability) (s : Side) → cap s k ≡ o → NearSide version s
      → NearSide version (revoked_if_there T i k o s)
  revoked_if_there-in T i k None s there is = is
  revoked_if_there-in T i k (Some c) s there is =
      let near : NearCap version c = cap-near version s is k c there in
      let same : c.key ≡ k = key_eq-true c.key k (found (λ x. key_eq x.key k) s.caps c there).1 in
      option-keeps (NearSide version) (λ (m : ℕ). s) c.mark (begin T i k None [] false s) (λ m marked. is)
      (begin-in version T i k None [] false s is (subst (IsKeyInText version) same near.key))

  -- a VPE ends
  pub ended-in : (T : Setup) (i v : ℕ) (s : Side) → NearSide version s → NearSide version (ended T i v s)
  unfolding ended
  ended-in T i v s is =
      let asks : List Ask = (row s v).asks in
      let answered : Side = in_turn (ask_ended T i) asks (buried v s) in
      let near : NearRow version (row s v) = row-near version s is v in
      let told : NearSide version answered = in_turn-keeps_each (NearSide version) (ask_ended T i) asks
      (λ a among t here. ask_ended-in T i a t (All-contains (NearAsk version) asks a near among) here) (buried v s) (buried-near version s is v) in
      let left : Side = call_ended T (parked answered v) v (unparked v answered) in
      let gone : NearSide version left = call_ended-in T (parked answered v) v (unparked v answered) (parked-near version answered told v)
      (unparked-near version answered told v) in
      in_turn-keeps (NearSide version) (revoked_if_left T i) (λ k t here. revoked_if_there-in T i k (cap t k) t refl here) (keys_of_vpe left v) left gone

  -- Calls.
  module _ (T : Setup) (v : ℕ) (vpe : IsNode version v) (pe : IsNode version (pe_of T v)) (s : Side) (is : NearSide version s) where
    child_made-near : (dst : ℕ) (object : Object) (parent : KeyName) → (row s v).next_number < NUMBERS → IsKeyInText version parent → NearObject version object
        → NearStep (child_made T v dst object parent s)
    child_made-near dst object parent number above of_object =
        let k : KeyName = next_key T s v (object_kind object) in
        let key : IsKeyInText version k = (pe, vpe, number) in
        granting-near parent k (answer OkCode (installed k (Some parent) dst object (linked parent k (drawn v s)))) above key
        (answer-near OkCode (installed k (Some parent) dst object (linked parent k (drawn v s)))
        (installed-in version (linked parent k (drawn v s)) (linked-near version (drawn v s) (drawn-near version s is v) parent k key) k
        (Some parent) dst object key above of_object))

    -- what is done with a capability that is held
    with_held-near : (o : Option Capability) (f : Capability → Step) → ((c : Capability) → o ≡ Some c → NearStep (f c)) → NearStep (with_held o f s)
    with_held-near o f each = option-keeps NearStep f o (answer NoCap s) each (answer-near NoCap s is)

    -- an ask is made
    ask_made-near : (i dst : ℕ) (target : Target) → (row s v).next_number < NUMBERS → NearTarget version target → NearStep (ask_made T i v dst target s)
    ask_made-near i dst target number near =
        let place : PlaceName = next_place T s v in
        let w : ℕ = target_vpe target in
        let waiting : Side = parked_as v (ObtainWait place.number dst) (promised v dst (drawn v s)) in
        let kept : NearSide version waiting = parked_as-near version (promised v dst (drawn v s))
        (with_slot-near version (drawn v s) (drawn-near version s is v) v dst Promised) v (ObtainWait place.number dst) tt in
        let at : IsPlaceInText version place = (pe, vpe, number) in
        plain-near (if kernel_of T w == i then asked w (ObtainAsk place target) waiting else send (kernel_of T w) (ObtainReq place target) waiting)
        (cond_both (kernel_of T w == i) (asked w (ObtainAsk place target) waiting) (send (kernel_of T w) (ObtainReq place target) waiting) (NearSide version)
        (λ _. asked-near version waiting kept w (ObtainAsk place target) (at, near))
        (λ _. send-near version waiting kept (kernel_of T w) (ObtainReq place target) (at, near)))

    -- a delegate is offered
    offer_made-near : (i w dst : ℕ) (p : Capability) → IsNode version w → NearCap version p → NearStep (offer_made T i v w dst p s)
    offer_made-near i w dst p node near =
        let waiting : Side = parked_as v (DelegateWait p.key) s in
        let kept : NearSide version waiting = parked_as-near version s is v (DelegateWait p.key) tt in
        plain-near (if kernel_of T w == i then asked w (DelegateAsk p.key p.object dst) waiting
        else send (kernel_of T w) (DelegateReq p.key p.object w dst) waiting)
        (cond_both (kernel_of T w == i) (asked w (DelegateAsk p.key p.object dst) waiting) (send (kernel_of T w) (DelegateReq p.key p.object w dst) waiting)
        (NearSide version) (λ _. asked-near version waiting kept w (DelegateAsk p.key p.object dst) (near.key, near.object))
        (λ _. send-near version waiting kept (kernel_of T w) (DelegateReq p.key p.object w dst) (near.key, near.object, node)))

    -- a narrowed object
    narrowed-near : (off len rights : ℕ) (o : Object) → NearObject version o → NearObject version (narrowed off len rights o)
    narrowed-near off len rights (Mem base size rights') near = tt
    narrowed-near off len rights (Recv slots) near = near
    narrowed-near off len rights (Send gate label credits) near = near
    narrowed-near off len rights (Serv name) near = near
    narrowed-near off len rights (Sess service ident) near = near

    -- the key of the service of a session is one of a text
    session-near : (session : ℕ) (k : KeyName) → option_and_then (λ c. session_service c.object) (own s v session) ≡ Some k → IsKeyInText version k
    session-near session k some = from (own s v session) refl some
      where
        of_object : (o : Object) → NearObject version o → session_service o ≡ Some k → IsKeyInText version k
        of_object (Mem base len rights) near none = absurd cc
        of_object (Recv slots) near none = absurd cc
        of_object (Send gate label credits) near none = absurd cc
        of_object (Serv name) near none = absurd cc
        of_object (Sess service ident) near there = subst (IsKeyInText version) (same_Some service k there) near.0

        from : (o : Option Capability) → own s v session ≡ o → option_and_then (λ c. session_service c.object) o ≡ Some k → IsKeyInText version k
        from None held none = absurd cc
        from (Some c) held there = let near : NearCap version c = own-near version s is v session c held in of_object c.object near.object there

    -- a number is left, where a destination passes
    left : (dst : ℕ) → Passed (destination_tests s v dst) → (row s v).next_number < NUMBERS
    left dst passed = leb-false NUMBERS (row s v).next_number passed.1.0

    -- the row of each call
    pub call_row-near : (i : ℕ) → ((x : Service) → Contains T.services x → IsKeyInText version x.key) → (c : Call) → IsValidCall (most_vpes version) c
        → NearStep (call_row T i s v c)
    unfolding call_row
    call_row-near i services (Derive src dst off len rights) valid = unless-passed NearStep (derive_tests s v src dst off len rights) _ _
        (λ code. answer-near code s is) (λ passed. with_held-near (own s v src) _
        (λ p held. let near : NearCap version p = own-near version s is v src p held in child_made-near dst (narrowed off len rights p.object) p.key
        (left dst passed.1.1.1.1) near.key (narrowed-near off len rights p.object near.object)))
    call_row-near i services (Gate src dst label credits) valid = unless-passed NearStep (gate_tests s v src dst credits) _ _ (λ code. answer-near code s is)
        (λ passed. with_held-near (own s v src) _ (λ p held. let near : NearCap version p = own-near version s is v src p held in child_made-near dst
        (Send p.key label credits) p.key (left dst passed.1.1.1.1) near.key near.key))
    call_row-near i services (Obtain dst w src) valid = unless-passed NearStep (obtain_tests T i s v dst w) _ _ (λ code. answer-near code s is)
        (λ passed. ask_made-near i dst (SelTarget w src) (left dst passed.1.1.1) valid.1)
    call_row-near i services (Delegate src w dst) valid = unless-keeps NearStep (delegate_tests T i s v src w) _ _ (λ code. answer-near code s is)
        (with_held-near (own s v src) _ (λ p held. offer_made-near i w dst p valid.1 (own-near version s is v src p held)))
    call_row-near i services (OpenSession dst name) valid = unless-passed NearStep (open_tests T i s v dst name) _ _ (λ code. answer-near code s is)
        (λ passed. option-keeps NearStep (λ (x : Service). ask_made T i v dst (ServTarget x.key) s) (service_named T name) (answer NoService s)
        (λ x there. ask_made-near i dst (ServTarget x.key) (left dst passed.1.1.1) (services x (found (λ (y : Service). y.name == name) T.services x there).0))
        (answer-near NoService s is))
    call_row-near i services (AskOffer dst session index) valid = unless-passed NearStep (offer_tests T i s v dst session) _ _ (λ code. answer-near code s is)
        (λ passed. option-keeps NearStep (λ (k : KeyName). ask_made T i v dst (OfferTarget k index) s)
        (option_and_then (λ c. session_service c.object) (own s v session)) (answer BadKind s)
        (λ k there. ask_made-near i dst (OfferTarget k index) (left dst passed.1.1.1.1) (session-near session k there)) (answer-near BadKind s is))
    call_row-near i services (Revoke src) valid = with_held-near (own s v src) _
        (λ c held. let near : NearCap version c = own-near version s is v src c held in cutting-near c.key (unshown (revoke_begun T i v c.key c.mark s)) near.key
        (plain-near (revoke_begun T i v c.key c.mark s) (begun-in version T i v c.key c.mark s is near.key)))
    call_row-near i services (Bind ep src) valid = unless-keeps NearStep (bind_tests s v src) _ _ (λ code. answer-near code s is)
        (with_held-near (own s v src) _ (λ c held. answer-near OkCode (with_endpoint v ep (Some (record { key = c.key; object = c.object; ring = [] })) s) is))
    call_row-near i services (Read ep off len) valid = unless-keeps NearStep (memory_tests 1 off len (endpoint s v ep)) _ _ (λ code. answer-near code s is)
        (answer-near OkCode s is)
    call_row-near i services (Write ep off len) valid = unless-keeps NearStep (memory_tests 2 off len (endpoint s v ep)) _ _ (λ code. answer-near code s is)
        (answer-near OkCode s is)
    call_row-near i services (SendCall ep len) valid = unless-keeps NearStep (send_tests (endpoint s v ep)) _ _ (λ code. answer-near code s is)
        (answer-near OkCode (message_rung v ep len s) is)
    call_row-near i services (Credit ep) valid = unless-keeps NearStep (credit_tests (endpoint s v ep)) _ _ (λ code. answer-near code s is)
        (answer-near OkCode (message_credited v ep s) is)
    call_row-near i services (Clear src) valid = unless-keeps NearStep (own_tests (own s v src)) _ _ (λ code. answer-near code s is)
        (with_held-near (own s v src) _ (λ c held. let near : NearCap version c = own-near version s is v src c held in cutting-near c.key
        (unshown (clear_begun T i v c.key s)) near.key (plain-near (clear_begun T i v c.key s) (cleared-in version T i v c.key s is near.key))))
    call_row-near i services Exit valid = answer-near OkCode (ended T i v s) (ended-in T i v s is)
