-- What a step does to the places in which a key is live: a grant makes it live in one, and else it moves from one to another or is gone.
use Rattle.std.proofs.Common.{◌≡◌, ℕ, ◌+◌, ◌≤◌, Bool, true, false, [], ◌∷◌, ◌++◌, drop, Option, Some, None, slice_get, refl, ap, arith}
use Rattle.std.specs.Prelude.{◌==◌}
use Rattle.std.specs.Option.{option_map_or}
use Rattle.std.proofs.lemmas.Bool.{cond_both}
use Rattle.sem_key.specs.declared.object.Object.{Object}
use Rattle.sem_key.specs.declared.object.Object.TheVariants.{Send}
use Rattle.sem_key.specs.ObjectRanges.{object_kind}
use Rattle.sem_key.specs.KeyName.{KeyName}
use Rattle.sem_key.specs.PlaceName.{PlaceName, keyed}
use Rattle.sem_key.specs.Capability.{Capability}
use Rattle.sem_msg.specs.declared.call.Call.{Call}
use Rattle.sem_msg.specs.declared.call.Call.TheVariants.{Derive, Gate, Obtain, Delegate, OpenSession, AskOffer, Revoke, Bind, Read, Write, Send as SendCall}
use Rattle.sem_msg.specs.declared.call.Call.TheVariants.{Credit, Exit, Clear}
use Rattle.sem_msg.specs.declared.message.Message.{Message}
use Rattle.sem_msg.specs.declared.message.Message.TheVariants.{ObtainReq, ObtainOk, ObtainNo, DelegateReq, DelegatePrepared, DelegateNo, Ack, Orphan, RevokeReq}
use Rattle.sem_msg.specs.declared.message.Message.TheVariants.{RevokeDone, Unlink}
use Rattle.sem_msg.specs.declared.message.Target.{Target}
use Rattle.sem_msg.specs.declared.message.Target.TheVariants.{Sel as SelTarget, Serv as ServTarget, Offer as OfferTarget}
use Rattle.sem_msg.specs.declared.entry.Consent.TheVariants.{No, Dropped}
use Rattle.sem_msg.specs.declared.event.Act.{Act}
use Rattle.sem_msg.specs.declared.event.Act.TheVariants.{Call as Calls, Fetch, Handle, Upcall, Resume, Flush, Kill}
use Rattle.sem_msg.specs.declared.setup.Service.{Service}
use Rattle.sem_msg.specs.declared.state.Ask.{Ask}
use Rattle.sem_msg.specs.declared.state.Ask.TheVariants.{Obtain as ObtainAsk, Delegate as DelegateAsk}
use Rattle.sem_msg.specs.declared.state.Parked.{Parked}
use Rattle.sem_msg.specs.declared.state.Parked.TheVariants.{ObtainWait, ObtainReady, ObtainCancelled, DelegateWait, DelegateReady, RevokeWait, Ready}
use Rattle.sem_msg.specs.declared.state.Pending.{Pending}
use Rattle.sem_msg.specs.declared.state.Slot.TheVariants.{Held, Promised}
use Rattle.sem_msg.specs.Setup.{Setup}
use Rattle.sem_msg.specs.declared.code.Code.{Code}
use Rattle.sem_msg.specs.Codes.{code_number}
use Rattle.sem_msg.specs.declared.code.Code.TheVariants.{Ok as OkCode, NoCap, NoService, BadKind, Refused, Revoking, Gone}
use Rattle.sem_machine.specs.Sides.{Side, row, cap, own, endpoint, parked, is_alive, call_counted, drawn, promised, parked_as, unparked, asked, ask_taken}
use Rattle.sem_machine.specs.Sides.{linked, installed, cap_added, pending, send, with_inbox, pending_added, pending_removed, with_endpoint}
use Rattle.sem_machine.specs.Steps.{Step, unshown, replied, answer, cutting, asking}
use Rattle.sem_machine.specs.Asks.{target_vpe, asker, is_unawaited, ask_refused}
use Rattle.sem_msg.specs.Uses.{memory_tests, send_tests, credit_tests}
use Rattle.sem_machine.specs.Endpoints.{message_rung, message_credited}
use Rattle.sem_machine.specs.Calls.{own_tests, next_key, next_place, child_made, narrowed, with_held, derive_tests, gate_tests, destination_tests, ask_made}
use Rattle.sem_machine.specs.Calls.{obtain_tests, open_tests, offer_tests, delegate_tests, offer_made, bind_tests, call_row}
use Rattle.sem_machine.specs.Upcalls.{source, source_tests, given, given_kind, given_here, child_given, obtain_consent, parent_tests, delegate_here}
use Rattle.sem_machine.specs.Upcalls.{delegate_prepared, delegate_consent, consented, ask_decided, upcall_row}
use Rattle.sem_machine.specs.Revokes.{clear_begun, revoke_begun}
use Rattle.sem_machine.specs.Ends.{ended}
use Rattle.sem_machine.specs.Handles.{is_stray, obtain_ready, acknowledged, handle_row, handled}
use Rattle.sem_machine.specs.Resumes.{ack_sent, delegate_granted, delegate_resumed, resumed, resume_row}
use Rattle.sem_machine.specs.Machine.{next_call, local_step}
use Rattle.sem_machine.proofs.Folds.{option-keeps}
use Rattle.sem_safety.proofs.KeptRevokes.{ready-in, begun-in, cleared-in}
use Rattle.sem_machine.proofs.FirstCodes.{unless-keeps}
use Rattle.sem_safety.proofs.KeptRows.{ask_refused-in, ended-in}
use Rattle.sem_safety.proofs.KeptSteps.{handled-in}
use Rattle.sem_safety.proofs.GoingOn.{AnyVpe}
use Rattle.sem_msg.specs.Lookups.{kernel_of, owner_of, place_owner, service_named, denies}
use Rattle.sem_safety.proofs.Layers.{Brings, IsKept}
use Rattle.sem_safety.proofs.Lives.{at_key, at_message, at_parked, at_inbox, at_side, at_grant, OtherKeys, cap-less, lives-parked, lives-unparked, lives-added}
use Rattle.sem_safety.proofs.Lives.{lives-send, lives-inbox, lives}

-- an act that moves no message between kernels
abbrev pub Stays : Act → Type 0
Stays (Fetch j) = ⊥
Stays (Flush j) = ⊥
Stays (Calls v) = Unit {0}
Stays (Upcall v) = Unit {0}
Stays Handle = Unit {0}
Stays (Resume v) = Unit {0}
Stays (Kill v) = Unit {0}

module _ (k0 : KeyName) (counts : Option KeyName → Bool) where
  -- at most m places
  abbrev Few : ℕ → Side → Type 0
  Few m s = at_side k0 counts s ≤ m

  -- the places after the step are no more than m and the one of the grant
  abbrev pub Within : ℕ → Step → Type 0
  Within m x = at_side k0 counts x.side ≤ m + at_grant k0 x.outcome.grant

  light : (m : ℕ) (x : Step) → Few m x.side → Within m x
  light m x few = omega (arith, few)

  -- a capability more
  installed-more : (m : ℕ) (s : Side) → Few m s → (k : KeyName) (parent : Option KeyName) (sel : ℕ) (object : Object) →
      at_side k0 counts (installed k parent sel object s) ≤ m + at_key k0 k
  installed-more m s is k parent sel object =
      let c : Capability = record { key = k; parent = parent; children = []; mark = None; selector = sel; object = object } in
      let added = lives-added k0 counts s c in
      let less = cap-less k0 counts c in
      (lives k0 counts (m + at_key k0 k)).keeps_slot (cap_added c s) (omega (arith, added, is, less)) k.vpe sel (Held k) refl

  -- Calls.
  module _ (m : ℕ) where
    abbrev L : IsKept (OtherKeys k0) (Few m)
    L = lives k0 counts m

    child_made-within : (T : Setup) (v dst : ℕ) (object : Object) (parent : KeyName) (s : Side) → Few m s → Within m (child_made T v dst object parent s)
    child_made-within T v dst object parent s is =
        let k : KeyName = next_key T s v (object_kind object) in
        installed-more m (linked parent k (drawn v s)) (L.keeps_linked (drawn v s) (L.keeps_drawn s is v) parent k tt) k (Some parent) dst object

    ask_made-within : (T : Setup) (i v dst : ℕ) (target : Target) (s : Side) → Few m s → Within m (ask_made T i v dst target s)
    ask_made-within T i v dst target s is =
        let place : PlaceName = next_place T s v in
        let w : ℕ = target_vpe target in
        let waiting : Side = parked_as v (ObtainWait place.number dst) (promised v dst (drawn v s)) in
        let kept : Few m waiting = L.keeps_parked (promised v dst (drawn v s)) (L.keeps_slot (drawn v s) (L.keeps_drawn s is v) v dst Promised tt) v
        (ObtainWait place.number dst) tt in
        light m (ask_made T i v dst target s) (cond_both (kernel_of T w == i) (asked w (ObtainAsk place target) waiting)
        (send (kernel_of T w) (ObtainReq place target) waiting) (Few m) (λ _. L.keeps_asked waiting kept w (ObtainAsk place target) tt)
        (λ _. L.keeps_send waiting kept (kernel_of T w) (ObtainReq place target) tt))

    offer_made-within : (T : Setup) (i v w dst : ℕ) (p : Capability) (s : Side) → Few m s → Within m (offer_made T i v w dst p s)
    offer_made-within T i v w dst p s is =
        let waiting : Side = parked_as v (DelegateWait p.key) s in
        let kept : Few m waiting = L.keeps_parked s is v (DelegateWait p.key) tt in
        light m (offer_made T i v w dst p s) (cond_both (kernel_of T w == i) (asked w (DelegateAsk p.key p.object dst) waiting)
        (send (kernel_of T w) (DelegateReq p.key p.object w dst) waiting) (Few m) (λ _. L.keeps_asked waiting kept w (DelegateAsk p.key p.object dst) tt)
        (λ _. L.keeps_send waiting kept (kernel_of T w) (DelegateReq p.key p.object w dst) tt))

    with_held-within : (o : Option Capability) (f : Capability → Step) (s : Side) → Few m s → ((c : Capability) → o ≡ Some c → Within m (f c)) →
        Within m (with_held o f s)
    with_held-within o f s is each = option-keeps (Within m) f o (answer NoCap s) each (light m (answer NoCap s) is)

    call_row-within : (T : Setup) (i : ℕ) (s : Side) (v : ℕ) (c : Call) → Few m s → Within m (call_row T i s v c)
    unfolding call_row
    call_row-within T i s v (Derive src dst off len rights) is =
        unless-keeps (Within m) (derive_tests s v src dst off len rights) _ _ (λ code. light m (answer code s) is)
        (with_held-within (own s v src) _ s is (λ p held. child_made-within T v dst (narrowed off len rights p.object) p.key s is))
    call_row-within T i s v (Gate src dst label credits) is = unless-keeps (Within m) (gate_tests s v src dst credits) _ _ (λ code. light m (answer code s) is)
        (with_held-within (own s v src) _ s is (λ p held. child_made-within T v dst (Send p.key label credits) p.key s is))
    call_row-within T i s v (Obtain dst w src) is = unless-keeps (Within m) (obtain_tests T i s v dst w) _ _ (λ code. light m (answer code s) is)
        (ask_made-within T i v dst (SelTarget w src) s is)
    call_row-within T i s v (Delegate src w dst) is = unless-keeps (Within m) (delegate_tests T i s v src w) _ _ (λ code. light m (answer code s) is)
        (with_held-within (own s v src) _ s is (λ p held. offer_made-within T i v w dst p s is))
    call_row-within T i s v (OpenSession dst name) is = unless-keeps (Within m) (open_tests T i s v dst name) _ _ (λ code. light m (answer code s) is)
        (option-keeps (Within m) (λ (x : Service). ask_made T i v dst (ServTarget x.key) s) (service_named T name) (answer NoService s)
        (λ x there. ask_made-within T i v dst (ServTarget x.key) s is) (light m (answer NoService s) is))
    call_row-within T i s v (AskOffer dst session index) is = unless-keeps (Within m) (offer_tests T i s v dst session) _ _ (λ code. light m (answer code s) is)
        (option-keeps (Within m) (λ (k : KeyName). ask_made T i v dst (OfferTarget k index) s) _ (answer BadKind s)
        (λ k there. ask_made-within T i v dst (OfferTarget k index) s is) (light m (answer BadKind s) is))
    call_row-within T i s v (Revoke src) is =
        with_held-within (own s v src) _ s is (λ c held. light m (cutting c.key (unshown (revoke_begun T i v c.key c.mark s)))
        (begun-in (OtherKeys k0) (Few m) L T i v c.key c.mark s is tt))
    call_row-within T i s v (Bind ep src) is = unless-keeps (Within m) (bind_tests s v src) _ _ (λ code. light m (answer code s) is)
        (with_held-within (own s v src) _ s is
        (λ c held. light m (answer OkCode (with_endpoint v ep (Some (record { key = c.key; object = c.object; ring = [] })) s)) is))
    call_row-within T i s v (Read ep off len) is = unless-keeps (Within m) (memory_tests 1 off len (endpoint s v ep)) _ _ (λ code. light m (answer code s) is)
        (light m (answer OkCode s) is)
    call_row-within T i s v (Write ep off len) is = unless-keeps (Within m) (memory_tests 2 off len (endpoint s v ep)) _ _ (λ code. light m (answer code s) is)
        (light m (answer OkCode s) is)
    call_row-within T i s v (SendCall ep len) is = unless-keeps (Within m) (send_tests (endpoint s v ep)) _ _ (λ code. light m (answer code s) is)
        (light m (answer OkCode (message_rung v ep len s)) (L.keeps_rung s is v ep (λ ring. ring ++ len ∷ [])))
    call_row-within T i s v (Credit ep) is = unless-keeps (Within m) (credit_tests (endpoint s v ep)) _ _ (λ code. light m (answer code s) is)
        (light m (answer OkCode (message_credited v ep s)) (L.keeps_rung s is v ep (λ ring. drop 1 ring)))
    call_row-within T i s v (Clear src) is = unless-keeps (Within m) (own_tests (own s v src)) _ _ (λ code. light m (answer code s) is)
        (with_held-within (own s v src) _ s is
        (λ c held. light m (cutting c.key (unshown (clear_begun T i v c.key s))) (cleared-in (OtherKeys k0) (Few m) L T i v c.key s is tt)))
    call_row-within T i s v Exit is = light m (answer OkCode (ended T i v s)) (ended-in (OtherKeys k0) AnyVpe (Few m) L T i v s is (λ k same. tt) tt)

    -- Upcalls.
    refused-few : (T : Setup) (i : ℕ) (code : Code) (a : Ask) (s : Side) → Few m s → Few m (ask_refused T i code a s)
    refused-few T i code a s is = ask_refused-in (OtherKeys k0) AnyVpe (Few m) L T i code a s is

    delegate_here-within : (T : Setup) (v : ℕ) (parent : KeyName) (object : Object) (sel : ℕ) (s : Side) → Few m s →
        Within m (delegate_here T v parent object sel s)
    delegate_here-within T v parent object sel s is =
        let k : KeyName = next_key T s v parent.kind in
        let linking : Side = linked parent k (drawn v s) in
        let more = installed-more m linking (L.keeps_linked (drawn v s) (L.keeps_drawn s is v) parent k tt) k (Some parent) sel object in
        ready-in (OtherKeys k0) (Few (m + at_key k0 k)) (lives k0 counts (m + at_key k0 k)) (installed k (Some parent) sel object linking) more
        (code_number OkCode) parent.vpe

    delegate_prepared-within : (T : Setup) (v : ℕ) (parent : KeyName) (object : Object) (sel : ℕ) (s : Side) → Few m s →
        Within m (delegate_prepared T v parent object sel s)
    delegate_prepared-within T v parent object sel s is =
        let k : KeyName = next_key T s v parent.kind in
        let p : Pending = record { key = k; parent = parent; object = object; sel = sel } in
        let promising : Side = promised v sel (drawn v s) in
        light m (delegate_prepared T v parent object sel s)
        (L.keeps_send (pending_added p promising) (L.keeps_pending_added promising (L.keeps_slot (drawn v s) (L.keeps_drawn s is v) v sel Promised tt) p tt)
        (owner_of T parent) (DelegatePrepared parent k) tt)

    delegate_consent-within : (T : Setup) (i v : ℕ) (parent : KeyName) (object : Object) (sel : ℕ) (s : Side) → Few m s →
        Within m (delegate_consent T i v parent object sel s)
    delegate_consent-within T i v parent object sel s is =
        cond_both (kernel_of T parent.vpe == i) _ _ (Within m)
        (λ _. unless-keeps (Within m) (parent_tests (cap s parent) ++ destination_tests s v sel) _ _
        (λ code. light m (unshown (ask_refused T i code (DelegateAsk parent object sel) s)) (refused-few T i code (DelegateAsk parent object sel) s is))
        (delegate_here-within T v parent object sel s is))
        (λ _. unless-keeps (Within m) (destination_tests s v sel) _ _ (λ code. light m (unshown (ask_refused T i code (DelegateAsk parent object sel) s))
        (refused-few T i code (DelegateAsk parent object sel) s is)) (delegate_prepared-within T v parent object sel s is))

    given_here-more : (k p : KeyName) (object : Object) (state : Option Parked) (s : Side) → Few m s →
        at_side k0 counts (given_here k p object state s) ≤ m + at_key k0 k
    given_here-more k p object (Some (ObtainWait number sel)) s is = ready-in (OtherKeys k0) (Few (m + at_key k0 k)) (lives k0 counts (m + at_key k0 k))
        (installed k (Some p) sel object s) (installed-more m s is k (Some p) sel object) (code_number OkCode) k.vpe
    given_here-more k p object None s is = omega (arith, is)
    given_here-more k p object (Some (ObtainReady key parent object' sel)) s is = omega (arith, is)
    given_here-more k p object (Some ObtainCancelled) s is = omega (arith, is)
    given_here-more k p object (Some (DelegateWait parent)) s is = omega (arith, is)
    given_here-more k p object (Some (DelegateReady parent key)) s is = omega (arith, is)
    given_here-more k p object (Some (RevokeWait job)) s is = omega (arith, is)
    given_here-more k p object (Some (Ready code)) s is = omega (arith, is)

    child_given-within : (T : Setup) (i : ℕ) (place : PlaceName) (target : Target) (s : Side) (p : Capability) → Few m s →
        Within m (child_given T i place target s p)
    child_given-within T i place target s p is =
        let k : KeyName = keyed place (given_kind target p) in
        let object : Object = given target place.vpe p in
        let linking : Side = linked p.key k s in
        let kept : Few m linking = L.keeps_linked s is p.key k tt in
        cond_both (kernel_of T place.vpe == i) (given_here k p.key object (parked linking place.vpe) linking)
        (send (place_owner T place) (ObtainOk p.key k object) linking) (λ t. at_side k0 counts t ≤ m + at_key k0 k)
        (λ _. given_here-more k p.key object (parked linking place.vpe) linking kept)
        (λ _. let more : at_side k0 counts (send (place_owner T place) (ObtainOk p.key k object) linking) ≡ at_side k0 counts linking + at_key k0 k =
        lives-send k0 counts linking (place_owner T place) (ObtainOk p.key k object) in omega (arith, more, kept))

    obtain_consent-within : (T : Setup) (i v : ℕ) (place : PlaceName) (target : Target) (s : Side) → Few m s → Within m (obtain_consent T i v place target s)
    obtain_consent-within T i v place target s is =
        unless-keeps (Within m) (source_tests target (source T s v target)) _ _ (λ code. light m (unshown (ask_refused T i code (ObtainAsk place target) s))
        (refused-few T i code (ObtainAsk place target) s is)) (option-keeps (Within m) (child_given T i place target s) (source T s v target) (unshown s)
        (λ p held. child_given-within T i place target s p is) (light m (unshown s) is))

    consented-within : (T : Setup) (i v : ℕ) (a : Ask) (s : Side) → Few m s → Within m (consented T i v a s)
    consented-within T i v (ObtainAsk place target) s is = obtain_consent-within T i v place target s is
    consented-within T i v (DelegateAsk parent object sel) s is = delegate_consent-within T i v parent object sel s is

    ask_decided-within : (T : Setup) (i v : ℕ) (a : Ask) (s : Side) → Few m s → Within m (ask_decided T i v a s)
    ask_decided-within T i v a s is =
        cond_both (is_unawaited T i s a) _ _ (Within m) (λ _. light m (asking (asker a) Dropped (unshown s)) is)
        (λ _. cond_both (denies T v (asker a)) _ _ (Within m) (λ _. light m (asking (asker a) No (unshown (ask_refused T i Refused a s)))
        (refused-few T i Refused a s is)) (λ _. consented-within T i v a s is))

  -- Messages.
  obtain_ready-more : (parent key : KeyName) (object : Object) (state : Option Parked) (s : Side) →
      at_side k0 counts (obtain_ready parent key object state s) ≤ at_side k0 counts s + at_key k0 key
  obtain_ready-more parent key object (Some (ObtainWait number sel)) s = lives-parked k0 counts s key.vpe (ObtainReady key parent object sel)
  obtain_ready-more parent key object None s = omega arith
  obtain_ready-more parent key object (Some (ObtainReady key' parent' object' sel)) s = omega arith
  obtain_ready-more parent key object (Some ObtainCancelled) s = omega arith
  obtain_ready-more parent key object (Some (DelegateWait parent')) s = omega arith
  obtain_ready-more parent key object (Some (DelegateReady parent' key')) s = omega arith
  obtain_ready-more parent key object (Some (RevokeWait job)) s = omega arith
  obtain_ready-more parent key object (Some (Ready code)) s = omega arith

  acknowledged-more : (T : Setup) (key : KeyName) (s : Side) (p : Pending) →
      at_side k0 counts (acknowledged T key true s p) ≤ at_side k0 counts s + at_key k0 key
  acknowledged-more T key s p =
      let n : ℕ = at_side k0 counts s in
      let left : Few n (pending_removed key s) = omega arith in
      cond_both (is_alive s key.vpe) (installed key (Some p.parent) p.sel p.object (pending_removed key s))
      (send (owner_of T p.parent) (Orphan p.parent key) (pending_removed key s)) (λ t. at_side k0 counts t ≤ n + at_key k0 key)
      (λ _. installed-more n (pending_removed key s) left key (Some p.parent) p.sel p.object)
      (λ _. (lives k0 counts (n + at_key k0 key)).keeps_send (pending_removed key s) (omega (arith, left)) (owner_of T p.parent) (Orphan p.parent key) tt)

  others : (T : Setup) (i : ℕ) (s : Side) (from : ℕ) (msg : Message) → Brings (OtherKeys k0) msg →
      at_side k0 counts (handled T i s from msg) ≤ at_side k0 counts s + at_message k0 msg
  others T i s from msg here = let few = handled-in (OtherKeys k0) AnyVpe (Few (at_side k0 counts s)) (lives k0 counts (at_side k0 counts s)) T i s from msg
      (omega arith) here in omega (arith, few)

  handled-few : (T : Setup) (i : ℕ) (s : Side) (from : ℕ) (msg : Message) → at_side k0 counts (handled T i s from msg) ≤ at_side k0 counts s + at_message k0 msg
  unfolding handle_row
  handled-few T i s from (ObtainOk parent key object) =
      let m : ℕ = at_side k0 counts s + at_key k0 key in
      let same : Few m s = omega arith in
      cond_both (is_stray T i s (ObtainOk parent key object)) s (handle_row T i s from (ObtainOk parent key object)) (Few m) (λ _. same)
      (λ _. cond_both (is_alive s key.vpe) (obtain_ready parent key object (parked s key.vpe) s) (send (owner_of T parent) (Orphan parent key) s) (Few m)
      (λ _. obtain_ready-more parent key object (parked s key.vpe) s)
      (λ _. (lives k0 counts m).keeps_send s same (owner_of T parent) (Orphan parent key) tt))
  handled-few T i s from (Ack key true) =
      let m : ℕ = at_side k0 counts s + at_key k0 key in
      let same : Few m s = omega arith in
      cond_both (is_stray T i s (Ack key true)) s (handle_row T i s from (Ack key true)) (Few m) (λ _. same)
      (λ _. option-keeps (Few m) (acknowledged T key true s) (pending s key) s (λ p there. acknowledged-more T key s p) same)
  handled-few T i s from (ObtainReq place target) = others T i s from (ObtainReq place target) tt
  handled-few T i s from (ObtainNo place code) = others T i s from (ObtainNo place code) tt
  handled-few T i s from (DelegateReq parent object vpe sel) = others T i s from (DelegateReq parent object vpe sel) tt
  handled-few T i s from (DelegatePrepared parent key) = others T i s from (DelegatePrepared parent key) tt
  handled-few T i s from (DelegateNo parent code) = others T i s from (DelegateNo parent code) tt
  handled-few T i s from (Ack key false) = others T i s from (Ack key false) tt
  handled-few T i s from (Orphan parent key) = others T i s from (Orphan parent key) tt
  handled-few T i s from (RevokeReq key j) = others T i s from (RevokeReq key j) tt
  handled-few T i s from (RevokeDone j) = others T i s from (RevokeDone j) tt
  handled-few T i s from (Unlink parent key) = others T i s from (Unlink parent key) tt

  -- Parked calls, from the side without the call.
  module _ (m : ℕ) where
    abbrev K : IsKept (OtherKeys k0) (Few m)
    K = lives k0 counts m

    granted-within : (T : Setup) (parent key : KeyName) (mark : Option ℕ) (s : Side) → Few m s → Within m (delegate_granted T parent key mark s)
    granted-within T parent key None s is =
        let linking : Few m (linked parent key s) = K.keeps_linked s is parent key tt in
        let sent_so : at_side k0 counts (ack_sent T key true (linked parent key s)) ≡ at_side k0 counts (linked parent key s) + at_key k0 key =
        lives-send k0 counts (linked parent key s) (owner_of T key) (Ack key true) in
        let more : at_side k0 counts (ack_sent T key true (linked parent key s)) ≤ m + at_key k0 key = omega (arith, sent_so, linking) in
        more
    granted-within T parent key (Some j) s is = light m (answer Revoking (ack_sent T key false s)) (K.keeps_send s is (owner_of T key) (Ack key false) tt)

    delegate_resumed-within : (T : Setup) (parent key : KeyName) (o : Option Capability) (s : Side) → Few m s → Within m (delegate_resumed T parent key o s)
    delegate_resumed-within T parent key None s is = light m (answer Gone (ack_sent T key false s)) (K.keeps_send s is (owner_of T key) (Ack key false) tt)
    delegate_resumed-within T parent key (Some c) s is = granted-within T parent key c.mark s is

    resumed-within : (T : Setup) (p : Option Parked) (s : Side) → at_side k0 counts s + at_parked k0 p ≤ m → Within m (resumed T p s)
    resumed-within T (Some (ObtainReady key parent object sel)) s is =
        let more = installed-more (at_side k0 counts s) s (omega arith) key (Some parent) sel object in
        let all : at_side k0 counts s + at_key k0 key ≤ m = is in
        light m (answer OkCode (installed key (Some parent) sel object s)) (omega (arith, more, all))
    resumed-within T (Some (DelegateReady parent key)) s is = delegate_resumed-within T parent key (cap s parent) s (let few : at_side k0 counts s + 0 ≤ m =
        is in omega (arith, few))
    resumed-within T (Some (Ready number)) s is = light m (replied number s) (let few : at_side k0 counts s + 0 ≤ m = is in omega (arith, few))
    resumed-within T (Some ObtainCancelled) s is = light m (answer Gone s) (let few : at_side k0 counts s + 0 ≤ m = is in omega (arith, few))
    resumed-within T None s is = light m (unshown s) (let few : at_side k0 counts s + 0 ≤ m = is in omega (arith, few))
    resumed-within T (Some (ObtainWait number sel)) s is = light m (unshown s) (let few : at_side k0 counts s + 0 ≤ m = is in omega (arith, few))
    resumed-within T (Some (DelegateWait parent)) s is = light m (unshown s) (let few : at_side k0 counts s + 0 ≤ m = is in omega (arith, few))
    resumed-within T (Some (RevokeWait j)) s is = light m (unshown s) (let few : at_side k0 counts s + 0 ≤ m = is in omega (arith, few))

  -- Steps that move no message between kernels.
  pub step-within : (T : Setup) (i : ℕ) (s : Side) (a : Act) (input : Option Message) → Stays a → Within (at_side k0 counts s) (local_step T i s a input)
  unfolding local_step upcall_row resume_row
  step-within T i s (Calls v) input stays =
      let m : ℕ = at_side k0 counts s in
      let counted : Side = call_counted v s in
      let few : Few m counted = (lives k0 counts m).keeps_counted s (omega arith) v in
      option-keeps (Within m) (call_row T i counted v) (next_call T s v) (unshown s) (λ c there. call_row-within m T i counted v c few)
      (light m (unshown s) (omega arith))
  step-within T i s (Upcall v) input stays =
      let m : ℕ = at_side k0 counts s in
      let left : Side = ask_taken v s in
      let few : Few m left = (lives k0 counts m).keeps_taken s (omega arith) v in
      option-keeps (Within m) (λ (a : Ask). ask_decided T i v a left) (slice_get (row s v).asks 0) (unshown s) (λ a there. ask_decided-within m T i v a left few)
      (light m (unshown s) (omega arith))
  step-within T i s (Resume v) input stays =
      let taken = lives-unparked k0 counts s v in
      resumed-within (at_side k0 counts s) T (parked s v) (unparked v s) (omega (arith, taken))
  step-within T i s (Kill v) input stays = let m : ℕ = at_side k0 counts s in
      light m (unshown (ended T i v s)) (ended-in (OtherKeys k0) AnyVpe (Few m) (lives k0 counts m) T i v s (omega arith) (λ k same. tt) tt)
  step-within T i s Handle input stays = light (at_side k0 counts s) (local_step T i s Handle input) (from s.inbox refl)
    where
      from : (o : Option (ℕ × Message)) → s.inbox ≡ o →
          at_side k0 counts (option_map_or (λ m. handled T i (with_inbox None s) m.0 m.1) o s) ≤ at_side k0 counts s
      from None none = omega arith
      from (Some m) some =
          let few = handled-few T i (with_inbox None s) m.0 m.1 in
          let out : at_side k0 counts (with_inbox None s) + at_inbox k0 s.inbox ≡ at_side k0 counts s + 0 = lives-inbox k0 counts s None in
          let there : at_inbox k0 s.inbox ≡ at_message k0 m.1 = ap (at_inbox k0) some in
          omega (arith, few, out, there)
  step-within T i s (Fetch j) input stays = absurd stays
  step-within T i s (Flush j) input stays = absurd stays
