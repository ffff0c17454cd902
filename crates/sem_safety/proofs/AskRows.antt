-- One exchange at a time: a call hands the VPE's freedom to what it sends, and what is handled hands it on or back.
use Rattle.std.proofs.Common.{◌≡◌, ℕ, ◌+◌, ◌≤◌, ◌++◌, Bool, true, false, [], ◌∷◌, drop, Option, Some, None, refl, ap, ◌∙◌, arith}
use Rattle.std.specs.Prelude.{◌==◌}
use Rattle.std.proofs.lemmas.Bool.{cond_both}
use Rattle.sem_key.specs.declared.object.Object.{Object}
use Rattle.sem_key.specs.declared.object.Object.TheVariants.{Send}
use Rattle.sem_key.specs.ObjectRanges.{object_kind}
use Rattle.sem_key.specs.KeyName.{KeyName, key_eq}
use Rattle.sem_key.specs.PlaceName.{PlaceName, keyed}
use Rattle.sem_key.specs.Lists.{put}
use Rattle.sem_key.specs.Capability.{Capability}
use Rattle.sem_key.specs.CapList.{fresh}
use Rattle.sem_msg.specs.declared.call.Call.{Call}
use Rattle.sem_msg.specs.declared.call.Call.TheVariants.{Derive, Gate, Obtain, Delegate, OpenSession, AskOffer, Revoke, Bind, Read, Write, Send as SendCall}
use Rattle.sem_msg.specs.declared.call.Call.TheVariants.{Credit, Exit, Clear}
use Rattle.sem_msg.specs.declared.message.Message.{Message}
use Rattle.sem_msg.specs.declared.message.Message.TheVariants.{ObtainReq, ObtainOk, ObtainNo, DelegateReq, DelegatePrepared, DelegateNo, Ack, Orphan, RevokeReq}
use Rattle.sem_msg.specs.declared.message.Message.TheVariants.{RevokeDone, Unlink}
use Rattle.sem_msg.specs.declared.message.Target.{Target}
use Rattle.sem_msg.specs.declared.message.Target.TheVariants.{Sel as SelTarget, Serv as ServTarget, Offer as OfferTarget}
use Rattle.sem_msg.specs.declared.setup.Service.{Service}
use Rattle.sem_msg.specs.declared.state.Ask.{Ask}
use Rattle.sem_msg.specs.declared.state.Ask.TheVariants.{Obtain as ObtainAsk, Delegate as DelegateAsk}
use Rattle.sem_msg.specs.declared.state.Parked.{Parked}
use Rattle.sem_msg.specs.declared.state.Parked.TheVariants.{ObtainWait, ObtainReady, ObtainCancelled, DelegateWait, DelegateReady, RevokeWait, Ready}
use Rattle.sem_msg.specs.declared.state.Pending.{Pending}
use Rattle.sem_msg.specs.declared.state.Slot.{Slot}
use Rattle.sem_msg.specs.declared.state.Slot.TheVariants.{Free, Held, Promised}
use Rattle.sem_msg.specs.Rows.{VpeRow, no_vpe}
use Rattle.sem_msg.specs.Setup.{Setup}
use Rattle.sem_msg.specs.Lookups.{kernel_of, owner_of, place_owner, service_named, denies}
use Rattle.sem_msg.specs.declared.code.Code.TheVariants.{Ok as OkCode, NoCap, NoService, BadKind, Dead, Refused}
use Rattle.sem_msg.specs.Codes.{code_number}
use Rattle.sem_machine.specs.Sides.{Side, row, cap, cap_in, own, slot, endpoint, parked, pending, is_alive, drawn, promised, parked_as, asked, linked}
use Rattle.sem_machine.specs.Sides.{installed, cap_added, pending_added, pending_removed, send}
use Rattle.sem_machine.specs.Steps.{Step, unshown, answer}
use Rattle.sem_machine.specs.Asks.{target_vpe, asker, is_unawaited, ask_refused, call_refused}
use Rattle.sem_msg.specs.Uses.{memory_tests, send_tests, credit_tests}
use Rattle.sem_machine.specs.Calls.{next_key, next_place, child_made, narrowed, with_held, own_tests, derive_tests, gate_tests, destination_tests, ask_made}
use Rattle.sem_machine.specs.Calls.{obtain_tests, open_tests, offer_tests, delegate_tests, offer_made, bind_tests, call_row}
use Rattle.sem_machine.specs.Upcalls.{source, source_tests, given, given_kind, given_here, child_given, obtain_consent, parent_tests, delegate_here}
use Rattle.sem_machine.specs.Upcalls.{delegate_prepared, delegate_consent, consented, ask_decided}
use Rattle.sem_machine.specs.Handles.{is_stray, obtain_ready, acknowledged, handle_row, handled}
use Rattle.sem_machine.specs.Resumes.{delegate_granted, delegate_resumed, resumed}
use Rattle.sem_key.proofs.KeyTests.{key_eq-true}
use Rattle.sem_key.proofs.Members.{found}
use Rattle.sem_key.proofs.Puts.{get_or-put_same}
use Rattle.sem_machine.proofs.Folds.{option-keeps}
use Rattle.sem_machine.proofs.FirstCodes.{unless-keeps}
use Rattle.sem_safety.proofs.SoundEndpoints.{IsSoundSide}
use Rattle.sem_safety.proofs.JobIds.{IdsRise}
use Rattle.sem_safety.proofs.AskWeights.{here, of_message, of_ask, of_side, free_at, side-drawn, side-slot, side-endpoint, side-rung, side-waiting}
use Rattle.sem_safety.proofs.AskWeights.{parked-costs, side-asked, side-send}
use Rattle.sem_safety.proofs.AskRevokes.{cleared-costs, begun-costs, requested-fewer, done-fewer, call_refused-costs, ask_refused-costs, ended-fewer}

module _ (v0 : ℕ) where
  -- no more than m
  abbrev pub Few : ℕ → Step → Type 0
  Few m x = of_side v0 x.side ≤ m

  installed-same : (s : Side) (k : KeyName) (parent : Option KeyName) (sel : ℕ) (object : Object) → of_side v0 (installed k parent sel object s) ≡ of_side v0 s
  installed-same s k parent sel object = side-slot v0 (cap_added (fresh k parent sel object) s) k.vpe sel (Held k)

  -- Calls of a VPE that may call.
  module _ (s : Side) (v : ℕ) (may : free_at v0 v (row s v) (parked s v) ≡ here v0 v) where
    m : ℕ
    m = of_side v0 s

    child_made-few : (T : Setup) (dst : ℕ) (object : Object) (parent : KeyName) → Few (of_side v0 s) (child_made T v dst object parent s)
    child_made-few T dst object parent =
        let k : KeyName = next_key T s v (object_kind object) in
        let draws = side-drawn v0 s v in
        let installs = installed-same (linked parent k (drawn v s)) k (Some parent) dst object in
        let links : of_side v0 (linked parent k (drawn v s)) ≡ of_side v0 (drawn v s) = refl in
        omega (arith, draws, links, installs)

    ask_made-few : (T : Setup) (i dst : ℕ) (target : Target) → Few (of_side v0 s) (ask_made T i v dst target s)
    ask_made-few T i dst target =
        let place : PlaceName = next_place T s v in
        let w : ℕ = target_vpe target in
        let drawing : Side = drawn v s in
        let promising : Side = promised v dst drawing in
        let waiting : Side = parked_as v (ObtainWait place.number dst) promising in
        let draws = side-drawn v0 s v in
        let slot' = side-slot v0 drawing v dst Promised in
        let parks = side-waiting v0 promising v (ObtainWait place.number dst) refl in
        let r1 : VpeRow = record (row s v) { next_number = (row s v).next_number + 1 } in
        let one : free_at v0 v (row drawing v) (parked s v) ≡ free_at v0 v (row s v) (parked s v) =
        ap (λ r. free_at v0 v r (parked s v)) (get_or-put_same no_vpe s.vpes v r1) in
        let r2 : VpeRow = record (row drawing v) { slots = put Free (row drawing v).slots dst Promised } in
        let two : free_at v0 v (row promising v) (parked s v) ≡ free_at v0 v (row drawing v) (parked s v) =
        ap (λ r. free_at v0 v r (parked s v)) (get_or-put_same no_vpe drawing.vpes v r2) in
        cond_both (kernel_of T w == i) (asked w (ObtainAsk place target) waiting) (send (kernel_of T w) (ObtainReq place target) waiting)
        (λ t. of_side v0 t ≤ of_side v0 s)
        (λ _. let more : of_side v0 (asked w (ObtainAsk place target) waiting) ≤ of_side v0 waiting + here v0 v =
        side-asked v0 waiting w (ObtainAsk place target) in omega (arith, draws, slot', parks, one, two, may, more))
        (λ _. let more : of_side v0 (send (kernel_of T w) (ObtainReq place target) waiting) ≡ of_side v0 waiting + here v0 v =
        side-send v0 waiting (kernel_of T w) (ObtainReq place target) in omega (arith, draws, slot', parks, one, two, may, more))

    offer_made-few : (T : Setup) (i w dst : ℕ) (p : Capability) → p.key.vpe ≡ v → Few (of_side v0 s) (offer_made T i v w dst p s)
    offer_made-few T i w dst p own' =
        let waiting : Side = parked_as v (DelegateWait p.key) s in
        let parks = side-waiting v0 s v (DelegateWait p.key) refl in
        let same : here v0 p.key.vpe ≡ here v0 v = ap (here v0) own' in
        cond_both (kernel_of T w == i) (asked w (DelegateAsk p.key p.object dst) waiting) (send (kernel_of T w) (DelegateReq p.key p.object w dst) waiting)
        (λ t. of_side v0 t ≤ of_side v0 s)
        (λ _. let more : of_side v0 (asked w (DelegateAsk p.key p.object dst) waiting) ≤ of_side v0 waiting + here v0 p.key.vpe =
        side-asked v0 waiting w (DelegateAsk p.key p.object dst) in omega (arith, parks, may, same, more))
        (λ _. let more : of_side v0 (send (kernel_of T w) (DelegateReq p.key p.object w dst) waiting) ≡ of_side v0 waiting + here v0 p.key.vpe =
        side-send v0 waiting (kernel_of T w) (DelegateReq p.key p.object w dst) in omega (arith, parks, may, same, more))

    with_held-few : (o : Option Capability) (f : Capability → Step) → ((c : Capability) → o ≡ Some c → Few (of_side v0 s) (f c)) →
        Few (of_side v0 s) (with_held o f s)
    with_held-few o f each = option-keeps (Few (of_side v0 s)) f o (answer NoCap s) each (omega arith)

    -- a capability at a selector of the VPE is one of its own
    own-key : IsSoundSide s → (sel : ℕ) (c : Capability) → own s v sel ≡ Some c → c.key.vpe ≡ v
    own-key sound sel c held = from (slot s v sel) refl held
      where
        from : (x : Slot) → slot s v sel ≡ x → cap_in s x ≡ Some c → c.key.vpe ≡ v
        from Free at none = absurd cc
        from Promised at none = absurd cc
        from (Held k) at some = ap (λ (q : KeyName). q.vpe) (key_eq-true c.key k (found (λ (x : Capability). key_eq x.key k) s.caps c some).1)
            ∙ sound.own_slots v sel k at

    pub call_row-few : (T : Setup) (i : ℕ) (c : Call) → IsSoundSide s → IdsRise s.jobs → Few (of_side v0 s) (call_row T i s v c)
    unfolding call_row
    call_row-few T i (Derive src dst off len rights) sound rise = unless-keeps (Few (of_side v0 s)) (derive_tests s v src dst off len rights) _ _
        (λ code. omega arith) (with_held-few (own s v src) _ (λ p held. child_made-few T dst (narrowed off len rights p.object) p.key))
    call_row-few T i (Gate src dst label credits) sound rise = unless-keeps (Few (of_side v0 s)) (gate_tests s v src dst credits) _ _ (λ code. omega arith)
        (with_held-few (own s v src) _ (λ p held. child_made-few T dst (Send p.key label credits) p.key))
    call_row-few T i (Obtain dst w src) sound rise = unless-keeps (Few (of_side v0 s)) (obtain_tests T i s v dst w) _ _ (λ code. omega arith)
        (ask_made-few T i dst (SelTarget w src))
    call_row-few T i (Delegate src w dst) sound rise = unless-keeps (Few (of_side v0 s)) (delegate_tests T i s v src w) _ _ (λ code. omega arith)
        (with_held-few (own s v src) _ (λ p held. offer_made-few T i w dst p (own-key sound src p held)))
    call_row-few T i (OpenSession dst name) sound rise = unless-keeps (Few (of_side v0 s)) (open_tests T i s v dst name) _ _ (λ code. omega arith)
        (option-keeps (Few (of_side v0 s)) (λ (x : Service). ask_made T i v dst (ServTarget x.key) s) (service_named T name) (answer NoService s)
        (λ x there. ask_made-few T i dst (ServTarget x.key)) (omega arith))
    call_row-few T i (AskOffer dst session index) sound rise = unless-keeps (Few (of_side v0 s)) (offer_tests T i s v dst session) _ _ (λ code. omega arith)
        (option-keeps (Few (of_side v0 s)) (λ (k : KeyName). ask_made T i v dst (OfferTarget k index) s) _ (answer BadKind s)
        (λ k there. ask_made-few T i dst (OfferTarget k index)) (omega arith))
    call_row-few T i (Revoke src) sound rise = with_held-few (own s v src) _ (λ c held. begun-costs v0 T i v c.key c.mark s rise may)
    call_row-few T i (Bind ep src) sound rise = unless-keeps (Few (of_side v0 s)) (bind_tests s v src) _ _ (λ code. omega arith)
        (with_held-few (own s v src) _ (λ c held. let same = side-endpoint v0 s v ep (Some (record { key = c.key; object = c.object; ring = [] })) in
        omega (arith, same)))
    call_row-few T i (Read ep off len) sound rise = unless-keeps (Few (of_side v0 s)) (memory_tests 1 off len (endpoint s v ep)) _ _ (λ code. omega arith)
        (omega arith)
    call_row-few T i (Write ep off len) sound rise = unless-keeps (Few (of_side v0 s)) (memory_tests 2 off len (endpoint s v ep)) _ _ (λ code. omega arith)
        (omega arith)
    call_row-few T i (SendCall ep len) sound rise = unless-keeps (Few (of_side v0 s)) (send_tests (endpoint s v ep)) _ _ (λ code. omega arith) (let same =
        side-rung v0 s v ep (λ ring. ring ++ len ∷ []) in omega (arith, same))
    call_row-few T i (Credit ep) sound rise = unless-keeps (Few (of_side v0 s)) (credit_tests (endpoint s v ep)) _ _ (λ code. omega arith) (let same =
        side-rung v0 s v ep (λ ring. drop 1 ring) in omega (arith, same))
    call_row-few T i (Clear src) sound rise = unless-keeps (Few (of_side v0 s)) (own_tests (own s v src)) _ _ (λ code. omega arith)
        (with_held-few (own s v src) _ (λ c held. cleared-costs v0 T i v c.key s may))
    call_row-few T i Exit sound rise = ended-fewer v0 T i v s

  -- Upcalls.
  given_here-costs : (k p : KeyName) (object : Object) (state : Option Parked) (s : Side) →
      of_side v0 (given_here k p object state s) ≤ of_side v0 s + here v0 k.vpe
  given_here-costs k p object (Some (ObtainWait number sel)) s =
      let installs = installed-same s k (Some p) sel object in
      let readies = parked-costs v0 (installed k (Some p) sel object s) k.vpe (Ready (code_number OkCode)) in
      omega (arith, installs, readies)
  given_here-costs k p object None s = omega arith
  given_here-costs k p object (Some (ObtainReady key parent object' sel)) s = omega arith
  given_here-costs k p object (Some ObtainCancelled) s = omega arith
  given_here-costs k p object (Some (DelegateWait parent)) s = omega arith
  given_here-costs k p object (Some (DelegateReady parent key)) s = omega arith
  given_here-costs k p object (Some (RevokeWait j)) s = omega arith
  given_here-costs k p object (Some (Ready code)) s = omega arith

  child_given-costs : (T : Setup) (i : ℕ) (place : PlaceName) (target : Target) (s : Side) (p : Capability) →
      Few (of_side v0 s + here v0 place.vpe) (child_given T i place target s p)
  child_given-costs T i place target s p =
      let k : KeyName = keyed place (given_kind target p) in
      let object : Object = given target place.vpe p in
      let linking : Side = linked p.key k s in
      cond_both (kernel_of T place.vpe == i) (given_here k p.key object (parked linking place.vpe) linking)
      (send (place_owner T place) (ObtainOk p.key k object) linking) (λ t. of_side v0 t ≤ of_side v0 s + here v0 place.vpe)
      (λ _. given_here-costs k p.key object (parked linking place.vpe) linking)
      (λ _. let more : of_side v0 (send (place_owner T place) (ObtainOk p.key k object) linking) ≡ of_side v0 s + here v0 place.vpe =
      side-send v0 linking (place_owner T place) (ObtainOk p.key k object) in omega (arith, more))

  obtain_consent-costs : (T : Setup) (i v : ℕ) (place : PlaceName) (target : Target) (s : Side) →
      Few (of_side v0 s + here v0 place.vpe) (obtain_consent T i v place target s)
  obtain_consent-costs T i v place target s = unless-keeps (Few (of_side v0 s + here v0 place.vpe)) (source_tests target (source T s v target)) _ _
      (λ code. ask_refused-costs v0 T i code (ObtainAsk place target) s) (option-keeps (Few (of_side v0 s + here v0 place.vpe)) (child_given T i place target s)
      (source T s v target) (unshown s) (λ p held. child_given-costs T i place target s p) (omega arith))

  delegate_here-costs : (T : Setup) (v : ℕ) (parent : KeyName) (object : Object) (sel : ℕ) (s : Side) →
      Few (of_side v0 s + here v0 parent.vpe) (delegate_here T v parent object sel s)
  delegate_here-costs T v parent object sel s =
      let k : KeyName = next_key T s v parent.kind in
      let linking : Side = linked parent k (drawn v s) in
      let draws = side-drawn v0 s v in
      let links : of_side v0 linking ≡ of_side v0 (drawn v s) = refl in
      let installs = installed-same linking k (Some parent) sel object in
      let readies = parked-costs v0 (installed k (Some parent) sel object linking) parent.vpe (Ready (code_number OkCode)) in
      omega (arith, draws, links, installs, readies)

  delegate_prepared-costs : (T : Setup) (v : ℕ) (parent : KeyName) (object : Object) (sel : ℕ) (s : Side) →
      Few (of_side v0 s + here v0 parent.vpe) (delegate_prepared T v parent object sel s)
  delegate_prepared-costs T v parent object sel s =
      let k : KeyName = next_key T s v parent.kind in
      let p : Pending = record { key = k; parent = parent; object = object; sel = sel } in
      let preparing : Side = pending_added p (promised v sel (drawn v s)) in
      let draws = side-drawn v0 s v in
      let slot' = side-slot v0 (drawn v s) v sel Promised in
      let more : of_side v0 (send (owner_of T parent) (DelegatePrepared parent k) preparing) ≡ of_side v0 preparing + here v0 parent.vpe =
      side-send v0 preparing (owner_of T parent) (DelegatePrepared parent k) in
      let same : of_side v0 preparing ≡ of_side v0 (promised v sel (drawn v s)) = refl in
      omega (arith, draws, slot', more, same)

  delegate_consent-costs : (T : Setup) (i v : ℕ) (parent : KeyName) (object : Object) (sel : ℕ) (s : Side) →
      Few (of_side v0 s + here v0 parent.vpe) (delegate_consent T i v parent object sel s)
  delegate_consent-costs T i v parent object sel s =
      cond_both (kernel_of T parent.vpe == i) _ _ (Few (of_side v0 s + here v0 parent.vpe))
      (λ _. unless-keeps (Few (of_side v0 s + here v0 parent.vpe)) (parent_tests (cap s parent) ++ destination_tests s v sel) _ _
      (λ code. ask_refused-costs v0 T i code (DelegateAsk parent object sel) s) (delegate_here-costs T v parent object sel s))
      (λ _. unless-keeps (Few (of_side v0 s + here v0 parent.vpe)) (destination_tests s v sel) _ _
      (λ code. ask_refused-costs v0 T i code (DelegateAsk parent object sel) s) (delegate_prepared-costs T v parent object sel s))

  consented-costs : (T : Setup) (i v : ℕ) (a : Ask) (s : Side) → Few (of_side v0 s + of_ask v0 a) (consented T i v a s)
  consented-costs T i v (ObtainAsk place target) s = obtain_consent-costs T i v place target s
  consented-costs T i v (DelegateAsk parent object sel) s = delegate_consent-costs T i v parent object sel s

  pub decided-costs : (T : Setup) (i v : ℕ) (a : Ask) (s : Side) → Few (of_side v0 s + of_ask v0 a) (ask_decided T i v a s)
  decided-costs T i v a s =
      cond_both (is_unawaited T i s a) _ _ (Few (of_side v0 s + of_ask v0 a)) (λ _. omega arith)
      (λ _. cond_both (denies T v (asker a)) _ _ (Few (of_side v0 s + of_ask v0 a)) (λ _. ask_refused-costs v0 T i Refused a s)
      (λ _. consented-costs T i v a s))

  -- Parked calls, from the side without the call.
  granted-same : (T : Setup) (parent key : KeyName) (mark : Option ℕ) (s : Side) → Few (of_side v0 s) (delegate_granted T parent key mark s)
  granted-same T parent key None s = let more : of_side v0 (send (owner_of T key) (Ack key true) (linked parent key s)) ≡ of_side v0 s + 0 =
      side-send v0 (linked parent key s) (owner_of T key) (Ack key true) in omega (arith, more)
  granted-same T parent key (Some j) s = let more : of_side v0 (send (owner_of T key) (Ack key false) s) ≡ of_side v0 s + 0 =
      side-send v0 s (owner_of T key) (Ack key false) in omega (arith, more)

  delegate_resumed-same : (T : Setup) (parent key : KeyName) (o : Option Capability) (s : Side) → Few (of_side v0 s) (delegate_resumed T parent key o s)
  delegate_resumed-same T parent key None s = let more : of_side v0 (send (owner_of T key) (Ack key false) s) ≡ of_side v0 s + 0 =
      side-send v0 s (owner_of T key) (Ack key false) in omega (arith, more)
  delegate_resumed-same T parent key (Some c) s = granted-same T parent key c.mark s

  pub resumed-same : (T : Setup) (p : Option Parked) (s : Side) → Few (of_side v0 s) (resumed T p s)
  resumed-same T (Some (Ready code)) s = omega arith
  resumed-same T (Some (ObtainReady key parent object sel)) s = let same = installed-same s key (Some parent) sel object in omega (arith, same)
  resumed-same T (Some ObtainCancelled) s = omega arith
  resumed-same T (Some (DelegateReady parent key)) s = delegate_resumed-same T parent key (cap s parent) s
  resumed-same T None s = omega arith
  resumed-same T (Some (ObtainWait number sel)) s = omega arith
  resumed-same T (Some (DelegateWait parent)) s = omega arith
  resumed-same T (Some (RevokeWait j)) s = omega arith

  -- Messages.
  obtain_ready-costs : (parent key : KeyName) (object : Object) (state : Option Parked) (s : Side) →
      of_side v0 (obtain_ready parent key object state s) ≤ of_side v0 s + here v0 key.vpe
  obtain_ready-costs parent key object (Some (ObtainWait number sel)) s = parked-costs v0 s key.vpe (ObtainReady key parent object sel)
  obtain_ready-costs parent key object None s = omega arith
  obtain_ready-costs parent key object (Some (ObtainReady key' parent' object' sel)) s = omega arith
  obtain_ready-costs parent key object (Some ObtainCancelled) s = omega arith
  obtain_ready-costs parent key object (Some (DelegateWait parent')) s = omega arith
  obtain_ready-costs parent key object (Some (DelegateReady parent' key')) s = omega arith
  obtain_ready-costs parent key object (Some (RevokeWait j)) s = omega arith
  obtain_ready-costs parent key object (Some (Ready code)) s = omega arith

  acknowledged-same : (T : Setup) (key : KeyName) (accepted : Bool) (s : Side) (p : Pending) → of_side v0 (acknowledged T key accepted s p) ≤ of_side v0 s
  acknowledged-same T key true s p =
      let t : Side = pending_removed key s in
      cond_both (is_alive s key.vpe) (installed key (Some p.parent) p.sel p.object t) (send (owner_of T p.parent) (Orphan p.parent key) t)
      (λ u. of_side v0 u ≤ of_side v0 s)
      (λ _. let same = installed-same t key (Some p.parent) p.sel p.object in omega (arith, same))
      (λ _. let more : of_side v0 (send (owner_of T p.parent) (Orphan p.parent key) t) ≡ of_side v0 s + 0 =
      side-send v0 t (owner_of T p.parent) (Orphan p.parent key) in omega (arith, more))
  acknowledged-same T key false s p = let same = side-slot v0 (pending_removed key s) key.vpe p.sel Free in omega (arith, same)

  handle_row-costs : (T : Setup) (i : ℕ) (s : Side) (from : ℕ) (m : Message) → of_side v0 (handle_row T i s from m) ≤ of_side v0 s + of_message v0 m
  unfolding handle_row
  handle_row-costs T i s from (ObtainReq place target) = cond_both (is_alive s (target_vpe target)) (asked (target_vpe target) (ObtainAsk place target) s)
      (ask_refused T i Dead (ObtainAsk place target) s) (λ u. of_side v0 u ≤ of_side v0 s + here v0 place.vpe)
      (λ _. side-asked v0 s (target_vpe target) (ObtainAsk place target)) (λ _. ask_refused-costs v0 T i Dead (ObtainAsk place target) s)
  handle_row-costs T i s from (ObtainOk parent key object) = cond_both (is_alive s key.vpe) (obtain_ready parent key object (parked s key.vpe) s)
      (send (owner_of T parent) (Orphan parent key) s) (λ u. of_side v0 u ≤ of_side v0 s + here v0 key.vpe)
      (λ _. obtain_ready-costs parent key object (parked s key.vpe) s) (λ _. let more : of_side v0 (send (owner_of T parent) (Orphan parent key) s)
      ≡ of_side v0 s + 0 = side-send v0 s (owner_of T parent) (Orphan parent key) in omega (arith, more))
  handle_row-costs T i s from (ObtainNo place code) =
      cond_both (is_alive s place.vpe) (call_refused code place.vpe s) s (λ u. of_side v0 u ≤ of_side v0 s + here v0 place.vpe)
      (λ _. call_refused-costs v0 code place.vpe s) (λ _. omega arith)
  handle_row-costs T i s from (DelegateReq parent object vpe sel) = cond_both (is_alive s vpe) (asked vpe (DelegateAsk parent object sel) s)
      (ask_refused T i Dead (DelegateAsk parent object sel) s) (λ u. of_side v0 u ≤ of_side v0 s + here v0 parent.vpe)
      (λ _. side-asked v0 s vpe (DelegateAsk parent object sel)) (λ _. ask_refused-costs v0 T i Dead (DelegateAsk parent object sel) s)
  handle_row-costs T i s from (DelegatePrepared parent key) = cond_both (is_alive s parent.vpe) (parked_as parent.vpe (DelegateReady parent key) s)
      (send (owner_of T key) (Ack key false) s) (λ u. of_side v0 u ≤ of_side v0 s + here v0 parent.vpe)
      (λ _. parked-costs v0 s parent.vpe (DelegateReady parent key)) (λ _. let more : of_side v0 (send (owner_of T key) (Ack key false) s) ≡ of_side v0 s + 0 =
      side-send v0 s (owner_of T key) (Ack key false) in omega (arith, more))
  handle_row-costs T i s from (DelegateNo parent code) =
      cond_both (is_alive s parent.vpe) (call_refused code parent.vpe s) s (λ u. of_side v0 u ≤ of_side v0 s + here v0 parent.vpe)
      (λ _. call_refused-costs v0 code parent.vpe s) (λ _. omega arith)
  handle_row-costs T i s from (Ack key accepted) = option-keeps (λ u. of_side v0 u ≤ of_side v0 s + 0) (acknowledged T key accepted s) (pending s key) s
      (λ p there. let same = acknowledged-same T key accepted s p in omega (arith, same)) (omega arith)
  handle_row-costs T i s from (Orphan parent key) = omega arith
  handle_row-costs T i s from (RevokeReq key j) = let less = requested-fewer v0 T i from j key (cap s key) s in omega (arith, less)
  handle_row-costs T i s from (RevokeDone j) = let less = done-fewer v0 T i j s in omega (arith, less)
  handle_row-costs T i s from (Unlink parent key) = omega arith

  pub handled-costs : (T : Setup) (i : ℕ) (s : Side) (from : ℕ) (m : Message) → of_side v0 (handled T i s from m) ≤ of_side v0 s + of_message v0 m
  handled-costs T i s from m = cond_both (is_stray T i s m) s (handle_row T i s from m) (λ u. of_side v0 u ≤ of_side v0 s + of_message v0 m) (λ _. omega arith)
      (λ _. handle_row-costs T i s from m)
