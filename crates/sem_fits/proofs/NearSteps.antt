-- Upcalls, messages, parked calls that go on, and whole steps keep that a side speaks of what a text can speak of, and show no more.
use Rattle.std.proofs.Common.{◌≡◌, ℕ, ◌<◌, ◌++◌, Bool, true, false, Option, Some, None, slice_get}
use Rattle.std.specs.Prelude.{◌==◌, if◌then◌else◌}
use Rattle.std.specs.List.{Contains}
use Rattle.std.specs.Option.{option_map, option_map_or}
use Rattle.std.proofs.lemmas.Bool.{cond_both, leb-false}
use Rattle.sem_key.specs.declared.limits.TheConstants.{NUMBERS}
use Rattle.sem_key.specs.declared.object.Object.{Object}
use Rattle.sem_key.specs.KeyName.{KeyName}
use Rattle.sem_key.specs.PlaceName.{PlaceName, keyed}
use Rattle.sem_key.specs.Capability.{Capability}
use Rattle.sem_msg.specs.Calls.{IsValidCall}
use Rattle.sem_msg.specs.Versions.{most_vpes}
use Rattle.sem_msg.specs.declared.call.Call.{Call}
use Rattle.sem_msg.specs.declared.event.Act.{Act}
use Rattle.sem_msg.specs.declared.event.Act.TheVariants.{Call as Calls, Fetch, Handle, Upcall, Resume, Flush, Kill}
use Rattle.sem_msg.specs.declared.code.Code.TheVariants.{Ok as OkCode, Dead, Refused, Revoking, Gone}
use Rattle.sem_msg.specs.declared.entry.Consent.TheVariants.{Yes, No, Dropped}
use Rattle.sem_msg.specs.declared.message.Target.{Target}
use Rattle.sem_msg.specs.declared.message.Target.TheVariants.{Sel as SelTarget, Serv as ServTarget, Offer as OfferTarget}
use Rattle.sem_msg.specs.declared.message.Message.{Message}
use Rattle.sem_msg.specs.declared.message.Message.TheVariants.{ObtainReq, ObtainOk, ObtainNo, DelegateReq, DelegatePrepared, DelegateNo, Ack, Orphan, RevokeReq}
use Rattle.sem_msg.specs.declared.message.Message.TheVariants.{RevokeDone, Unlink}
use Rattle.sem_msg.specs.declared.setup.Service.{Service}
use Rattle.sem_msg.specs.declared.state.Ask.{Ask}
use Rattle.sem_msg.specs.declared.state.Ask.TheVariants.{Obtain as ObtainAsk, Delegate as DelegateAsk}
use Rattle.sem_msg.specs.declared.state.Parked.{Parked}
use Rattle.sem_msg.specs.declared.state.Parked.TheVariants.{ObtainWait, ObtainReady, ObtainCancelled, DelegateWait, DelegateReady, RevokeWait, Ready}
use Rattle.sem_msg.specs.declared.state.Pending.{Pending}
use Rattle.sem_msg.specs.declared.state.Slot.TheVariants.{Promised}
use Rattle.sem_msg.specs.Codes.{code_number}
use Rattle.sem_msg.specs.Setup.{Setup}
use Rattle.sem_msg.specs.Lookups.{pe_of, kernel_of, owner_of, place_owner, denies, offered}
use Rattle.std.specs.Option.{option_and_then}
use Rattle.sem_trace.specs.Ranges.{IsNode, IsKeyInText}
use Rattle.sem_machine.specs.Sides.{Side, row, cap, own, parked, pending, is_alive, drawn, promised, parked_as, unparked, asked, ask_taken, call_counted}
use Rattle.sem_machine.specs.Sides.{linked, installed, pending_added, pending_removed, succeeding, send, sent, with_inbox}
use Rattle.sem_machine.specs.Steps.{unshown, answer}
use Rattle.sem_machine.specs.Asks.{target_vpe, asker, is_unawaited, ask_refused, call_refused}
use Rattle.sem_machine.specs.Calls.{destination_tests, next_key, call_row}
use Rattle.sem_machine.specs.Upcalls.{source, source_tests, given, given_kind, given_here, child_given, obtain_consent, parent_tests, delegate_here}
use Rattle.sem_machine.specs.Upcalls.{delegate_prepared, delegate_consent, consented, ask_decided, upcall_row}
use Rattle.sem_machine.specs.Handles.{is_stray, obtain_ready, acknowledged, handle_row, handled}
use Rattle.sem_machine.specs.Resumes.{delegate_granted, delegate_resumed, resumed, resume_row}
use Rattle.sem_machine.specs.Ends.{ended}
use Rattle.sem_machine.specs.Machine.{next_call, local_step}
use Rattle.sem_machine.proofs.Folds.{option-keeps}
use Rattle.sem_machine.proofs.FirstCodes.{Passed, unless-keeps, unless-passed}
use Rattle.sem_fits.proofs.Near.{NearObject, NearMessage, NearInbox, NearCall, NearAsk, NearPending, NearCap, NearSide, parked-near, cap-near, own-near}
use Rattle.sem_fits.proofs.Near.{pending-near, first_ask-near, counted-near, drawn-near, with_slot-near, asked-near, taken-near, parked_as-near, unparked-near}
use Rattle.sem_fits.proofs.Near.{linked-near, unlinked-near, pending_added-near, pending_removed-near, send-near, sent-near, with_inbox-near}
use Rattle.sem_fits.proofs.NearRevokes.{freed-in, installed-in, ready-in, requested-in, done-in}
use Rattle.sem_fits.proofs.NearCalls.{NearStep, code-fits, plain-near, replied-near, answer-near, granting-near, asking-near, call_refused-in, ask_refused-in}
use Rattle.sem_fits.proofs.NearCalls.{ended-in, call_row-near}

module _ (version : ℕ) where
  -- Upcalls.
  asker-near : (a : Ask) → NearAsk version a → IsNode version (asker a)
  asker-near (ObtainAsk place target) near = near.0.1
  asker-near (DelegateAsk parent object sel) near = near.0.1

  -- the child is installed
  given_here-in : (k p : KeyName) (object : Object) (state : Option Parked) (s : Side) → IsKeyInText version k → IsKeyInText version p →
      NearObject version object
      → NearSide version s → NearSide version (given_here k p object state s)
  given_here-in k p object (Some (ObtainWait number sel)) s key parent of_object is = ready-in version (installed k (Some p) sel object s)
      (installed-in version s is k (Some p) sel object key parent of_object) (code_number OkCode) k.vpe (code-fits OkCode)
  given_here-in k p object None s key parent of_object is = is
  given_here-in k p object (Some (ObtainReady key' parent' object' sel)) s key parent of_object is = is
  given_here-in k p object (Some ObtainCancelled) s key parent of_object is = is
  given_here-in k p object (Some (DelegateWait parent')) s key parent of_object is = is
  given_here-in k p object (Some (DelegateReady parent' key')) s key parent of_object is = is
  given_here-in k p object (Some (RevokeWait j)) s key parent of_object is = is
  given_here-in k p object (Some (Ready code)) s key parent of_object is = is

  -- the object of the child
  given-near : (place : PlaceName) (target : Target) (p : Capability) → NearAsk version (ObtainAsk place target) → NearCap version p
      → NearObject version (given target place.vpe p)
  given-near place (SelTarget vpe sel) p near cap' = cap'.object
  given-near place (ServTarget service) p near cap' = (near.1, near.0.1)
  given-near place (OfferTarget service index) p near cap' = cap'.object

  -- what is given is held
  source-near : (T : Setup) (s : Side) (v : ℕ) (target : Target) (p : Capability) → NearSide version s → source T s v target ≡ Some p → NearCap version p
  source-near T s v (SelTarget w sel) p is held = own-near version s is v sel p held
  source-near T s v (ServTarget service) p is held = cap-near version s is service p held
  source-near T s v (OfferTarget service index) p is held = from (offered T service index) held
    where
      from : (o : Option ℕ) → option_and_then (own s v) o ≡ Some p → NearCap version p
      from None none = absurd cc
      from (Some sel) there = own-near version s is v sel p there

  -- a child is given
  child_given-near : (T : Setup) (i : ℕ) (place : PlaceName) (target : Target) (s : Side) (p : Capability) → NearSide version s
      → NearAsk version (ObtainAsk place target) → NearCap version p → NearStep version (child_given T i place target s p)
  child_given-near T i place target s p is near cap' =
      let k : KeyName = keyed place (given_kind target p) in
      let key : IsKeyInText version k = near.0 in
      let object : Object = given target place.vpe p in
      let of_object : NearObject version object = given-near place target p near cap' in
      let linking : Side = linked p.key k s in
      let kept : NearSide version linking = linked-near version s is p.key k key in
      let given' : Side = if kernel_of T place.vpe == i then given_here k p.key object (parked linking place.vpe) linking else send (place_owner T place)
      (ObtainOk p.key k object) linking in
      granting-near version p.key k (unshown given') cap'.key key (plain-near version given'
      (cond_both (kernel_of T place.vpe == i) (given_here k p.key object (parked linking place.vpe) linking)
      (send (place_owner T place) (ObtainOk p.key k object) linking) (NearSide version)
      (λ _. given_here-in k p.key object (parked linking place.vpe) linking key cap'.key of_object kept)
      (λ _. send-near version linking kept (place_owner T place) (ObtainOk p.key k object) (cap'.key, key, of_object))))

  -- consent to an obtain
  obtain_consent-near : (T : Setup) (i v : ℕ) (place : PlaceName) (target : Target) (s : Side) → NearSide version s → NearAsk version (ObtainAsk place target)
      → NearStep version (obtain_consent T i v place target s)
  obtain_consent-near T i v place target s is near = unless-keeps (NearStep version) (source_tests target (source T s v target)) _ _
      (λ code. plain-near version (ask_refused T i code (ObtainAsk place target) s) (ask_refused-in version T i code (ObtainAsk place target) s near is))
      (option-keeps (NearStep version) (child_given T i place target s) (source T s v target) (unshown s)
      (λ p held. child_given-near T i place target s p is near (source-near T s v target p is held)) (plain-near version s is))

  module _ (T : Setup) (v : ℕ) (vpe : IsNode version v) (pe : IsNode version (pe_of T v)) (s : Side) (is : NearSide version s) (parent : KeyName)
      (object : Object) (sel : ℕ) (near : NearAsk version (DelegateAsk parent object sel)) where
    -- a number is left, where a destination passes
    left : Passed (destination_tests s v sel) → (row s v).next_number < NUMBERS
    left passed = leb-false NUMBERS (row s v).next_number passed.1.0

    -- a delegation of the same kernel
    delegate_here-near : (row s v).next_number < NUMBERS → NearStep version (delegate_here T v parent object sel s)
    delegate_here-near number =
        let k : KeyName = next_key T s v parent.kind in
        let key : IsKeyInText version k = (pe, vpe, number) in
        let linking : Side = linked parent k (drawn v s) in
        let kept : NearSide version linking = linked-near version (drawn v s) (drawn-near version s is v) parent k key in
        let done : Side = succeeding parent.vpe (installed k (Some parent) sel object linking) in
        granting-near version parent k (unshown done) near.0 key
        (plain-near version done (ready-in version (installed k (Some parent) sel object linking)
        (installed-in version linking kept k (Some parent) sel object key near.0 near.1) (code_number OkCode) parent.vpe (code-fits OkCode)))

    -- a delegation from another kernel
    delegate_prepared-near : (row s v).next_number < NUMBERS → NearStep version (delegate_prepared T v parent object sel s)
    delegate_prepared-near number =
        let k : KeyName = next_key T s v parent.kind in
        let key : IsKeyInText version k = (pe, vpe, number) in
        let p : Pending = record { key = k; parent = parent; object = object; sel = sel } in
        let promising : Side = promised v sel (drawn v s) in
        let preparing : NearSide version (pending_added p promising) = pending_added-near version promising
        (with_slot-near version (drawn v s) (drawn-near version s is v) v sel Promised) p (key, near.0, near.1) in
        plain-near version (send (owner_of T parent) (DelegatePrepared parent k) (pending_added p promising))
        (send-near version (pending_added p promising) preparing (owner_of T parent) (DelegatePrepared parent k) (near.0, key))

    -- consent to a delegation
    delegate_consent-near : (i : ℕ) → NearStep version (delegate_consent T i v parent object sel s)
    delegate_consent-near i =
        cond_both (kernel_of T parent.vpe == i) _ _ (NearStep version)
        (λ _. unless-passed (NearStep version) (parent_tests (cap s parent) ++ destination_tests s v sel) _ _
        (λ code. plain-near version (ask_refused T i code (DelegateAsk parent object sel) s)
        (ask_refused-in version T i code (DelegateAsk parent object sel) s near is)) (λ passed. delegate_here-near (left passed.1.1)))
        (λ _. unless-passed (NearStep version) (destination_tests s v sel) _ _
        (λ code. plain-near version (ask_refused T i code (DelegateAsk parent object sel) s)
        (ask_refused-in version T i code (DelegateAsk parent object sel) s near is)) (λ passed. delegate_prepared-near (left passed)))

  module _ (T : Setup) (i v : ℕ) (vpe : IsNode version v) (pe : IsNode version (pe_of T v)) where
    consented-near : (a : Ask) (s : Side) → NearSide version s → NearAsk version a → NearStep version (consented T i v a s)
    consented-near (ObtainAsk place target) s is near = obtain_consent-near T i v place target s is near
    consented-near (DelegateAsk parent object sel) s is near = delegate_consent-near T v vpe pe s is parent object sel near i

    -- an ask is decided
    decided-near : (a : Ask) (s : Side) → NearSide version s → NearAsk version a → NearStep version (ask_decided T i v a s)
    decided-near a s is near =
        let node : IsNode version (asker a) = asker-near a near in
        cond_both (is_unawaited T i s a) _ _ (NearStep version) (λ _. asking-near version (asker a) Dropped (unshown s) node (plain-near version s is))
        (λ _. cond_both (denies T v (asker a)) _ _ (NearStep version)
        (λ _. asking-near version (asker a) No (unshown (ask_refused T i Refused a s)) node
        (plain-near version (ask_refused T i Refused a s) (ask_refused-in version T i Refused a s near is))) (λ _. asking-near version (asker a) Yes
        (consented T i v a s) node (consented-near a s is near)))

    -- the row of an upcall
    pub upcall_row-near : (s : Side) → NearSide version s → NearStep version (upcall_row T i s v)
    unfolding upcall_row
    upcall_row-near s is = option-keeps (NearStep version) (λ (a : Ask). ask_decided T i v a (ask_taken v s)) (slice_get (row s v).asks 0) (unshown s)
        (λ a there. decided-near a (ask_taken v s) (taken-near version s is v) (first_ask-near version s is v a there)) (plain-near version s is)

  -- Messages.
  obtain_ready-in : (parent key : KeyName) (object : Object) (state : Option Parked) (s : Side) → NearMessage version (ObtainOk parent key object) →
      NearSide version s
      → NearSide version (obtain_ready parent key object state s)
  obtain_ready-in parent key object (Some (ObtainWait number sel)) s near is = parked_as-near version s is key.vpe (ObtainReady key parent object sel)
      (near.1, near.0, near.2)
  obtain_ready-in parent key object None s near is = is
  obtain_ready-in parent key object (Some (ObtainReady key' parent' object' sel)) s near is = is
  obtain_ready-in parent key object (Some ObtainCancelled) s near is = is
  obtain_ready-in parent key object (Some (DelegateWait parent')) s near is = is
  obtain_ready-in parent key object (Some (DelegateReady parent' key')) s near is = is
  obtain_ready-in parent key object (Some (RevokeWait j)) s near is = is
  obtain_ready-in parent key object (Some (Ready code)) s near is = is

  -- a delegation is acknowledged
  acknowledged-in : (T : Setup) (key : KeyName) (accepted : Bool) (s : Side) (p : Pending) → NearSide version s → IsKeyInText version key →
      NearPending version p
      → NearSide version (acknowledged T key accepted s p)
  acknowledged-in T key true s p is near pends = cond_both (is_alive s key.vpe) (installed key (Some p.parent) p.sel p.object (pending_removed key s))
      (send (owner_of T p.parent) (Orphan p.parent key) (pending_removed key s)) (NearSide version)
      (λ _. installed-in version (pending_removed key s) (pending_removed-near version s is key) key (Some p.parent) p.sel p.object near pends.1 pends.2)
      (λ _. send-near version (pending_removed key s) (pending_removed-near version s is key) (owner_of T p.parent) (Orphan p.parent key) (pends.1, near))
  acknowledged-in T key false s p is near pends = freed-in version (pending_removed key s) (pending_removed-near version s is key) key.vpe p.sel

  -- the row of each message
  handle_row-in : (T : Setup) (i : ℕ) (s : Side) (from : ℕ) (m : Message) → NearSide version s → NearMessage version m →
      NearSide version (handle_row T i s from m)
  unfolding handle_row
  handle_row-in T i s from (ObtainReq place target) is near = cond_both (is_alive s (target_vpe target)) (asked (target_vpe target) (ObtainAsk place target) s)
      (ask_refused T i Dead (ObtainAsk place target) s) (NearSide version) (λ _. asked-near version s is (target_vpe target) (ObtainAsk place target) near)
      (λ _. ask_refused-in version T i Dead (ObtainAsk place target) s near is)
  handle_row-in T i s from (ObtainOk parent key object) is near = cond_both (is_alive s key.vpe) (obtain_ready parent key object (parked s key.vpe) s)
      (send (owner_of T parent) (Orphan parent key) s) (NearSide version) (λ _. obtain_ready-in parent key object (parked s key.vpe) s near is)
      (λ _. send-near version s is (owner_of T parent) (Orphan parent key) (near.0, near.1))
  handle_row-in T i s from (ObtainNo place code) is near = cond_both (is_alive s place.vpe) (call_refused code place.vpe s) s (NearSide version)
      (λ _. call_refused-in version code place.vpe s near.1 is) (λ _. is)
  handle_row-in T i s from (DelegateReq parent object vpe sel) is near = cond_both (is_alive s vpe) (asked vpe (DelegateAsk parent object sel) s)
      (ask_refused T i Dead (DelegateAsk parent object sel) s) (NearSide version) (λ _. asked-near version s is vpe (DelegateAsk parent object sel) (
        near.0,
        near.1,
      ))
      (λ _. ask_refused-in version T i Dead (DelegateAsk parent object sel) s (near.0, near.1) is)
  handle_row-in T i s from (DelegatePrepared parent key) is near = cond_both (is_alive s parent.vpe) (parked_as parent.vpe (DelegateReady parent key) s)
      (send (owner_of T key) (Ack key false) s) (NearSide version) (λ _. parked_as-near version s is parent.vpe (DelegateReady parent key) near)
      (λ _. send-near version s is (owner_of T key) (Ack key false) near.1)
  handle_row-in T i s from (DelegateNo parent code) is near = cond_both (is_alive s parent.vpe) (call_refused code parent.vpe s) s (NearSide version)
      (λ _. call_refused-in version code parent.vpe s near.1 is) (λ _. is)
  handle_row-in T i s from (Ack key accepted) is near = option-keeps (NearSide version) (acknowledged T key accepted s) (pending s key) s
      (λ p there. acknowledged-in T key accepted s p is near (pending-near version s is key p there)) is
  handle_row-in T i s from (Orphan parent key) is near = unlinked-near version s is parent key
  handle_row-in T i s from (RevokeReq key j) is near = requested-in version T i from j key (cap s key) s is near
  handle_row-in T i s from (RevokeDone j) is near = done-in version T i j s is
  handle_row-in T i s from (Unlink parent key) is near = unlinked-near version s is parent key

  -- a message, if it is no stray
  handled-in : (T : Setup) (i : ℕ) (s : Side) (from : ℕ) (m : Message) → NearSide version s → NearMessage version m → NearSide version (handled T i s from m)
  handled-in T i s from m is near = cond_both (is_stray T i s m) s (handle_row T i s from m) (NearSide version) (λ _. is)
      (λ _. handle_row-in T i s from m is near)

  -- Parked calls.
  granted-near : (T : Setup) (parent key : KeyName) (mark : Option ℕ) (s : Side) → NearSide version s → NearCall version (Some (DelegateReady parent key))
      → NearStep version (delegate_granted T parent key mark s)
  granted-near T parent key None s is near = granting-near version parent key
      (answer OkCode (send (owner_of T key) (Ack key true) (linked parent key s))) near.0 near.1
      (answer-near version OkCode (send (owner_of T key) (Ack key true) (linked parent key s))
      (send-near version (linked parent key s) (linked-near version s is parent key near.1) (owner_of T key) (Ack key true) near.1))
  granted-near T parent key (Some j) s is near = answer-near version Revoking (send (owner_of T key) (Ack key false) s)
      (send-near version s is (owner_of T key) (Ack key false) near.1)

  -- a delegate goes on
  delegate_resumed-near : (T : Setup) (parent key : KeyName) (o : Option Capability) (s : Side) → NearSide version s
      → NearCall version (Some (DelegateReady parent key)) → NearStep version (delegate_resumed T parent key o s)
  delegate_resumed-near T parent key None s is near = answer-near version Gone (send (owner_of T key) (Ack key false) s)
      (send-near version s is (owner_of T key) (Ack key false) near.1)
  delegate_resumed-near T parent key (Some c) s is near = granted-near T parent key c.mark s is near

  -- a parked call ends
  resumed-near : (T : Setup) (p : Option Parked) (s : Side) → NearSide version s → NearCall version p → NearStep version (resumed T p s)
  resumed-near T (Some (Ready number)) s is near = replied-near version number s near is
  resumed-near T (Some (ObtainReady key parent object sel)) s is near = answer-near version OkCode (installed key (Some parent) sel object s)
      (installed-in version s is key (Some parent) sel object near.0 near.1 near.2)
  resumed-near T (Some ObtainCancelled) s is near = answer-near version Gone s is
  resumed-near T (Some (DelegateReady parent key)) s is near = delegate_resumed-near T parent key (cap s parent) s is near
  resumed-near T None s is near = plain-near version s is
  resumed-near T (Some (ObtainWait number sel)) s is near = plain-near version s is
  resumed-near T (Some (DelegateWait parent)) s is near = plain-near version s is
  resumed-near T (Some (RevokeWait j)) s is near = plain-near version s is

  -- the row of a resume
  resume_row-near : (T : Setup) (s : Side) (v : ℕ) → NearSide version s → NearStep version (resume_row T s v)
  unfolding resume_row
  resume_row-near T s v is = resumed-near T (parked s v) (unparked v s) (unparked-near version s is v) (parked-near version s is v)

  -- A step of a side, which is handed the message that it fetches.

  -- the message that is fetched
  abbrev pub NearInput : Option Message → Type 0
  NearInput None = Unit {0}
  NearInput (Some m) = NearMessage version m

  -- a message is fetched
  fetched-in : (from : ℕ) (input : Option Message) (s : Side) → NearSide version s → NearInput input
      → NearSide version (with_inbox (option_map (λ m. (from, m)) input) s)
  fetched-in from None s is near = with_inbox-near version s is None tt
  fetched-in from (Some m) s is near = with_inbox-near version s is (Some (from, m)) near

  -- the message in the inbox is handled
  taken_out-in : (T : Setup) (i : ℕ) (s : Side) (inbox : Option (ℕ × Message)) → NearSide version s → NearInbox version inbox
      → NearSide version (option_map_or (λ m. handled T i (with_inbox None s) m.0 m.1) inbox s)
  taken_out-in T i s None is near = is
  taken_out-in T i s (Some m) is near = handled-in T i (with_inbox None s) m.0 m.1 (with_inbox-near version s is None tt) near

  -- of the VPE of an act it is known that a text can speak of it and of its PE
  abbrev pub NearAct : Setup → Act → Type 0
  NearAct T (Calls v) = IsNode version v × IsNode version (pe_of T v)
  NearAct T (Upcall v) = IsNode version v × IsNode version (pe_of T v)
  NearAct T (Resume v) = IsNode version v × IsNode version (pe_of T v)
  NearAct T (Kill v) = IsNode version v × IsNode version (pe_of T v)
  NearAct T (Fetch from) = Unit {0}
  NearAct T Handle = Unit {0}
  NearAct T (Flush to) = Unit {0}

  -- each step of a side
  pub local_step-near : (T : Setup) (i : ℕ) (s : Side) (a : Act) (input : Option Message) → ((x : Service) → Contains T.services x → IsKeyInText version x.key)
      → ((v : ℕ) (c : Call) → next_call T s v ≡ Some c → IsValidCall (most_vpes version) c) → NearAct T a → NearSide version s → NearInput input
      → NearStep version (local_step T i s a input)
  unfolding local_step
  local_step-near T i s (Calls v) input services valid nodes is near = option-keeps (NearStep version) (call_row T i (call_counted v s) v) (next_call T s v)
      (unshown s)
      (λ c there. call_row-near version T v nodes.0 nodes.1 (call_counted v s) (counted-near version s is v) i services c (valid v c there))
      (plain-near version s is)
  local_step-near T i s (Fetch from) input services valid nodes is near = plain-near version (with_inbox (option_map (λ m. (from, m)) input) s)
      (fetched-in from input s is near)
  local_step-near T i s Handle input services valid nodes is near = plain-near version (option_map_or (λ m. handled T i (with_inbox None s) m.0 m.1) s.inbox s)
      (taken_out-in T i s s.inbox is is.inbox)
  local_step-near T i s (Upcall v) input services valid nodes is near = upcall_row-near T i v nodes.0 nodes.1 s is
  local_step-near T i s (Resume v) input services valid nodes is near = resume_row-near T s v is
  local_step-near T i s (Flush to) input services valid nodes is near = plain-near version (sent to s) (sent-near version s is to)
  local_step-near T i s (Kill v) input services valid nodes is near = plain-near version (ended T i v s) (ended-in version T i v s is)
