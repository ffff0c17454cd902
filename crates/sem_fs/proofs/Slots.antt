-- A selector below those that are given to stays as it is or comes free, but for what its VPE asked for.
use Rattle.std.proofs.Common.{◌≡◌, ◌⊎◌, ℕ, ◌+◌, ◌≤◌, ◌<◌, Bool, true, false, List, [], ◌∷◌, ◌++◌, drop, length, get_or, nat_lt, Option, Some, None, slice_get}
use Rattle.std.proofs.Common.{refl, sym, ap, ◌∙◌, subst, inl, inr, arith}
use Rattle.std.specs.Prelude.{◌==◌, if◌then◌else◌}
use Rattle.std.specs.Option.{option_map_or}
use Rattle.std.proofs.lemmas.Bool.{cases_eq, cond_both}
use Rattle.sem_key.specs.declared.object.Object.{Object}
use Rattle.sem_key.specs.KeyName.{KeyName, key_eq}
use Rattle.sem_key.specs.PlaceName.{PlaceName, keyed}
use Rattle.sem_key.specs.Lists.{put}
use Rattle.sem_key.specs.Capability.{Capability}
use Rattle.sem_key.specs.CapList.{fresh}
use Rattle.sem_key.proofs.Members.{found}
use Rattle.sem_key.proofs.Puts.{get_or-put_same, get_or-put_other}
use Rattle.sem_msg.specs.declared.call.Call.{Call}
use Rattle.sem_msg.specs.declared.call.Call.TheVariants.{Derive, Gate, Obtain, Delegate, OpenSession, AskOffer, Revoke, Bind, Read as ReadCall}
use Rattle.sem_msg.specs.declared.call.Call.TheVariants.{Write as WriteCall, Send as SendCall, Credit, Exit, Clear}
use Rattle.sem_msg.specs.declared.code.Code.{Code}
use Rattle.sem_msg.specs.declared.code.Code.TheVariants.{NoCap, NoService, BadKind, Dead}
use Rattle.sem_msg.specs.Codes.{code_number}
use Rattle.sem_msg.specs.declared.event.Act.{Act}
use Rattle.sem_msg.specs.declared.event.Act.TheVariants.{Call as Calls, Fetch, Handle, Upcall, Resume, Flush, Kill}
use Rattle.sem_msg.specs.declared.message.Message.{Message}
use Rattle.sem_msg.specs.declared.message.Target.{Target}
use Rattle.sem_msg.specs.declared.message.Target.TheVariants.{Serv as ServTarget, Offer as OfferTarget}
use Rattle.sem_msg.specs.declared.setup.Service.{Service}
use Rattle.sem_msg.specs.declared.state.Ask.{Ask}
use Rattle.sem_msg.specs.declared.state.Ask.TheVariants.{Obtain as ObtainAsk, Delegate as DelegateAsk}
use Rattle.sem_msg.specs.declared.state.Parked.{Parked}
use Rattle.sem_msg.specs.declared.state.Parked.TheVariants.{ObtainWait, ObtainReady, ObtainCancelled, DelegateWait, DelegateReady, RevokeWait, Ready}
use Rattle.sem_msg.specs.declared.state.Pending.{Pending}
use Rattle.sem_msg.specs.declared.state.Slot.{Slot}
use Rattle.sem_msg.specs.declared.state.Slot.TheVariants.{Free, Held, Promised}
use Rattle.sem_msg.specs.declared.limits.TheConstants.{ASKS}
use Rattle.sem_msg.specs.Rows.{VpeRow, no_vpe}
use Rattle.sem_msg.specs.Setup.{Setup}
use Rattle.sem_msg.specs.Lookups.{kernel_of, service_named}
use Rattle.sem_msg.specs.Uses.{memory_tests}
use Rattle.sem_machine.specs.Sides.{Side, row, slot, own, cap, parked, endpoint, is_alive, call_counted, drawn, promised, with_slot, parked_as, unparked, asked}
use Rattle.sem_machine.specs.Sides.{ask_taken, linked, cap_added, installed, pending_removed, with_inbox}
use Rattle.sem_machine.specs.Sound.{kept}
use Rattle.sem_machine.specs.Steps.{Step, unshown, answer}
use Rattle.sem_machine.specs.Asks.{target_vpe, asker, promise_freed, call_refused, refusal_sent, ask_refused}
use Rattle.sem_machine.specs.Calls.{call_row, next_place, next_key, ask_made, offer_made, open_tests, offer_tests, delegate_tests, bind_tests, with_held}
use Rattle.sem_machine.specs.Upcalls.{given, given_kind, given_here, ask_decided, upcall_row}
use Rattle.sem_machine.specs.Handles.{handled, acknowledged, obtain_ready}
use Rattle.sem_machine.specs.Resumes.{delegate_granted, delegate_resumed, resumed, resume_row}
use Rattle.sem_machine.specs.Machine.{next_call, local_step}
use Rattle.sem_machine.proofs.FirstCodes.{unless-keeps}
use Rattle.sem_machine.proofs.Folds.{option-keeps}
use Rattle.sem_safety.proofs.Skeleton.{decided-by, handled-by}
use Rattle.sem_revoke.proofs.Steady.{IsSteady, revoked-steady, requested-steady, done-steady}
use Rattle.sem_fs.specs.Service.{GIVEN, MayComeNext}
use Rattle.sem_fs.specs.Serving.{IsServedAsk, IsServedSide}
use Rattle.sem_fs.proofs.ServedSteps.{ask-among}

-- the selector at which a call asks
abbrev pub AsksAt : Call → ℕ → Type 0
AsksAt (OpenSession dst name) sel = dst ≡ sel
AsksAt (AskOffer dst session index) sel = dst ≡ sel
AsksAt c sel = ⊥

module _ (v sel : ℕ) (near : sel < GIVEN) (x : Slot) where
  -- the selector is as it was, or free
  abbrev pub Slotted : Side → Type 0
  Slotted t = (slot t v sel ≡ x) ⊎ (slot t v sel ≡ Free)

  slotted-row : (t : Side) → Slotted t → (w : ℕ) (r : VpeRow) → (w ≡ v → (get_or r.slots sel Free ≡ slot t w sel) ⊎ (get_or r.slots sel Free ≡ Free))
      → Slotted (record t { vpes = put no_vpe t.vpes w r })
  slotted-row t is w r new = elim (cases_eq v w) [
    | inl same ↦
        let at : slot (record t { vpes = put no_vpe t.vpes w r }) v sel ≡ get_or r.slots sel Free =
        ap (λ n. slot (record t { vpes = put no_vpe t.vpes w r }) n sel) same
        ∙ ap (λ (y : VpeRow). get_or y.slots sel Free) (get_or-put_same no_vpe t.vpes w r) in
        elim (new (sym same)) [
          | inr free ↦ inr (at ∙ free)
          | inl kept' ↦ elim is [
            | inl still ↦ inl (at ∙ (kept' ∙ (ap (λ n. slot t n sel) (sym same) ∙ still)))
            | inr free ↦
                inr (at ∙ (kept' ∙ (ap (λ n. slot t n sel) (sym same) ∙ free)))
          ]
        ]
    | inr other ↦
        let at : slot (record t { vpes = put no_vpe t.vpes w r }) v sel ≡ slot t v sel =
        ap (λ (y : VpeRow). get_or y.slots sel Free) (get_or-put_other no_vpe t.vpes w v r other) in
        elim is [ inl still ↦ inl (at ∙ still) | inr free ↦ inr (at ∙ free) ]
  ]

  -- a change of a row that leaves its selectors
  slotted-same : (t : Side) → Slotted t → (w : ℕ) (r : VpeRow) → r.slots ≡ (row t w).slots → Slotted (record t { vpes = put no_vpe t.vpes w r })
  slotted-same t is w r same = slotted-row t is w r (λ here. inl (ap (λ xs. get_or xs sel Free) same))

  pub slotted-slot : (t : Side) → Slotted t → (w q : ℕ) (state : Slot) → (w ≡ v → q ≡ sel → state ≡ Free) → Slotted (with_slot w q state t)
  slotted-slot t is w q state may = slotted-row t is w (record (row t w) { slots = put Free (row t w).slots q state }) (λ here. elim (cases_eq sel q) [
    | inl at ↦ inr (ap (λ n. get_or (put Free (row t w).slots q state) n Free) at ∙ (get_or-put_same Free (row t w).slots q state ∙ may here (sym at)))
    | inr other ↦ inl (get_or-put_other Free (row t w).slots q sel state other)
  ])

  -- what is installed elsewhere
  abbrev Apart : ℕ → ℕ → Type 0
  Apart w q = w ≡ v → q ≡ sel → ⊥

  far : (w q : ℕ) → GIVEN ≤ q → Apart w q
  far w q given here at = omega (arith, near, given, at)

  slotted-put : (t : Side) → Slotted t → (w q : ℕ) (state : Slot) → Apart w q → Slotted (with_slot w q state t)
  slotted-put t is w q state apart = slotted-slot t is w q state (λ here at. absurd (apart here at))

  slotted-drawn : (t : Side) → Slotted t → (w : ℕ) → Slotted (drawn w t)
  slotted-drawn t is w = slotted-same t is w (record (row t w) { next_number = (row t w).next_number + 1 }) refl

  slotted-counted : (t : Side) → Slotted t → (w : ℕ) → Slotted (call_counted w t)
  slotted-counted t is w = slotted-same t is w (record (row t w) { next_call = (row t w).next_call + 1 }) refl

  slotted-asked : (t : Side) → Slotted t → (w : ℕ) (a : Ask) → Slotted (asked w a t)
  slotted-asked t is w a = slotted-same t is w (record (row t w) {
    asks = if nat_lt (length (row t w).asks) ASKS then (row t w).asks ++ a ∷ []
        else (row t w).asks;
  })
      refl

  slotted-taken : (t : Side) → Slotted t → (w : ℕ) → Slotted (ask_taken w t)
  slotted-taken t is w = slotted-same t is w (record (row t w) { asks = drop 1 (row t w).asks }) refl

  slotted-steady : IsSteady Slotted
  slotted-steady = record {
    caps = λ s cs thin is. is;
    restores = λ s t y was among keeps is. is;
    bound = λ s es is. is;
    jobs = λ s js less is. is;
    opens = λ s root up ws is. is;
    frees = λ s w q is. slotted-slot s is w q Free (λ here at. refl);
    wakes = λ s w is. is;
    sends = λ s j m loud is. is;
  }

  -- Refusals.
  refused-slotted : (number w : ℕ) (t : Side) → Slotted t → Slotted (call_refused number w t)
  refused-slotted number w t is = from (parked t w)
    where
      from : (p : Option Parked) → Slotted (promise_freed p w t)
      from None = is
      from (Some (ObtainWait n q)) = slotted-slot t is w q Free (λ here at. refl)
      from (Some (ObtainReady key parent object q)) = is
      from (Some ObtainCancelled) = is
      from (Some (DelegateWait parent)) = is
      from (Some (DelegateReady parent key)) = is
      from (Some (RevokeWait j)) = is
      from (Some (Ready code)) = is

  ask_refused-slotted : (T : Setup) (i : ℕ) (code : Code) (a : Ask) (t : Side) → Slotted t → Slotted (ask_refused T i code a t)
  ask_refused-slotted T i code a t is = cond_both (kernel_of T (asker a) == i) _ _ Slotted (λ _. refused-slotted (code_number code) (asker a) t is)
      (λ _. from a)
    where
      from : (b : Ask) → Slotted (refusal_sent T code b t)
      from (ObtainAsk place target) = is
      from (DelegateAsk parent object q) = is

  -- Calls.
  abbrev On : Step → Type 0
  On y = Slotted y.side

  ask-slotted : (T : Setup) (i u dst : ℕ) (target : Target) (s : Side) → Apart u dst → Slotted s → On (ask_made T i u dst target s)
  ask-slotted T i u dst target s apart is =
      let place : PlaceName = next_place T s u in
      let w : ℕ = target_vpe target in
      let waiting : Side = parked_as u (ObtainWait place.number dst) (promised u dst (drawn u s)) in
      let waits : Slotted waiting = slotted-put (drawn u s) (slotted-drawn s is u) u dst Promised apart in
      cond_both (kernel_of T w == i) _ _ Slotted (λ _. slotted-asked waiting waits w (ObtainAsk place target)) (λ _. waits)

  offer-slotted : (T : Setup) (i u w dst : ℕ) (p : Capability) (s : Side) → Slotted s → On (offer_made T i u w dst p s)
  offer-slotted T i u w dst p s is =
      let waiting : Side = parked_as u (DelegateWait p.key) s in
      cond_both (kernel_of T w == i) _ _ Slotted (λ _. slotted-asked waiting is w (DelegateAsk p.key p.object dst)) (λ _. is)

  held-slotted : (o : Option Capability) (f : Capability → Step) (s : Side) → Slotted s → ((c : Capability) → On (f c)) → On (with_held o f s)
  held-slotted o f s is each = option-keeps On f o (answer NoCap s) (λ c held. each c) is

  call-slotted : (T : Setup) (i u : ℕ) (before : List Call) (c : Call) (s : Side) → MayComeNext T u before c → (u ≡ v → AsksAt c sel → ⊥) → Slotted s
      → On (call_row T i s u c)
  unfolding call_row
  call-slotted T i u before (OpenSession dst name) s so apart is = unless-keeps On (open_tests T i s u dst name) _ _ (λ code. is)
      (option-keeps On (λ (y : Service). ask_made T i u dst (ServTarget y.key) s) (service_named T name) (answer NoService s)
      (λ y there. ask-slotted T i u dst (ServTarget y.key) s apart is) is)
  call-slotted T i u before (AskOffer dst session index) s so apart is =
      unless-keeps On (offer_tests T i s u dst session) _ _ (λ code. is)
      (option-keeps On (λ (k : KeyName). ask_made T i u dst (OfferTarget k index) s) _ (answer BadKind s)
      (λ k there. ask-slotted T i u dst (OfferTarget k index) s apart is) is)
  call-slotted T i u before (Delegate src w dst) s so apart is = unless-keeps On (delegate_tests T i s u src w) _ _ (λ code. is)
      (held-slotted (own s u src) _ s is (λ p. offer-slotted T i u w dst p s is))
  call-slotted T i u before (Revoke src) s so apart is =
      held-slotted (own s u src) _ s is (λ c. revoked-steady Slotted slotted-steady T i u c.key c.mark s (λ j. is))
  call-slotted T i u before (Bind ep src) s so apart is = unless-keeps On (bind_tests s u src) _ _ (λ code. is) (held-slotted (own s u src) _ s is (λ c. is))
  call-slotted T i u before (ReadCall ep off len) s so apart is = unless-keeps On (memory_tests 1 off len (endpoint s u ep)) _ _ (λ code. is) is
  call-slotted T i u before (WriteCall ep off len) s so apart is = unless-keeps On (memory_tests 2 off len (endpoint s u ep)) _ _ (λ code. is) is
  call-slotted T i u before (Derive src dst off len rights) s so apart is = absurd so
  call-slotted T i u before (Gate src dst label credits) s so apart is = absurd so
  call-slotted T i u before (Obtain dst w src) s so apart is = absurd so
  call-slotted T i u before (SendCall ep len) s so apart is = absurd so
  call-slotted T i u before (Credit ep) s so apart is = absurd so
  call-slotted T i u before Exit s so apart is = absurd so
  call-slotted T i u before (Clear src) s so apart is = absurd so

  -- The selector is not what the VPE waits for.
  abbrev pub Unawaited : Side → Type 0
  Unawaited s = (number : ℕ) → kept (parked s v) ≡ Some (number, sel) → ⊥

  installed-slotted : (t : Side) → Slotted t → (k : KeyName) (parent : Option KeyName) (q : ℕ) (object : Object) → Apart k.vpe q
      → Slotted (installed k parent q object t)
  installed-slotted t is k parent q object apart = slotted-put (cap_added (fresh k parent q object) t) is k.vpe q (Held k) apart

  given-slotted : (k p : KeyName) (object : Object) (state : Option Parked) (t : Side) → (k.vpe ≡ v → (number : ℕ) → kept state ≡ Some (number, sel) → ⊥) →
      Slotted t
      → Slotted (given_here k p object state t)
  given-slotted k p object (Some (ObtainWait number q)) t apart is = installed-slotted t is k (Some p) q object
      (λ here at. apart here number (ap (λ n. Some (number, n)) at))
  given-slotted k p object None t apart is = is
  given-slotted k p object (Some (ObtainReady key parent object' q)) t apart is = is
  given-slotted k p object (Some ObtainCancelled) t apart is = is
  given-slotted k p object (Some (DelegateWait parent)) t apart is = is
  given-slotted k p object (Some (DelegateReady parent key)) t apart is = is
  given-slotted k p object (Some (RevokeWait j)) t apart is = is
  given-slotted k p object (Some (Ready code)) t apart is = is

  decided-slotted : (T : Setup) (i u : ℕ) (a : Ask) (s : Side) → IsServedAsk T u a → Unawaited s → Slotted s → On (ask_decided T i u a s)
  decided-slotted T i u a s so free is = decided-by On (λ w y here'. here') (λ w y here'. here') (λ w y here'. here') T i u a s (record {
    nothing = is;
    refused = λ code. ask_refused-slotted T i code a s is;
    given = λ place target p of.
        let k : KeyName = keyed place (given_kind target p) in
        let linking : Side = linked p.key k s in
        cond_both (kernel_of T place.vpe == i) _ _ Slotted
        (λ _. given-slotted k p.key (given target place.vpe p) (parked linking place.vpe) linking
        (λ here number at. free number (ap (λ n. kept (parked s n)) (sym here) ∙ at)) is) (λ _. is);
    here = λ parent object q of.
        let k : KeyName = next_key T s u parent.kind in
        let linking : Side = linked parent k (drawn u s) in
        installed-slotted linking (slotted-drawn s is u) k (Some parent) q object (far u q (subst (IsServedAsk T u) of so));
    prepared = λ parent object q of. slotted-put (drawn u s) (slotted-drawn s is u) u q Promised (far u q (subst (IsServedAsk T u) of so));
  })

  upcall-slotted : (T : Setup) (i u : ℕ) (s : Side) → IsServedSide T s → Unawaited s → Slotted s → On (upcall_row T i s u)
  unfolding upcall_row
  upcall-slotted T i u s served free is = option-keeps On (λ (a : Ask). ask_decided T i u a (ask_taken u s)) (slice_get (row s u).asks 0) (unshown s)
      (λ a there. decided-slotted T i u a (ask_taken u s) (served.asks u a (ask-among T u a s there)) free (slotted-taken s is u)) is

  -- Parked calls that go on. What is installed is a key of the VPE that waits.
  abbrev pub OwnsCalls : Side → Type 0
  OwnsCalls s = (u : ℕ) (key parent : KeyName) (object : Object) (q : ℕ) → parked s u ≡ Some (ObtainReady key parent object q) → key.vpe ≡ u

  resume-slotted : (T : Setup) (u : ℕ) (s : Side) → OwnsCalls s → Unawaited s → Slotted s → On (resume_row T s u)
  unfolding resume_row
  resume-slotted T u s owns free is = by (parked s u) refl
    where
      granted : (parent key : KeyName) (m : Option ℕ) → On (delegate_granted T parent key m (unparked u s))
      granted parent key None = is
      granted parent key (Some j) = is

      answered : (parent key : KeyName) (o : Option Capability) → On (delegate_resumed T parent key o (unparked u s))
      answered parent key None = is
      answered parent key (Some c) = granted parent key c.mark

      by : (p : Option Parked) → parked s u ≡ p → On (resumed T p (unparked u s))
      by None at = is
      by (Some (ObtainWait number q)) at = is
      by (Some (ObtainReady key parent object q)) at = installed-slotted (unparked u s) is key (Some parent) q object
          (λ here same. free key.number (ap (λ n. kept (parked s n)) (sym (sym (owns u key parent object q at) ∙ here))
          ∙ (ap kept at ∙ ap (λ n. Some (key.number, n)) same)))
      by (Some ObtainCancelled) at = is
      by (Some (DelegateWait parent)) at = is
      by (Some (DelegateReady parent key)) at = answered parent key (cap (unparked u s) parent)
      by (Some (RevokeWait j)) at = is
      by (Some (Ready code)) at = is

  -- Messages.
  ready-slotted : (parent key : KeyName) (object : Object) (state : Option Parked) (s : Side) → Slotted s → Slotted (obtain_ready parent key object state s)
  ready-slotted parent key object (Some (ObtainWait number q)) s is = is
  ready-slotted parent key object None s is = is
  ready-slotted parent key object (Some (ObtainReady key' parent' object' q)) s is = is
  ready-slotted parent key object (Some ObtainCancelled) s is = is
  ready-slotted parent key object (Some (DelegateWait parent')) s is = is
  ready-slotted parent key object (Some (DelegateReady parent' key')) s is = is
  ready-slotted parent key object (Some (RevokeWait j)) s is = is
  ready-slotted parent key object (Some (Ready code)) s is = is

  acked-slotted : (T : Setup) (key : KeyName) (accepted : Bool) (s : Side) (p : Pending) → GIVEN ≤ p.sel → Slotted s → Slotted (acknowledged T key accepted s p)
  acked-slotted T key true s p given is = cond_both (is_alive s key.vpe) _ _ Slotted
      (λ _. installed-slotted (pending_removed key s) is key (Some p.parent) p.sel p.object (far key.vpe p.sel given)) (λ _. is)
  acked-slotted T key false s p given is = slotted-slot (pending_removed key s) is key.vpe p.sel Free (λ here at. refl)

  handled-slotted : (T : Setup) (i : ℕ) (s : Side) (from : ℕ) (m : Message) → IsServedSide T s → Slotted s → Slotted (handled T i s from m)
  handled-slotted T i s from m served is = handled-by Slotted T i s from m (record {
    same = is;
    asked_obtain = λ place target of. slotted-asked s is (target_vpe target) (ObtainAsk place target);
    dead_obtain = λ place target of. ask_refused-slotted T i Dead (ObtainAsk place target) s is;
    asked_delegate = λ parent object vpe q of. slotted-asked s is vpe (DelegateAsk parent object q);
    dead_delegate = λ parent object vpe q of. ask_refused-slotted T i Dead (DelegateAsk parent object q) s is;
    given = λ parent key object of. ready-slotted parent key object (parked s key.vpe) s is;
    orphaned = λ parent key object of. is;
    no_obtain = λ place code of. refused-slotted code place.vpe s is;
    prepared = λ parent key of. is;
    given_up = λ parent key of. is;
    no_delegate = λ parent code of. refused-slotted code parent.vpe s is;
    acked = λ key accepted p of there. acked-slotted T key accepted s p (served.pendings p (found (λ (y : Pending). key_eq y.key key) s.pendings p there).0) is;
    unlinks = λ parent key. is;
    requests = λ key j of. requested-steady Slotted slotted-steady T i from j key (cap s key) s (λ t ready same here'. here') is;
    dones = λ j of. done-steady Slotted slotted-steady T i j s is;
  })

  -- A step that does not ask at the selector, of a VPE that does not wait for it.
  pub step-slotted : (T : Setup) (i : ℕ) (s : Side) (a : Act) (input : Option Message) → IsServedSide T s → OwnsCalls s → Unawaited s
      → ((u : ℕ) (c : Call) → a ≡ Calls u → next_call T s u ≡ Some c → ((before : List Call) × MayComeNext T u before c) × (u ≡ v → AsksAt c sel → ⊥))
      → ((u : ℕ) → a ≡ Kill u → ⊥) → Slotted s → On (local_step T i s a input)
  unfolding local_step
  step-slotted T i s (Calls u) input served owns free order living is =
      option-keeps On (call_row T i (call_counted u s) u) (next_call T s u) (unshown s)
      (λ c there. let o = order u c refl there in call-slotted T i u o.0.0 c (call_counted u s) o.0.1 o.1 (slotted-counted s is u)) is
  step-slotted T i s (Upcall u) input served owns free order living is = upcall-slotted T i u s served free is
  step-slotted T i s (Resume u) input served owns free order living is = resume-slotted T u s owns free is
  step-slotted T i s Handle input served owns free order living is = from s.inbox
    where
      emptied : IsServedSide T (with_inbox None s)
      emptied = record { asks = served.asks; calls = served.calls; pendings = served.pendings; outs = served.outs; inbox = λ f q none. absurd cc }

      from : (o : Option (ℕ × Message)) → On (unshown (option_map_or (λ m. handled T i (with_inbox None s) m.0 m.1) o s))
      from None = is
      from (Some m) = handled-slotted T i (with_inbox None s) m.0 m.1 emptied is
  step-slotted T i s (Fetch j) input served owns free order living is = is
  step-slotted T i s (Flush j) input served owns free order living is = is
  step-slotted T i s (Kill u) input served owns free order living is = absurd (living u refl)
