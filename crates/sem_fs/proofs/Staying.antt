-- What is held comes to no other selector.
use Rattle.std.proofs.Common.{◌≡◌, ◌⊎◌, ℕ, ◌+◌, Bool, true, false, List, [], ◌∷◌, ◌++◌, drop, length, get_or, nat_lt, Option, Some, None, slice_get, refl, sym}
use Rattle.std.proofs.Common.{ap, ◌∙◌, inl, inr}
use Rattle.std.specs.Prelude.{◌==◌, if◌then◌else◌}
use Rattle.std.specs.List.{Contains}
use Rattle.std.specs.Option.{option_map_or}
use Rattle.std.proofs.lemmas.Bool.{cases_eq, cond_both, eqb-true}
use Rattle.sem_key.specs.declared.key.Kind.{Kind}
use Rattle.sem_key.specs.declared.object.Object.{Object}
use Rattle.sem_key.proofs.KeyTests.{key_eq-true}
use Rattle.sem_key.specs.KeyName.{KeyName, key_eq}
use Rattle.sem_key.specs.PlaceName.{PlaceName, keyed}
use Rattle.sem_key.specs.Lists.{put}
use Rattle.sem_key.specs.Capability.{Capability}
use Rattle.sem_key.specs.CapList.{fresh}
use Rattle.sem_key.proofs.Members.{found}
use Rattle.sem_key.proofs.Puts.{get_or-put_same, get_or-put_other}
use Rattle.sem_msg.specs.declared.call.Call.{Call}
use Rattle.sem_msg.specs.declared.call.Call.TheVariants.{Derive, Gate, Obtain, Delegate, OpenSession, AskOffer, Revoke, Bind, Read as ReadCall}
use Rattle.sem_msg.specs.declared.call.Call.TheVariants.{Write as WriteCall, Send as SendCall, Credit, Exit, Clear}
use Rattle.sem_msg.specs.declared.code.Code.{Code}
use Rattle.sem_msg.specs.declared.code.Code.TheVariants.{NoCap, NoService, BadKind, Dead, Refused}
use Rattle.sem_msg.specs.Codes.{code_number}
use Rattle.sem_msg.specs.declared.event.Act.{Act}
use Rattle.sem_msg.specs.declared.event.Act.TheVariants.{Call as Calls, Fetch, Handle, Upcall, Resume, Flush, Kill}
use Rattle.sem_msg.specs.declared.message.Message.{Message}
use Rattle.sem_msg.specs.declared.message.Message.TheVariants.{ObtainOk}
use Rattle.sem_msg.specs.declared.message.Target.{Target}
use Rattle.sem_msg.specs.declared.message.Target.TheVariants.{Serv as ServTarget, Offer as OfferTarget}
use Rattle.sem_msg.specs.declared.setup.Service.{Service}
use Rattle.sem_msg.specs.declared.state.Ask.{Ask}
use Rattle.sem_msg.specs.declared.state.Ask.TheVariants.{Obtain as ObtainAsk, Delegate as DelegateAsk}
use Rattle.sem_msg.specs.declared.state.Parked.{Parked}
use Rattle.sem_msg.specs.declared.state.Parked.TheVariants.{ObtainWait, ObtainReady, ObtainCancelled, DelegateWait, DelegateReady, RevokeWait, Ready}
use Rattle.sem_msg.specs.declared.state.Pending.{Pending}
use Rattle.sem_msg.specs.declared.state.Slot.{Slot}
use Rattle.sem_msg.specs.declared.state.Slot.TheVariants.{Free, Held, Promised}
use Rattle.sem_msg.specs.declared.limits.TheConstants.{ASKS}
use Rattle.sem_msg.specs.Rows.{VpeRow, no_vpe}
use Rattle.sem_msg.specs.Setup.{Setup}
use Rattle.sem_msg.specs.Lookups.{kernel_of, place_owner, service_named, denies}
use Rattle.sem_msg.specs.Uses.{memory_tests}
use Rattle.sem_machine.specs.Sides.{Side, row, slot, own, cap, parked, endpoint, is_alive, call_counted, drawn, promised, with_slot, parked_as, unparked, asked}
use Rattle.sem_machine.specs.Sides.{ask_taken, linked, cap_added, installed, pending_removed, send, with_inbox}
use Rattle.sem_machine.specs.Steps.{Step, unshown, answer}
use Rattle.sem_machine.specs.Asks.{target_vpe, asker, is_obtain_wait, is_unawaited, promise_freed, call_refused, refusal_sent, ask_refused}
use Rattle.sem_machine.specs.Calls.{call_row, next_place, next_key, ask_made, offer_made, open_tests, offer_tests, delegate_tests, bind_tests, with_held}
use Rattle.sem_machine.specs.Calls.{destination_tests}
use Rattle.sem_machine.specs.Upcalls.{source, source_tests, given, given_kind, given_here, child_given, parent_tests, consented, ask_decided, upcall_row}
use Rattle.sem_machine.specs.Handles.{handled, acknowledged, obtain_ready}
use Rattle.sem_machine.specs.Resumes.{delegate_granted, delegate_resumed, resumed, resume_row}
use Rattle.sem_machine.specs.Machine.{next_call, local_step}
use Rattle.sem_machine.proofs.FirstCodes.{unless-keeps}
use Rattle.sem_machine.proofs.Folds.{option-keeps}
use Rattle.sem_safety.proofs.Skeleton.{handled-by}
use Rattle.sem_sound.proofs.Refusing.{awaited-waits}
use Rattle.sem_revoke.proofs.Steady.{IsSteady, revoked-steady, requested-steady, done-steady}
use Rattle.sem_fs.specs.Service.{MayComeNext}

module _ (T : Setup) (s : Side) (v : ℕ) (k : KeyName) (New : Type 0) where
  -- where the key would come from
  pub record ComesNew : Type 0 where
    pub ready : (u : ℕ) (parent : KeyName) (object : Object) (q : ℕ) → parked s u ≡ Some (ObtainReady k parent object q) → New
    pub waits : (number q : ℕ) → parked s k.vpe ≡ Some (ObtainWait number q) → number ≡ k.number → New
    pub pends : (p : Pending) → Contains s.pendings p → p.key ≡ k → New
    pub next : (row s k.vpe).next_number ≡ k.number → New

  module _ (C : ComesNew) where
    -- the key is at the selectors where it was, or is new
    abbrev pub Staying : Side → Type 0
    Staying t = (q : ℕ) → slot t v q ≡ Held k → (slot s v q ≡ Held k) ⊎ New

    staying-row : (t : Side) → Staying t → (w : ℕ) (r : VpeRow) → (w ≡ v → (q : ℕ) → get_or r.slots q Free ≡ Held k → (slot t w q ≡ Held k) ⊎ New)
        → Staying (record t { vpes = put no_vpe t.vpes w r })
    staying-row t is w r old q at = elim (cases_eq v w) [
      | inl same ↦
          let here : get_or r.slots q Free ≡ Held k =
          sym (ap (λ n. slot (record t { vpes = put no_vpe t.vpes w r }) n q) same
          ∙ ap (λ (y : VpeRow). get_or y.slots q Free) (get_or-put_same no_vpe t.vpes w r))
          ∙ at in
          elim (old (sym same) q here) [ inl before ↦ is q (ap (λ n. slot t n q) same ∙ before) | inr new ↦ inr new ]
      | inr other ↦ is q (sym (ap (λ (y : VpeRow). get_or y.slots q Free) (get_or-put_other no_vpe t.vpes w v r other)) ∙ at)
    ]

    staying-same : (t : Side) → Staying t → (w : ℕ) (r : VpeRow) → r.slots ≡ (row t w).slots → Staying (record t { vpes = put no_vpe t.vpes w r })
    staying-same t is w r same = staying-row t is w r (λ here q at. inl (ap (λ xs. get_or xs q Free) (sym same) ∙ at))

    staying-slot : (t : Side) → Staying t → (w p : ℕ) (state : Slot) → (state ≡ Held k → New) → Staying (with_slot w p state t)
    staying-slot t is w p state new = staying-row t is w (record (row t w) { slots = put Free (row t w).slots p state }) (λ here q at. elim (cases_eq q p) [
      | inl same ↦ inr (new (sym (ap (λ n. get_or (put Free (row t w).slots p state) n Free) same ∙ get_or-put_same Free (row t w).slots p state) ∙ at))
      | inr other ↦ inl (sym (get_or-put_other Free (row t w).slots p q state other) ∙ at)
    ])

    free-no : Free ≡ Held k → New
    free-no no' = absurd cc

    promised-no : Promised ≡ Held k → New
    promised-no no' = absurd cc

    held-is : (k1 : KeyName) → Held k1 ≡ Held k → k1 ≡ k
    held-is k1 same = cc (same)

    staying-installed : (t : Side) → Staying t → (k1 : KeyName) (parent : Option KeyName) (q : ℕ) (object : Object) → (k1 ≡ k → New)
        → Staying (installed k1 parent q object t)
    staying-installed t is k1 parent q object new = staying-slot (cap_added (fresh k1 parent q object) t) is k1.vpe q (Held k1) (λ same. new (held-is k1 same))

    staying-drawn : (t : Side) → Staying t → (w : ℕ) → Staying (drawn w t)
    staying-drawn t is w = staying-same t is w (record (row t w) { next_number = (row t w).next_number + 1 }) refl

    staying-counted : (t : Side) → Staying t → (w : ℕ) → Staying (call_counted w t)
    staying-counted t is w = staying-same t is w (record (row t w) { next_call = (row t w).next_call + 1 }) refl

    staying-asked : (t : Side) → Staying t → (w : ℕ) (a : Ask) → Staying (asked w a t)
    staying-asked t is w a = staying-same t is w (record (row t w) {
      asks = if nat_lt (length (row t w).asks) ASKS then (row t w).asks ++ a ∷ []
          else (row t w).asks;
    })
        refl

    staying-taken : (t : Side) → Staying t → (w : ℕ) → Staying (ask_taken w t)
    staying-taken t is w = staying-same t is w (record (row t w) { asks = drop 1 (row t w).asks }) refl

    staying-steady : IsSteady Staying
    staying-steady = record {
      caps = λ s cs thin is. is;
      restores = λ s t y was among keeps is. is;
      bound = λ s es is. is;
      jobs = λ s js less is. is;
      opens = λ s root up ws is. is;
      frees = λ s w q is. staying-slot s is w q Free free-no;
      wakes = λ s w is. is;
      sends = λ s j m loud is. is;
    }

    start-staying : Staying s
    start-staying q at = inl at

    -- Refusals.
    refused-staying : (number w : ℕ) (t : Side) → Staying t → Staying (call_refused number w t)
    refused-staying number w t is = from (parked t w)
      where
        from : (p : Option Parked) → Staying (promise_freed p w t)
        from None = is
        from (Some (ObtainWait n q)) = staying-slot t is w q Free free-no
        from (Some (ObtainReady key parent object q)) = is
        from (Some ObtainCancelled) = is
        from (Some (DelegateWait parent)) = is
        from (Some (DelegateReady parent key)) = is
        from (Some (RevokeWait j)) = is
        from (Some (Ready code)) = is

    ask_refused-staying : (i : ℕ) (code : Code) (a : Ask) (t : Side) → Staying t → Staying (ask_refused T i code a t)
    ask_refused-staying i code a t is = cond_both (kernel_of T (asker a) == i) _ _ Staying (λ _. refused-staying (code_number code) (asker a) t is)
        (λ _. from a)
      where
        from : (b : Ask) → Staying (refusal_sent T code b t)
        from (ObtainAsk place target) = is
        from (DelegateAsk parent object q) = is

    -- Calls.
    abbrev On : Step → Type 0
    On y = Staying y.side

    ask-staying : (i u dst : ℕ) (target : Target) (t : Side) → Staying t → On (ask_made T i u dst target t)
    ask-staying i u dst target t is =
        let place : PlaceName = next_place T t u in
        let w : ℕ = target_vpe target in
        let waiting : Side = parked_as u (ObtainWait place.number dst) (promised u dst (drawn u t)) in
        let waits : Staying waiting = staying-slot (drawn u t) (staying-drawn t is u) u dst Promised promised-no in
        cond_both (kernel_of T w == i) _ _ Staying (λ _. staying-asked waiting waits w (ObtainAsk place target)) (λ _. waits)

    offer-staying : (i u w dst : ℕ) (p : Capability) (t : Side) → Staying t → On (offer_made T i u w dst p t)
    offer-staying i u w dst p t is =
        let waiting : Side = parked_as u (DelegateWait p.key) t in
        cond_both (kernel_of T w == i) _ _ Staying (λ _. staying-asked waiting is w (DelegateAsk p.key p.object dst)) (λ _. is)

    held-staying : (o : Option Capability) (f : Capability → Step) (t : Side) → Staying t → ((c : Capability) → On (f c)) → On (with_held o f t)
    held-staying o f t is each = option-keeps On f o (answer NoCap t) (λ c held. each c) is

    call-staying : (i u : ℕ) (before : List Call) (c : Call) (t : Side) → MayComeNext T u before c → Staying t → On (call_row T i t u c)
    unfolding call_row
    call-staying i u before (OpenSession dst name) t so is = unless-keeps On (open_tests T i t u dst name) _ _ (λ code. is)
        (option-keeps On (λ (y : Service). ask_made T i u dst (ServTarget y.key) t) (service_named T name) (answer NoService t)
        (λ y there. ask-staying i u dst (ServTarget y.key) t is) is)
    call-staying i u before (AskOffer dst session index) t so is = unless-keeps On (offer_tests T i t u dst session) _ _ (λ code. is)
        (option-keeps On (λ (q : KeyName). ask_made T i u dst (OfferTarget q index) t) _ (answer BadKind t)
        (λ q there. ask-staying i u dst (OfferTarget q index) t is)
        is)
    call-staying i u before (Delegate src w dst) t so is = unless-keeps On (delegate_tests T i t u src w) _ _ (λ code. is)
        (held-staying (own t u src) _ t is (λ p. offer-staying i u w dst p t is))
    call-staying i u before (Revoke src) t so is = held-staying (own t u src) _ t is (λ c. revoked-steady Staying staying-steady T i u c.key c.mark t (λ j. is))
    call-staying i u before (Bind ep src) t so is = unless-keeps On (bind_tests t u src) _ _ (λ code. is) (held-staying (own t u src) _ t is (λ c. is))
    call-staying i u before (ReadCall ep off len) t so is = unless-keeps On (memory_tests 1 off len (endpoint t u ep)) _ _ (λ code. is) is
    call-staying i u before (WriteCall ep off len) t so is = unless-keeps On (memory_tests 2 off len (endpoint t u ep)) _ _ (λ code. is) is
    call-staying i u before (Derive src dst off len rights) t so is = absurd so
    call-staying i u before (Gate src dst label credits) t so is = absurd so
    call-staying i u before (Obtain dst w src) t so is = absurd so
    call-staying i u before (SendCall ep len) t so is = absurd so
    call-staying i u before (Credit ep) t so is = absurd so
    call-staying i u before Exit t so is = absurd so
    call-staying i u before (Clear src) t so is = absurd so

    -- Upcalls.
    module _ (i u : ℕ) where
      abbrev taken : Side
      taken = ask_taken u s

      taken-staying : Staying taken
      taken-staying = staying-taken s start-staying u

      same-number : (row taken u).next_number ≡ (row s u).next_number
      same-number = ap (λ (r : VpeRow). r.next_number) (get_or-put_same no_vpe s.vpes u (record (row s u) { asks = drop 1 (row s u).asks }))

      given-staying : (place : PlaceName) (kind : Kind) (p : KeyName) (object : Object) (o : Option Parked) (t : Side) → parked s place.vpe ≡ o
          → ((n q : ℕ) → o ≡ Some (ObtainWait n q) → n ≡ place.number) → Staying t → Staying (given_here (keyed place kind) p object o t)
      given-staying place kind p object (Some (ObtainWait number q)) t at numbered is =
          staying-installed t is (keyed place kind) (Some p) q object
          (λ same. C.waits number q (ap (parked s) (sym (ap (λ (x : KeyName). x.vpe) same)) ∙ at) (numbered number q refl
          ∙ ap (λ (x : KeyName). x.number) same))
      given-staying place kind p object None t at numbered is = is
      given-staying place kind p object (Some (ObtainReady key parent object' q)) t at numbered is = is
      given-staying place kind p object (Some ObtainCancelled) t at numbered is = is
      given-staying place kind p object (Some (DelegateWait parent)) t at numbered is = is
      given-staying place kind p object (Some (DelegateReady parent key)) t at numbered is = is
      given-staying place kind p object (Some (RevokeWait j)) t at numbered is = is
      given-staying place kind p object (Some (Ready code)) t at numbered is = is

      consent-staying : (a : Ask) → is_unawaited T i taken a ≡ false → On (consented T i u a taken)
      consent-staying (ObtainAsk place target) awaited = unless-keeps On (source_tests target (source T taken u target)) _ _
          (λ code. ask_refused-staying i code (ObtainAsk place target) taken taken-staying)
          (option-keeps On (child_given T i place target taken) (source T taken u target) (unshown taken)
          (λ p there.
          let linking : Side = linked p.key (keyed place (given_kind target p)) taken in
          cond_both (kernel_of T place.vpe == i) (given_here (keyed place (given_kind target p)) p.key (given target place.vpe p)
          (parked linking place.vpe) linking)
          (send (place_owner T place) (ObtainOk p.key (keyed place (given_kind target p)) (given target place.vpe p)) linking) Staying
          (λ local. given-staying place (given_kind target p) p.key (given target place.vpe p) (parked s place.vpe) linking refl
          (λ n q at. numbered n q at local)
          taken-staying)
          (λ _. taken-staying)) taken-staying)
        where
          numbered : (n q : ℕ) → parked s place.vpe ≡ Some (ObtainWait n q) → (kernel_of T place.vpe == i) ≡ true → n ≡ place.number
          numbered n q at local =
              let waits = awaited-waits T i taken (ObtainAsk place target) awaited (eqb-true (kernel_of T place.vpe) i local) in
              eqb-true n place.number (sym (ap (is_obtain_wait place.number) at) ∙ waits)
      consent-staying (DelegateAsk parent object q) awaited = cond_both (kernel_of T parent.vpe == i) _ _ On
          (λ _. unless-keeps On (parent_tests (cap taken parent) ++ destination_tests taken u q) _ _
          (λ code. ask_refused-staying i code (DelegateAsk parent object q) taken taken-staying)
          (let k1 : KeyName = next_key T taken u parent.kind in
          let linking : Side = linked parent k1 (drawn u taken) in
          staying-installed linking (staying-drawn taken taken-staying u) k1 (Some parent) q object
          (λ same. C.next (ap (λ w. (row s w).next_number) (sym (ap (λ (x : KeyName). x.vpe) same))
          ∙ (sym same-number ∙ ap (λ (x : KeyName). x.number) same)))))
          (λ _. unless-keeps On (destination_tests taken u q) _ _ (λ code. ask_refused-staying i code (DelegateAsk parent object q) taken taken-staying)
          (staying-slot (drawn u taken) (staying-drawn taken taken-staying u) u q Promised promised-no))

      upcall-staying : On (upcall_row T i s u)
      unfolding upcall_row
      upcall-staying = option-keeps On (λ (a : Ask). ask_decided T i u a taken) (slice_get (row s u).asks 0) (unshown s)
          (λ a there. cond_both (is_unawaited T i taken a) _ _ On (λ _. taken-staying)
          (λ awaited. cond_both (denies T u (asker a)) _ _ On (λ _. ask_refused-staying i Refused a taken taken-staying) (λ _. consent-staying a awaited)))
          start-staying

      -- Parked calls that go on.
      resume-staying : On (resume_row T s u)
      unfolding resume_row
      resume-staying = by (parked s u) refl
        where
          granted : (parent key : KeyName) (m : Option ℕ) → On (delegate_granted T parent key m (unparked u s))
          granted parent key None = start-staying
          granted parent key (Some j) = start-staying

          answered : (parent key : KeyName) (o : Option Capability) → On (delegate_resumed T parent key o (unparked u s))
          answered parent key None = start-staying
          answered parent key (Some c) = granted parent key c.mark

          by : (p : Option Parked) → parked s u ≡ p → On (resumed T p (unparked u s))
          by None at = start-staying
          by (Some (ObtainWait number q)) at = start-staying
          by (Some (ObtainReady key parent object q)) at = staying-installed (unparked u s) start-staying key (Some parent) q object
              (λ same. C.ready u parent object q (at ∙ ap (λ x. Some (ObtainReady x parent object q)) same))
          by (Some ObtainCancelled) at = start-staying
          by (Some (DelegateWait parent)) at = start-staying
          by (Some (DelegateReady parent key)) at = answered parent key (cap (unparked u s) parent)
          by (Some (RevokeWait j)) at = start-staying
          by (Some (Ready code)) at = start-staying

    -- Messages.
    ready-staying : (parent key : KeyName) (object : Object) (state : Option Parked) (t : Side) → Staying t → Staying (obtain_ready parent key object state t)
    ready-staying parent key object (Some (ObtainWait number q)) t is = is
    ready-staying parent key object None t is = is
    ready-staying parent key object (Some (ObtainReady key' parent' object' q)) t is = is
    ready-staying parent key object (Some ObtainCancelled) t is = is
    ready-staying parent key object (Some (DelegateWait parent')) t is = is
    ready-staying parent key object (Some (DelegateReady parent' key')) t is = is
    ready-staying parent key object (Some (RevokeWait j)) t is = is
    ready-staying parent key object (Some (Ready code)) t is = is

    acked-staying : (key : KeyName) (accepted : Bool) (p : Pending) → Contains s.pendings p → p.key ≡ key →
        Staying (acknowledged T key accepted (with_inbox None s) p)
    acked-staying key true p among same = cond_both (is_alive s key.vpe) _ _ Staying
        (λ _. staying-installed (pending_removed key (with_inbox None s)) start-staying key (Some p.parent) p.sel p.object (λ is. C.pends p among (same ∙ is)))
        (λ _. start-staying)
    acked-staying key false p among same = staying-slot (pending_removed key (with_inbox None s)) start-staying key.vpe p.sel Free free-no

    handled-staying : (i from : ℕ) (m : Message) → Staying (handled T i (with_inbox None s) from m)
    handled-staying i from m = handled-by Staying T i (with_inbox None s) from m (record {
      same = start-staying;
      asked_obtain = λ place target of. staying-asked (with_inbox None s) start-staying (target_vpe target) (ObtainAsk place target);
      dead_obtain = λ place target of. ask_refused-staying i Dead (ObtainAsk place target) (with_inbox None s) start-staying;
      asked_delegate = λ parent object vpe q of. staying-asked (with_inbox None s) start-staying vpe (DelegateAsk parent object q);
      dead_delegate = λ parent object vpe q of. ask_refused-staying i Dead (DelegateAsk parent object q) (with_inbox None s) start-staying;
      given = λ parent key object of. ready-staying parent key object (parked s key.vpe) (with_inbox None s) start-staying;
      orphaned = λ parent key object of. start-staying;
      no_obtain = λ place code of. refused-staying code place.vpe (with_inbox None s) start-staying;
      prepared = λ parent key of. start-staying;
      given_up = λ parent key of. start-staying;
      no_delegate = λ parent code of. refused-staying code parent.vpe (with_inbox None s) start-staying;
      acked = λ key accepted p of there. let at = found (λ (y : Pending). key_eq y.key key) s.pendings p there in
          acked-staying key accepted p at.0 (key_eq-true p.key key at.1);
      unlinks = λ parent key. start-staying;
      requests = λ key j of. requested-steady Staying staying-steady T i from j key (cap s key) (with_inbox None s) (λ t ready same here'. here') start-staying;
      dones = λ j of. done-steady Staying staying-steady T i j (with_inbox None s) start-staying;
    })

    pub step-staying : (i : ℕ) (a : Act) (input : Option Message)
        → ((u : ℕ) (c : Call) → a ≡ Calls u → next_call T s u ≡ Some c → (before : List Call) × MayComeNext T u before c) → ((u : ℕ) → a ≡ Kill u → ⊥)
        → On (local_step T i s a input)
    unfolding local_step
    step-staying i (Calls u) input order living = option-keeps On (call_row T i (call_counted u s) u) (next_call T s u) (unshown s)
        (λ c there. let o = order u c refl there in call-staying i u o.0 c (call_counted u s) o.1 (staying-counted s start-staying u)) start-staying
    step-staying i (Upcall u) input order living = upcall-staying i u
    step-staying i (Resume u) input order living = resume-staying i u
    step-staying i Handle input order living = from s.inbox
      where
        from : (o : Option (ℕ × Message)) → On (unshown (option_map_or (λ m. handled T i (with_inbox None s) m.0 m.1) o s))
        from None = start-staying
        from (Some m) = handled-staying i m.0 m.1
    step-staying i (Fetch j) input order living = start-staying
    step-staying i (Flush j) input order living = start-staying
    step-staying i (Kill u) input order living = absurd (living u refl)
