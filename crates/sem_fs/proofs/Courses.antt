-- What a step does to the parked call of a VPE that does not call in it.
use Rattle.std.proofs.Common.{◌≡◌, ◌⊎◌, ℕ, ◌+◌, Bool, true, false, not, List, ◌++◌, get_or, Option, Some, None, slice_get, refl, sym, ap, ◌∙◌, subst, inl, inr}
use Rattle.std.proofs.Common.{eq-eqb}
use Rattle.std.specs.Prelude.{◌==◌, ◌&&◌, ◌||◌}
use Rattle.std.specs.List.{Contains}
use Rattle.std.specs.Option.{option_map_or}
use Rattle.std.proofs.lemmas.Bool.{cases_Bool, cases_eq, cond_both, cond-true, eqb-true, true≢false}
use Rattle.sem_key.specs.declared.object.Object.{Object}
use Rattle.sem_key.specs.KeyName.{KeyName, key_eq}
use Rattle.sem_key.specs.PlaceName.{PlaceName, keyed}
use Rattle.sem_key.specs.Lists.{put}
use Rattle.sem_key.specs.Capability.{Capability}
use Rattle.sem_key.specs.CapList.{fresh}
use Rattle.sem_key.proofs.KeyTests.{key_eq-true, key_eq-same}
use Rattle.sem_key.proofs.Puts.{get_or-put_same, get_or-put_other}
use Rattle.sem_msg.specs.declared.call.Call.{Call}
use Rattle.sem_msg.specs.declared.call.Call.TheVariants.{Derive, Gate, Obtain, Delegate, OpenSession, AskOffer, Revoke, Bind, Read as ReadCall}
use Rattle.sem_msg.specs.declared.call.Call.TheVariants.{Write as WriteCall, Send as SendCall, Credit, Exit, Clear}
use Rattle.sem_msg.specs.declared.code.Code.TheVariants.{NoService, BadKind, NoCap}
use Rattle.sem_msg.specs.declared.event.Act.{Act}
use Rattle.sem_msg.specs.declared.event.Act.TheVariants.{Call as Calls, Fetch, Handle, Upcall, Resume, Flush, Kill}
use Rattle.sem_msg.specs.declared.message.Message.{Message}
use Rattle.sem_msg.specs.declared.message.Message.TheVariants.{ObtainReq, ObtainOk, ObtainNo, DelegateReq, DelegatePrepared, DelegateNo, Ack, Orphan, RevokeReq}
use Rattle.sem_msg.specs.declared.message.Message.TheVariants.{RevokeDone, Unlink}
use Rattle.sem_msg.specs.declared.message.Target.{Target}
use Rattle.sem_msg.specs.declared.message.Target.TheVariants.{Serv as ServTarget, Offer as OfferTarget}
use Rattle.sem_msg.specs.declared.setup.Service.{Service}
use Rattle.sem_msg.specs.declared.state.Ask.{Ask}
use Rattle.sem_msg.specs.declared.state.Ask.TheVariants.{Obtain as ObtainAsk, Delegate as DelegateAsk}
use Rattle.sem_msg.specs.declared.state.Parked.{Parked}
use Rattle.sem_msg.specs.declared.state.Parked.TheVariants.{ObtainWait, ObtainReady, ObtainCancelled, DelegateWait, DelegateReady, RevokeWait, Ready}
use Rattle.sem_msg.specs.declared.state.Pending.{Pending}
use Rattle.sem_msg.specs.declared.state.Slot.TheVariants.{Free, Held, Promised}
use Rattle.sem_msg.specs.Rows.{VpeRow, no_vpe}
use Rattle.sem_msg.specs.Setup.{Setup}
use Rattle.sem_msg.specs.Lookups.{kernel_of, owner_of, place_owner, service_named, denies}
use Rattle.sem_msg.specs.Uses.{memory_tests}
use Rattle.sem_machine.specs.Sides.{Side, row, slot, own, cap, parked, pending, endpoint, is_alive, call_counted, drawn, promised, parked_as, unparked}
use Rattle.sem_machine.specs.Sides.{ask_taken, linked, unlinked, cap_added, installed, pending_removed, send, with_inbox, succeeding}
use Rattle.sem_machine.specs.Sound.{kept, IsSound}
use Rattle.sem_machine.specs.Steps.{Step, unshown, answer}
use Rattle.sem_machine.specs.Asks.{target_vpe, asker, is_obtain_wait, is_delegate_wait, waits_for, is_unawaited, ask_refused}
use Rattle.sem_machine.specs.Calls.{call_row, next_place, next_key, ask_made, open_tests, offer_tests, delegate_tests, bind_tests, with_held, destination_tests}
use Rattle.sem_machine.specs.Upcalls.{source, source_tests, given, given_kind, given_here, child_given, parent_tests, delegate_here, delegate_prepared}
use Rattle.sem_machine.specs.Upcalls.{consented, ask_decided, upcall_row}
use Rattle.sem_machine.specs.Handles.{is_stray, is_key_declared, is_object_declared, is_here, lives_without, obtain_ready, acknowledged, handle_row, handled}
use Rattle.sem_machine.specs.Resumes.{can_resume, delegate_granted, delegate_resumed, resumed, resume_row}
use Rattle.sem_machine.specs.Journals.{root_keys}
use Rattle.sem_machine.specs.Machine.{next_call, local_step}
use Rattle.sem_machine.proofs.FirstCodes.{unless-keeps}
use Rattle.sem_machine.proofs.Folds.{option-keeps}
use Rattle.sem_safety.specs.Observations.{ObservedSide}
use Rattle.sem_safety.proofs.Updates.{seen-cap_added}
use Rattle.sem_revoke.proofs.Waits.{parked-here}
use Rattle.sem_fs.specs.Service.{MayComeNext}
use Rattle.sem_fs.specs.Serving.{IsServedMessage, IsServedCall, IsServedSide}
use Rattle.sem_fs.proofs.ServedRows.{IsReceived}
use Rattle.sem_fs.proofs.ServedSteps.{passed-done, AskPasses, ActPasses}
use Rattle.sem_fs.proofs.Still.{Still, still-park, still-slot, still-drawn, still-asked, still-taken, still-installed, still-send, still-caps, still-row}
use Rattle.sem_fs.proofs.Still.{still-revoked, still-requested, still-done}

-- a key of that number stands at a selector of the VPE, and is held below a root
pub record HasCome (T : Setup) (t : Side) (v number sel : ℕ) : Type 0 where
  pub key : KeyName
  pub numbered : key.number ≡ number
  pub at : slot t v sel ≡ Held key
  pub capability : Capability
  pub held : cap t key ≡ Some capability
  pub parent : KeyName
  pub below : capability.parent ≡ Some parent
  pub root : Contains (root_keys T) parent

-- what becomes of the parked call
pub data Turn (T : Setup) (s t : Side) (v : ℕ) : Type 0 where
  turn_same : parked t v ≡ parked s v → Turn T s t v
  turn_woken : (j : ℕ) → parked s v ≡ Some (RevokeWait j) → parked t v ≡ Some (Ready 0) → Turn T s t v
  turn_obtained : (number sel : ℕ) (key parent : KeyName) (object : Object) → number ≡ key.number → parked s v ≡ Some (ObtainWait number sel)
      → parked t v ≡ Some (ObtainReady key parent object sel) → Turn T s t v
  turn_prepared : (parent key : KeyName) → parked s v ≡ Some (DelegateWait parent) → parked t v ≡ Some (DelegateReady parent key) → Turn T s t v
  turn_got : (number sel : ℕ) → kept (parked s v) ≡ Some (number, sel) → (parked t v ≡ Some (Ready 0)) ⊎ (parked t v ≡ None) → HasCome T t v number sel →
      Turn T s t v
  turn_over : kept (parked s v) ≡ None → (parked s v ≡ None → ⊥) → (parked t v ≡ Some (Ready 0)) ⊎ (parked t v ≡ None) → Turn T s t v

-- and it makes no call
pub record Course (T : Setup) (s t : Side) (v : ℕ) : Type 0 where
  pub calls : (row t v).next_call ≡ (row s v).next_call
  pub turn : Turn T s t v

-- what is installed is there, and held
pub come : (T : Setup) (k parent : KeyName) (sel : ℕ) (object : Object) (s : Side) → Contains (root_keys T) parent
    → HasCome T (installed k (Some parent) sel object s) k.vpe k.number sel
come T k parent sel object s root =
    let c : Capability = fresh k (Some parent) sel object in
    let t : Side = cap_added c s in record {
      key = k;
      numbered = refl;
      at = ap (λ (r : VpeRow). get_or r.slots sel Free)
          (get_or-put_same no_vpe t.vpes k.vpe (record (row t k.vpe) { slots = put Free (row t k.vpe).slots sel (Held k) }))
          ∙ get_or-put_same Free (row t k.vpe).slots sel (Held k);
      capability = c;
      held = ap (λ (z : ObservedSide). z.cap k) (seen-cap_added c s) ∙ cond-true (key_eq k k) (Some c) (cap s k) (key_eq-same k);
      parent = parent;
      below = refl;
      root = root;
    }

module _ (T : Setup) (i v : ℕ) (home : kernel_of T v ≡ i) where
  module _ (s : Side) (sound : IsSound T i s) (served : IsServedSide T s) where
    abbrev q : Option Parked
    q = parked s v

    abbrev n : ℕ
    n = (row s v).next_call

    abbrev Stays : Side → Type 0
    Stays t = Still v q n t

    stays : Stays s
    stays = record { park = inl refl; idle = λ x among waits. (x.id, sound.waiters x v among (λ gone. absurd cc) waits); calls = refl }

    course : (t : Side) → Stays t → Course T s t v
    course t S = record { calls = S.calls; turn = elim S.park [ inl same ↦ turn_same same | inr (ready, (j, waits)) ↦ turn_woken j waits ready ] }

    -- A call of another VPE.
    ask-stays : (u dst : ℕ) (target : Target) (t : Side) → (u ≡ v → ⊥) → Stays t → Stays (ask_made T i u dst target t).side
    ask-stays u dst target t other S =
        let place : PlaceName = next_place T t u in
        let w : ℕ = target_vpe target in
        let promising : Side = promised u dst (drawn u t) in
        let waiting : Side = parked_as u (ObtainWait place.number dst) promising in
        let waits : Stays waiting = still-park v q n promising (still-slot v q n (drawn u t) (still-drawn v q n t S u) u dst Promised) u
        (Some (ObtainWait place.number dst)) other in
        cond_both (kernel_of T w == i) _ _ Stays (λ _. still-asked v q n waiting waits w (ObtainAsk place target))
        (λ _. still-send v q n (kernel_of T w) (ObtainReq place target) waiting waits)

    abbrev On : Step → Type 0
    On x = Stays x.side

    held-stays : (o : Option Capability) (f : Capability → Step) (t : Side) → Stays t → ((c : Capability) → On (f c)) → On (with_held o f t)
    held-stays o f t S each = option-keeps On f o (answer NoCap t) (λ c held. each c) S

    call-stays : (u : ℕ) (before : List Call) (c : Call) (t : Side) → (u ≡ v → ⊥) → MayComeNext T u before c → Stays t → On (call_row T i t u c)
    unfolding call_row
    call-stays u before (OpenSession dst name) t other so S = unless-keeps On (open_tests T i t u dst name) _ _ (λ code. S)
        (option-keeps On (λ (y : Service). ask_made T i u dst (ServTarget y.key) t) (service_named T name) (answer NoService t)
        (λ y there. ask-stays u dst (ServTarget y.key) t other S) S)
    call-stays u before (AskOffer dst session index) t other so S = unless-keeps On (offer_tests T i t u dst session) _ _ (λ code. S)
        (option-keeps On (λ (k : KeyName). ask_made T i u dst (OfferTarget k index) t) _ (answer BadKind t)
        (λ k there. ask-stays u dst (OfferTarget k index) t other S)
        S)
    call-stays u before (Delegate src w dst) t other so S = unless-keeps On (delegate_tests T i t u src w) _ _ (λ code. S) (held-stays (own t u src) _ t S (λ p.
        let waiting : Side = parked_as u (DelegateWait p.key) t in
        let waits : Stays waiting = still-park v q n t S u (Some (DelegateWait p.key)) other in
        cond_both (kernel_of T w == i) _ _ Stays (λ _. still-asked v q n waiting waits w (DelegateAsk p.key p.object dst))
        (λ _. still-send v q n (kernel_of T w) (DelegateReq p.key p.object w dst) waiting waits)))
    call-stays u before (Revoke src) t other so S = held-stays (own t u src) _ t S
        (λ c. still-revoked v q n T i u c.key c.mark t (λ same. absurd (other same)) (λ j. still-park v q n t S u (Some (RevokeWait j)) other))
    call-stays u before (Bind ep src) t other so S = unless-keeps On (bind_tests t u src) _ _ (λ code. S)
        (held-stays (own t u src) _ t S (λ c. record { park = S.park; idle = S.idle; calls = S.calls }))
    call-stays u before (ReadCall ep off len) t other so S = unless-keeps On (memory_tests 1 off len (endpoint t u ep)) _ _ (λ code. S) S
    call-stays u before (WriteCall ep off len) t other so S = unless-keeps On (memory_tests 2 off len (endpoint t u ep)) _ _ (λ code. S) S
    call-stays u before (Derive src dst off len rights) t other so S = absurd so
    call-stays u before (Gate src dst label credits) t other so S = absurd so
    call-stays u before (Obtain dst w src) t other so S = absurd so
    call-stays u before (SendCall ep len) t other so S = absurd so
    call-stays u before (Credit ep) t other so S = absurd so
    call-stays u before Exit t other so S = absurd so
    call-stays u before (Clear src) t other so S = absurd so

    -- An upcall whose tests pass. The side t is s without the ask.
    module _ (u : ℕ) where
      abbrev taken : Side
      taken = ask_taken u s

      taken-stays : Stays taken
      taken-stays = still-taken v q n s stays u

      -- what was asked for comes to a VPE of this kernel
      given-course : (place : PlaceName) (target : Target) (p : Capability) → Contains (root_keys T) p.key
          → (place.vpe ≡ v → is_obtain_wait place.number (parked s v) ≡ true)
          → Course T s (given_here (keyed place (given_kind target p)) p.key (given target place.vpe p)
          (parked (linked p.key (keyed place (given_kind target p)) taken) place.vpe) (linked p.key (keyed place (given_kind target p)) taken)) v
      given-course place target p root waits = elim (cases_eq place.vpe v) [
        | inl same ↦ by_call (parked s v) refl (ap (parked s) same) same
        | inr other ↦ course _ (elsewhere (parked s place.vpe) other)
      ]
        where
          k : KeyName
          k = keyed place (given_kind target p)

          linking : Side
          linking = linked p.key (keyed place (given_kind target p)) taken

          linking-stays : Stays linking
          linking-stays = record { park = taken-stays.park; idle = taken-stays.idle; calls = taken-stays.calls }

          object : Object
          object = given target place.vpe p

          elsewhere : (o : Option Parked) → (place.vpe ≡ v → ⊥) → Stays
              (given_here (keyed place (given_kind target p)) p.key (given target place.vpe p) o (linked p.key (keyed place (given_kind target p)) taken))
          elsewhere (Some (ObtainWait number sel)) other =
              let inside : Side = installed k (Some p.key) sel object linking in
              still-park v q n inside (still-installed v q n linking linking-stays k (Some p.key) sel object) place.vpe (Some (Ready 0)) other
          elsewhere None other = linking-stays
          elsewhere (Some (ObtainReady key parent object' sel)) other = linking-stays
          elsewhere (Some ObtainCancelled) other = linking-stays
          elsewhere (Some (DelegateWait parent)) other = linking-stays
          elsewhere (Some (DelegateReady parent key)) other = linking-stays
          elsewhere (Some (RevokeWait j)) other = linking-stays
          elsewhere (Some (Ready code)) other = linking-stays

          by_call : (o : Option Parked) → parked s v ≡ o → parked s place.vpe ≡ parked s v → place.vpe ≡ v
              → Course T s (given_here (keyed place (given_kind target p)) p.key (given target place.vpe p) (parked s place.vpe)
              (linked p.key (keyed place (given_kind target p)) taken)) v
          by_call (Some (ObtainWait number sel)) at here same =
              let inside : Side = installed k (Some p.key) sel object linking in
              let done : Side = succeeding place.vpe inside in
              let inside-stays : Stays inside = still-installed v q n linking linking-stays k (Some p.key) sel object in
              let is : given_here k p.key object (parked s place.vpe) linking ≡ done = ap (λ o. given_here k p.key object o linking) (here ∙ at) in
              let arrived : HasCome T inside place.vpe place.number sel = come T k p.key sel object linking root in
              subst (λ t. Course T s t v) (sym is) (record {
                calls = inside-stays.calls;
                turn = turn_got number sel (ap kept at) (inl (ap (parked done) (sym same) ∙ parked-here inside place.vpe (Some (Ready 0))))
                    (subst (λ w. HasCome T done w number sel) same
                    (record {
                      key = arrived.key;
                      numbered = arrived.numbered
                          ∙ sym (eqb-true number place.number (sym (ap (is_obtain_wait place.number) at) ∙ waits same));
                      at = arrived.at;
                      capability = arrived.capability;
                      held = arrived.held;
                      parent = arrived.parent;
                      below = arrived.below;
                      root = arrived.root;
                    }));
              })
          by_call None at here same = absurd (true≢false (sym (waits same) ∙ ap (is_obtain_wait place.number) at))
          by_call (Some (ObtainReady key parent object' sel)) at here same = absurd (true≢false (sym (waits same) ∙ ap (is_obtain_wait place.number) at))
          by_call (Some ObtainCancelled) at here same = absurd (true≢false (sym (waits same) ∙ ap (is_obtain_wait place.number) at))
          by_call (Some (DelegateWait parent)) at here same = absurd (true≢false (sym (waits same) ∙ ap (is_obtain_wait place.number) at))
          by_call (Some (DelegateReady parent key)) at here same = absurd (true≢false (sym (waits same) ∙ ap (is_obtain_wait place.number) at))
          by_call (Some (RevokeWait j)) at here same = absurd (true≢false (sym (waits same) ∙ ap (is_obtain_wait place.number) at))
          by_call (Some (Ready code)) at here same = absurd (true≢false (sym (waits same) ∙ ap (is_obtain_wait place.number) at))

      -- a delegate of a VPE of this kernel
      here-course : (parent : KeyName) (object : Object) (sel : ℕ) → (parent.vpe ≡ v → is_delegate_wait parent (parked s v) ≡ true)
          → Course T s (delegate_here T u parent object sel taken).side v
      here-course parent object sel waits = elim (cases_eq parent.vpe v) [
        | inr other ↦ course _ (still-park v q n inside inside-stays parent.vpe (Some (Ready 0)) other)
        | inl same ↦ record {
          calls = inside-stays.calls;
          turn = turn_over (by_call (parked s v) refl (waits same)) (λ none. true≢false (sym (waits same) ∙ ap (is_delegate_wait parent) none))
              (inl (ap (parked (parked_as parent.vpe (Ready 0) inside)) (sym same) ∙ parked-here inside parent.vpe (Some (Ready 0))));
        }
      ]
        where
          k : KeyName
          k = next_key T taken u parent.kind

          linking : Side
          linking = linked parent k (drawn u taken)

          linking-stays : Stays linking
          linking-stays = let one = still-drawn v q n taken taken-stays u in record { park = one.park; idle = one.idle; calls = one.calls }

          inside : Side
          inside = installed k (Some parent) sel object linking

          inside-stays : Stays inside
          inside-stays = still-installed v q n linking linking-stays k (Some parent) sel object

          by_call : (o : Option Parked) → parked s v ≡ o → is_delegate_wait parent (parked s v) ≡ true → kept (parked s v) ≡ None
          by_call (Some (DelegateWait p)) at is = ap kept at
          by_call None at is = absurd (true≢false (sym is ∙ ap (is_delegate_wait parent) at))
          by_call (Some (ObtainWait number sel')) at is = absurd (true≢false (sym is ∙ ap (is_delegate_wait parent) at))
          by_call (Some (ObtainReady key p object' sel')) at is = absurd (true≢false (sym is ∙ ap (is_delegate_wait parent) at))
          by_call (Some ObtainCancelled) at is = absurd (true≢false (sym is ∙ ap (is_delegate_wait parent) at))
          by_call (Some (DelegateReady p key)) at is = absurd (true≢false (sym is ∙ ap (is_delegate_wait parent) at))
          by_call (Some (RevokeWait j)) at is = absurd (true≢false (sym is ∙ ap (is_delegate_wait parent) at))
          by_call (Some (Ready code)) at is = absurd (true≢false (sym is ∙ ap (is_delegate_wait parent) at))

      prepared-stays : (parent : KeyName) (object : Object) (sel : ℕ) → Stays (delegate_prepared T u parent object sel taken).side
      prepared-stays parent object sel =
          let one = still-slot v q n (drawn u taken) (still-drawn v q n taken taken-stays u) u sel Promised in
          record { park = one.park; idle = one.idle; calls = one.calls }

      -- who is asked for by its own kernel waits for it
      awaits : (a : Ask) → is_unawaited T i taken a ≡ false → asker a ≡ v → waits_for a (parked s v) ≡ true
      awaits a awaited same = elim (cases_Bool (waits_for a (parked s v))) [
        | inl waits ↦ waits
        | inr not_ ↦
            let local : (kernel_of T (asker a) == i) ≡ true = ap (λ w. kernel_of T w == i) same ∙ eq-eqb (kernel_of T v) i home in
            let none : waits_for a (parked s (asker a)) ≡ false = ap (λ w. waits_for a (parked s w)) same ∙ not_ in
            let un : is_unawaited T i taken a ≡ true = ap (λ b. b && not (waits_for a (parked s (asker a)))) local ∙ ap not none in
            absurd (true≢false (sym un ∙ awaited))
      ]

      consent-course : (a : Ask) → is_unawaited T i taken a ≡ false → AskPasses T i taken u a → Course T s (consented T i u a taken).side v
      consent-course (ObtainAsk place target) awaited (passed, from) =
          subst (λ (x : Step). Course T s x.side v)
          (sym (passed-done (source_tests target (source T taken u target)) (λ code. unshown (ask_refused T i code (ObtainAsk place target) taken))
          (option_map_or (child_given T i place target taken) (source T taken u target) (unshown taken)) passed))
          (option-keeps (λ (x : Step). Course T s x.side v) (child_given T i place target taken) (source T taken u target) (unshown taken)
          (λ p there.
          let k : KeyName = keyed place (given_kind target p) in
          let linking : Side = linked p.key k taken in
          let linking-stays : Stays linking = record { park = taken-stays.park; idle = taken-stays.idle; calls = taken-stays.calls } in
          cond_both (kernel_of T place.vpe == i) (given_here k p.key (given target place.vpe p) (parked linking place.vpe) linking)
          (send (place_owner T place) (ObtainOk p.key k (given target place.vpe p)) linking) (λ t. Course T s t v)
          (λ _. given-course place target p (from p there).0 (awaits (ObtainAsk place target) awaited))
          (λ _. course _ (still-send v q n (place_owner T place) (ObtainOk p.key k (given target place.vpe p)) linking linking-stays)))
          (course taken taken-stays))
      consent-course (DelegateAsk parent object sel) awaited (here, far) =
          cond_both (kernel_of T parent.vpe == i) _ _ (λ (x : Step). Course T s x.side v)
          (λ at. subst (λ (x : Step). Course T s x.side v)
          (sym (passed-done (parent_tests (cap taken parent) ++ destination_tests taken u sel)
          (λ code. unshown (ask_refused T i code (DelegateAsk parent object sel) taken)) (delegate_here T u parent object sel taken) (here at)))
          (here-course parent object sel (awaits (DelegateAsk parent object sel) awaited)))
          (λ at. subst (λ (x : Step). Course T s x.side v)
          (sym (passed-done (destination_tests taken u sel) (λ code. unshown (ask_refused T i code (DelegateAsk parent object sel) taken))
          (delegate_prepared T u parent object sel taken) (far at))) (course _ (prepared-stays parent object sel)))

      upcall-course : ActPasses T i s (Upcall u) → Course T s (upcall_row T i s u).side v
      unfolding upcall_row
      upcall-course passes = option-keeps (λ (x : Step). Course T s x.side v) (λ (a : Ask). ask_decided T i u a taken) (slice_get (row s u).asks 0) (unshown s)
          (λ a there. let p = passes a there in decided a p.0 p.1) (course s stays)
        where
          decided : (a : Ask) → denies T u (asker a) ≡ false → (is_unawaited T i taken a ≡ false → AskPasses T i taken u a)
              → Course T s (ask_decided T i u a taken).side v
          decided a allowed passes' =
              cond_both (is_unawaited T i taken a) _ _ (λ (x : Step). Course T s x.side v) (λ _. course taken taken-stays)
              (λ waited. cond_both (denies T u (asker a)) _ _ (λ (x : Step). Course T s x.side v) (λ denied. absurd (true≢false (sym denied ∙ allowed)))
              (λ _. consent-course a waited (passes' waited)))

      -- A parked call that goes on.

      abbrev over : Side
      over = unparked u s

      resume-course : can_resume (parked s u) ≡ true → Course T s (resume_row T s u).side v
      unfolding resume_row
      resume-course can = elim (cases_eq u v) [
        | inl same ↦ mine same (parked s u) refl
        | inr other ↦ course _ (others other (parked s u))
      ]
        where
          gone-stays : (u ≡ v → ⊥) → Stays over
          gone-stays other = still-park v q n s stays u None other

          granted : (u ≡ v → ⊥) → (parent key : KeyName) (m : Option ℕ) → On (delegate_granted T parent key m over)
          granted other parent key None = still-send v q n (owner_of T key) (Ack key true) (linked parent key over)
              (still-caps v q n (linked parent key over).caps over (gone-stays other))
          granted other parent key (Some j) = still-send v q n (owner_of T key) (Ack key false) over (gone-stays other)

          answered : (u ≡ v → ⊥) → (parent key : KeyName) (o : Option Capability) → On (delegate_resumed T parent key o over)
          answered other parent key None = still-send v q n (owner_of T key) (Ack key false) over (gone-stays other)
          answered other parent key (Some c) = granted other parent key c.mark

          others : (u ≡ v → ⊥) → (p : Option Parked) → On (resumed T p over)
          others other None = gone-stays other
          others other (Some (ObtainWait number sel)) = gone-stays other
          others other (Some (ObtainReady key parent object sel)) = still-installed v q n over (gone-stays other) key (Some parent) sel object
          others other (Some ObtainCancelled) = gone-stays other
          others other (Some (DelegateWait parent)) = gone-stays other
          others other (Some (DelegateReady parent key)) = answered other parent key (cap over parent)
          others other (Some (RevokeWait j)) = gone-stays other
          others other (Some (Ready code)) = gone-stays other

          -- the call of v itself
          off : u ≡ v → parked over v ≡ None
          off same = ap (parked over) (sym same) ∙ parked-here s u None

          -- a side where only capabilities and messages changed
          away : u ≡ v → (t : Side) → t.parks ≡ over.parks → t.vpes ≡ s.vpes → kept (parked s v) ≡ None → (parked s v ≡ None → ⊥) → Course T s t v
          away same t parks vpes none busy = record {
            calls = ap (λ rs. (get_or rs v no_vpe).next_call) vpes;
            turn = turn_over none busy (inr (ap (λ ps. get_or ps v None) parks ∙ off same));
          }

          mine-granted : u ≡ v → kept (parked s v) ≡ None → (parked s v ≡ None → ⊥) → (parent key : KeyName) (m : Option ℕ)
              → Course T s (delegate_granted T parent key m over).side v
          mine-granted same none busy parent key None = away same _ refl refl none busy
          mine-granted same none busy parent key (Some j) = away same _ refl refl none busy

          mine-answered : u ≡ v → kept (parked s v) ≡ None → (parked s v ≡ None → ⊥) → (parent key : KeyName) (o : Option Capability)
              → Course T s (delegate_resumed T parent key o over).side v
          mine-answered same none busy parent key None = away same _ refl refl none busy
          mine-answered same none busy parent key (Some c) = mine-granted same none busy parent key c.mark

          mine : u ≡ v → (p : Option Parked) → parked s u ≡ p → Course T s (resumed T p over).side v
          mine same None at = absurd (true≢false (sym can ∙ ap can_resume at))
          mine same (Some (ObtainWait number sel)) at = absurd (true≢false (sym can ∙ ap can_resume at))
          mine same (Some (ObtainReady key parent object sel)) at =
              let inside : Side = installed key (Some parent) sel object over in
              let here : parked s v ≡ Some (ObtainReady key parent object sel) = ap (parked s) (sym same) ∙ at in
              let own' : key.vpe ≡ v = (sound.calls v (ObtainReady key parent object sel) here).1.0 in
              let root : Contains (root_keys T) parent = subst (IsServedCall T) at (served.calls u) in
              record {
                calls = (still-calls key sel object parent);
                turn = turn_got key.number sel (ap kept here) (inr (off same))
                    (subst (λ w. HasCome T inside w key.number sel) own' (come T key parent sel object over root));
              }
            where
              still-calls : (key : KeyName) (sel : ℕ) (object : Object) (parent : KeyName)
                  → (row (installed key (Some parent) sel object over) v).next_call ≡ (row s v).next_call
              still-calls key sel object parent = elim (cases_eq v key.vpe) [
                | inl here ↦ ap (λ w. (row (installed key (Some parent) sel object over) w).next_call) here
                    ∙ (ap (λ (y : VpeRow). y.next_call)
                    (get_or-put_same no_vpe s.vpes key.vpe (record (row s key.vpe) { slots = put Free (row s key.vpe).slots sel (Held key) }))
                    ∙ ap (λ w. (row s w).next_call) (sym here))
                | inr other ↦ ap (λ (y : VpeRow). y.next_call)
                    (get_or-put_other no_vpe s.vpes key.vpe v (record (row s key.vpe) { slots = put Free (row s key.vpe).slots sel (Held key) }) other)
              ]
          mine same (Some ObtainCancelled) at = away same over refl refl (ap kept (ap (parked s) (sym same) ∙ at))
              (λ none. let no' : ◌≡◌ {A = Option Parked} None (Some ObtainCancelled) = sym none ∙ (ap (parked s) (sym same) ∙ at) in absurd cc)
          mine same (Some (DelegateWait parent)) at = absurd (true≢false (sym can ∙ ap can_resume at))
          mine same (Some (DelegateReady parent key)) at = mine-answered same (ap kept (ap (parked s) (sym same) ∙ at))
              (λ none. let no' : ◌≡◌ {A = Option Parked} None (Some (DelegateReady parent key)) = sym none ∙ (ap (parked s) (sym same) ∙ at) in
              absurd cc) parent key
              (cap over parent)
          mine same (Some (RevokeWait j)) at = absurd (true≢false (sym can ∙ ap can_resume at))
          mine same (Some (Ready code)) at = away same over refl refl (ap kept (ap (parked s) (sym same) ∙ at))
              (λ none. let no' : ◌≡◌ {A = Option Parked} None (Some (Ready code)) = sym none ∙ (ap (parked s) (sym same) ∙ at) in absurd cc)

    -- Messages.

    abbrev emptied : Side
    emptied = with_inbox None s

    emptied-stays : Stays emptied
    emptied-stays = record { park = stays.park; idle = stays.idle; calls = stays.calls }

    right-of : (a b : Bool) → (a || b) ≡ false → b ≡ false
    right-of true b is = absurd cc
    right-of false b is = is

    last-of : (a b c d e : Bool) → (a || (b || (c || (d || e)))) ≡ false → e ≡ false
    last-of a b c d e is = right-of d e (right-of c (d || e) (right-of b (c || (d || e)) (right-of a (b || (c || (d || e))) is)))

    awaited-so : (b : Bool) → (is_alive s v && not b) ≡ false → is_alive s v ≡ true → b ≡ true
    awaited-so true is alive = refl
    awaited-so false is alive = let no' : true ≡ false = sym (ap (λ a. a && true) alive) ∙ is in absurd cc

    obtained-course : (parent key : KeyName) (object : Object) → is_alive s v ≡ true → key.vpe ≡ v
        → (is_alive s key.vpe && not (is_obtain_wait key.number (parked s key.vpe))) ≡ false →
        Course T s (obtain_ready parent key object (parked s key.vpe) emptied) v
    obtained-course parent key object alive same lives = by_call (parked s v) refl (ap (parked s) same)
      where
        waits : is_obtain_wait key.number (parked s v) ≡ true
        waits = awaited-so (is_obtain_wait key.number (parked s v)) (ap (λ w. is_alive s w && not (is_obtain_wait key.number (parked s w))) (sym same)
            ∙ lives) alive

        by_call : (o : Option Parked) → parked s v ≡ o → parked s key.vpe ≡ parked s v →
            Course T s (obtain_ready parent key object (parked s key.vpe) emptied) v
        by_call (Some (ObtainWait number sel)) at here =
            let done : Side = parked_as key.vpe (ObtainReady key parent object sel) emptied in
            subst (λ t. Course T s t v) (sym (ap (λ o. obtain_ready parent key object o emptied) (here ∙ at))) (record {
              calls = refl;
              turn = turn_obtained number sel key parent object (eqb-true number key.number (sym (ap (is_obtain_wait key.number) at) ∙ waits)) at
                  (ap (parked done) (sym same) ∙ parked-here emptied key.vpe (Some (ObtainReady key parent object sel)));
            })
        by_call None at here = absurd (true≢false (sym waits ∙ ap (is_obtain_wait key.number) at))
        by_call (Some (ObtainReady key' parent' object' sel)) at here = absurd (true≢false (sym waits ∙ ap (is_obtain_wait key.number) at))
        by_call (Some ObtainCancelled) at here = absurd (true≢false (sym waits ∙ ap (is_obtain_wait key.number) at))
        by_call (Some (DelegateWait parent')) at here = absurd (true≢false (sym waits ∙ ap (is_obtain_wait key.number) at))
        by_call (Some (DelegateReady parent' key')) at here = absurd (true≢false (sym waits ∙ ap (is_obtain_wait key.number) at))
        by_call (Some (RevokeWait j)) at here = absurd (true≢false (sym waits ∙ ap (is_obtain_wait key.number) at))
        by_call (Some (Ready code)) at here = absurd (true≢false (sym waits ∙ ap (is_obtain_wait key.number) at))

    ready-stays : (parent key : KeyName) (object : Object) → (key.vpe ≡ v → ⊥) → (o : Option Parked) → Stays (obtain_ready parent key object o emptied)
    ready-stays parent key object other (Some (ObtainWait number sel)) =
        still-park v q n emptied emptied-stays key.vpe (Some (ObtainReady key parent object sel)) other
    ready-stays parent key object other None = emptied-stays
    ready-stays parent key object other (Some (ObtainReady key' parent' object' sel)) = emptied-stays
    ready-stays parent key object other (Some ObtainCancelled) = emptied-stays
    ready-stays parent key object other (Some (DelegateWait parent')) = emptied-stays
    ready-stays parent key object other (Some (DelegateReady parent' key')) = emptied-stays
    ready-stays parent key object other (Some (RevokeWait j)) = emptied-stays
    ready-stays parent key object other (Some (Ready code)) = emptied-stays

    prepared-course : (parent key : KeyName) → is_alive s v ≡ true → parent.vpe ≡ v
        → (is_alive s parent.vpe && not (is_delegate_wait parent (parked s parent.vpe))) ≡ false
        → Course T s (parked_as parent.vpe (DelegateReady parent key) emptied) v
    prepared-course parent key alive same lives = by_call (parked s v) refl
      where
        waits : is_delegate_wait parent (parked s v) ≡ true
        waits = awaited-so (is_delegate_wait parent (parked s v)) (ap (λ w. is_alive s w && not (is_delegate_wait parent (parked s w))) (sym same)
            ∙ lives) alive

        by_call : (o : Option Parked) → parked s v ≡ o → Course T s (parked_as parent.vpe (DelegateReady parent key) emptied) v
        by_call (Some (DelegateWait p)) at =
            let asked' : p ≡ parent = key_eq-true p parent (sym (ap (is_delegate_wait parent) at) ∙ waits) in
            record {
              calls = refl;
              turn = turn_prepared parent key (at ∙ ap (λ k. Some (DelegateWait k)) asked')
                  (ap (parked (parked_as parent.vpe (DelegateReady parent key) emptied)) (sym same)
                  ∙ parked-here emptied parent.vpe (Some (DelegateReady parent key)));
            }
        by_call None at = absurd (true≢false (sym waits ∙ ap (is_delegate_wait parent) at))
        by_call (Some (ObtainWait number sel)) at = absurd (true≢false (sym waits ∙ ap (is_delegate_wait parent) at))
        by_call (Some (ObtainReady key' parent' object' sel)) at = absurd (true≢false (sym waits ∙ ap (is_delegate_wait parent) at))
        by_call (Some ObtainCancelled) at = absurd (true≢false (sym waits ∙ ap (is_delegate_wait parent) at))
        by_call (Some (DelegateReady parent' key')) at = absurd (true≢false (sym waits ∙ ap (is_delegate_wait parent) at))
        by_call (Some (RevokeWait j)) at = absurd (true≢false (sym waits ∙ ap (is_delegate_wait parent) at))
        by_call (Some (Ready code)) at = absurd (true≢false (sym waits ∙ ap (is_delegate_wait parent) at))

    acked-stays : (key : KeyName) (accepted : Bool) (p : Pending) → Stays (acknowledged T key accepted emptied p)
    acked-stays key true p =
        let out : Stays (pending_removed key emptied) = record { park = stays.park; idle = stays.idle; calls = stays.calls } in
        cond_both (is_alive s key.vpe) _ _ Stays (λ _. still-installed v q n (pending_removed key emptied) out key (Some p.parent) p.sel p.object)
        (λ _. still-send v q n (owner_of T p.parent) (Orphan p.parent key) (pending_removed key emptied) out)
    acked-stays key false p = still-slot v q n (pending_removed key emptied) (record { park = stays.park; idle = stays.idle; calls = stays.calls }) key.vpe
        p.sel Free

    row-course : (from : ℕ) (m : Message) → is_alive s v ≡ true → IsServedMessage T m → IsReceived T emptied m → is_stray T i emptied m ≡ false
        → Course T s (handle_row T i emptied from m) v
    unfolding handle_row
    row-course from (ObtainReq place target) alive so may right = cond_both (is_alive s (target_vpe target)) _ _ (λ t. Course T s t v)
        (λ _. course _ (still-asked v q n emptied emptied-stays (target_vpe target) (ObtainAsk place target))) (λ dead. absurd (true≢false (sym may ∙ dead)))
    row-course from (ObtainOk parent key object) alive so may right = cond_both (is_alive s key.vpe) _ _ (λ t. Course T s t v)
        (λ _. elim (cases_eq key.vpe v) [
          | inl same ↦ obtained-course parent key object alive same
              (right-of (is_here T i parent.vpe) (lives_without (is_obtain_wait key.number) emptied key.vpe)
              (last-of (not (is_key_declared T parent)) (not (is_key_declared T key)) (not (is_object_declared T object)) (not (is_here T i key.vpe))
              (is_here T i parent.vpe || lives_without (is_obtain_wait key.number) emptied key.vpe) right))
          | inr other ↦ course _ (ready-stays parent key object other (parked s key.vpe))
        ])
        (λ _. course _ (still-send v q n (owner_of T parent) (Orphan parent key) emptied emptied-stays))
    row-course from (ObtainNo place code) alive so may right = absurd so
    row-course from (DelegateReq parent object vpe sel) alive so may right =
        cond_both (is_alive s vpe) _ _ (λ t. Course T s t v) (λ _. course _ (still-asked v q n emptied emptied-stays vpe (DelegateAsk parent object sel)))
        (λ dead. absurd (true≢false (sym may ∙ dead)))
    row-course from (DelegatePrepared parent key) alive so may right = cond_both (is_alive s parent.vpe) _ _ (λ t. Course T s t v)
        (λ _. elim (cases_eq parent.vpe v) [
          | inl same ↦ prepared-course parent key alive same
              (last-of (not (is_key_declared T parent)) (not (is_key_declared T key)) (not (is_here T i parent.vpe)) (is_here T i key.vpe)
              (lives_without (is_delegate_wait parent) emptied parent.vpe) right)
          | inr other ↦ course _ (still-park v q n emptied emptied-stays parent.vpe (Some (DelegateReady parent key)) other)
        ])
        (λ _. course _ (still-send v q n (owner_of T key) (Ack key false) emptied emptied-stays))
    row-course from (DelegateNo parent code) alive so may right = absurd so
    row-course from (Ack key accepted) alive so may right = option-keeps (λ t. Course T s t v) (acknowledged T key accepted emptied)
        (pending emptied key) emptied
        (λ p there. course _ (acked-stays key accepted p)) (course emptied emptied-stays)
    row-course from (Orphan parent key) alive so may right = course _ (still-caps v q n (unlinked parent key emptied).caps emptied emptied-stays)
    row-course from (RevokeReq key j) alive so may right =
        course _ (still-requested v q n T i from j key (cap emptied key) emptied (λ ready same. true≢false (sym ready ∙ may)) emptied-stays)
    row-course from (RevokeDone j) alive so may right = course _ (still-done v q n T i j emptied emptied-stays)
    row-course from (Unlink parent key) alive so may right = course _ (still-caps v q n (unlinked parent key emptied).caps emptied emptied-stays)

    handled-course : (from : ℕ) (m : Message) → is_alive s v ≡ true → IsServedMessage T m → (is_stray T i emptied m ≡ false → IsReceived T emptied m)
        → Course T s (handled T i emptied from m) v
    handled-course from m alive so may = cond_both (is_stray T i emptied m) emptied (handle_row T i emptied from m) (λ t. Course T s t v)
        (λ _. course emptied emptied-stays) (λ right. row-course from m alive so (may right) right)

    -- A step in which v does not call.
    pub step-course : (a : Act) (input : Option Message) → is_alive s v ≡ true → ActPasses T i s a → ((u : ℕ) → a ≡ Resume u → can_resume (parked s u) ≡ true)
        → ((u : ℕ) (c : Call) → a ≡ Calls u → next_call T s u ≡ Some c → (before : List Call) × MayComeNext T u before c) → (a ≡ Calls v → ⊥)
        → Course T s (local_step T i s a input).side v
    unfolding local_step
    step-course (Calls u) input alive passes can order silent = elim (cases_eq u v) [
      | inl same ↦ absurd (silent (ap Calls same))
      | inr other ↦ option-keeps (λ (x : Step). Course T s x.side v) (call_row T i (call_counted u s) u) (next_call T s u) (unshown s)
          (λ c there. let o = order u c refl there in course _ (call-stays u o.0 c (call_counted u s) other o.1 (counted u other))) (course s stays)
    ]
      where
        counted : (u : ℕ) → (u ≡ v → ⊥) → Stays (call_counted u s)
        counted u other = still-row v q n s stays u (record (row s u) { next_call = (row s u).next_call + 1 }) (λ same. absurd (other same))
    step-course (Upcall u) input alive passes can order silent = upcall-course u passes
    step-course (Resume u) input alive passes can order silent = resume-course u (can u refl)
    step-course Handle input alive passes can order silent = from s.inbox refl
      where
        from : (o : Option (ℕ × Message)) → s.inbox ≡ o → Course T s (unshown (option_map_or (λ m. handled T i emptied m.0 m.1) o s)).side v
        from None at = course s stays
        from (Some m) at = handled-course m.0 m.1 alive (served.inbox m.0 m.1 at) (passes m.0 m.1 at)
    step-course (Fetch j) input alive passes can order silent = course _ (record { park = stays.park; idle = stays.idle; calls = stays.calls })
    step-course (Flush j) input alive passes can order silent = course _ (record { park = stays.park; idle = stays.idle; calls = stays.calls })
    step-course (Kill u) input alive passes can order silent = absurd passes
