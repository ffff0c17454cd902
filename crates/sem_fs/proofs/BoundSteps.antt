-- An endpoint of a VPE stays bound by each step in which the VPE does not call, or what it is bound to is marked or gone.
use Rattle.std.proofs.Common.{◌≡◌, ℕ, Bool, true, false, List, [], get_or, Option, Some, None, slice_get, refl, sym, ap, ◌∙◌, inl, inr}
use Rattle.std.specs.Prelude.{◌==◌}
use Rattle.std.specs.Option.{option_map_or}
use Rattle.std.proofs.lemmas.Bool.{cases_eq, cond_both}
use Rattle.sem_key.specs.declared.object.Object.{Object}
use Rattle.sem_key.specs.KeyName.{KeyName}
use Rattle.sem_key.specs.PlaceName.{keyed}
use Rattle.sem_key.specs.Lists.{put}
use Rattle.sem_key.specs.Capability.{Capability}
use Rattle.sem_key.proofs.Puts.{get_or-put_other}
use Rattle.sem_msg.specs.declared.call.Call.{Call}
use Rattle.sem_msg.specs.declared.call.Call.TheVariants.{Derive, Gate, Obtain, Delegate, OpenSession, AskOffer, Revoke, Bind, Read as ReadCall}
use Rattle.sem_msg.specs.declared.call.Call.TheVariants.{Write as WriteCall, Send as SendCall, Credit, Exit, Clear}
use Rattle.sem_msg.specs.declared.code.Code.{Code}
use Rattle.sem_msg.specs.declared.code.Code.TheVariants.{NoCap, NoService, BadKind, Dead}
use Rattle.sem_msg.specs.Codes.{code_number}
use Rattle.sem_msg.specs.declared.event.Act.{Act}
use Rattle.sem_msg.specs.declared.event.Act.TheVariants.{Call as Calls, Fetch, Handle, Upcall, Resume, Flush, Kill}
use Rattle.sem_msg.specs.declared.message.Message.{Message}
use Rattle.sem_msg.specs.declared.message.Target.{Target}
use Rattle.sem_msg.specs.declared.message.Target.TheVariants.{Serv as ServTarget, Offer as OfferTarget}
use Rattle.sem_msg.specs.declared.setup.Service.{Service}
use Rattle.sem_msg.specs.declared.state.Ask.{Ask}
use Rattle.sem_msg.specs.declared.state.Ask.TheVariants.{Obtain as ObtainAsk, Delegate as DelegateAsk}
use Rattle.sem_msg.specs.declared.state.Parked.{Parked}
use Rattle.sem_msg.specs.declared.state.Parked.TheVariants.{ObtainWait, ObtainReady, ObtainCancelled, DelegateWait, DelegateReady, RevokeWait, Ready}
use Rattle.sem_msg.specs.declared.state.Pending.{Pending}
use Rattle.sem_msg.specs.Rows.{Endpoint}
use Rattle.sem_msg.specs.Setup.{Setup}
use Rattle.sem_msg.specs.Lookups.{kernel_of, service_named}
use Rattle.sem_msg.specs.Uses.{memory_tests}
use Rattle.sem_machine.specs.Sides.{Side, row, own, cap, parked, endpoint, is_alive, call_counted, unparked, ask_taken, linked, with_inbox}
use Rattle.sem_machine.specs.Steps.{Step, unshown, answer}
use Rattle.sem_machine.specs.Asks.{target_vpe, asker, promise_freed, call_refused, refusal_sent, ask_refused}
use Rattle.sem_machine.specs.Calls.{call_row, ask_made, offer_made, open_tests, offer_tests, delegate_tests, bind_tests, with_held}
use Rattle.sem_machine.specs.Upcalls.{given, given_kind, given_here, ask_decided, upcall_row}
use Rattle.sem_machine.specs.Handles.{handled, acknowledged, obtain_ready}
use Rattle.sem_machine.specs.Resumes.{delegate_granted, delegate_resumed, resumed, resume_row}
use Rattle.sem_machine.specs.Machine.{next_call, local_step}
use Rattle.sem_machine.proofs.FirstCodes.{unless-keeps}
use Rattle.sem_machine.proofs.Folds.{option-keeps}
use Rattle.sem_safety.proofs.Skeleton.{decided-by, handled-by}
use Rattle.sem_fs.specs.Service.{MayComeNext}
use Rattle.sem_fs.proofs.Unbinding.{IsKeptByNone, IsBoundTo, Fate, stays, revoked-fate, requested-fate, done-fate}

module _ (v ep : ℕ) (k : KeyName) (T : Setup) (i : ℕ) (s : Side) (is : IsBoundTo v ep k s) (unkept : IsKeptByNone k s) where
  abbrev F : Side → Type 0
  F t = Fate v ep k t

  abbrev On : Step → Type 0
  On y = F y.side

  -- a side with the endpoints of s
  same : (t : Side) → t.endpoints ≡ s.endpoints → F t
  same t equal = inl (stays v ep k s t equal is)

  -- Refusals.
  refused-fate : (number w : ℕ) (t : Side) → t.endpoints ≡ s.endpoints → F (call_refused number w t)
  refused-fate number w t equal = from (parked t w)
    where
      from : (p : Option Parked) → F (record (promise_freed p w t) { parks = put None (promise_freed p w t).parks w (Some (Ready number)) })
      from None = same _ equal
      from (Some (ObtainWait n q)) = same _ equal
      from (Some (ObtainReady key parent object q)) = same _ equal
      from (Some ObtainCancelled) = same _ equal
      from (Some (DelegateWait parent)) = same _ equal
      from (Some (DelegateReady parent key)) = same _ equal
      from (Some (RevokeWait j)) = same _ equal
      from (Some (Ready code)) = same _ equal

  ask_refused-fate : (code : Code) (a : Ask) (t : Side) → t.endpoints ≡ s.endpoints → F (ask_refused T i code a t)
  ask_refused-fate code a t equal = cond_both (kernel_of T (asker a) == i) (call_refused (code_number code) (asker a) t) (refusal_sent T code a t) F
      (λ _. refused-fate (code_number code) (asker a) t equal) (λ _. from a)
    where
      from : (b : Ask) → F (refusal_sent T code b t)
      from (ObtainAsk place target) = same (refusal_sent T code (ObtainAsk place target) t) equal
      from (DelegateAsk parent object q) = same (refusal_sent T code (DelegateAsk parent object q) t) equal

  -- Calls of another VPE.
  ask-fate : (u dst : ℕ) (target : Target) (t : Side) → t.endpoints ≡ s.endpoints → On (ask_made T i u dst target t)
  ask-fate u dst target t equal = cond_both (kernel_of T (target_vpe target) == i) _ _ F (λ _. same _ equal) (λ _. same _ equal)

  offer-fate : (u w dst : ℕ) (p : Capability) (t : Side) → t.endpoints ≡ s.endpoints → On (offer_made T i u w dst p t)
  offer-fate u w dst p t equal = cond_both (kernel_of T w == i) _ _ F (λ _. same _ equal) (λ _. same _ equal)

  held-fate : (o : Option Capability) (f : Capability → Step) (t : Side) → t.endpoints ≡ s.endpoints → ((c : Capability) → On (f c)) → On (with_held o f t)
  held-fate o f t equal each = option-keeps On f o (answer NoCap t) (λ c held. each c) (same t equal)

  call-fate : (u : ℕ) (before : List Call) (c : Call) (t : Side) → (u ≡ v → ⊥) → MayComeNext T u before c → t.endpoints ≡ s.endpoints → t.jobs ≡ s.jobs
      → On (call_row T i t u c)
  unfolding call_row
  call-fate u before (OpenSession dst name) t other so equal jobs = unless-keeps On (open_tests T i t u dst name) _ _ (λ code. same t equal)
      (option-keeps On (λ (y : Service). ask_made T i u dst (ServTarget y.key) t) (service_named T name) (answer NoService t)
      (λ y there. ask-fate u dst (ServTarget y.key) t equal) (same t equal))
  call-fate u before (AskOffer dst session index) t other so equal jobs =
      unless-keeps On (offer_tests T i t u dst session) _ _ (λ code. same t equal)
      (option-keeps On (λ (q : KeyName). ask_made T i u dst (OfferTarget q index) t) _ (answer BadKind t)
      (λ q there. ask-fate u dst (OfferTarget q index) t equal)
      (same t equal))
  call-fate u before (Delegate src w dst) t other so equal jobs = unless-keeps On (delegate_tests T i t u src w) _ _ (λ code. same t equal)
      (held-fate (own t u src) _ t equal (λ p. offer-fate u w dst p t equal))
  call-fate u before (Revoke src) t other so equal jobs =
      held-fate (own t u src) _ t equal (λ c. revoked-fate v ep k T i s is unkept u c.key c.mark t equal jobs)
  call-fate u before (Bind e src) t other so equal jobs =
      unless-keeps On (bind_tests t u src) _ _ (λ code. same t equal) (held-fate (own t u src) _ t equal (λ c.
      let b : Option Endpoint = Some (record { key = c.key; object = c.object; ring = [] }) in
      let row-same = get_or-put_other [] t.endpoints u v (put None (get_or t.endpoints u []) e b) (λ here. other (sym here)) in
      inl (record { bound = is.bound; at = ap (λ es. get_or es ep None) (row-same ∙ ap (λ rows. get_or rows v []) equal) ∙ is.at; key = is.key })))
  call-fate u before (ReadCall e off len) t other so equal jobs = unless-keeps On (memory_tests 1 off len (endpoint t u e)) _ _ (λ code. same t equal)
      (same t equal)
  call-fate u before (WriteCall e off len) t other so equal jobs = unless-keeps On (memory_tests 2 off len (endpoint t u e)) _ _ (λ code. same t equal)
      (same t equal)
  call-fate u before (Derive src dst off len rights) t other so equal jobs = absurd so
  call-fate u before (Gate src dst label credits) t other so equal jobs = absurd so
  call-fate u before (Obtain dst w src) t other so equal jobs = absurd so
  call-fate u before (SendCall e len) t other so equal jobs = absurd so
  call-fate u before (Credit e) t other so equal jobs = absurd so
  call-fate u before Exit t other so equal jobs = absurd so
  call-fate u before (Clear src) t other so equal jobs = absurd so

  -- Upcalls.
  given-fate : (q p : KeyName) (object : Object) (state : Option Parked) (t : Side) → t.endpoints ≡ s.endpoints → F (given_here q p object state t)
  given-fate q p object (Some (ObtainWait number sel)) t equal = same _ equal
  given-fate q p object None t equal = same _ equal
  given-fate q p object (Some (ObtainReady key parent object' sel)) t equal = same _ equal
  given-fate q p object (Some ObtainCancelled) t equal = same _ equal
  given-fate q p object (Some (DelegateWait parent)) t equal = same _ equal
  given-fate q p object (Some (DelegateReady parent key)) t equal = same _ equal
  given-fate q p object (Some (RevokeWait j)) t equal = same _ equal
  given-fate q p object (Some (Ready code)) t equal = same _ equal

  decided-fate : (u : ℕ) (a : Ask) (t : Side) → t.endpoints ≡ s.endpoints → On (ask_decided T i u a t)
  decided-fate u a t equal = decided-by On (λ w y here'. here') (λ w y here'. here') (λ w y here'. here') T i u a t (record {
    nothing = same t equal;
    refused = λ code. ask_refused-fate code a t equal;
    given = λ place target p of.
        let q : KeyName = keyed place (given_kind target p) in
        let linking : Side = linked p.key q t in
        cond_both (kernel_of T place.vpe == i) _ _ F (λ _. given-fate q p.key (given target place.vpe p) (parked linking place.vpe) linking equal)
        (λ _. same _ equal);
    here = λ parent object q of. same _ equal;
    prepared = λ parent object q of. same _ equal;
  })

  upcall-fate : (u : ℕ) → On (upcall_row T i s u)
  unfolding upcall_row
  upcall-fate u = option-keeps On (λ (a : Ask). ask_decided T i u a (ask_taken u s)) (slice_get (row s u).asks 0) (unshown s)
      (λ a there. decided-fate u a (ask_taken u s) refl) (same s refl)

  -- Parked calls that go on.
  resume-fate : (u : ℕ) → On (resume_row T s u)
  unfolding resume_row
  resume-fate u = by (parked s u)
    where
      granted : (parent key : KeyName) (m : Option ℕ) → On (delegate_granted T parent key m (unparked u s))
      granted parent key None = same _ refl
      granted parent key (Some j) = same _ refl

      answered : (parent key : KeyName) (o : Option Capability) → On (delegate_resumed T parent key o (unparked u s))
      answered parent key None = same _ refl
      answered parent key (Some c) = granted parent key c.mark

      by : (p : Option Parked) → On (resumed T p (unparked u s))
      by None = same _ refl
      by (Some (ObtainWait number q)) = same _ refl
      by (Some (ObtainReady key parent object q)) = same _ refl
      by (Some ObtainCancelled) = same _ refl
      by (Some (DelegateWait parent)) = same _ refl
      by (Some (DelegateReady parent key)) = answered parent key (cap (unparked u s) parent)
      by (Some (RevokeWait j)) = same _ refl
      by (Some (Ready code)) = same _ refl

  -- Messages.
  abbrev emptied : Side
  emptied = with_inbox None s

  ready-fate : (parent key : KeyName) (object : Object) (state : Option Parked) → F (obtain_ready parent key object state emptied)
  ready-fate parent key object (Some (ObtainWait number q)) = same _ refl
  ready-fate parent key object None = same _ refl
  ready-fate parent key object (Some (ObtainReady key' parent' object' q)) = same _ refl
  ready-fate parent key object (Some ObtainCancelled) = same _ refl
  ready-fate parent key object (Some (DelegateWait parent')) = same _ refl
  ready-fate parent key object (Some (DelegateReady parent' key')) = same _ refl
  ready-fate parent key object (Some (RevokeWait j)) = same _ refl
  ready-fate parent key object (Some (Ready code)) = same _ refl

  acked-fate : (key : KeyName) (accepted : Bool) (p : Pending) → F (acknowledged T key accepted emptied p)
  acked-fate key true p = cond_both (is_alive emptied key.vpe) _ _ F (λ _. same _ refl) (λ _. same _ refl)
  acked-fate key false p = same _ refl

  handled-fate : (from : ℕ) (m : Message) → F (handled T i emptied from m)
  handled-fate from m = handled-by F T i emptied from m (record {
    same = same emptied refl;
    asked_obtain = λ place target of. same _ refl;
    dead_obtain = λ place target of. ask_refused-fate Dead (ObtainAsk place target) emptied refl;
    asked_delegate = λ parent object vpe q of. same _ refl;
    dead_delegate = λ parent object vpe q of. ask_refused-fate Dead (DelegateAsk parent object q) emptied refl;
    given = λ parent key object of. ready-fate parent key object (parked emptied key.vpe);
    orphaned = λ parent key object of. same _ refl;
    no_obtain = λ place code of. refused-fate code place.vpe emptied refl;
    prepared = λ parent key of. same _ refl;
    given_up = λ parent key of. same _ refl;
    no_delegate = λ parent code of. refused-fate code parent.vpe emptied refl;
    acked = λ key accepted p of there. acked-fate key accepted p;
    unlinks = λ parent key. same _ refl;
    requests = λ key j of. requested-fate v ep k T i s is unkept from j key (cap emptied key) emptied refl refl;
    dones = λ j of. done-fate v ep k T i s is unkept j emptied refl;
  })

  -- A step in which the VPE does not call.
  pub step-fate : (a : Act) (input : Option Message) →
      ((u : ℕ) (c : Call) → a ≡ Calls u → next_call T s u ≡ Some c → (before : List Call) × MayComeNext T u before c)
      → (a ≡ Calls v → ⊥) → ((u : ℕ) → a ≡ Kill u → ⊥) → On (local_step T i s a input)
  unfolding local_step
  step-fate (Calls u) input order silent living = elim (cases_eq u v) [
    | inl mine ↦ absurd (silent (ap Calls mine))
    | inr other ↦ option-keeps On (call_row T i (call_counted u s) u) (next_call T s u) (unshown s)
        (λ c there. let o = order u c refl there in call-fate u o.0 c (call_counted u s) other o.1 refl refl) (same s refl)
  ]
  step-fate (Upcall u) input order silent living = upcall-fate u
  step-fate (Resume u) input order silent living = resume-fate u
  step-fate Handle input order silent living = from s.inbox
    where
      from : (o : Option (ℕ × Message)) → On (unshown (option_map_or (λ m. handled T i (with_inbox None s) m.0 m.1) o s))
      from None = same s refl
      from (Some m) = handled-fate m.0 m.1
  step-fate (Fetch j) input order silent living = same _ refl
  step-fate (Flush j) input order silent living = same _ refl
  step-fate (Kill u) input order silent living = absurd (living u refl)
