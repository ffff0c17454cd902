-- What a dead VPE holds stays marked: no row of its kernel gives it anything, or takes a mark of it away.
use Rattle.sem_key.specs.KeyList.{with_key}
use Rattle.sem_key.specs.KeyName.{key_lt, KeyName, key_eq}
use Rattle.std.proofs.Common.{◌≡◌, ℕ, Bool, true, false, not, List, [], ◌∷◌, Option, Some, None, is_some, slice_get, filter, refl, sym, ap, ◌∙◌, inl, inr}
use Rattle.std.specs.Prelude.{◌==◌, if◌then◌else◌}
use Rattle.std.proofs.lemmas.Bool.{cond_both, true≢false}
use Rattle.std.proofs.lemmas.List.Elements.{Contains-append_cases}
use Rattle.sem_key.specs.ObjectRanges.{object_kind}
use Rattle.sem_key.specs.declared.object.Object.{Object}
use Rattle.sem_key.specs.PlaceName.{PlaceName, keyed}
use Rattle.sem_key.specs.Lists.{in_turn}
use Rattle.sem_key.specs.Capability.{Capability}
use Rattle.sem_key.specs.CapList.{fresh}
use Rattle.sem_key.proofs.Members.{Contains-nil, Contains-cons_cases, Contains-from_filter, Contains-from_map}
use Rattle.sem_msg.specs.declared.call.Call.{Call}
use Rattle.sem_msg.specs.declared.code.Code.{Code}
use Rattle.sem_msg.specs.declared.code.Code.TheVariants.{Dead}
use Rattle.sem_msg.specs.declared.message.Message.{Message}
use Rattle.sem_msg.specs.declared.state.Ask.{Ask}
use Rattle.sem_msg.specs.declared.state.Ask.TheVariants.{Obtain as ObtainAsk, Delegate as DelegateAsk}
use Rattle.sem_msg.specs.declared.state.Parked.{Parked}
use Rattle.sem_msg.specs.declared.state.Parked.TheVariants.{ObtainWait, ObtainReady, ObtainCancelled, DelegateWait, DelegateReady, RevokeWait, Ready}
use Rattle.sem_msg.specs.declared.state.Pending.{Pending}
use Rattle.sem_msg.specs.Rows.{JobRow}
use Rattle.sem_msg.specs.Setup.{Setup}
use Rattle.sem_msg.specs.Lookups.{kernel_of}
use Rattle.sem_machine.specs.Sides.{Side, row, cap, own, parked, is_alive, drawn, unparked, buried, ask_taken, linked, installed, job_opened, pending_removed}
use Rattle.sem_machine.specs.Steps.{Step, unshown}
use Rattle.sem_machine.specs.Asks.{target_vpe, asker, is_unawaited, refusal_sent, ask_refused}
use Rattle.sem_machine.specs.Calls.{next_key, call_row}
use Rattle.sem_machine.specs.Upcalls.{given, given_kind, given_here, ask_decided, upcall_row}
use Rattle.sem_machine.specs.Handles.{acknowledged, handled}
use Rattle.sem_machine.specs.Resumes.{delegate_granted, delegate_resumed, resumed, resume_row}
use Rattle.sem_machine.specs.Ends.{ask_ended, call_ended, keys_of_vpe, revoked_if_left, ended}
use Rattle.sem_machine.proofs.Folds.{in_turn-keeps, option-keeps}
use Rattle.sem_safety.proofs.Skeleton.{decided-by, call_row-by, handled-by}
use Rattle.sem_revoke.proofs.DeadCaps.{Unkept, Buried, buried-steady}
use Rattle.sem_revoke.proofs.Steady.{unlinked-steady, rest-steady, revoked-steady, cleared-steady, requested-steady, done-steady, left_job-steady}
use Rattle.sem_revoke.proofs.Steady.{promise_freed-steady, obtain_ready-steady}

module _ (k : KeyName) (T : Setup) (i : ℕ) where
  abbrev B : Side → Type 0
  B t = Buried k t

  -- another key is installed
  installed-buried : (t : Side) (q : KeyName) (parent : Option KeyName) (sel : ℕ) (object : Object) → (q ≡ k → ⊥) → B t → B (installed q parent sel object t)
  installed-buried t q parent sel object other is = (
    (λ c among same. elim (Contains-append_cases (filter (λ x. key_lt x.key q) t.caps) (fresh q parent sel object ∷ filter (λ x. not (key_lt x.key q)) t.caps) c
        among) [
          | inl before ↦ is.0 c (Contains-from_filter (λ (x : Capability). key_lt x.key q) t.caps c before).0 same
          | inr rest ↦ elim (Contains-cons_cases (fresh q parent sel object) (filter (λ x. not (key_lt x.key q)) t.caps) c rest) [
            | inl new ↦ absurd (other (ap (λ (y : Capability). y.key) new ∙ same))
            | inr after ↦ is.0 c (Contains-from_filter (λ (x : Capability). not (key_lt x.key q)) t.caps c after).0 same
          ]
        ]),
    is.1,
  )

  linked-buried : (t : Side) (p q : KeyName) → B t → B (linked p q t)
  linked-buried t p q is = (
    (λ c among same.
        let f : Capability → Capability = λ d. record d { children = with_key d.children q } in
        let d = Contains-from_map (λ (y : Capability). if key_eq y.key p then f y else y) t.caps c among in
        let kept : ((if key_eq d.0.key p then f d.0 else d.0).key ≡ d.0.key) × ((if key_eq d.0.key p then f d.0 else d.0).mark ≡ d.0.mark) =
        cond_both (key_eq d.0.key p) (f d.0) d.0 (λ (y : Capability). (y.key ≡ d.0.key) × (y.mark ≡ d.0.mark)) (λ _. (refl, refl)) (λ _. (refl, refl)) in
        ap (λ (o : Option ℕ). is_some o) (sym (ap (λ (y : Capability). y.mark) d.2) ∙ kept.1)
        ∙ is.0 d.0 d.1 (sym kept.0 ∙ (ap (λ (y : Capability). y.key) d.2 ∙ same))),
    is.1,
  )

  refused-buried : (code : Code) (a : Ask) (t : Side) → B t → B (ask_refused T i code a t)
  refused-buried code a t is = cond_both (kernel_of T (asker a) == i) _ _ B
      (λ _. promise_freed-steady B (buried-steady k) t is (parked t (asker a)) (asker a)) (λ _. sends a)
    where
      sends : (b : Ask) → B (refusal_sent T code b t)
      sends (ObtainAsk place target) = is
      sends (DelegateAsk parent object sel) = is

  pub other-ended : (w : ℕ) (s : Side) → B s → B (ended T i w s)
  unfolding ended
  other-ended w s is =
      let asks : List Ask = (row s w).asks in
      let answered : Side = in_turn (ask_ended T i) asks (buried w s) in
      let told : B answered =
      in_turn-keeps B (ask_ended T i) (λ a t here. cond_both (is_unawaited T i t a) t (ask_refused T i Dead a t) B (λ _. here)
      (λ _. refused-buried Dead a t here)) asks (buried w s) is in
      let last : Side = call_ended T (parked answered w) w (unparked w answered) in
      in_turn-keeps B (revoked_if_left T i) (λ q t here. rest-steady B (buried-steady k) T i q t here) (keys_of_vpe last w) last
      (owes (parked answered w) (unparked w answered) told)
    where
      owes : (p : Option Parked) (t : Side) → B t → B (call_ended T p w t)
      owes None t here = here
      owes (Some (ObtainWait number sel)) t here = here
      owes (Some (ObtainReady key parent object sel)) t here = here
      owes (Some ObtainCancelled) t here = here
      owes (Some (DelegateWait parent)) t here = here
      owes (Some (DelegateReady parent key)) t here = here
      owes (Some (RevokeWait j)) t here = left_job-steady B (buried-steady k) j w t here
      owes (Some (Ready code)) t here = here

  abbrev other-vpe : KeyName → Type 0
  other-vpe q = q.vpe ≡ k.vpe → ⊥

  apart : (q : KeyName) → (q.vpe ≡ k.vpe → ⊥) → q ≡ k → ⊥
  apart q other same = other (ap (λ (x : KeyName). x.vpe) same)

  -- Calls of another VPE.
  pub call-buried : (w : ℕ) → (w ≡ k.vpe → ⊥) → (s : Side) → ((src : ℕ) (c : Capability) → own s w src ≡ Some c → c.key.vpe ≡ w) → B s → (c : Call) →
      B (call_row T i s w c).side
  call-buried w other s owns is c = call_row-by (λ (y : Step). B y.side) T i w s (record {
    answered = λ code. is;
    child = λ src dst object p held. let q : KeyName = next_key T s w (object_kind object) in
        installed-buried (linked p.key q (drawn w s)) q (Some p.key) dst object (apart q other) (linked-buried (drawn w s) p.key q is);
    ask = λ dst target. cond_both (kernel_of T (target_vpe target) == i) _ _ B (λ _. is) (λ _. is);
    offer = λ src u dst p held. cond_both (kernel_of T u == i) _ _ B (λ _. is) (λ _. is);
    revoke = λ src c held. revoked-steady B (buried-steady k) T i w c.key c.mark s (λ j. is);
    clear = λ src c held unmarked. cleared-steady B (buried-steady k) T i w c.key s (
      is.0,
      opens c.key (apart c.key (λ same. other (sym (owns src c held) ∙ same))),
    );
    bound = λ ep src c held. is;
    rung = λ ep f. is;
    ends = other-ended w s is;
  }) c
    where
      opens : (root : KeyName) → (root ≡ k → ⊥) → Unkept k (job_opened root None (w ∷ []) true s)
      opens root apart' y among keeps same =
          elim (Contains-append_cases s.jobs (record { id = s.next_job; root = root; up = None; waiters = w ∷ []; count = 0; keep = true } ∷ []) y among) [
            | inl old ↦ is.1 y old keeps same
            | inr new ↦ elim (Contains-cons_cases (record { id = s.next_job; root = root; up = None; waiters = w ∷ []; count = 0; keep = true }) [] y new) [
              | inl now ↦ apart' (ap (λ (z : JobRow). z.root) now ∙ same)
              | inr none ↦ absurd (Contains-nil y none)
            ]
          ]

  -- Upcalls: who is asked, and who waits for what it asked for, is another VPE.
  pub upcall-buried : (w : ℕ) → (w ≡ k.vpe → ⊥) → (s : Side) → ((u : ℕ) (p : Parked) → parked s u ≡ Some p → u ≡ k.vpe → ⊥) → B s → B (upcall_row T i s w).side
  unfolding upcall_row
  upcall-buried w other s waits is = option-keeps (λ (y : Step). B y.side) (λ (a : Ask). ask_decided T i w a (ask_taken w s)) (slice_get (row s w).asks 0)
      (unshown s) (λ a there. decided a) is
    where
      t : Side
      t = ask_taken w s

      gives : (place : PlaceName) (p : KeyName) (q : KeyName) (object : Object) → q.vpe ≡ place.vpe → (o : Option Parked) → parked s place.vpe ≡ o →
          B (given_here q p object o (linked p q t))
      gives place p q object of None at = linked-buried t p q is
      gives place p q object of (Some (ObtainWait number sel)) at =
          installed-buried (linked p q t) q (Some p) sel object (apart q (λ same. waits place.vpe (ObtainWait number sel) at (sym of ∙ same)))
          (linked-buried t p q is)
      gives place p q object of (Some (ObtainReady key parent object' sel)) at = linked-buried t p q is
      gives place p q object of (Some ObtainCancelled) at = linked-buried t p q is
      gives place p q object of (Some (DelegateWait parent)) at = linked-buried t p q is
      gives place p q object of (Some (DelegateReady parent key)) at = linked-buried t p q is
      gives place p q object of (Some (RevokeWait j)) at = linked-buried t p q is
      gives place p q object of (Some (Ready code)) at = linked-buried t p q is

      decided : (a : Ask) → B (ask_decided T i w a (ask_taken w s)).side
      decided a = decided-by (λ (y : Step). B y.side) (λ m x here. here) (λ m x here. here) (λ m x here. here) T i w a t (record {
        nothing = is;
        refused = λ code. refused-buried code a t is;
        given = λ place target p of.
            let q : KeyName = keyed place (given_kind target p) in
            let object : Object = given target place.vpe p in
            cond_both (kernel_of T place.vpe == i) (given_here q p.key object (parked (linked p.key q t) place.vpe) (linked p.key q t)) _ B
            (λ _. gives place p.key q object refl (parked s place.vpe) refl) (λ _. linked-buried t p.key q is);
        here = λ parent object sel of. let q : KeyName = next_key T t w parent.kind in
            installed-buried (linked parent q (drawn w t)) q (Some parent) sel object (apart q other) (linked-buried (drawn w t) parent q is);
        prepared = λ parent object sel of. is;
      })

  -- Parked calls of another VPE that go on.
  pub resume-buried : (w : ℕ) → (w ≡ k.vpe → ⊥) → (s : Side) →
      ((key parent : KeyName) (object : Object) (sel : ℕ) → parked s w ≡ Some (ObtainReady key parent object sel) → key.vpe ≡ w) → B s →
      B (resume_row T s w).side
  unfolding resume_row
  resume-buried w other s owns is = by (parked s w) refl
    where
      granted : (parent key : KeyName) (m : Option ℕ) → B (delegate_granted T parent key m (unparked w s)).side
      granted parent key None = linked-buried (unparked w s) parent key is
      granted parent key (Some j) = is

      answered : (parent key : KeyName) (o : Option Capability) → B (delegate_resumed T parent key o (unparked w s)).side
      answered parent key None = is
      answered parent key (Some c) = granted parent key c.mark

      by : (p : Option Parked) → parked s w ≡ p → B (resumed T p (unparked w s)).side
      by None at = is
      by (Some (ObtainWait number sel)) at = is
      by (Some (ObtainReady key parent object sel)) at =
          installed-buried (unparked w s) key (Some parent) sel object (apart key (λ same. other (sym (owns key parent object sel at) ∙ same))) is
      by (Some ObtainCancelled) at = is
      by (Some (DelegateWait parent)) at = is
      by (Some (DelegateReady parent key)) at = answered parent key (cap (unparked w s) parent)
      by (Some (RevokeWait j)) at = is
      by (Some (Ready code)) at = is

  -- Messages.
  pub handled-buried : (s : Side) → is_alive s k.vpe ≡ false → (from : ℕ) (m : Message) → B s → B (handled T i s from m)
  handled-buried s dead from m is = handled-by B T i s from m (record {
    same = is;
    asked_obtain = λ place target of. is;
    dead_obtain = λ place target of. refused-buried Dead (ObtainAsk place target) s is;
    asked_delegate = λ parent object vpe sel of. is;
    dead_delegate = λ parent object vpe sel of. refused-buried Dead (DelegateAsk parent object sel) s is;
    given = λ parent key object of. obtain_ready-steady B (buried-steady k) parent key object s is (λ sel. is) (parked s key.vpe);
    orphaned = λ parent key object of. is;
    no_obtain = λ place code of. promise_freed-steady B (buried-steady k) s is (parked s place.vpe) place.vpe;
    prepared = λ parent key of. is;
    given_up = λ parent key of. is;
    no_delegate = λ parent code of. promise_freed-steady B (buried-steady k) s is (parked s parent.vpe) parent.vpe;
    acked = λ key accepted p of there. acks key accepted p;
    unlinks = λ parent key. unlinked-steady B (buried-steady k) parent key s is;
    requests = λ key j of. requested-steady B (buried-steady k) T i from j key (cap s key) s (λ u ready' same here. here) is;
    dones = λ j of. done-steady B (buried-steady k) T i j s is;
  })
    where
      acks : (key : KeyName) (accepted : Bool) (p : Pending) → B (acknowledged T key accepted s p)
      acks key true p =
          cond_both (is_alive s key.vpe) _ _ B (λ lives. installed-buried (pending_removed key s) key (Some p.parent) p.sel p.object
          (λ same. true≢false (sym lives ∙ (ap (λ (q : KeyName). is_alive s q.vpe) same ∙ dead))) is) (λ _. is)
      acks key false p = is
