-- The rows leave the parked call of a VPE as it is, where nothing of it is about.
use Rattle.std.proofs.Common.{◌≡◌, ℕ, ◌≤◌, Bool, true, false, Option, Some, None, slice_get, refl, sym, ap, ◌∙◌, arith, eq-eqb}
use Rattle.std.specs.Prelude.{◌==◌}
use Rattle.std.specs.List.{Contains}
use Rattle.std.proofs.lemmas.Bool.{cond_both, cond-true}
use Rattle.std.proofs.lemmas.Option.{slice_get_within, get_or_from_slice_get}
use Rattle.sem_key.specs.declared.object.Object.{Object}
use Rattle.sem_key.specs.KeyName.{KeyName}
use Rattle.sem_key.specs.PlaceName.{PlaceName, keyed}
use Rattle.sem_key.specs.Capability.{Capability}
use Rattle.sem_key.specs.ObjectRanges.{object_kind}
use Rattle.sem_msg.specs.declared.call.Call.{Call}
use Rattle.sem_msg.specs.declared.code.Code.TheVariants.{Ok as OkCode, Dead}
use Rattle.sem_msg.specs.Codes.{code_number}
use Rattle.sem_msg.specs.declared.message.Message.{Message}
use Rattle.sem_msg.specs.declared.message.Message.TheVariants.{ObtainReq, ObtainOk, ObtainNo, DelegateReq, DelegatePrepared, DelegateNo, Ack, Orphan, RevokeReq}
use Rattle.sem_msg.specs.declared.state.Ask.{Ask}
use Rattle.sem_msg.specs.declared.state.Ask.TheVariants.{Obtain as ObtainAsk, Delegate as DelegateAsk}
use Rattle.sem_msg.specs.declared.state.Parked.{Parked}
use Rattle.sem_msg.specs.declared.state.Parked.TheVariants.{ObtainWait, ObtainReady, ObtainCancelled, DelegateWait, DelegateReady, RevokeWait, Ready}
use Rattle.sem_msg.specs.declared.state.Pending.{Pending}
use Rattle.sem_msg.specs.declared.state.Slot.TheVariants.{Free, Promised}
use Rattle.sem_msg.specs.Setup.{Setup}
use Rattle.sem_msg.specs.Lookups.{owner_of, place_owner, kernel_of}
use Rattle.sem_msg.specs.ParkedStates.{is_ready_with}
use Rattle.sem_machine.specs.Sides.{Side, row, cap, own, parked, is_alive, parked_as, unparked, ask_taken, drawn, promised, installed, linked, unlinked}
use Rattle.sem_machine.specs.Sides.{pending_added, pending_removed}
use Rattle.sem_machine.specs.Steps.{Step, unshown}
use Rattle.sem_machine.specs.Asks.{target_vpe, asker}
use Rattle.sem_machine.specs.Calls.{next_key, next_place, call_row}
use Rattle.sem_machine.specs.Upcalls.{given, given_kind, given_here, ask_decided, upcall_row}
use Rattle.sem_machine.specs.Handles.{obtain_ready, acknowledged, handled}
use Rattle.sem_machine.specs.Resumes.{delegate_granted, delegate_resumed, resumed, resume_row}
use Rattle.sem_machine.proofs.Folds.{option-keeps}
use Rattle.sem_safety.proofs.AskWeights.{here, of_message}
use Rattle.sem_safety.proofs.Skeleton.{call_row-by, decided-by, handled-by}
use Rattle.sem_revoke.proofs.Quiet.{Quiet, quiet-send, quiet-caps, quiet-park, quiet-slot, quiet-drawn, quiet-asked, quiet-taken, quiet-installed, quiet-added}
use Rattle.sem_revoke.proofs.Quiet.{quiet-removed, quiet-ready, quiet-ask_refused, quiet-refused, quiet-ended, quiet-revoked, quiet-cleared, quiet-requested}
use Rattle.sem_revoke.proofs.Quiet.{quiet-done}

module _ (v : ℕ) (k0 : KeyName) (Touched : Type 0) (q : Option Parked) (d : Option Pending) where
  abbrev Q : Side → Type 0
  Q t = Quiet v k0 Touched q d t

  -- A call of another VPE.
  pub quiet-call : (T : Setup) (i u : ℕ) (c : Call) (s : Side) → (u ≡ v → ⊥) → ((src : ℕ) (p : Capability) → own s u src ≡ Some p → p.key.vpe ≡ u) → Q s →
      Q (call_row T i s u c).side
  quiet-call T i u c s other owns is = call_row-by (λ (x : Step). Q x.side) T i u s (record {
    answered = λ code. is;
    child = λ src dst object p held.
        let k : KeyName = next_key T s u (object_kind object) in
        let one : Q (linked p.key k (drawn u s)) = quiet-caps v k0 Touched q d (linked p.key k (drawn u s)).caps (drawn u s)
        (quiet-drawn v k0 Touched q d s is u) in
        quiet-installed v k0 Touched q d (linked p.key k (drawn u s)) one k (Some p.key) dst object;
    ask = λ dst target.
        let place : PlaceName = next_place T s u in
        let w : ℕ = target_vpe target in
        let promising : Side = promised u dst (drawn u s) in
        let waiting : Side = parked_as u (ObtainWait place.number dst) promising in
        let waits' : Q waiting =
        quiet-park v k0 Touched q d promising (quiet-slot v k0 Touched q d (drawn u s) (quiet-drawn v k0 Touched q d s is u) u dst Promised) u
        (Some (ObtainWait place.number dst)) (λ same. absurd (other same)) in
        cond_both (kernel_of T w == i) _ _ Q (λ _. quiet-asked v k0 Touched q d waiting waits' w (ObtainAsk place target) (λ same. absurd (other same)))
        (λ _. quiet-send v k0 Touched q d (kernel_of T w) (ObtainReq place target) waiting waits');
    offer = λ src w dst p held.
        let waiting : Side = parked_as u (DelegateWait p.key) s in
        let waits' : Q waiting = quiet-park v k0 Touched q d s is u (Some (DelegateWait p.key)) (λ same. absurd (other same)) in
        cond_both (kernel_of T w == i) _ _ Q (λ _. quiet-asked v k0 Touched q d waiting waits' w (DelegateAsk p.key p.object dst)
        (λ same. absurd (other (sym (owns src p held) ∙ same))))
        (λ _. quiet-send v k0 Touched q d (kernel_of T w) (DelegateReq p.key p.object w dst) waiting waits');
    revoke = λ src c held. quiet-revoked v k0 Touched q d T i u c.key c.mark s other is;
    clear = λ src c held unmarked. quiet-cleared v k0 Touched q d T i u c.key s other is;
    bound = λ ep src c held. record { park = is.park; life = is.life; waiters = is.waiters; asks = is.asks; pend = is.pend };
    rung = λ ep f. record { park = is.park; life = is.life; waiters = is.waiters; asks = is.asks; pend = is.pend };
    ends = quiet-ended v k0 Touched q d T i u s (λ same. absurd (other same)) is;
  }) c

  -- An upcall.
  given-quiet : (k p : KeyName) (object : Object) (state : Option Parked) (s : Side) → (k.vpe ≡ v → Touched) → Q s → Q (given_here k p object state s)
  given-quiet k p object (Some (ObtainWait number sel)) s touched is =
      quiet-ready v k0 Touched q d (installed k (Some p) sel object s) (quiet-installed v k0 Touched q d s is k (Some p) sel object)
      (code_number OkCode) k.vpe touched
  given-quiet k p object None s touched is = is
  given-quiet k p object (Some (ObtainReady key parent object' sel)) s touched is = is
  given-quiet k p object (Some ObtainCancelled) s touched is = is
  given-quiet k p object (Some (DelegateWait parent)) s touched is = is
  given-quiet k p object (Some (DelegateReady parent key)) s touched is = is
  given-quiet k p object (Some (RevokeWait j)) s touched is = is
  given-quiet k p object (Some (Ready code)) s touched is = is

  quiet-decided : (T : Setup) (i u : ℕ) (a : Ask) (s : Side) → (asker a ≡ v → Touched) → Q s → Q (ask_decided T i u a s).side
  quiet-decided T i u a s touched is = decided-by (λ (x : Step). Q x.side) (λ w x here'. here') (λ w x here'. here') (λ w x here'. here') T i u a s (record {
    nothing = is;
    refused = λ code. quiet-ask_refused v k0 Touched q d T i code a s touched is;
    given = λ place target p of.
        let k : KeyName = keyed place (given_kind target p) in
        let linking : Side = linked p.key k s in
        let one : Q linking = quiet-caps v k0 Touched q d linking.caps s is in
        cond_both (kernel_of T place.vpe == i) _ _ Q (λ _. given-quiet k p.key (given target place.vpe p) (parked linking place.vpe) linking
        (λ same. touched (ap asker of ∙ same)) one)
        (λ _. quiet-send v k0 Touched q d (place_owner T place) (ObtainOk p.key k (given target place.vpe p)) linking one);
    here = λ parent object sel of.
        let k : KeyName = next_key T s u parent.kind in
        let linking : Side = linked parent k (drawn u s) in
        let one : Q linking = quiet-caps v k0 Touched q d linking.caps (drawn u s) (quiet-drawn v k0 Touched q d s is u) in
        quiet-ready v k0 Touched q d (installed k (Some parent) sel object linking) (quiet-installed v k0 Touched q d linking one k (Some parent) sel object)
        (code_number OkCode) parent.vpe (λ same. touched (ap asker of ∙ same));
    prepared = λ parent object sel of.
        let k : KeyName = next_key T s u parent.kind in
        let p : Pending = record { key = k; parent = parent; object = object; sel = sel } in
        let promising : Side = promised u sel (drawn u s) in
        quiet-send v k0 Touched q d (owner_of T parent) (DelegatePrepared parent k) (pending_added p promising)
        (quiet-added v k0 Touched q d promising (quiet-slot v k0 Touched q d (drawn u s) (quiet-drawn v k0 Touched q d s is u) u sel Promised) p);
  })

  ask-among : (u : ℕ) (a : Ask) (s : Side) → slice_get (row s u).asks 0 ≡ Some a → Contains (row s u).asks a
  ask-among u a s there = (0, slice_get_within (row s u).asks 0 a there, get_or_from_slice_get (row s u).asks 0 a a there)

  pub quiet-upcall : (T : Setup) (i u : ℕ) (s : Side) → Q s → Q (upcall_row T i s u).side
  unfolding upcall_row
  quiet-upcall T i u s is = option-keeps (λ (x : Step). Q x.side) (λ (a : Ask). ask_decided T i u a (ask_taken u s)) (slice_get (row s u).asks 0) (unshown s)
      (λ a there. quiet-decided T i u a (ask_taken u s) (is.asks u a (ask-among u a s there)) (quiet-taken v k0 Touched q d s is u)) is

  -- A parked call of another VPE that goes on.
  pub quiet-resume : (T : Setup) (u : ℕ) (s : Side) → (u ≡ v → Touched) → Q s → Q (resume_row T s u).side
  unfolding resume_row
  quiet-resume T u s touched is = by (parked s u)
    where
      t : Side
      t = unparked u s

      gone : Q (unparked u s)
      gone = quiet-park v k0 Touched q d s is u None (λ same. (refl, touched same))

      granted : (parent key : KeyName) (m : Option ℕ) → Q (delegate_granted T parent key m (unparked u s)).side
      granted parent key None = quiet-send v k0 Touched q d (owner_of T key) (Ack key true) (linked parent key (unparked u s))
          (quiet-caps v k0 Touched q d (linked parent key (unparked u s)).caps (unparked u s) gone)
      granted parent key (Some j) = quiet-send v k0 Touched q d (owner_of T key) (Ack key false) (unparked u s) gone

      answered : (parent key : KeyName) (o : Option Capability) → Q (delegate_resumed T parent key o (unparked u s)).side
      answered parent key None = quiet-send v k0 Touched q d (owner_of T key) (Ack key false) (unparked u s) gone
      answered parent key (Some c) = granted parent key c.mark

      by : (p : Option Parked) → Q (resumed T p (unparked u s)).side
      by None = gone
      by (Some (ObtainWait number sel)) = gone
      by (Some (ObtainReady key parent object sel)) = quiet-installed v k0 Touched q d (unparked u s) gone key (Some parent) sel object
      by (Some ObtainCancelled) = gone
      by (Some (DelegateWait parent)) = gone
      by (Some (DelegateReady parent key)) = answered parent key (cap (unparked u s) parent)
      by (Some (RevokeWait j)) = gone
      by (Some (Ready code)) = gone

  -- A message.
  ready-quiet : (parent key : KeyName) (object : Object) (state : Option Parked) (s : Side) → (key.vpe ≡ v → Touched) → Q s →
      Q (obtain_ready parent key object state s)
  ready-quiet parent key object (Some (ObtainWait number sel)) s touched is =
      quiet-park v k0 Touched q d s is key.vpe (Some (ObtainReady key parent object sel)) (λ same. (refl, touched same))
  ready-quiet parent key object None s touched is = is
  ready-quiet parent key object (Some (ObtainReady key' parent' object' sel)) s touched is = is
  ready-quiet parent key object (Some ObtainCancelled) s touched is = is
  ready-quiet parent key object (Some (DelegateWait parent')) s touched is = is
  ready-quiet parent key object (Some (DelegateReady parent' key')) s touched is = is
  ready-quiet parent key object (Some (RevokeWait j)) s touched is = is
  ready-quiet parent key object (Some (Ready code)) s touched is = is

  one-here : (w : ℕ) → w ≡ v → here v w ≡ 1
  one-here w same = cond-true (w == v) 1 0 (eq-eqb w v same)

  acked-quiet : (T : Setup) (key : KeyName) (accepted : Bool) (s : Side) (p : Pending) → (key ≡ k0 → (x : Pending) → d ≡ Some x → ⊥) → Q s →
      Q (acknowledged T key accepted s p)
  acked-quiet T key true s p other is =
      let out : Q (pending_removed key s) = quiet-removed v k0 Touched q d s is key other in
      cond_both (is_alive s key.vpe) _ _ Q (λ _. quiet-installed v k0 Touched q d (pending_removed key s) out key (Some p.parent) p.sel p.object)
      (λ _. quiet-send v k0 Touched q d (owner_of T p.parent) (Orphan p.parent key) (pending_removed key s) out)
  acked-quiet T key false s p other is = quiet-slot v k0 Touched q d (pending_removed key s) (quiet-removed v k0 Touched q d s is key other) key.vpe p.sel Free

  -- one of no token of the VPE, no acknowledgement of the key, and no request that cancels
  pub quiet-handled : (T : Setup) (i : ℕ) (s : Side) (from : ℕ) (m : Message) → (1 ≤ of_message v m → Touched) →
      ((accepted : Bool) → m ≡ Ack k0 accepted → (x : Pending) → d ≡ Some x → ⊥)
      → ((k : KeyName) (j : ℕ) → m ≡ RevokeReq k j → is_ready_with k (parked s k.vpe) ≡ true → k.vpe ≡ v → Touched) → Q s → Q (handled T i s from m)
  quiet-handled T i s from m touched settles cancels is = handled-by Q T i s from m (record {
    same = is;
    asked_obtain = λ place target of. quiet-asked v k0 Touched q d s is (target_vpe target) (ObtainAsk place target)
        (λ same. touches (ObtainReq place target) of (one-here place.vpe same));
    dead_obtain = λ place target of. quiet-ask_refused v k0 Touched q d T i Dead (ObtainAsk place target) s
        (λ same. touches (ObtainReq place target) of (one-here place.vpe same)) is;
    asked_delegate = λ parent object vpe sel of. quiet-asked v k0 Touched q d s is vpe (DelegateAsk parent object sel)
        (λ same. touches (DelegateReq parent object vpe sel) of (one-here parent.vpe same));
    dead_delegate = λ parent object vpe sel of. quiet-ask_refused v k0 Touched q d T i Dead (DelegateAsk parent object sel) s
        (λ same. touches (DelegateReq parent object vpe sel) of (one-here parent.vpe same)) is;
    given = λ parent key object of. ready-quiet parent key object (parked s key.vpe) s (λ same. touches (ObtainOk parent key object) of (one-here key.vpe same))
        is;
    orphaned = λ parent key object of. quiet-send v k0 Touched q d (owner_of T parent) (Orphan parent key) s is;
    no_obtain = λ place code of. quiet-refused v k0 Touched q d code place.vpe s (λ same. touches (ObtainNo place code) of (one-here place.vpe same)) is;
    prepared = λ parent key of. quiet-park v k0 Touched q d s is parent.vpe (Some (DelegateReady parent key))
        (λ same. (refl, touches (DelegatePrepared parent key) of (one-here parent.vpe same)));
    given_up = λ parent key of. quiet-send v k0 Touched q d (owner_of T key) (Ack key false) s is;
    no_delegate = λ parent code of. quiet-refused v k0 Touched q d code parent.vpe s (λ same. touches (DelegateNo parent code) of (one-here parent.vpe same))
        is;
    acked = λ key accepted p of there. acked-quiet T key accepted s p (λ same. settles accepted (of ∙ ap (λ z. Ack z accepted) same)) is;
    unlinks = λ parent key. quiet-caps v k0 Touched q d (unlinked parent key s).caps s is;
    requests = λ key j of. quiet-requested v k0 Touched q d T i from j key (cap s key) s (cancels key j of) is;
    dones = λ j of. quiet-done v k0 Touched q d T i j s is;
  })
    where
      touches : (m' : Message) → m ≡ m' → of_message v m' ≡ 1 → Touched
      touches m' of one = let same : of_message v m ≡ of_message v m' = ap (of_message v) of in touched (omega (arith, same, one))
