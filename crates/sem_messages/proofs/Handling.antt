-- Parked calls that go on, and the handling of messages, keep the sum.
use Rattle.std.proofs.Common.{◌≡◌, ◌≢◌, ℕ, ◌+◌, ◌<◌, ◌≤◌, ◌||◌, Bool, true, false, length, not, filter}
use Rattle.std.proofs.Common.{Option, Some, None, is_none, refl, sym, ap, ◌∙◌, arith, subst}
use Rattle.std.specs.Prelude.{◌==◌, if◌then◌else◌}
use Rattle.std.specs.Option.{option_map_or}
use Rattle.std.specs.List.{sum_by}
use Rattle.std.proofs.lemmas.Bool.{cond_both, true≢false}
use Rattle.sem_key.specs.declared.object.Object.{Object}
use Rattle.sem_key.specs.KeyName.{KeyName, key_eq}
use Rattle.sem_key.specs.Capability.{Capability}
use Rattle.sem_msg.specs.declared.code.Code.TheVariants.{Dead}
use Rattle.sem_msg.specs.declared.limits.TheConstants.{ASKS}
use Rattle.sem_msg.specs.declared.message.Message.{Message}
use Rattle.sem_msg.specs.declared.message.Message.TheVariants.{ObtainReq, ObtainOk, ObtainNo, DelegateReq}
use Rattle.sem_msg.specs.declared.message.Message.TheVariants.{DelegatePrepared, DelegateNo, Ack, Orphan, RevokeReq}
use Rattle.sem_msg.specs.declared.message.Message.TheVariants.{RevokeDone, Unlink}
use Rattle.sem_msg.specs.declared.state.Ask.{Ask}
use Rattle.sem_msg.specs.declared.state.Ask.TheVariants.{Obtain as ObtainAsk, Delegate as DelegateAsk}
use Rattle.sem_msg.specs.declared.state.Parked.{Parked}
use Rattle.sem_msg.specs.declared.state.Parked.TheVariants.{ObtainWait, ObtainReady, ObtainCancelled, DelegateWait}
use Rattle.sem_msg.specs.declared.state.Parked.TheVariants.{DelegateReady, RevokeWait, Ready}
use Rattle.sem_msg.specs.declared.state.Pending.{Pending}
use Rattle.sem_msg.specs.declared.state.Slot.TheVariants.{Free}
use Rattle.sem_msg.specs.Setup.{Setup}
use Rattle.sem_msg.specs.Lookups.{kernel_of, owner_of}
use Rattle.sem_machine.specs.Sides.{unlinked, Side, row, cap, parked, pending, is_alive, parked_as, asked}
use Rattle.sem_machine.specs.Sides.{linked, installed, pending_removed, send}
use Rattle.sem_machine.specs.Asks.{target_vpe, asker, call_refused, ask_refused}
use Rattle.sem_machine.specs.Handles.{is_key_declared, is_place_declared, is_target_declared, is_object_declared}
use Rattle.sem_machine.specs.Handles.{is_here, is_stray, obtain_ready, acknowledged, handle_row, handled}
use Rattle.sem_machine.specs.Resumes.{delegate_granted, delegate_resumed, resumed}
use Rattle.sem_safety.proofs.JobIds.{HasIds}
use Rattle.sem_revoke.proofs.Addressed.{is_misaddressed}
use Rattle.sem_messages.proofs.Tallies.{Tally, of_side, side-slot, side-asked, side-send}
use Rattle.sem_messages.proofs.Tallies.{side-acked}
use Rattle.sem_safety.specs.Observations.{AreDistinct}
use Rattle.sem_messages.proofs.Links.{side-linked, side-unlinked, side-bare}
use Rattle.sem_messages.proofs.Falling.{AreLed, is_done, IsFalling, Falls, Revokings}
use Rattle.sem_messages.proofs.Rows.{Fell, installed-same, refused-same}
use Rattle.sem_messages.proofs.Rows.{ask-far, send-falls, ask_refused-falls}
use Rattle.sem_messages.proofs.Answering.{grant-far}

last4 : (a b c d : Bool) → (a || (b || (c || d))) ≡ false → d ≡ false
last4 false false false d none = none
last4 true b c d none = absurd cc
last4 false true c d none = absurd cc
last4 false false true d none = absurd cc

skip2 : (a b c : Bool) → (a || b) ≡ false → (a || (b || c)) ≡ c
skip2 false false c none = refl
skip2 true b c none = absurd cc
skip2 false true c none = absurd cc

-- a message that asks a VPE
abbrev pub is_request : Message → Bool
is_request (ObtainReq place target) = true
is_request (DelegateReq parent object vpe sel) = true
is_request m = false

-- what is known where a message is handled: it is no stray, a queue has room for it, an Ack has its delegation
pub record IsExpected (T : Setup) (i : ℕ) (s : Side) (m : Message) : Type 0 where
  pub right : is_misaddressed T i m ≡ false
  pub room : is_request m ≡ true → (w : ℕ) → length (row s w).asks < ASKS
  pub pends : (key : KeyName) (accepted : Bool) → m ≡ Ack key accepted → (p : Pending) × (pending s key ≡ Some p)
  pub alone : (key : KeyName) (p : Pending) → pending s key ≡ Some p → (w : Pending → ℕ) →
      sum_by w (filter (λ (x : Pending). not (key_eq x.key key)) s.pendings) + w p ≡ sum_by w s.pendings

module _ (T : Setup) (K : Tally) (i : ℕ) where
  ready-same : (parent key : KeyName) (object : Object) (state : Option Parked) (s : Side) →
      of_side T K i (obtain_ready parent key object state s) ≡ of_side T K i s
  ready-same parent key object (Some (ObtainWait number sel)) s = refl
  ready-same parent key object None s = refl
  ready-same parent key object (Some (ObtainReady k p o sel)) s = refl
  ready-same parent key object (Some ObtainCancelled) s = refl
  ready-same parent key object (Some (DelegateWait p)) s = refl
  ready-same parent key object (Some (DelegateReady p k)) s = refl
  ready-same parent key object (Some (RevokeWait job)) s = refl
  ready-same parent key object (Some (Ready code)) s = refl

module _ (T : Setup) (P N : Tally) (gl lead gr : ℕ) (F : IsFalling P N (gl + lead) gr) (A : AreLed T P N lead)
    (i : ℕ) (R : Revokings T P N i) where
  -- Parked calls.
  granted-falls : (parent key : KeyName) (mark : Option ℕ) (s : Side) → AreDistinct s.caps →
      owner_of T parent ≢ owner_of T key →
      Fell T P N gl lead gr F A i R s (delegate_granted T parent key mark s)
  granted-falls parent key None s distinct apart =
      let linking : Side = linked parent key s in
      let l = grant-far T gl parent key apart in
      let r = grant-far T gr parent key apart in
      let q = side-send T P i linking (owner_of T key) (Ack key true) in
      let n = side-send T N i linking (owner_of T key) (Ack key true) in
      let less = F.yes key in
      let lp = side-linked T P i s parent key distinct in
      let ln = side-bare T N i A.bare s linking.caps in
      let most = A.most i key in
      omega (arith, l, r, q, n, less, lp, ln, most)
  granted-falls parent key (Some j) s distinct apart =
      let fell = send-falls T P N gl lead gr F A i R s (owner_of T key) (Ack key false) (F.no key) in
      omega (arith, fell)

  going_on-falls : (parent key : KeyName) (o : Option Capability) (s : Side) → AreDistinct s.caps →
      owner_of T parent ≢ owner_of T key →
      Fell T P N gl lead gr F A i R s (delegate_resumed T parent key o s)
  going_on-falls parent key None s distinct apart =
      let fell = send-falls T P N gl lead gr F A i R s (owner_of T key) (Ack key false) (F.no key) in
      omega (arith, fell)
  going_on-falls parent key (Some c) s distinct apart = granted-falls parent key c.mark s distinct apart

  pub resumed-falls : (p : Option Parked) (s : Side) → AreDistinct s.caps → ((parent key : KeyName) →
      p ≡ Some (DelegateReady parent key) → owner_of T parent ≢ owner_of T key) →
      Fell T P N gl lead gr F A i R s (resumed T p s)
  resumed-falls (Some (Ready code)) s distinct apart = omega arith
  resumed-falls (Some (ObtainReady key parent object sel)) s distinct apart =
      let q = installed-same T P i s key (Some parent) sel object in
      let n = installed-same T N i s key (Some parent) sel object in
      omega (arith, q, n)
  resumed-falls (Some ObtainCancelled) s distinct apart = omega arith
  resumed-falls (Some (DelegateReady parent key)) s distinct apart =
      going_on-falls parent key (cap s parent) s distinct (apart parent key refl)
  resumed-falls None s distinct apart = omega arith
  resumed-falls (Some (ObtainWait number sel)) s distinct apart = omega arith
  resumed-falls (Some (DelegateWait parent)) s distinct apart = omega arith
  resumed-falls (Some (RevokeWait j)) s distinct apart = omega arith

  -- Messages.
  abbrev pub Took : Message → Side → Side → Type 0
  Took m s t = (of_side T P i t + of_side T N i s) + N.on m ≤ (of_side T P i s + of_side T N i t) + P.on m

  -- what counts nothing, if the message does not
  took-done : (m : Message) (s t : Side) → is_done m ≡ true → Falls T P N i s t → Took m s t
  took-done m s t is fell = let less = F.done m is in omega (arith, fell, less)

  -- a request finds its VPE alive, or is refused
  asked-took : (m : Message) (s : Side) (v : ℕ) (a : Ask) → (kernel_of T (asker a) == i) ≡ false →
      length (row s v).asks < ASKS → P.ask a + N.on m ≤ N.ask a + P.on m →
      Took m s (if is_alive s v then asked v a s else ask_refused T i Dead a s)
  asked-took m s v a far room less =
      let one = ask-far T P i a far in
      let two = ask-far T N i a far in
      cond_both (is_alive s v) (asked v a s) (ask_refused T i Dead a s) (Took m s)
      (λ _. let q = side-asked T P i s v a room in let n = side-asked T N i s v a room in
      omega (arith, one, two, less, q, n))
      (λ _. let told = ask_refused-falls T P N gl lead gr F A i R Dead a s in omega (arith, one, two, less, told))

  acked-took : (key : KeyName) (accepted : Bool) (s : Side) (p : Pending) →
      ((w : Pending → ℕ) → sum_by w (filter (λ (x : Pending). not (key_eq x.key key)) s.pendings) + w p
      ≡ sum_by w s.pendings) → Took (Ack key accepted) s (acknowledged T key accepted s p)
  acked-took key accepted s p alone =
      let t : Side = pending_removed key s in
      let q = side-acked T P i s key (alone (λ x. P.pend)) in
      let n = side-acked T N i s key (alone (λ x. N.pend)) in
      let less = F.acked key accepted in
      let out : Took (Ack key accepted) s t = omega (arith, q, n, less) in
      by accepted out
    where
      by : (b : Bool) → Took (Ack key accepted) s (pending_removed key s) →
          Took (Ack key accepted) s (acknowledged T key b s p)
      by true out =
          let t : Side = pending_removed key s in
          cond_both (is_alive s key.vpe) (installed key (Some p.parent) p.sel p.object t)
          (send (owner_of T p.parent) (Orphan p.parent key) t) (Took (Ack key accepted) s)
          (λ _. let q = installed-same T P i t key (Some p.parent) p.sel p.object in
          let n = installed-same T N i t key (Some p.parent) p.sel p.object in omega (arith, out, q, n))
          (λ _. let fell = send-falls T P N gl lead gr F A i R t (owner_of T p.parent) (Orphan p.parent key)
          (F.orphan p.parent key) in omega (arith, out, fell))
      by false out =
          let t : Side = pending_removed key s in
          let q = side-slot T P i t key.vpe p.sel Free in
          let n = side-slot T N i t key.vpe p.sel Free in
          omega (arith, out, q, n)

  refusal-falls : (code v : ℕ) (s : Side) → Falls T P N i s (call_refused code v s)
  refusal-falls code v s = let q = refused-same T P i code v s in let n = refused-same T N i code v s in
      omega (arith, q, n)

  cut-falls : (parent key : KeyName) (s : Side) → Falls T P N i s (unlinked parent key s)
  cut-falls parent key s =
      let p = side-unlinked T P i s parent key in
      let n = side-bare T N i A.bare s (unlinked parent key s).caps in
      omega (arith, p, n)

  handled-done : (m : Message) (s : Side) (from : ℕ) → is_done m ≡ true → Falls T P N i s (handle_row T i s from m) →
      Took m s (handled T i s from m)
  handled-done m s from is fell =
      cond_both (is_stray T i s m) s (handle_row T i s from m) (Took m s)
      (λ _. took-done m s s is (omega arith)) (λ _. took-done m s (handle_row T i s from m) is fell)

  pub handled-took : (m : Message) (s : Side) (from : ℕ) → HasIds s → IsExpected T i s m →
      Took m s (handled T i s from m)
  unfolding handle_row
  handled-took (ObtainReq place target) s from has is =
      let m : Message = ObtainReq place target in
      let far : (kernel_of T place.vpe == i) ≡ false =
      last4 (not (is_place_declared T place)) (not (is_target_declared T target))
      (not (is_here T i (target_vpe target))) (is_here T i place.vpe) is.right in
      cond_both (is_stray T i s m) s (handle_row T i s from m) (Took m s)
      (λ stray. absurd (true≢false (sym stray ∙ is.right)))
      (λ _. asked-took m s (target_vpe target) (ObtainAsk place target) far (is.room refl (target_vpe target))
      (F.queued_obtain place target))
  handled-took (DelegateReq parent object vpe sel) s from has is =
      let m : Message = DelegateReq parent object vpe sel in
      let far : (kernel_of T parent.vpe == i) ≡ false =
      last4 (not (is_key_declared T parent)) (not (is_object_declared T object))
      (not (is_here T i vpe)) (is_here T i parent.vpe) is.right in
      cond_both (is_stray T i s m) s (handle_row T i s from m) (Took m s)
      (λ stray. absurd (true≢false (sym stray ∙ is.right)))
      (λ _. asked-took m s vpe (DelegateAsk parent object sel) far (is.room refl vpe)
      (F.queued_delegate parent object vpe sel))
  handled-took (Ack key accepted) s from has is =
      let m : Message = Ack key accepted in
      let p = is.pends key accepted refl in
      let stray-is : is_stray T i s m ≡ is_none (pending s key) =
      skip2 (not (is_key_declared T key)) (not (is_here T i key.vpe)) (is_none (pending s key)) is.right in
      let right : is_stray T i s m ≡ false = stray-is ∙ ap is_none p.1 in
      cond_both (is_stray T i s m) s (handle_row T i s from m) (Took m s)
      (λ stray. absurd (true≢false (sym stray ∙ right)))
      (λ _. subst (λ o. Took m s (option_map_or (acknowledged T key accepted s) o s)) (sym p.1)
      (acked-took key accepted s p.0 (is.alone key p.0 p.1)))
  handled-took (ObtainOk parent key object) s from has is =
      handled-done (ObtainOk parent key object) s from refl
      (cond_both (is_alive s key.vpe) (obtain_ready parent key object (parked s key.vpe) s)
      (send (owner_of T parent) (Orphan parent key) s) (Falls T P N i s)
      (λ _. let q = ready-same T P i parent key object (parked s key.vpe) s in
      let n = ready-same T N i parent key object (parked s key.vpe) s in omega (arith, q, n))
      (λ _. send-falls T P N gl lead gr F A i R s (owner_of T parent) (Orphan parent key) (F.orphan parent key)))
  handled-took (ObtainNo place code) s from has is =
      handled-done (ObtainNo place code) s from refl
      (cond_both (is_alive s place.vpe) (call_refused code place.vpe s) s (Falls T P N i s)
      (λ _. refusal-falls code place.vpe s) (λ _. omega arith))
  handled-took (DelegatePrepared parent key) s from has is =
      handled-done (DelegatePrepared parent key) s from refl
      (cond_both (is_alive s parent.vpe) (parked_as parent.vpe (DelegateReady parent key) s)
      (send (owner_of T key) (Ack key false) s) (Falls T P N i s) (λ _. omega arith)
      (λ _. send-falls T P N gl lead gr F A i R s (owner_of T key) (Ack key false) (F.no key)))
  handled-took (DelegateNo parent code) s from has is =
      handled-done (DelegateNo parent code) s from refl
      (cond_both (is_alive s parent.vpe) (call_refused code parent.vpe s) s (Falls T P N i s)
      (λ _. refusal-falls code parent.vpe s) (λ _. omega arith))
  handled-took (Orphan parent key) s from has is = handled-done (Orphan parent key) s from refl (cut-falls parent key s)
  handled-took (Unlink parent key) s from has is = handled-done (Unlink parent key) s from refl (cut-falls parent key s)
  handled-took (RevokeReq key j) s from has is = R.requests s has from j key
  handled-took (RevokeDone j) s from has is = R.dones s has j
