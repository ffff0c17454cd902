-- What the rows leave of a VPE: its parked call stays parked, but by its own resume and its end, and no call of it is counted.
use Rattle.std.proofs.Common.{◌≡◌, ℕ, zero, suc, ◌+◌, Bool, true, false, List, [], ◌∷◌, length, get_or, is_some, Option, Some, None, slice_get, refl, sym, ap}
use Rattle.std.proofs.Common.{◌∙◌, inl, inr}
use Rattle.std.specs.Prelude.{◌==◌}
use Rattle.std.proofs.lemmas.Bool.{cases_eq, cond_both}
use Rattle.sem_key.specs.declared.object.Object.{Object}
use Rattle.sem_key.specs.KeyName.{KeyName}
use Rattle.sem_key.specs.PlaceName.{keyed}
use Rattle.sem_key.specs.Lists.{in_turn, put}
use Rattle.sem_key.specs.Capability.{Capability}
use Rattle.sem_key.specs.CapList.{marked_by}
use Rattle.sem_key.specs.Region.{region, children_of}
use Rattle.sem_key.specs.ObjectRanges.{object_kind}
use Rattle.sem_key.proofs.Puts.{get_or-put_same, get_or-put_other}
use Rattle.sem_msg.specs.declared.call.Call.{Call}
use Rattle.sem_msg.specs.declared.code.Code.{Code}
use Rattle.sem_msg.specs.declared.code.Code.TheVariants.{Ok as OkCode, Dead}
use Rattle.sem_msg.specs.Codes.{code_number}
use Rattle.sem_msg.specs.declared.message.Message.{Message}
use Rattle.sem_msg.specs.declared.state.Ask.{Ask}
use Rattle.sem_msg.specs.declared.state.Ask.TheVariants.{Obtain as ObtainAsk, Delegate as DelegateAsk}
use Rattle.sem_msg.specs.declared.state.Parked.{Parked}
use Rattle.sem_msg.specs.declared.state.Parked.TheVariants.{ObtainWait, ObtainReady, ObtainCancelled, DelegateWait, DelegateReady, RevokeWait, Ready}
use Rattle.sem_msg.specs.declared.state.Pending.{Pending}
use Rattle.sem_msg.specs.declared.state.Slot.{Slot}
use Rattle.sem_msg.specs.declared.state.Slot.TheVariants.{Free, Held, Promised}
use Rattle.sem_msg.specs.declared.state.Up.{Up}
use Rattle.sem_msg.specs.declared.state.Up.TheVariants.{Local, Remote}
use Rattle.sem_msg.specs.Rows.{JobRow, VpeRow, no_vpe}
use Rattle.sem_msg.specs.JobRows.{if_done, next_done}
use Rattle.sem_msg.specs.VpeRows
use Rattle.sem_msg.specs.ParkedStates.{is_ready_with}
use Rattle.sem_msg.specs.Setup.{Setup}
use Rattle.sem_msg.specs.Lookups.{kernel_of, is_local}
use Rattle.sem_machine.specs.Sides.{Side, row, cap, job, parked, is_alive, ready, parked_as, unparked, asked, ask_taken, buried, with_slot, drawn, promised}
use Rattle.sem_machine.specs.Sides.{installed, linked, pending_removed, job_removed, mark_all, unbind_all, job_opened}
use Rattle.sem_machine.specs.Steps.{Step, unshown}
use Rattle.sem_machine.specs.Asks.{target_vpe, promise_freed, call_refused, ask_refused}
use Rattle.sem_machine.specs.Calls.{next_key, next_place, call_row}
use Rattle.sem_machine.specs.Revokes.{other_marker, adopted, request_or_adopt, root_spared, all_freed, swept, woken, parent_left, up_told, left_parent}
use Rattle.sem_machine.specs.Revokes.{closed_here, closed, finish, settled, opened, begin, revoke_begun, clear_begun, ready_freed, request_begun}
use Rattle.sem_machine.specs.Revokes.{revoke_requested, revoke_done, count_lowered}
use Rattle.sem_machine.specs.Ends.{ask_ended, call_ended, revoked_if_left, keys_of_vpe, ended}
use Rattle.sem_machine.specs.Upcalls.{given, given_kind, given_here, ask_decided, upcall_row}
use Rattle.sem_machine.specs.Handles.{obtain_ready, acknowledged, handled}
use Rattle.sem_machine.specs.Resumes.{delegate_granted, delegate_resumed, resumed, resume_row}
use Rattle.sem_machine.proofs.Folds.{in_turn-keeps, option-keeps}
use Rattle.sem_safety.proofs.Skeleton.{call_row-by, decided-by, handled-by}
use Rattle.sem_revoke.proofs.Rowing.{settled_if_there, revoked_if_there}
use Rattle.sem_revoke.proofs.Waits.{parked-here, parked-other}

-- B is what it takes that a call is parked; n calls were made
module _ (v : ℕ) (B : Type 0) (n : ℕ) where
  abbrev pub Steady : Side → Type 0
  Steady t = (B → is_some (parked t v) ≡ true) × ((row t v).next_call ≡ n)

  -- Small changes.

  pub steady-park : (t : Side) → Steady t → (w : ℕ) (p : Parked) → Steady (record t { parks = put None t.parks w (Some p) })
  steady-park t S w p = (
    λ b. elim (cases_eq v w) [
      | inl same ↦ ap is_some (ap (parked (record t { parks = put None t.parks w (Some p) })) same ∙ parked-here t w (Some p))
      | inr other ↦ ap is_some (parked-other t w (Some p) v other) ∙ S.0 b
    ],
    S.1,
  )

  steady-unparked : (t : Side) → Steady t → (w : ℕ) → (w ≡ v → B → ⊥) → Steady (unparked w t)
  steady-unparked t S w none = (λ b. ap is_some (parked-other t w None v (λ same. none (sym same) b)) ∙ S.0 b, S.1)

  pub steady-row : (t : Side) → Steady t → (w : ℕ) (r : VpeRow) → r.next_call ≡ (row t w).next_call → Steady (record t { vpes = put no_vpe t.vpes w r })
  steady-row t S w r same = (
    S.0,
    elim (cases_eq v w) [
      | inl here ↦ ap (λ (x : VpeRow). x.next_call) (ap (λ m. get_or (put no_vpe t.vpes w r) m no_vpe) here ∙ get_or-put_same no_vpe t.vpes w r)
          ∙ (same ∙ (ap (λ m. (row t m).next_call) (sym here) ∙ S.1))
      | inr other ↦ ap (λ (x : VpeRow). x.next_call) (get_or-put_other no_vpe t.vpes w v r other) ∙ S.1
    ],
  )

  pub steady-slot : (t : Side) → Steady t → (w sel : ℕ) (state : Slot) → Steady (with_slot w sel state t)
  steady-slot t S w sel state = steady-row t S w (record (row t w) { slots = put Free (row t w).slots sel state }) refl

  pub steady-drawn : (t : Side) → Steady t → (w : ℕ) → Steady (drawn w t)
  steady-drawn t S w = steady-row t S w (record (row t w) { next_number = (row t w).next_number + 1 }) refl

  pub steady-asked : (t : Side) → Steady t → (w : ℕ) (a : Ask) → Steady (asked w a t)
  steady-asked t S w a = steady-row t S w _ refl

  steady-taken : (t : Side) → Steady t → (w : ℕ) → Steady (ask_taken w t)
  steady-taken t S w = steady-row t S w _ refl

  steady-ready : (t : Side) → Steady t → (number w : ℕ) → Steady (ready number w t)
  steady-ready t S number w = steady-park t S w (Ready number)

  -- A job is closed.

  steady-freed_rows : (cs : List Capability) (t : Side) → Steady t → Steady (record t { vpes = all_freed cs t.vpes })
  steady-freed_rows cs t S = in_turn-keeps (λ rows. Steady (record t { vpes = rows })) (λ (c : Capability) rows. VpeRows.freed c.key.vpe c.selector rows)
      (λ c rows is. steady-slot (record t { vpes = rows }) is c.key.vpe c.selector Free) cs t.vpes S

  steady-swept : (x : JobRow) (t : Side) → Steady t → Steady (swept x t)
  steady-swept x t S = steady-freed_rows (marked_by x.id (root_spared x t).caps) (root_spared x t) S

  steady-woken : (vs : List ℕ) (t : Side) → Steady t → Steady (woken vs t)
  steady-woken vs t S = in_turn-keeps (λ ps. Steady (record t { parks = ps })) (λ w ps. put None ps w (Some (Ready (code_number OkCode))))
      (λ w ps is. steady-park (record t { parks = ps }) is w (Ready (code_number OkCode))) vs t.parks S

  -- the job is given by its parts
  steady-left : (T : Setup) (i id count : ℕ) (root : KeyName) (up : Option Up) (ws : List ℕ) (keep : Bool) (o : Option KeyName) (t : Side) → Steady t →
      Steady (parent_left T i (record { id = id; root = root; up = up; waiters = ws; count = count; keep = keep }) o t)
  steady-left T i id count root up ws keep None t S = S
  steady-left T i id count root None ws keep (Some p) t S = cond_both (is_local T i p) _ _ Steady (λ _. S) (λ _. S)
  steady-left T i id count root (Some (Local j)) ws keep (Some p) t S = cond_both (is_local T i p) _ _ Steady (λ _. S) (λ _. S)
  steady-left T i id count root (Some (Remote kernel j)) ws keep (Some p) t S = cond_both (is_local T i p) _ _ Steady (λ _. S) (λ _. S)

  steady-told : (up : Option Up) (t : Side) → Steady t → Steady (up_told up t)
  steady-told None t S = S
  steady-told (Some (Local j)) t S = S
  steady-told (Some (Remote kernel j)) t S = S

  steady-closed : (T : Setup) (i : ℕ) (x : JobRow) (t : Side) → Steady t → Steady (closed T i x t)
  unfolding closed_here
  steady-closed T i x t S =
      let gone : Side = job_removed x.id t in
      steady-told x.up (closed_here T i x gone) (steady-left T i x.id x.count x.root x.up x.waiters x.keep (left_parent gone x) (woken x.waiters (swept x gone))
      (steady-woken x.waiters (swept x gone) (steady-swept x gone S)))

  steady-finish : (T : Setup) (i m : ℕ) (o : Option JobRow) (t : Side) → Steady t → Steady (finish T i m o t)
  unfolding finish
  steady-finish T i zero o t S = S
  steady-finish T i (suc m) None t S = S
  steady-finish T i (suc m) (Some x) t S = let t2 : Side = closed T i x t in steady-finish T i m (next_done x.up t2.jobs) t2 (steady-closed T i x t S)

  steady-settled : (T : Setup) (i j : ℕ) (t : Side) → Steady t → Steady (settled T i j t)
  steady-settled T i j t S = steady-finish T i (length t.jobs) (if_done (job t j)) t S

  -- A job begins.

  steady-adopted : (j : ℕ) (o : Option ℕ) (t : Side) → Steady t → Steady (adopted j o t)
  steady-adopted j None t S = S
  steady-adopted j (Some m) t S = S

  steady-asks_for : (T : Setup) (i j : ℕ) (k : KeyName) (t : Side) → Steady t → Steady (request_or_adopt T i j k t)
  steady-asks_for T i j k t S = cond_both (is_local T i k) _ _ Steady (λ _. steady-adopted j (other_marker j (cap t k)) t S) (λ _. S)

  steady-begin : (T : Setup) (i : ℕ) (root : KeyName) (up : Option Up) (ws : List ℕ) (keep : Bool) (t : Side) → Steady t → Steady (begin T i root up ws keep t)
  unfolding opened
  steady-begin T i root up ws keep t S =
      let j : ℕ = t.next_job in
      let ks : List KeyName = region t.caps root in
      steady-settled T i j (opened T i root up ws keep t) (in_turn-keeps Steady (request_or_adopt T i j) (λ k u is. steady-asks_for T i j k u is)
      (children_of t.caps ks) (unbind_all ks (mark_all ks j (job_opened root up ws keep t))) S)

  -- Refusals.

  steady-refused : (number w : ℕ) (t : Side) → Steady t → Steady (call_refused number w t)
  steady-refused number w t S = steady-ready (promise_freed (parked t w) w t) (from (parked t w)) number w
    where
      from : (p : Option Parked) → Steady (promise_freed p w t)
      from None = S
      from (Some (ObtainWait m sel)) = steady-slot t S w sel Free
      from (Some (ObtainReady key parent object sel)) = S
      from (Some ObtainCancelled) = S
      from (Some (DelegateWait parent)) = S
      from (Some (DelegateReady parent key)) = S
      from (Some (RevokeWait j)) = S
      from (Some (Ready code)) = S

  steady-ask_refused : (T : Setup) (i : ℕ) (code : Code) (a : Ask) (t : Side) → Steady t → Steady (ask_refused T i code a t)
  steady-ask_refused T i code (ObtainAsk place target) t S =
      cond_both (kernel_of T place.vpe == i) _ _ Steady (λ _. steady-refused (code_number code) place.vpe t S) (λ _. S)
  steady-ask_refused T i code (DelegateAsk parent object sel) t S =
      cond_both (kernel_of T parent.vpe == i) _ _ Steady (λ _. steady-refused (code_number code) parent.vpe t S) (λ _. S)

  -- The end of a VPE.

  pub steady-ended : (T : Setup) (i u : ℕ) (t : Side) → (u ≡ v → B → ⊥) → Steady t → Steady (ended T i u t)
  unfolding ended
  steady-ended T i u t none S =
      let buried' : Steady (buried u t) = steady-row t S u (record (row t u) { alive = false; asks = [] }) refl in
      let answered : Side = in_turn (ask_ended T i) (row t u).asks (buried u t) in
      let told : Steady answered =
      in_turn-keeps Steady (ask_ended T i) (λ a s is. cond_both _ s (ask_refused T i Dead a s) Steady (λ _. is) (λ _. steady-ask_refused T i Dead a s is))
      (row t u).asks (buried u t) buried' in
      let last : Side = call_ended T (parked answered u) u (unparked u answered) in
      in_turn-keeps Steady (revoked_if_left T i) (λ k s is. left k s is) (keys_of_vpe last u) last
      (owes (parked answered u) (unparked u answered) (steady-unparked answered told u none))
    where
      owes : (p : Option Parked) (s : Side) → Steady s → Steady (call_ended T p u s)
      owes None s is = is
      owes (Some (ObtainWait number sel)) s is = is
      owes (Some (ObtainReady key parent object sel)) s is = is
      owes (Some ObtainCancelled) s is = is
      owes (Some (DelegateWait parent)) s is = is
      owes (Some (DelegateReady parent key)) s is = is
      owes (Some (RevokeWait j)) s is = is
      owes (Some (Ready code)) s is = is

      left : (k : KeyName) (s : Side) → Steady s → Steady (revoked_if_left T i k s)
      left k s is = by_cap (cap s k)
        where
          by_cap : (o : Option Capability) → Steady (revoked_if_there T i k o s)
          by_cap None = is
          by_cap (Some c) = option-keeps Steady (λ (m : ℕ). s) c.mark (begin T i k None [] false s) (λ m marked. is) (steady-begin T i k None [] false s is)

  -- A revoke, a clear, and what comes from other kernels.

  pub steady-revoked : (T : Setup) (i u : ℕ) (k : KeyName) (m : Option ℕ) (t : Side) → Steady (parked_as u (RevokeWait t.next_job) t)
      × ((j : ℕ) → Steady (parked_as u (RevokeWait j) t)) → Steady (revoke_begun T i u k m t)
  steady-revoked T i u k None t S = steady-begin T i k None (u ∷ []) false (parked_as u (RevokeWait t.next_job) t) S.0
  steady-revoked T i u k (Some j) t S = S.1 j

  pub steady-cleared : (T : Setup) (i u : ℕ) (k : KeyName) (t : Side) → Steady (parked_as u (RevokeWait t.next_job) t) → Steady (clear_begun T i u k t)
  steady-cleared T i u k t S = steady-begin T i k None (u ∷ []) true (parked_as u (RevokeWait t.next_job) t) S

  steady-requested : (T : Setup) (i from j : ℕ) (k : KeyName) (o : Option Capability) (t : Side) → Steady t → Steady (revoke_requested T i from j k o t)
  steady-requested T i from j k None t S =
      cond_both (is_ready_with k (parked t k.vpe)) _ t Steady
      (λ is. steady-park (ready_freed (parked t k.vpe) k.vpe t) (free (parked t k.vpe)) k.vpe ObtainCancelled) (λ _. S)
    where
      free : (p : Option Parked) → Steady (ready_freed p k.vpe t)
      free None = S
      free (Some (ObtainReady key parent object sel)) = steady-slot t S k.vpe sel Free
      free (Some (ObtainWait number sel)) = S
      free (Some ObtainCancelled) = S
      free (Some (DelegateWait parent)) = S
      free (Some (DelegateReady parent key)) = S
      free (Some (RevokeWait m)) = S
      free (Some (Ready code)) = S
  steady-requested T i from j k (Some c) t S = by_mark c.mark
    where
      by_mark : (m : Option ℕ) → Steady (request_begun T i from j k m t)
      by_mark None = steady-begin T i k (Some (Remote from j)) [] false t S
      by_mark (Some m) = S

  steady-done : (T : Setup) (i j : ℕ) (t : Side) → Steady t → Steady (revoke_done T i j t)
  steady-done T i j t S = by_job (job t j)
    where
      by_job : (o : Option JobRow) → Steady (settled_if_there T i j o t)
      by_job None = S
      by_job (Some x) = steady-settled T i j (count_lowered j t) S

  -- The rows.

  pub steady-installed : (t : Side) → Steady t → (k : KeyName) (parent : Option KeyName) (sel : ℕ) (object : Object) → Steady (installed k parent sel object t)
  steady-installed t S k parent sel object = steady-slot t S k.vpe sel (Held k)

  -- a call of another VPE
  pub steady-call : (T : Setup) (i u : ℕ) (c : Call) (s : Side) → (u ≡ v → ⊥) → Steady s → Steady (call_row T i s u c).side
  steady-call T i u c s other S = call_row-by (λ (x : Step). Steady x.side) T i u s (record {
    answered = λ code. S;
    child = λ src dst object p held. steady-installed (linked p.key (next_key T s u (object_kind object)) (drawn u s)) (steady-drawn s S u)
        (next_key T s u (object_kind object)) (Some p.key) dst object;
    ask = λ dst target.
        let promising : Side = promised u dst (drawn u s) in
        let waiting : Side = parked_as u (ObtainWait (next_place T s u).number dst) promising in
        let waits : Steady waiting = steady-park promising (steady-slot (drawn u s) (steady-drawn s S u) u dst Promised) u
        (ObtainWait (next_place T s u).number dst) in
        cond_both (kernel_of T (target_vpe target) == i) _ _ Steady (λ _. steady-asked waiting waits (target_vpe target) (ObtainAsk (next_place T s u) target))
        (λ _. waits);
    offer = λ src w dst p held.
        let waiting : Side = parked_as u (DelegateWait p.key) s in
        let waits : Steady waiting = steady-park s S u (DelegateWait p.key) in
        cond_both (kernel_of T w == i) _ _ Steady (λ _. steady-asked waiting waits w (DelegateAsk p.key p.object dst)) (λ _. waits);
    revoke = λ src k held. steady-revoked T i u k.key k.mark s (steady-park s S u (RevokeWait s.next_job), λ j. steady-park s S u (RevokeWait j));
    clear = λ src k held unmarked. steady-cleared T i u k.key s (steady-park s S u (RevokeWait s.next_job));
    bound = λ ep src k held. S;
    rung = λ ep f. S;
    ends = steady-ended T i u s (λ same b. other same) S;
  }) c

  steady-given : (k p : KeyName) (object : Object) (state : Option Parked) (s : Side) → Steady s → Steady (given_here k p object state s)
  steady-given k p object (Some (ObtainWait number sel)) s S = steady-ready (installed k (Some p) sel object s) (steady-installed s S k (Some p) sel object)
      (code_number OkCode) k.vpe
  steady-given k p object None s S = S
  steady-given k p object (Some (ObtainReady key parent object' sel)) s S = S
  steady-given k p object (Some ObtainCancelled) s S = S
  steady-given k p object (Some (DelegateWait parent)) s S = S
  steady-given k p object (Some (DelegateReady parent key)) s S = S
  steady-given k p object (Some (RevokeWait j)) s S = S
  steady-given k p object (Some (Ready code)) s S = S

  steady-decided : (T : Setup) (i u : ℕ) (a : Ask) (s : Side) → Steady s → Steady (ask_decided T i u a s).side
  steady-decided T i u a s S = decided-by (λ (x : Step). Steady x.side) (λ w x here. here) (λ w x here. here) (λ w x here. here) T i u a s (record {
    nothing = S;
    refused = λ code. steady-ask_refused T i code a s S;
    given = λ place target p of.
        let k : KeyName = keyed place (given_kind target p) in
        let linking : Side = linked p.key k s in
        cond_both (kernel_of T place.vpe == i) _ _ Steady (λ _. steady-given k p.key (given target place.vpe p) (parked linking place.vpe) linking S) (λ _. S);
    here = λ parent object sel of.
        let k : KeyName = next_key T s u parent.kind in
        let linking : Side = linked parent k (drawn u s) in
        steady-ready (installed k (Some parent) sel object linking) (steady-installed linking (steady-drawn s S u) k (Some parent) sel object)
        (code_number OkCode) parent.vpe;
    prepared = λ parent object sel of. steady-slot (drawn u s) (steady-drawn s S u) u sel Promised;
  })

  pub steady-upcall : (T : Setup) (i u : ℕ) (s : Side) → Steady s → Steady (upcall_row T i s u).side
  unfolding upcall_row
  steady-upcall T i u s S = option-keeps (λ (x : Step). Steady x.side) (λ (a : Ask). ask_decided T i u a (ask_taken u s)) (slice_get (row s u).asks 0) (unshown s)
      (λ a there. steady-decided T i u a (ask_taken u s) (steady-taken s S u)) S

  -- a parked call that goes on
  pub steady-resume : (T : Setup) (u : ℕ) (s : Side) → (u ≡ v → B → ⊥) → Steady s → Steady (resume_row T s u).side
  unfolding resume_row
  steady-resume T u s none S = by (parked s u)
    where
      t : Side
      t = unparked u s

      gone : Steady t
      gone = steady-unparked s S u none

      granted : (parent key : KeyName) (m : Option ℕ) → Steady (delegate_granted T parent key m t).side
      granted parent key None = gone
      granted parent key (Some j) = gone

      answered : (parent key : KeyName) (o : Option Capability) → Steady (delegate_resumed T parent key o t).side
      answered parent key None = gone
      answered parent key (Some c) = granted parent key c.mark

      by : (p : Option Parked) → Steady (resumed T p t).side
      by None = gone
      by (Some (ObtainWait number sel)) = gone
      by (Some (ObtainReady key parent object sel)) = steady-installed t gone key (Some parent) sel object
      by (Some ObtainCancelled) = gone
      by (Some (DelegateWait parent)) = gone
      by (Some (DelegateReady parent key)) = answered parent key (cap t parent)
      by (Some (RevokeWait j)) = gone
      by (Some (Ready code)) = gone

  -- a message
  steady-obtain_ready : (parent key : KeyName) (object : Object) (state : Option Parked) (s : Side) → Steady s → Steady (obtain_ready parent key object state s)
  steady-obtain_ready parent key object (Some (ObtainWait number sel)) s S = steady-park s S key.vpe (ObtainReady key parent object sel)
  steady-obtain_ready parent key object None s S = S
  steady-obtain_ready parent key object (Some (ObtainReady key' parent' object' sel)) s S = S
  steady-obtain_ready parent key object (Some ObtainCancelled) s S = S
  steady-obtain_ready parent key object (Some (DelegateWait parent')) s S = S
  steady-obtain_ready parent key object (Some (DelegateReady parent' key')) s S = S
  steady-obtain_ready parent key object (Some (RevokeWait j)) s S = S
  steady-obtain_ready parent key object (Some (Ready code)) s S = S

  steady-acked : (T : Setup) (key : KeyName) (accepted : Bool) (s : Side) (p : Pending) → Steady s → Steady (acknowledged T key accepted s p)
  steady-acked T key true s p S = cond_both (is_alive s key.vpe) _ _ Steady (λ _. steady-installed (pending_removed key s) S key (Some p.parent) p.sel p.object)
      (λ _. S)
  steady-acked T key false s p S = steady-slot (pending_removed key s) S key.vpe p.sel Free

  pub steady-handled : (T : Setup) (i : ℕ) (s : Side) (from : ℕ) (m : Message) → Steady s → Steady (handled T i s from m)
  steady-handled T i s from m S = handled-by Steady T i s from m (record {
    same = S;
    asked_obtain = λ place target of. steady-asked s S (target_vpe target) (ObtainAsk place target);
    dead_obtain = λ place target of. steady-ask_refused T i Dead (ObtainAsk place target) s S;
    asked_delegate = λ parent object vpe sel of. steady-asked s S vpe (DelegateAsk parent object sel);
    dead_delegate = λ parent object vpe sel of. steady-ask_refused T i Dead (DelegateAsk parent object sel) s S;
    given = λ parent key object of. steady-obtain_ready parent key object (parked s key.vpe) s S;
    orphaned = λ parent key object of. S;
    no_obtain = λ place code of. steady-refused code place.vpe s S;
    prepared = λ parent key of. steady-park s S parent.vpe (DelegateReady parent key);
    given_up = λ parent key of. S;
    no_delegate = λ parent code of. steady-refused code parent.vpe s S;
    acked = λ key accepted p of there. steady-acked T key accepted s p S;
    unlinks = λ parent key. S;
    requests = λ key j of. steady-requested T i from j key (cap s key) s S;
    dones = λ j of. steady-done T i j s S;
  })
