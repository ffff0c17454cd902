-- Each change of a side adds no token of a delegation but those that it is handed; so do a job, a refusal and the end of a VPE.
use Rattle.std.proofs.Common.{◌≡◌, ℕ, zero, suc, ◌+◌, ◌≤◌, Bool, true, false, List, [], ◌∷◌, ◌++◌, drop, length, Option, Some, None, slice_get, refl, arith}
use Rattle.std.specs.Prelude.{◌==◌}
use Rattle.std.proofs.lemmas.Bool.{cond_both}
use Rattle.std.proofs.lemmas.List.Sums.{sum_by_push}
use Rattle.sem_key.specs.KeyName.{KeyName}
use Rattle.sem_key.specs.Lists.{in_turn, put}
use Rattle.sem_key.specs.Capability.{Capability}
use Rattle.sem_key.specs.Region.{region, children_of}
use Rattle.sem_msg.specs.declared.code.Code.{Code}
use Rattle.sem_msg.specs.declared.code.Code.TheVariants.{Ok as OkCode, Dead}
use Rattle.sem_msg.specs.Codes.{code_number}
use Rattle.sem_msg.specs.declared.message.Message.{Message}
use Rattle.sem_msg.specs.declared.message.Message.TheVariants.{ObtainNo, DelegateNo, Ack, Orphan, RevokeReq, RevokeDone, Unlink}
use Rattle.sem_msg.specs.declared.state.Ask.{Ask}
use Rattle.sem_msg.specs.declared.state.Ask.TheVariants.{Obtain as ObtainAsk, Delegate as DelegateAsk}
use Rattle.sem_msg.specs.declared.state.Parked.{Parked}
use Rattle.sem_msg.specs.declared.state.Parked.TheVariants.{ObtainWait, ObtainReady, ObtainCancelled, DelegateWait, DelegateReady, RevokeWait, Ready}
use Rattle.sem_msg.specs.declared.state.Up.{Up}
use Rattle.sem_msg.specs.declared.state.Up.TheVariants.{Local, Remote}
use Rattle.sem_msg.specs.Rows.{JobRow}
use Rattle.sem_msg.specs.JobRows.{if_done, next_done}
use Rattle.sem_msg.specs.ParkedStates.{is_ready_with}
use Rattle.sem_msg.specs.Setup.{Setup}
use Rattle.sem_msg.specs.Lookups.{owner_of, place_owner, is_local, kernel_of}
use Rattle.sem_machine.specs.Sides.{Side, row, cap, job, parked, outbox, ready, parked_as, unparked, buried, unlinked, mark_all, unbind_all, job_opened}
use Rattle.sem_machine.specs.Sides.{job_removed, send, sent, with_inbox}
use Rattle.sem_machine.specs.Asks.{asker, is_unawaited, promise_freed, call_refused, refusal_sent, ask_refused}
use Rattle.sem_machine.specs.Revokes.{count_raised, count_lowered, other_marker, adopted, request_or_adopt, swept, woken, parent_left, up_told, left_parent}
use Rattle.sem_machine.specs.Revokes.{closed_here, closed, finish, settled, opened, begin, revoke_begun, clear_begun, ready_freed, obtain_cancelled}
use Rattle.sem_machine.specs.Revokes.{request_begun, revoke_requested, revoke_done}
use Rattle.sem_machine.specs.Ends.{ask_ended, call_ended, revoked_if_left, keys_of_vpe, ended}
use Rattle.sem_machine.proofs.Folds.{in_turn-keeps, option-keeps}
use Rattle.sem_machine.proofs.Weighing.{of_option, weigh-put, weigh-drop}
use Rattle.sem_revoke.specs.Delegations.{of_message, of_messages, of_parked, of_inbox, of_side}
use Rattle.sem_revoke.proofs.Rowing.{settled_if_there, revoked_if_there}

module _ (k0 : KeyName) where
  -- a parked call, or none, comes in for another
  pub side-park : (s : Side) (v : ℕ) (p : Option Parked) → of_side k0 (record s { parks = put None s.parks v p }) + of_parked k0 (parked s v)
      ≡ of_side k0 s + of_parked k0 p
  side-park s v p = let calls = weigh-put (of_parked k0) None refl s.parks v p in omega (arith, calls)

  pub side-parked : (s : Side) (v : ℕ) (p : Parked) → of_side k0 (parked_as v p s) ≤ of_side k0 s + of_parked k0 (Some p)
  side-parked s v p = let calls = side-park s v (Some p) in omega (arith, calls)

  pub side-unparked : (s : Side) (v : ℕ) → of_side k0 (unparked v s) + of_parked k0 (parked s v) ≡ of_side k0 s
  side-unparked s v = let calls = side-park s v None in omega (arith, calls)

  pub side-send : (s : Side) (j : ℕ) (m : Message) → of_side k0 (send j m s) ≡ of_side k0 s + of_message k0 m
  side-send s j m =
      let outs = weigh-put (of_messages k0) [] refl s.outs j (outbox s j ++ m ∷ []) in
      let push = sum_by_push (of_message k0) (outbox s j) m in
      omega (arith, outs, push)

  pub side-sent : (s : Side) (j : ℕ) → of_side k0 (sent j s) + of_option (of_message k0) (slice_get (outbox s j) 0) ≡ of_side k0 s
  side-sent s j =
      let outs = weigh-put (of_messages k0) [] refl s.outs j (drop 1 (outbox s j)) in
      let front = weigh-drop (of_message k0) (outbox s j) in
      omega (arith, outs, front)

  pub side-inbox : (s : Side) (message : Option (ℕ × Message)) → of_side k0 (with_inbox message s) + of_inbox k0 s.inbox ≡ of_side k0 s + of_inbox k0 message
  side-inbox s message = omega arith

module _ (k0 : KeyName) (m : ℕ) where
  -- at most m tokens
  abbrev pub Few : Side → Type 0
  Few s = of_side k0 s ≤ m

  pub few-send : (j : ℕ) (msg : Message) (t : Side) → of_message k0 msg ≡ 0 → Few t → Few (send j msg t)
  few-send j msg t none is = let sum = side-send k0 t j msg in omega (arith, sum, none, is)

  pub few-park : (t : Side) (w : ℕ) (p : Option Parked) → of_parked k0 p ≡ 0 → Few t → Few (record t { parks = put None t.parks w p })
  few-park t w p none is = let sum = side-park k0 t w p in omega (arith, sum, none, is)

  pub few-ready : (number w : ℕ) (t : Side) → Few t → Few (ready number w t)
  few-ready number w t is = few-park t w (Some (Ready number)) refl is

  -- A job is closed.

  few-woken : (vs : List ℕ) (t : Side) → Few t → Few (woken vs t)
  few-woken vs t is = in_turn-keeps (λ ps. Few (record t { parks = ps })) (λ w ps. put None ps w (Some (Ready (code_number OkCode))))
      (λ w ps few. few-park (record t { parks = ps }) w (Some (Ready (code_number OkCode))) refl few) vs t.parks is

  -- the job is given by its parts
  few-left : (T : Setup) (i id count : ℕ) (root : KeyName) (up : Option Up) (ws : List ℕ) (keep : Bool) (o : Option KeyName) (t : Side) → Few t →
      Few (parent_left T i (record { id = id; root = root; up = up; waiters = ws; count = count; keep = keep }) o t)
  few-left T i id count root up ws keep None t is = is
  few-left T i id count root None ws keep (Some p) t is = cond_both (is_local T i p) (unlinked p root t) (send (owner_of T p) (Unlink p root) t) Few (λ _. is)
      (λ _. few-send (owner_of T p) (Unlink p root) t refl is)
  few-left T i id count root (Some (Local j)) ws keep (Some p) t is = cond_both (is_local T i p) (unlinked p root t) (send (owner_of T p) (Unlink p root) t) Few
      (λ _. is) (λ _. few-send (owner_of T p) (Unlink p root) t refl is)
  few-left T i id count root (Some (Remote kernel j)) ws keep (Some p) t is = cond_both (is_local T i p) (unlinked p root t) t Few (λ _. is) (λ _. is)

  few-told : (up : Option Up) (t : Side) → Few t → Few (up_told up t)
  few-told None t is = is
  few-told (Some (Local j)) t is = is
  few-told (Some (Remote kernel j)) t is = few-send kernel (RevokeDone j) t refl is

  few-closed : (T : Setup) (i : ℕ) (x : JobRow) (t : Side) → Few t → Few (closed T i x t)
  unfolding closed_here
  few-closed T i x t is =
      let gone : Side = job_removed x.id t in
      few-told x.up (closed_here T i x gone) (few-left T i x.id x.count x.root x.up x.waiters x.keep (left_parent gone x) (woken x.waiters (swept x gone))
      (few-woken x.waiters (swept x gone) is))

  few-finish : (T : Setup) (i n : ℕ) (o : Option JobRow) (t : Side) → Few t → Few (finish T i n o t)
  unfolding finish
  few-finish T i zero o t is = is
  few-finish T i (suc n) None t is = is
  few-finish T i (suc n) (Some x) t is = few-finish T i n (next_done x.up (closed T i x t).jobs) (closed T i x t) (few-closed T i x t is)

  few-settled : (T : Setup) (i j : ℕ) (t : Side) → Few t → Few (settled T i j t)
  few-settled T i j t is = few-finish T i (length t.jobs) (if_done (job t j)) t is

  -- A job begins.

  few-adopted : (j : ℕ) (o : Option ℕ) (t : Side) → Few t → Few (adopted j o t)
  few-adopted j None t is = is
  few-adopted j (Some n) t is = is

  few-asks_for : (T : Setup) (i j : ℕ) (k : KeyName) (t : Side) → Few t → Few (request_or_adopt T i j k t)
  few-asks_for T i j k t is = cond_both (is_local T i k) (adopted j (other_marker j (cap t k)) t) (count_raised j (send (owner_of T k) (RevokeReq k j) t)) Few
      (λ _. few-adopted j (other_marker j (cap t k)) t is) (λ _. few-send (owner_of T k) (RevokeReq k j) t refl is)

  pub few-begin : (T : Setup) (i : ℕ) (root : KeyName) (up : Option Up) (ws : List ℕ) (keep : Bool) (t : Side) → Few t → Few (begin T i root up ws keep t)
  unfolding opened
  few-begin T i root up ws keep t is =
      let j : ℕ = t.next_job in
      let ks : List KeyName = region t.caps root in
      few-settled T i j (opened T i root up ws keep t) (in_turn-keeps Few (request_or_adopt T i j) (λ k u few. few-asks_for T i j k u few)
      (children_of t.caps ks) (unbind_all ks (mark_all ks j (job_opened root up ws keep t))) is)

  -- Refusals.

  pub few-refused : (number w : ℕ) (t : Side) → Few t → Few (call_refused number w t)
  few-refused number w t is = few-ready number w (promise_freed (parked t w) w t) (from (parked t w))
    where
      from : (p : Option Parked) → Few (promise_freed p w t)
      from None = is
      from (Some (ObtainWait n sel)) = is
      from (Some (ObtainReady key parent object sel)) = is
      from (Some ObtainCancelled) = is
      from (Some (DelegateWait parent)) = is
      from (Some (DelegateReady parent key)) = is
      from (Some (RevokeWait j)) = is
      from (Some (Ready code)) = is

  pub few-ask_refused : (T : Setup) (i : ℕ) (code : Code) (a : Ask) (t : Side) → Few t → Few (ask_refused T i code a t)
  few-ask_refused T i code a t is = cond_both (kernel_of T (asker a) == i) (call_refused (code_number code) (asker a) t) (refusal_sent T code a t) Few
      (λ _. few-refused (code_number code) (asker a) t is) (λ _. from a)
    where
      from : (b : Ask) → Few (refusal_sent T code b t)
      from (ObtainAsk place target) = few-send (place_owner T place) (ObtainNo place (code_number code)) t refl is
      from (DelegateAsk parent object sel) = few-send (owner_of T parent) (DelegateNo parent (code_number code)) t refl is

  -- The end of a VPE.

  -- what its call owes comes in for the call
  few-owed : (T : Setup) (p : Option Parked) (u : ℕ) (t : Side) → of_side k0 t + of_parked k0 p ≤ m → Few (call_ended T p u t)
  few-owed T (Some (DelegateReady parent key)) u t is = let sum = side-send k0 t (owner_of T key) (Ack key false) in omega (arith, sum, is)
  few-owed T (Some (ObtainReady key parent object sel)) u t is = few-send (owner_of T parent) (Orphan parent key) t refl (let few : of_side k0 t + 0 ≤ m = is in
      omega (arith, few))
  few-owed T None u t is = let few : of_side k0 t + 0 ≤ m = is in omega (arith, few)
  few-owed T (Some (ObtainWait number sel)) u t is = let few : of_side k0 t + 0 ≤ m = is in omega (arith, few)
  few-owed T (Some ObtainCancelled) u t is = let few : of_side k0 t + 0 ≤ m = is in omega (arith, few)
  few-owed T (Some (DelegateWait parent)) u t is = let few : of_side k0 t + 0 ≤ m = is in omega (arith, few)
  few-owed T (Some (RevokeWait j)) u t is = let few : of_side k0 t + 0 ≤ m = is in omega (arith, few)
  few-owed T (Some (Ready code)) u t is = let few : of_side k0 t + 0 ≤ m = is in omega (arith, few)

  few-left_over : (T : Setup) (i : ℕ) (k : KeyName) (t : Side) → Few t → Few (revoked_if_left T i k t)
  few-left_over T i k t is = by_cap (cap t k)
    where
      by_cap : (o : Option Capability) → Few (revoked_if_there T i k o t)
      by_cap None = is
      by_cap (Some c) = option-keeps Few (λ (n : ℕ). t) c.mark (begin T i k None [] false t) (λ n marked. is) (few-begin T i k None [] false t is)

  pub few-ended : (T : Setup) (i u : ℕ) (t : Side) → Few t → Few (ended T i u t)
  unfolding ended
  few-ended T i u t is =
      let answered : Side = in_turn (ask_ended T i) (row t u).asks (buried u t) in
      let told : Few answered =
      in_turn-keeps Few (ask_ended T i) (λ a s few. cond_both (is_unawaited T i s a) s (ask_refused T i Dead a s) Few (λ _. few)
      (λ _. few-ask_refused T i Dead a s few)) (row t u).asks (buried u t) is in
      let last : Side = call_ended T (parked answered u) u (unparked u answered) in
      let taken = side-unparked k0 answered u in
      in_turn-keeps Few (revoked_if_left T i) (λ k s few. few-left_over T i k s few) (keys_of_vpe last u) last
      (few-owed T (parked answered u) u (unparked u answered) (omega (arith, told, taken)))

  -- A revoke, a clear, and what comes from other kernels.

  pub few-revoked : (T : Setup) (i u : ℕ) (k : KeyName) (o : Option ℕ) (t : Side) → Few t → Few (revoke_begun T i u k o t)
  few-revoked T i u k None t is = few-begin T i k None (u ∷ []) false (parked_as u (RevokeWait t.next_job) t)
      (few-park t u (Some (RevokeWait t.next_job)) refl is)
  few-revoked T i u k (Some j) t is = few-park t u (Some (RevokeWait j)) refl is

  pub few-cleared : (T : Setup) (i u : ℕ) (k : KeyName) (t : Side) → Few t → Few (clear_begun T i u k t)
  few-cleared T i u k t is = few-begin T i k None (u ∷ []) true (parked_as u (RevokeWait t.next_job) t) (few-park t u (Some (RevokeWait t.next_job)) refl is)

  pub few-requested : (T : Setup) (i from j : ℕ) (k : KeyName) (o : Option Capability) (t : Side) → Few t → Few (revoke_requested T i from j k o t)
  few-requested T i from j k None t is =
      few-send from (RevokeDone j) (obtain_cancelled k t) refl
      (cond_both (is_ready_with k (parked t k.vpe)) (parked_as k.vpe ObtainCancelled (ready_freed (parked t k.vpe) k.vpe t)) t Few
      (λ _. few-park (ready_freed (parked t k.vpe) k.vpe t) k.vpe (Some ObtainCancelled) refl (free (parked t k.vpe))) (λ _. is))
    where
      free : (p : Option Parked) → Few (ready_freed p k.vpe t)
      free None = is
      free (Some (ObtainReady key parent object sel)) = is
      free (Some (ObtainWait number sel)) = is
      free (Some ObtainCancelled) = is
      free (Some (DelegateWait parent)) = is
      free (Some (DelegateReady parent key)) = is
      free (Some (RevokeWait n)) = is
      free (Some (Ready code)) = is
  few-requested T i from j k (Some c) t is = by_mark c.mark
    where
      by_mark : (o : Option ℕ) → Few (request_begun T i from j k o t)
      by_mark None = few-begin T i k (Some (Remote from j)) [] false t is
      by_mark (Some n) = is

  pub few-done : (T : Setup) (i j : ℕ) (t : Side) → Few t → Few (revoke_done T i j t)
  few-done T i j t is = by_job (job t j)
    where
      by_job : (o : Option JobRow) → Few (settled_if_there T i j o t)
      by_job None = is
      by_job (Some x) = few-settled T i j (count_lowered j t) is
