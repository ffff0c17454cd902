-- One exchange at a time: what revokes, and the ends of VPEs, do to what is under way for a VPE.
use Rattle.std.proofs.Common.{◌≡◌, ℕ, zero, suc, ◌+◌, ◌-◌, ◌≤◌, Bool, true, false, List, [], ◌∷◌, length, Option, Some, None, refl, ap, ◌∙◌, arith}
use Rattle.std.specs.Prelude.{◌==◌, if◌then◌else◌}
use Rattle.std.specs.List.{Contains, sum_by}
use Rattle.std.specs.Option.{option_map_or}
use Rattle.std.proofs.lemmas.Bool.{cond_both, false_from_ne_true}
use Rattle.std.proofs.lemmas.List.Sums.{sum_by-cons}
use Rattle.sem_key.specs.KeyName.{KeyName}
use Rattle.sem_key.specs.Lists.{in_turn}
use Rattle.sem_key.specs.Capability.{Capability}
use Rattle.sem_key.specs.CapList.{marked_by}
use Rattle.sem_msg.specs.declared.message.Message.TheVariants.{ObtainNo, DelegateNo, Ack, Orphan, RevokeReq, RevokeDone, Unlink}
use Rattle.sem_msg.specs.declared.state.Ask.{Ask}
use Rattle.sem_msg.specs.declared.state.Ask.TheVariants.{Obtain as ObtainAsk, Delegate as DelegateAsk}
use Rattle.sem_msg.specs.declared.state.Parked.{Parked}
use Rattle.sem_msg.specs.declared.state.Parked.TheVariants.{ObtainWait, ObtainReady, ObtainCancelled, DelegateWait, DelegateReady, RevokeWait, Ready}
use Rattle.sem_msg.specs.declared.state.Slot.TheVariants.{Free}
use Rattle.sem_msg.specs.declared.state.Up.{Up}
use Rattle.sem_msg.specs.declared.state.Up.TheVariants.{Local, Remote}
use Rattle.sem_msg.specs.Rows.{JobRow, VpeRow, no_vpe}
use Rattle.sem_msg.specs.ParkedStates.{is_ready_with}
use Rattle.sem_msg.specs.VpeRows
use Rattle.sem_msg.specs.Setup.{Setup}
use Rattle.sem_msg.specs.Lookups.{kernel_of, owner_of, place_owner, is_local}
use Rattle.sem_msg.specs.declared.code.Code.{Code}
use Rattle.sem_msg.specs.declared.code.Code.TheVariants.{Ok as OkCode, Dead}
use Rattle.sem_msg.specs.JobRows.{if_done, next_done}
use Rattle.sem_msg.specs.Codes.{code_number}
use Rattle.sem_machine.specs.Sides.{Side, job_removed, ready, row, cap, job, parked, freed, parked_as, unparked, buried, unlinked, mark_all, unbind_all}
use Rattle.sem_machine.specs.Sides.{job_opened, send}
use Rattle.sem_machine.specs.Asks.{asker, is_unawaited, promise_freed, call_refused, refusal_sent, ask_refused}
use Rattle.sem_key.specs.Region.{region, children_of}
use Rattle.sem_machine.specs.Revokes.{count_raised, count_lowered, with_up, other_marker, adopted, request_or_adopt, root_spared, swept, woken, parent_left}
use Rattle.sem_machine.specs.Revokes.{left_parent, up_told, closed_here, closed, finish, settled, opened, begin, clear_begun, revoke_begun, ready_freed}
use Rattle.sem_machine.specs.Revokes.{obtain_cancelled, request_begun, revoke_requested, revoke_done}
use Rattle.sem_machine.specs.Ends.{ask_ended, call_ended, revoked_if_left, keys_of_vpe, ended}
use Rattle.sem_key.proofs.Puts.{get_or-put_same}
use Rattle.sem_safety.specs.Onward.{IsOnward}
use Rattle.sem_safety.proofs.GoingOn.{AnyVpe}
use Rattle.sem_safety.proofs.KeptRows.{ask_ended-in}
use Rattle.sem_safety.proofs.Layers.{facts}
use Rattle.sem_machine.proofs.Folds.{in_turn-keeps}
use Rattle.sem_safety.proofs.Onwards.{Any, AnyPlace, onward-same, onward}
use Rattle.sem_safety.proofs.JobIds.{IdsRise, done-among, next-among}
use Rattle.sem_safety.proofs.AskWeights.{waits, here, of_ask, of_side, free_at, side-slot, parked-costs, side-waiting, side-same, side-unparked_dead}
use Rattle.sem_safety.proofs.AskWeights.{side-buried, side-marked, side-send, side-opened, side-changed, side-waiter, side-left, side-closed, id-weighs}

module _ (v0 : ℕ) where
  -- no more than m
  abbrev Bounded : ℕ → Side → Type 0
  Bounded m t = of_side v0 t ≤ m

  swept-bounded : (x : JobRow) (s : Side) → Bounded (of_side v0 s) (swept x s)
  swept-bounded x s = in_turn-keeps (λ rows. Bounded (of_side v0 s) (record s { vpes = rows }))
      (λ (c : Capability) rows. VpeRows.freed c.key.vpe c.selector rows) (λ c rows is. let less =
      side-slot v0 (record s { vpes = rows }) c.key.vpe c.selector Free in omega (arith, less, is)) (marked_by x.id (root_spared x s).caps) s.vpes (omega arith)

  woken-bounded : (vs : List ℕ) (t : Side) → Bounded (of_side v0 t + sum_by (here v0) vs) (woken vs t)
  unfolding in_turn
  woken-bounded [] t = omega arith
  woken-bounded (v ∷ vs) t =
      let light : of_side v0 (woken (v ∷ vs) t) ≤ of_side v0 (ready (code_number OkCode) v t) + sum_by (here v0) vs =
      woken-bounded vs (ready (code_number OkCode) v t) in
      let one = parked-costs v0 t v (Ready (code_number OkCode)) in
      let all = sum_by-cons (here v0) v vs in
      omega (arith, light, one, all)

  left-bounded : (T : Setup) (i id count : ℕ) (root : KeyName) (up : Option Up) (waiters : List ℕ) (keep : Bool) (o : Option KeyName) (t : Side) →
      Bounded (of_side v0 t) (parent_left T i (record { id = id; root = root; up = up; waiters = waiters; count = count; keep = keep }) o t)
  left-bounded T i id count root up waiters keep None t = omega arith
  left-bounded T i id count root None waiters keep (Some p) t = cond_both (is_local T i p) (unlinked p root t) (send (owner_of T p) (Unlink p root) t)
      (Bounded (of_side v0 t)) (λ _. omega arith) (λ _. let more : of_side v0 (send (owner_of T p) (Unlink p root) t) ≡ of_side v0 t + 0 =
      side-send v0 t (owner_of T p) (Unlink p root) in omega (arith, more))
  left-bounded T i id count root (Some (Local j)) waiters keep (Some p) t =
      cond_both (is_local T i p) (unlinked p root t) (send (owner_of T p) (Unlink p root) t) (Bounded (of_side v0 t)) (λ _. omega arith)
      (λ _. let more : of_side v0 (send (owner_of T p) (Unlink p root) t) ≡ of_side v0 t + 0 = side-send v0 t (owner_of T p) (Unlink p root) in
      omega (arith, more))
  left-bounded T i id count root (Some (Remote kernel j)) waiters keep (Some p) t = cond_both (is_local T i p) (unlinked p root t) t (Bounded (of_side v0 t))
      (λ _. omega arith) (λ _. omega arith)

  told-bounded : (up : Option Up) (t : Side) → of_side v0 (up_told up t) ≤ of_side v0 t
  told-bounded None t = omega arith
  told-bounded (Some (Local j)) t = let less = side-changed v0 t j (λ x. record x { count = x.count - 1 }) (λ x. refl) in omega (arith, less)
  told-bounded (Some (Remote kernel j)) t = let more : of_side v0 (send kernel (RevokeDone j) t) ≡ of_side v0 t + 0 = side-send v0 t kernel (RevokeDone j) in
      omega (arith, more)

  closed-fewer : (T : Setup) (i : ℕ) (x : JobRow) (s : Side) → Contains s.jobs x → of_side v0 (closed T i x s) ≤ of_side v0 s
  unfolding closed_here
  closed-fewer T i x s among =
      let r : Side = job_removed x.id s in
      let a : Side = swept x r in
      let b : Side = woken x.waiters a in
      let c : Side = parent_left T i x (left_parent r x) b in
      let out = side-closed v0 s x.id in
      let w1 = swept-bounded x r in
      let w2 = woken-bounded x.waiters a in
      let w3 = left-bounded T i x.id x.count x.root x.up x.waiters x.keep (left_parent r x) b in
      let w4 = told-bounded x.up c in
      let pays = id-weighs v0 s.jobs x among in
      omega (arith, w1, w2, w3, w4, out, pays)

  finish-fewer : (T : Setup) (i n : ℕ) (o : Option JobRow) (s : Side) → ((x : JobRow) → o ≡ Some x → Contains s.jobs x) →
      of_side v0 (finish T i n o s) ≤ of_side v0 s
  unfolding finish
  finish-fewer T i zero o s among = omega arith
  finish-fewer T i (suc n) None s among = omega arith
  finish-fewer T i (suc n) (Some x) s among =
      let s2 : Side = closed T i x s in
      let first = closed-fewer T i x s (among x refl) in
      let rest = finish-fewer T i n (next_done x.up s2.jobs) s2 (λ y next. next-among x.up s2 y next) in
      omega (arith, first, rest)

  settled-fewer : (T : Setup) (i j : ℕ) (s : Side) → of_side v0 (settled T i j s) ≤ of_side v0 s
  settled-fewer T i j s = finish-fewer T i (length s.jobs) (if_done (job s j)) s (λ x done. done-among s j x done)

  adopted-same : (j : ℕ) (o : Option ℕ) (t : Side) → of_side v0 (adopted j o t) ≡ of_side v0 t
  adopted-same j None t = refl
  adopted-same j (Some m) t =
      let up = side-changed v0 t m (λ x. record x { up = Some (Local j); keep = false }) (λ x. refl) in
      let count = side-changed v0 (with_up (Local j) m t) j (λ x. record x { count = x.count + 1 }) (λ x. refl) in
      omega (arith, up, count)

  request-same : (T : Setup) (i j : ℕ) (k : KeyName) (t : Side) → of_side v0 (request_or_adopt T i j k t) ≡ of_side v0 t
  request-same T i j k t =
      cond_both (is_local T i k) (adopted j (other_marker j (cap t k)) t) (count_raised j (send (owner_of T k) (RevokeReq k j) t)) (λ u. of_side v0 u
      ≡ of_side v0 t)
      (λ _. adopted-same j (other_marker j (cap t k)) t)
      (λ _.
      let more : of_side v0 (send (owner_of T k) (RevokeReq k j) t) ≡ of_side v0 t + 0 = side-send v0 t (owner_of T k) (RevokeReq k j) in
      let count = side-changed v0 (send (owner_of T k) (RevokeReq k j) t) j (λ x. record x { count = x.count + 1 }) (λ x. refl) in
      omega (arith, more, count))

  pub begin-costs : (T : Setup) (i : ℕ) (root : KeyName) (up : Option Up) (waiters : List ℕ) (keep : Bool) (s : Side) →
      of_side v0 (begin T i root up waiters keep s) ≤ of_side v0 s + sum_by (here v0) waiters
  unfolding opened
  begin-costs T i root up waiters keep s =
      let j : ℕ = s.next_job in
      let ks : List KeyName = region s.caps root in
      let children : List KeyName = children_of s.caps ks in
      let with_job : Side = job_opened root up waiters keep s in
      let marked : Side = unbind_all ks (mark_all ks j with_job) in
      let asked : Side = in_turn (request_or_adopt T i j) children marked in
      let one = side-opened v0 s root up waiters keep in
      let two = side-marked v0 with_job ks j in
      let m : ℕ = of_side v0 marked in
      let three : of_side v0 asked ≡ m = in_turn-keeps (λ t. of_side v0 t ≡ m) (request_or_adopt T i j) (λ k t is. request-same T i j k t
      ∙ is) children marked refl in
      let four = settled-fewer T i j asked in
      omega (arith, one, two, three, four)

  -- a VPE that may call begins to wait
  pub cleared-costs : (T : Setup) (i v : ℕ) (k : KeyName) (s : Side) → free_at v0 v (row s v) (parked s v) ≡ here v0 v →
      of_side v0 (clear_begun T i v k s) ≤ of_side v0 s
  cleared-costs T i v k s may =
      let waiting : Side = parked_as v (RevokeWait s.next_job) s in
      let park = side-waiting v0 s v (RevokeWait s.next_job) refl in
      let begins = begin-costs T i k None (v ∷ []) true waiting in
      let one = sum_by-cons (here v0) v [] in
      let none : sum_by (here v0) [] ≡ 0 = refl in
      omega (arith, park, begins, may, one, none)

  pub begun-costs : (T : Setup) (i v : ℕ) (k : KeyName) (mark : Option ℕ) (s : Side) → IdsRise s.jobs → free_at v0 v (row s v) (parked s v) ≡ here v0 v →
      of_side v0 (revoke_begun T i v k mark s) ≤ of_side v0 s
  begun-costs T i v k None s rise may =
      let waiting : Side = parked_as v (RevokeWait s.next_job) s in
      let park = side-waiting v0 s v (RevokeWait s.next_job) refl in
      let begins = begin-costs T i k None (v ∷ []) false waiting in
      let one = sum_by-cons (here v0) v [] in
      let none : sum_by (here v0) [] ≡ 0 = refl in
      omega (arith, park, begins, may, one, none)
  begun-costs T i v k (Some j) s rise may =
      let waiting : Side = parked_as v (RevokeWait j) s in
      let park = side-waiting v0 s v (RevokeWait j) refl in
      let more = side-waiter v0 waiting v j rise in
      omega (arith, park, more, may)

  cancelled-same : (k : KeyName) (s : Side) → of_side v0 (obtain_cancelled k s) ≤ of_side v0 s
  cancelled-same k s = from (parked s k.vpe) refl
    where
      from : (p : Option Parked) → parked s k.vpe ≡ p →
          of_side v0 (if is_ready_with k p then parked_as k.vpe ObtainCancelled (ready_freed p k.vpe s) else s) ≤ of_side v0 s
      from None at = omega arith
      from (Some (ObtainReady key parent object sel)) at =
          let t : Side = freed k.vpe sel s in
          cond_both (is_ready_with k (Some (ObtainReady key parent object sel))) (parked_as k.vpe ObtainCancelled t) s (λ u. of_side v0 u ≤ of_side v0 s)
          (λ _. let one = side-same v0 t k.vpe ObtainCancelled (ap waits at) refl in let two = side-slot v0 s k.vpe sel Free in omega (arith, one, two))
          (λ _. omega arith)
      from (Some (ObtainWait number sel)) at = omega arith
      from (Some ObtainCancelled) at = omega arith
      from (Some (DelegateWait parent)) at = omega arith
      from (Some (DelegateReady parent key)) at = omega arith
      from (Some (RevokeWait j)) at = omega arith
      from (Some (Ready code)) at = omega arith

  request_begun-fewer : (T : Setup) (i from j : ℕ) (k : KeyName) (mark : Option ℕ) (s : Side) → of_side v0 (request_begun T i from j k mark s) ≤ of_side v0 s
  request_begun-fewer T i from j k None s = let begins = begin-costs T i k (Some (Remote from j)) [] false s in let none : sum_by (here v0) [] ≡ 0 = refl in
      omega (arith, begins, none)
  request_begun-fewer T i from j k (Some m) s = let same = side-changed v0 s m (λ x. record x { up = Some (Remote from j); keep = false }) (λ x. refl) in
      omega (arith, same)

  pub requested-fewer : (T : Setup) (i from j : ℕ) (k : KeyName) (o : Option Capability) (s : Side) →
      of_side v0 (revoke_requested T i from j k o s) ≤ of_side v0 s
  requested-fewer T i from j k (Some c) s = request_begun-fewer T i from j k c.mark s
  requested-fewer T i from j k None s =
      let more : of_side v0 (send from (RevokeDone j) (obtain_cancelled k s)) ≡ of_side v0 (obtain_cancelled k s) + 0 =
      side-send v0 (obtain_cancelled k s) from (RevokeDone j) in
      let less = cancelled-same k s in
      omega (arith, more, less)

  pub done-fewer : (T : Setup) (i j : ℕ) (s : Side) → of_side v0 (revoke_done T i j s) ≤ of_side v0 s
  done-fewer T i j s = from (job s j) s
    where
      settled_if_there : Setup → ℕ → ℕ → Option JobRow → Side → Side
      settled_if_there T i j None s = s
      settled_if_there T i j (Some x) s = settled T i j (count_lowered j s)

      from : (o : Option JobRow) (s : Side) → of_side v0 (settled_if_there T i j o s) ≤ of_side v0 s
      from None s = omega arith
      from (Some x) s =
          let count = side-changed v0 s j (λ y. record y { count = y.count - 1 }) (λ y. refl) in
          let rest = settled-fewer T i j (count_lowered j s) in
          omega (arith, count, rest)

  -- A refused ask costs what it weighed.
  promise-same : (p : Option Parked) (v : ℕ) (s : Side) → of_side v0 (promise_freed p v s) ≡ of_side v0 s
  promise-same None v s = refl
  promise-same (Some (ObtainWait number sel)) v s = side-slot v0 s v sel Free
  promise-same (Some (ObtainReady key parent object sel)) v s = refl
  promise-same (Some ObtainCancelled) v s = refl
  promise-same (Some (DelegateWait parent)) v s = refl
  promise-same (Some (DelegateReady parent key)) v s = refl
  promise-same (Some (RevokeWait j)) v s = refl
  promise-same (Some (Ready code)) v s = refl

  pub call_refused-costs : (code v : ℕ) (s : Side) → of_side v0 (call_refused code v s) ≤ of_side v0 s + here v0 v
  call_refused-costs code v s =
      let t : Side = promise_freed (parked s v) v s in
      let same = promise-same (parked s v) v s in
      let more = parked-costs v0 t v (Ready code) in
      omega (arith, same, more)

  refusal-costs : (T : Setup) (code : Code) (a : Ask) (s : Side) → of_side v0 (refusal_sent T code a s) ≤ of_side v0 s + of_ask v0 a
  refusal-costs T code (ObtainAsk place target) s = let more : of_side v0 (send (place_owner T place) (ObtainNo place (code_number code)) s)
      ≡ of_side v0 s + here v0 place.vpe = side-send v0 s (place_owner T place) (ObtainNo place (code_number code)) in omega (arith, more)
  refusal-costs T code (DelegateAsk parent object sel) s = let more : of_side v0 (send (owner_of T parent) (DelegateNo parent (code_number code)) s)
      ≡ of_side v0 s + here v0 parent.vpe = side-send v0 s (owner_of T parent) (DelegateNo parent (code_number code)) in omega (arith, more)

  pub ask_refused-costs : (T : Setup) (i : ℕ) (code : Code) (a : Ask) (s : Side) → of_side v0 (ask_refused T i code a s) ≤ of_side v0 s + of_ask v0 a
  ask_refused-costs T i code a s = cond_both (kernel_of T (asker a) == i) (call_refused (code_number code) (asker a) s) (refusal_sent T code a s)
      (λ u. of_side v0 u ≤ of_side v0 s + of_ask v0 a) (λ _. call_refused-costs (code_number code) (asker a) s) (λ _. refusal-costs T code a s)

  ask_ended-costs : (T : Setup) (i : ℕ) (a : Ask) (s : Side) → of_side v0 (ask_ended T i a s) ≤ of_side v0 s + of_ask v0 a
  ask_ended-costs T i a s = cond_both (is_unawaited T i s a) s (ask_refused T i Dead a s) (λ u. of_side v0 u ≤ of_side v0 s + of_ask v0 a) (λ _. omega arith)
      (λ _. ask_refused-costs T i Dead a s)

  asks_ended-cost : (T : Setup) (i : ℕ) (asks : List Ask) (s : Side) → of_side v0 (in_turn (ask_ended T i) asks s) ≤ of_side v0 s + sum_by (of_ask v0) asks
  unfolding in_turn
  asks_ended-cost T i [] s = omega arith
  asks_ended-cost T i (a ∷ asks) s =
      let rest = asks_ended-cost T i asks (ask_ended T i a s) in
      let one = ask_ended-costs T i a s in
      let all = sum_by-cons (of_ask v0) a asks in
      omega (arith, rest, one, all)

  call_ended-fewer : (T : Setup) (p : Option Parked) (v : ℕ) (s : Side) → of_side v0 (call_ended T p v s) ≤ of_side v0 s
  call_ended-fewer T None v s = omega arith
  call_ended-fewer T (Some (ObtainWait number sel)) v s = omega arith
  call_ended-fewer T (Some (ObtainReady key parent object sel)) v s = let more : of_side v0 (send (owner_of T parent) (Orphan parent key) s)
      ≡ of_side v0 s + 0 = side-send v0 s (owner_of T parent) (Orphan parent key) in omega (arith, more)
  call_ended-fewer T (Some ObtainCancelled) v s = omega arith
  call_ended-fewer T (Some (DelegateWait parent)) v s = omega arith
  call_ended-fewer T (Some (DelegateReady parent key)) v s = let more : of_side v0 (send (owner_of T key) (Ack key false) s) ≡ of_side v0 s + 0 =
      side-send v0 s (owner_of T key) (Ack key false) in omega (arith, more)
  call_ended-fewer T (Some (RevokeWait j)) v s = side-left v0 s j v
  call_ended-fewer T (Some (Ready code)) v s = omega arith

  abbrev revoked_if_there : Setup → ℕ → KeyName → Option Capability → Side → Side
  revoked_if_there T i k None s = s
  revoked_if_there T i k (Some c) s = option_map_or (λ m. s) c.mark (begin T i k None [] false s)

  revoked-fewer : (T : Setup) (i : ℕ) (k : KeyName) (o : Option Capability) (s : Side) → of_side v0 (revoked_if_there T i k o s) ≤ of_side v0 s
  revoked-fewer T i k None s = omega arith
  revoked-fewer T i k (Some c) s = by_mark c.mark
    where
      by_mark : (mark : Option ℕ) → of_side v0 (option_map_or (λ n. s) mark (begin T i k None [] false s)) ≤ of_side v0 s
      by_mark (Some n) = omega arith
      by_mark None = let begins = begin-costs T i k None [] false s in let none : sum_by (here v0) [] ≡ 0 = refl in omega (arith, begins, none)

  pub ended-fewer : (T : Setup) (i v : ℕ) (s : Side) → of_side v0 (ended T i v s) ≤ of_side v0 s
  unfolding ended
  ended-fewer T i v s =
      let m : ℕ = of_side v0 s in
      let asks : List Ask = (row s v).asks in
      let answered : Side = in_turn (ask_ended T i) asks (buried v s) in
      let left : Side = call_ended T (parked answered v) v (unparked v answered) in
      let on : IsOnward (buried v s) answered =
      in_turn-keeps (IsOnward (buried v s)) (ask_ended T i) (λ a t is. ask_ended-in (facts Any AnyPlace) AnyVpe (IsOnward (buried v s))
      (onward (buried v s)).kept T i a t is) asks (buried v s) (onward-same (buried v s)) in
      let gone : (row (buried v s) v).alive ≡ false =
      ap (λ (r : VpeRow). r.alive) (get_or-put_same no_vpe s.vpes v (record (row s v) { alive = false; asks = [] })) in
      let dead : (row answered v).alive ≡ false = false_from_ne_true (row answered v).alive (λ lives. let before = on.dead v lives in
      absurd (cc (before, gone))) in
      let one = side-buried v0 s v in
      let two = asks_ended-cost T i asks (buried v s) in
      let three = side-unparked_dead v0 answered v dead in
      let four = call_ended-fewer T (parked answered v) v (unparked v answered) in
      let light : of_side v0 left ≤ m = omega (arith, one, two, three, four) in
      in_turn-keeps (λ t. of_side v0 t ≤ m) (revoked_if_left T i) (λ k t is. let fewer = revoked-fewer T i k (cap t k) t in
      omega (arith, is, fewer)) (keys_of_vpe left v) left light
