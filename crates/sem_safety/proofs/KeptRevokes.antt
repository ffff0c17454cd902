-- What a revoke does keeps a layer.
use Rattle.std.proofs.Common.{Bool, true, false, refl, ◌≡◌, ℕ, zero, suc, ◌+◌, ◌-◌, List, [], ◌∷◌, length, Option, Some, None, refl}
use Rattle.std.specs.List.{filter}
use Rattle.std.proofs.lemmas.Bool.{cond_both}
use Rattle.sem_key.specs.declared.object.Object.{Object}
use Rattle.sem_key.specs.KeyName.{KeyName}
use Rattle.sem_key.specs.Capability.{Capability}
use Rattle.sem_key.specs.CapList.{is_marked_by, restored}
use Rattle.sem_msg.specs.declared.message.Message.TheVariants.{RevokeReq, RevokeDone, Unlink}
use Rattle.sem_msg.specs.declared.state.Parked.{Parked}
use Rattle.sem_msg.specs.declared.state.Parked.TheVariants.{ObtainWait, ObtainReady, ObtainCancelled, DelegateWait, DelegateReady, RevokeWait, Ready}
use Rattle.sem_msg.specs.declared.state.Slot.TheVariants.{Free, Held}
use Rattle.sem_msg.specs.declared.state.Up.{Up}
use Rattle.sem_msg.specs.declared.state.Up.TheVariants.{Local, Remote}
use Rattle.sem_msg.specs.Rows.{JobRow}
use Rattle.sem_msg.specs.Setup.{Setup}
use Rattle.sem_msg.specs.Lookups.{owner_of, is_local}
use Rattle.sem_msg.specs.JobRows.{with_number, if_done, next_done}
use Rattle.sem_msg.specs.Codes.{code_number}
use Rattle.sem_msg.specs.VpeRows
use Rattle.sem_msg.specs.ParkedStates
use Rattle.sem_msg.specs.ParkedStates.{is_ready_with}
use Rattle.sem_msg.specs.declared.code.Code.TheVariants.{Ok as OkCode}
use Rattle.sem_machine.specs.Sides.{Side, cap, job, parked, freed, ready, parked_as, installed, cap_added, unlinked, mark_all, unbind_all, job_opened}
use Rattle.sem_machine.specs.Sides.{job_removed, send}
use Rattle.sem_key.specs.Region.{has_key}
use Rattle.sem_key.specs.Region.{region, children_of}
use Rattle.sem_machine.specs.Revokes.{count_raised, count_lowered, with_up, adopted, other_marker, request_or_adopt, selectors_freed, swept, woken, parent_left}
use Rattle.sem_machine.specs.Revokes.{left_parent, root_spared, up_told, closed_here, closed, finish, settled, opened, begin, revoke_begun, clear_begun}
use Rattle.sem_machine.specs.Revokes.{ready_freed, obtain_cancelled, request_begun, revoke_requested, revoke_done}
use Rattle.sem_safety.proofs.Layers.{Facts, IsKept}
use Rattle.sem_machine.proofs.Folds.{in_turn-keeps, in_turn-keeps_each}
use Rattle.sem_machine.proofs.Doomed.{region-doomed, children-doomed}

module _ (F : Facts) (P : Side → Type 0) (L : IsKept F P) where
  -- Small changes.
  pub freed-in : (s : Side) → P s → (v sel : ℕ) → P (freed v sel s)
  freed-in s is v sel = L.keeps_slot s is v sel Free tt

  pub installed-in : (s : Side) → P s → (k : KeyName) (parent : Option KeyName) (sel : ℕ) (object : Object) → F.key k object →
      P (installed k parent sel object s)
  installed-in s is k parent sel object here =
      L.keeps_slot (cap_added (record { key = k; parent = parent; children = []; mark = None; selector = sel; object = object }) s)
      (L.keeps_added s is (record { key = k; parent = parent; children = []; mark = None; selector = sel; object = object }) here refl refl) k.vpe sel
      (Held k) refl

  pub ready-in : (s : Side) → P s → (number v : ℕ) → P (ready number v s)
  ready-in s is number v = L.keeps_parked s is v (Ready number) tt

  -- Closing a job.
  spared-in : (s : Side) → P s → (x : JobRow) → P (root_spared x s)
  spared-in s is x = cond_both x.keep (restored s.caps x.root) s.caps (λ cs. P (record s { caps = cs })) (λ _. L.keeps_restored s is x.root) (λ _. is)

  swept-in : (s : Side) → P s → (x : JobRow) → P (swept x s)
  swept-in s is x =
      let t : Side = root_spared x s in
      L.keeps_removed (selectors_freed x.id t)
      (in_turn-keeps (λ rows. P (record t { vpes = rows })) (λ (c : Capability) rows. VpeRows.freed c.key.vpe c.selector rows)
      (λ c rows here. freed-in (record t { vpes = rows }) here c.key.vpe c.selector) (filter (is_marked_by x.id) t.caps) t.vpes (spared-in s is x)) x.id

  woken-in : (vs : List ℕ) (s : Side) → P s → P (woken vs s)
  woken-in vs s is = in_turn-keeps (λ parks. P (record s { parks = parks })) (λ v parks. ParkedStates.parked_as parks v (Ready (code_number OkCode)))
      (λ v parks here. ready-in (record s { parks = parks }) here (code_number OkCode) v) vs s.parks is

  -- the parent of a root is left; the job is given by its parts
  left-in : (T : Setup) (i id count : ℕ) (root : KeyName) (up : Option Up) (waiters : List ℕ) (keep : Bool) (o : Option KeyName) (s : Side) → P s →
      P (parent_left T i (record { id = id; root = root; up = up; waiters = waiters; count = count; keep = keep }) o s)
  left-in T i id count root up waiters keep None s is = is
  left-in T i id count root (Some (Remote kernel j)) waiters keep (Some p) s is =
      cond_both (is_local T i p) (unlinked p root s) s P (λ _. L.keeps_unlinked s is p root) (λ _. is)
  left-in T i id count root (Some (Local j)) waiters keep (Some p) s is =
      cond_both (is_local T i p) (unlinked p root s) (send (owner_of T p) (Unlink p root) s) P (λ _. L.keeps_unlinked s is p root)
      (λ _. L.keeps_send s is (owner_of T p) (Unlink p root) tt)
  left-in T i id count root None waiters keep (Some p) s is = cond_both (is_local T i p) (unlinked p root s) (send (owner_of T p) (Unlink p root) s) P
      (λ _. L.keeps_unlinked s is p root) (λ _. L.keeps_send s is (owner_of T p) (Unlink p root) tt)

  told-in : (up : Option Up) (s : Side) → P s → P (up_told up s)
  told-in None s is = is
  told-in (Some (Local j)) s is = L.keeps_changed s is j (λ x. record x { count = x.count - 1 }) (λ x. (refl, refl))
  told-in (Some (Remote kernel j)) s is = L.keeps_send s is kernel (RevokeDone j) tt

  closed_here-in : (T : Setup) (i : ℕ) (x : JobRow) (s : Side) → P s → P (closed_here T i x s)
  unfolding closed_here
  closed_here-in T i x s is = left-in T i x.id x.count x.root x.up x.waiters x.keep (left_parent s x) (woken x.waiters (swept x s))
      (woken-in x.waiters (swept x s) (swept-in s is x))

  pub closed-in : (T : Setup) (i : ℕ) (x : JobRow) (s : Side) → P s → P (closed T i x s)
  closed-in T i x s is = told-in x.up (closed_here T i x (job_removed x.id s)) (closed_here-in T i x (job_removed x.id s) (L.keeps_closed s is x.id))

  pub finish-in : (T : Setup) (i n : ℕ) (o : Option JobRow) (s : Side) → P s → P (finish T i n o s)
  unfolding finish
  finish-in T i zero o s is = is
  finish-in T i (suc n) None s is = is
  finish-in T i (suc n) (Some x) s is = finish-in T i n (next_done x.up (closed T i x s).jobs) (closed T i x s) (closed-in T i x s is)

  pub settled-in : (T : Setup) (i j : ℕ) (s : Side) → P s → P (settled T i j s)
  settled-in T i j s is = finish-in T i (length s.jobs) (if_done (job s j)) s is

  -- Beginning a job.
  raised-in : (j : ℕ) (s : Side) → P s → P (count_raised j s)
  raised-in j s is = L.keeps_changed s is j (λ x. record x { count = x.count + 1 }) (λ x. (refl, refl))

  pub adopted-in : (j : ℕ) (o : Option ℕ) (s : Side) → P s → P (adopted j o s)
  adopted-in j None s is = is
  adopted-in j (Some m) s is =
      raised-in j (with_up (Local j) m s) (L.keeps_changed s is m (λ x. record x { up = Some (Local j); keep = false }) (λ x. (refl, refl)))

  pub request-in : (T : Setup) (i j : ℕ) (k : KeyName) (s : Side) → P s → F.doomed k → P (request_or_adopt T i j k s)
  request-in T i j k s is doomed = cond_both (is_local T i k) (adopted j (other_marker j (cap s k)) s) (count_raised j (send (owner_of T k) (RevokeReq k j) s))
      P (λ _. adopted-in j (other_marker j (cap s k)) s is)
      (λ _. raised-in j (send (owner_of T k) (RevokeReq k j) s) (L.keeps_send s is (owner_of T k) (RevokeReq k j) doomed))

  pub opened-in : (T : Setup) (i : ℕ) (root : KeyName) (up : Option Up) (waiters : List ℕ) (keep : Bool) (s : Side) → P s → F.doomed root →
      P (opened T i root up waiters keep s)
  unfolding opened
  opened-in T i root up waiters keep s is doomed =
      let j : ℕ = s.next_job in
      let ks : List KeyName = region s.caps root in
      let marks : (k : KeyName) → has_key ks k ≡ true → F.doomed k = region-doomed F.link F.doomed L.spreads s.caps (L.of_link s is) root doomed in
      let opened : P (job_opened root up waiters keep s) = L.keeps_opened s is root up waiters keep in
      let unbound : P (unbind_all ks (mark_all ks j (job_opened root up waiters keep s))) =
      L.keeps_marked (job_opened root up waiters keep s) opened ks j marks in
      in_turn-keeps_each P (request_or_adopt T i j) (children_of s.caps ks)
      (λ k among t here. request-in T i j k t here (children-doomed F.link F.doomed L.spreads s.caps (L.of_link s is) ks marks k among))
      (unbind_all ks (mark_all ks j (job_opened root up waiters keep s))) unbound

  pub begin-in : (T : Setup) (i : ℕ) (root : KeyName) (up : Option Up) (waiters : List ℕ) (keep : Bool) (s : Side) → P s → F.doomed root →
      P (begin T i root up waiters keep s)
  begin-in T i root up waiters keep s is doomed = settled-in T i s.next_job (opened T i root up waiters keep s) (opened-in T i root up waiters keep s is doomed)

  pub begun-in : (T : Setup) (i v : ℕ) (k : KeyName) (mark : Option ℕ) (s : Side) → P s → F.doomed k → P (revoke_begun T i v k mark s)
  begun-in T i v k None s is doomed = begin-in T i k None (v ∷ []) false (parked_as v (RevokeWait s.next_job) s)
      (L.keeps_parked s is v (RevokeWait s.next_job) tt) doomed
  begun-in T i v k (Some j) s is doomed = L.keeps_changed (parked_as v (RevokeWait j) s) (L.keeps_parked s is v (RevokeWait j) tt) j
      (λ x. record x { waiters = with_number x.waiters v }) (λ x. (refl, refl))

  pub cleared-in : (T : Setup) (i v : ℕ) (k : KeyName) (s : Side) → P s → F.doomed k → P (clear_begun T i v k s)
  cleared-in T i v k s is doomed = begin-in T i k None (v ∷ []) true (parked_as v (RevokeWait s.next_job) s) (L.keeps_parked s is v (RevokeWait s.next_job) tt)
      doomed

  -- A request from another kernel, and a token that came back.
  ready_freed-in : (p : Option Parked) (v : ℕ) (s : Side) → P s → P (ready_freed p v s)
  ready_freed-in None v s is = is
  ready_freed-in (Some (ObtainReady key parent object sel)) v s is = freed-in s is v sel
  ready_freed-in (Some (ObtainWait number sel)) v s is = is
  ready_freed-in (Some ObtainCancelled) v s is = is
  ready_freed-in (Some (DelegateWait parent)) v s is = is
  ready_freed-in (Some (DelegateReady parent key)) v s is = is
  ready_freed-in (Some (RevokeWait j)) v s is = is
  ready_freed-in (Some (Ready code)) v s is = is

  cancelled-in : (k : KeyName) (s : Side) → P s → P (obtain_cancelled k s)
  cancelled-in k s is =
      cond_both (is_ready_with k (parked s k.vpe)) _ s P
      (λ _. L.keeps_parked (ready_freed (parked s k.vpe) k.vpe s) (ready_freed-in (parked s k.vpe) k.vpe s is) k.vpe ObtainCancelled tt) (λ _. is)

  request_begun-in : (T : Setup) (i from j : ℕ) (k : KeyName) (mark : Option ℕ) (s : Side) → P s → F.doomed k → P (request_begun T i from j k mark s)
  request_begun-in T i from j k None s is doomed = begin-in T i k (Some (Remote from j)) [] false s is doomed
  request_begun-in T i from j k (Some m) s is doomed = L.keeps_changed s is m (λ x. record x { up = Some (Remote from j); keep = false }) (λ x. (refl, refl))

  pub requested-in : (T : Setup) (i from j : ℕ) (k : KeyName) (o : Option Capability) (s : Side) → P s → F.doomed k → P (revoke_requested T i from j k o s)
  requested-in T i from j k (Some c) s is doomed = request_begun-in T i from j k c.mark s is doomed
  requested-in T i from j k None s is doomed = L.keeps_send (obtain_cancelled k s) (cancelled-in k s is) from (RevokeDone j) tt

  -- the job settled, if it is there
  abbrev settled_if_there : Setup → ℕ → ℕ → Option JobRow → Side → Side
  settled_if_there T i j None s = s
  settled_if_there T i j (Some x) s = settled T i j (count_lowered j s)

  settled_if_there-in : (T : Setup) (i j : ℕ) (o : Option JobRow) (s : Side) → P s → P (settled_if_there T i j o s)
  settled_if_there-in T i j None s is = is
  settled_if_there-in T i j (Some x) s is =
      settled-in T i j (count_lowered j s) (L.keeps_changed s is j (λ x. record x { count = x.count - 1 }) (λ x. (refl, refl)))

  pub done-in : (T : Setup) (i j : ℕ) (s : Side) → P s → P (revoke_done T i j s)
  done-in T i j s is = settled_if_there-in T i j (job s j) s is
