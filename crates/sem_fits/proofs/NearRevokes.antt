-- What a revoke does keeps that a side speaks of what a text can speak of.
use Rattle.std.proofs.Common.{Bool, true, false, refl, ◌≡◌, ℕ, zero, suc, List, [], ◌∷◌, length, Option, Some, None, subst, arith}
use Rattle.std.specs.List.{Contains, filter}
use Rattle.std.specs.Option.{option_and_then}
use Rattle.std.proofs.lemmas.List.Elements.{All-contains, All-nil}
use Rattle.sem_key.proofs.KeyTests.{key_eq-true}
use Rattle.sem_key.proofs.Members.{found}
use Rattle.std.proofs.lemmas.Bool.{cond_both}
use Rattle.sem_key.specs.declared.object.Object.{Object}
use Rattle.sem_key.specs.KeyName.{KeyName, key_eq}
use Rattle.sem_key.specs.Capability.{Capability}
use Rattle.sem_key.specs.CapList.{is_marked_by, restored}
use Rattle.sem_msg.specs.declared.message.Message.TheVariants.{RevokeReq, RevokeDone, Unlink}
use Rattle.sem_msg.specs.declared.state.Parked.{Parked}
use Rattle.sem_msg.specs.declared.state.Parked.TheVariants.{ObtainWait, ObtainReady, ObtainCancelled, DelegateWait, DelegateReady, RevokeWait, Ready}
use Rattle.sem_msg.specs.declared.state.Slot.TheVariants.{Free, Held}
use Rattle.sem_msg.specs.declared.state.Up.{Up}
use Rattle.sem_msg.specs.declared.state.Up.TheVariants.{Local, Remote}
use Rattle.sem_msg.specs.Rows.{JobRow}
use Rattle.sem_msg.specs.Setup.{Setup}
use Rattle.sem_msg.specs.Lookups.{owner_of, is_local}
use Rattle.sem_msg.specs.JobRows.{if_done, next_done}
use Rattle.sem_msg.specs.Codes.{code_number}
use Rattle.sem_msg.specs.VpeRows
use Rattle.sem_msg.specs.ParkedStates
use Rattle.sem_msg.specs.ParkedStates.{is_ready_with}
use Rattle.sem_msg.specs.declared.code.Code.TheVariants.{Ok as OkCode}
use Rattle.sem_machine.specs.Sides.{Side, cap, job, parked, freed, ready, parked_as, installed, cap_added, unlinked, mark_all, unbind_all, job_opened}
use Rattle.sem_machine.specs.Sides.{job_removed, send}
use Rattle.sem_key.specs.Region.{has_key}
use Rattle.sem_key.specs.Region.{region, children_of}
use Rattle.sem_machine.specs.Revokes.{count_raised, count_lowered, with_up, adopted, other_marker, request_or_adopt, selectors_freed, swept, woken, parent_left}
use Rattle.sem_machine.specs.Revokes.{left_parent, root_spared, up_told, closed_here, closed, finish, settled, opened, begin, revoke_begun, clear_begun}
use Rattle.sem_machine.specs.Revokes.{ready_freed, obtain_cancelled, request_begun, revoke_requested, revoke_done}
use Rattle.sem_trace.specs.Ranges.{IsKeyInText}
use Rattle.sem_journal.specs.EntryRanges.{IsCode}
use Rattle.sem_fits.proofs.Near.{NearObject, NearParent, NearCap, NearSide, cap-near, with_slot-near, parked_as-near, cap_added-near, unlinked-near}
use Rattle.sem_fits.proofs.Near.{marked-near, restored-near, removed-near, send-near}
use Rattle.sem_machine.proofs.Folds.{in_turn-keeps, in_turn-keeps_each}
use Rattle.sem_machine.proofs.Doomed.{region-doomed, children-doomed}

module _ (version : ℕ) where
  -- Small changes.
  pub freed-in : (s : Side) → NearSide version s → (v sel : ℕ) → NearSide version (freed v sel s)
  freed-in s is v sel = with_slot-near version s is v sel Free

  -- a capability is installed
  pub installed-in : (s : Side) → NearSide version s → (k : KeyName) (parent : Option KeyName) (sel : ℕ) (object : Object) → IsKeyInText version k
      → NearParent version parent → NearObject version object → NearSide version (installed k parent sel object s)
  installed-in s is k parent sel object key above of_object =
      let c : Capability = record { key = k; parent = parent; children = []; mark = None; selector = sel; object = object } in
      with_slot-near version (cap_added c s) (cap_added-near version s is c
      (record { key = key; parent = above; children = All-nil (IsKeyInText version); object = of_object })) k.vpe sel (Held k)

  -- a parked call will end with a code
  pub ready-in : (s : Side) → NearSide version s → (number v : ℕ) → IsCode number → NearSide version (ready number v s)
  ready-in s is number v code = parked_as-near version s is v (Ready number) code

  -- Closing a job.
  spared-in : (s : Side) → NearSide version s → (x : JobRow) → NearSide version (root_spared x s)
  spared-in s is x = cond_both x.keep (restored s.caps x.root) s.caps (λ cs. NearSide version (record s { caps = cs })) (λ _. restored-near version s is x.root)
      (λ _. is)

  -- what a job marked is swept
  swept-in : (s : Side) → NearSide version s → (x : JobRow) → NearSide version (swept x s)
  swept-in s is x =
      let t : Side = root_spared x s in
      removed-near version (selectors_freed x.id t) (in_turn-keeps (λ rows. NearSide version (record t { vpes = rows }))
      (λ (c : Capability) rows. VpeRows.freed c.key.vpe c.selector rows) (λ c rows here. freed-in (record t { vpes = rows }) here c.key.vpe c.selector)
      (filter (is_marked_by x.id) t.caps) t.vpes (spared-in s is x)) x.id

  -- the waiting calls go on
  woken-in : (vs : List ℕ) (s : Side) → NearSide version s → NearSide version (woken vs s)
  woken-in vs s is =
      in_turn-keeps (λ parks. NearSide version (record s { parks = parks })) (λ v parks. ParkedStates.parked_as parks v (Ready (code_number OkCode)))
      (λ v parks here. ready-in (record s { parks = parks }) here (code_number OkCode) v (omega arith)) vs s.parks is

  -- the parent of a root that is left, and the root
  abbrev NearLeft : KeyName → Option KeyName → Type 0
  NearLeft root None = Unit {0}
  NearLeft root (Some p) = IsKeyInText version p × IsKeyInText version root

  -- the parent that a finished job tells of its root
  left_parent-near : (s : Side) → NearSide version s → (x : JobRow) → NearLeft x.root (left_parent s x)
  left_parent-near s is x = cond_both x.keep None (option_and_then (λ c. c.parent) (cap s x.root)) (NearLeft x.root) (λ _. tt) (λ _. from (cap s x.root) refl)
    where
      both : (o : Option KeyName) → NearParent version o → IsKeyInText version x.root → NearLeft x.root o
      both None near root = tt
      both (Some p) near root = (near, root)

      from : (o : Option Capability) → cap s x.root ≡ o → NearLeft x.root (option_and_then (λ c. c.parent) o)
      from None none = tt
      from (Some c) there =
          let near : NearCap version c = cap-near version s is x.root c there in
          both c.parent near.parent (subst (IsKeyInText version) (key_eq-true c.key x.root (found (λ y. key_eq y.key x.root) s.caps c there).1) near.key)

  -- the parent of a root is left; the job is given by its parts
  left-in : (T : Setup) (i id count : ℕ) (root : KeyName) (up : Option Up) (waiters : List ℕ) (keep : Bool)
      (o : Option KeyName) → NearLeft root o → (s : Side) → NearSide version s → NearSide version
      (parent_left T i (record { id = id; root = root; up = up; waiters = waiters; count = count; keep = keep }) o s)
  left-in T i id count root up waiters keep None near s is = is
  left-in T i id count root (Some (Remote kernel j)) waiters keep (Some p) near s is = cond_both (is_local T i p) (unlinked p root s) s (NearSide version)
      (λ _. unlinked-near version s is p root) (λ _. is)
  left-in T i id count root (Some (Local j)) waiters keep (Some p) near s is =
      cond_both (is_local T i p) (unlinked p root s) (send (owner_of T p) (Unlink p root) s)
      (NearSide version) (λ _. unlinked-near version s is p root) (λ _. send-near version s is (owner_of T p) (Unlink p root) near)
  left-in T i id count root None waiters keep (Some p) near s is = cond_both (is_local T i p) (unlinked p root s) (send (owner_of T p) (Unlink p root) s)
      (NearSide version) (λ _. unlinked-near version s is p root) (λ _. send-near version s is (owner_of T p) (Unlink p root) near)

  -- the job that waits is told
  told-in : (up : Option Up) (s : Side) → NearSide version s → NearSide version (up_told up s)
  told-in None s is = is
  told-in (Some (Local j)) s is = is
  told-in (Some (Remote kernel j)) s is = send-near version s is kernel (RevokeDone j) tt

  -- a job is closed, but for who waits for it
  closed_here-in : (T : Setup) (i : ℕ) (x : JobRow) (s : Side) → NearSide version s → NearSide version (closed_here T i x s)
  unfolding closed_here
  closed_here-in T i x s is = left-in T i x.id x.count x.root x.up x.waiters x.keep (left_parent s x) (left_parent-near s is x) (woken x.waiters (swept x s))
      (woken-in x.waiters (swept x s) (swept-in s is x))

  -- a job is closed
  pub closed-in : (T : Setup) (i : ℕ) (x : JobRow) (s : Side) → NearSide version s → NearSide version (closed T i x s)
  closed-in T i x s is = told-in x.up (closed_here T i x (job_removed x.id s)) (closed_here-in T i x (job_removed x.id s) is)

  -- a job is finished, and all that are done by that
  pub finish-in : (T : Setup) (i n : ℕ) (o : Option JobRow) (s : Side) → NearSide version s → NearSide version (finish T i n o s)
  unfolding finish
  finish-in T i zero o s is = is
  finish-in T i (suc n) None s is = is
  finish-in T i (suc n) (Some x) s is = finish-in T i n (next_done x.up (closed T i x s).jobs) (closed T i x s) (closed-in T i x s is)

  -- a job is settled
  pub settled-in : (T : Setup) (i j : ℕ) (s : Side) → NearSide version s → NearSide version (settled T i j s)
  settled-in T i j s is = finish-in T i (length s.jobs) (if_done (job s j)) s is

  -- Beginning a job.
  raised-in : (j : ℕ) (s : Side) → NearSide version s → NearSide version (count_raised j s)
  raised-in j s is = is

  -- a marked child is waited for
  pub adopted-in : (j : ℕ) (o : Option ℕ) (s : Side) → NearSide version s → NearSide version (adopted j o s)
  adopted-in j None s is = is
  adopted-in j (Some m) s is = raised-in j (with_up (Local j) m s) is

  -- a child is asked for
  pub request-in : (T : Setup) (i j : ℕ) (k : KeyName) (s : Side) → NearSide version s → IsKeyInText version k → NearSide version (request_or_adopt T i j k s)
  request-in T i j k s is near = cond_both (is_local T i k) (adopted j (other_marker j (cap s k)) s) (count_raised j (send (owner_of T k) (RevokeReq k j) s))
      (NearSide version) (λ _. adopted-in j (other_marker j (cap s k)) s is)
      (λ _. raised-in j (send (owner_of T k) (RevokeReq k j) s) (send-near version s is (owner_of T k) (RevokeReq k j) near))

  -- a job is opened: the children of its region are keys of a text
  pub opened-in : (T : Setup) (i : ℕ) (root : KeyName) (up : Option Up) (waiters : List ℕ) (keep : Bool) (s : Side) → NearSide version s →
      IsKeyInText version root
      → NearSide version (opened T i root up waiters keep s)
  unfolding opened
  opened-in T i root up waiters keep s is near =
      let j : ℕ = s.next_job in
      let ks : List KeyName = region s.caps root in
      let link : KeyName → KeyName → Type 0 = λ p k. IsKeyInText version k in
      let links : (c : Capability) → Contains s.caps c → (k : KeyName) → Contains c.children k →
      IsKeyInText version k = λ c among k child. let near : NearCap version c = All-contains (NearCap version) s.caps c is.caps among in
      All-contains (IsKeyInText version) c.children k near.children child in
      let marks : (k : KeyName) → has_key ks k ≡ true → IsKeyInText version k = region-doomed link (IsKeyInText version)
      (λ p k near root. near) s.caps links root near in
      in_turn-keeps_each (NearSide version) (request_or_adopt T i j) (children_of s.caps ks)
      (λ k among t here. request-in T i j k t here (children-doomed link (IsKeyInText version) (λ p k near root. near) s.caps links ks marks k among))
      (unbind_all ks (mark_all ks j (job_opened root up waiters keep s))) (marked-near version s is ks j)

  -- a job begins
  pub begin-in : (T : Setup) (i : ℕ) (root : KeyName) (up : Option Up) (waiters : List ℕ) (keep : Bool) (s : Side) → NearSide version s →
      IsKeyInText version root
      → NearSide version (begin T i root up waiters keep s)
  begin-in T i root up waiters keep s is near = settled-in T i s.next_job (opened T i root up waiters keep s) (opened-in T i root up waiters keep s is near)

  -- a revoke begins
  pub begun-in : (T : Setup) (i v : ℕ) (k : KeyName) (mark : Option ℕ) (s : Side) → NearSide version s → IsKeyInText version k
      → NearSide version (revoke_begun T i v k mark s)
  begun-in T i v k None s is near = begin-in T i k None (v ∷ []) false (parked_as v (RevokeWait s.next_job) s)
      (parked_as-near version s is v (RevokeWait s.next_job) tt) near
  begun-in T i v k (Some j) s is near = parked_as-near version s is v (RevokeWait j) tt

  -- a clear begins
  pub cleared-in : (T : Setup) (i v : ℕ) (k : KeyName) (s : Side) → NearSide version s → IsKeyInText version k → NearSide version (clear_begun T i v k s)
  cleared-in T i v k s is near = begin-in T i k None (v ∷ []) true (parked_as v (RevokeWait s.next_job) s)
      (parked_as-near version s is v (RevokeWait s.next_job) tt) near

  -- A request from another kernel, and a token that came back.
  ready_freed-in : (p : Option Parked) (v : ℕ) (s : Side) → NearSide version s → NearSide version (ready_freed p v s)
  ready_freed-in None v s is = is
  ready_freed-in (Some (ObtainReady key parent object sel)) v s is = freed-in s is v sel
  ready_freed-in (Some (ObtainWait number sel)) v s is = is
  ready_freed-in (Some ObtainCancelled) v s is = is
  ready_freed-in (Some (DelegateWait parent)) v s is = is
  ready_freed-in (Some (DelegateReady parent key)) v s is = is
  ready_freed-in (Some (RevokeWait j)) v s is = is
  ready_freed-in (Some (Ready code)) v s is = is

  -- the call that was about to install the key is cancelled
  cancelled-in : (k : KeyName) (s : Side) → NearSide version s → NearSide version (obtain_cancelled k s)
  cancelled-in k s is = cond_both (is_ready_with k (parked s k.vpe)) _ s (NearSide version)
      (λ _. parked_as-near version (ready_freed (parked s k.vpe) k.vpe s) (ready_freed-in (parked s k.vpe) k.vpe s is) k.vpe ObtainCancelled tt) (λ _. is)

  -- a request for a held key
  request_begun-in : (T : Setup) (i from j : ℕ) (k : KeyName) (mark : Option ℕ) (s : Side) → NearSide version s → IsKeyInText version k
      → NearSide version (request_begun T i from j k mark s)
  request_begun-in T i from j k None s is near = begin-in T i k (Some (Remote from j)) [] false s is near
  request_begun-in T i from j k (Some m) s is near = is

  -- a request
  pub requested-in : (T : Setup) (i from j : ℕ) (k : KeyName) (o : Option Capability) (s : Side) → NearSide version s → IsKeyInText version k
      → NearSide version (revoke_requested T i from j k o s)
  requested-in T i from j k (Some c) s is near = request_begun-in T i from j k c.mark s is near
  requested-in T i from j k None s is near = send-near version (obtain_cancelled k s) (cancelled-in k s is) from (RevokeDone j) tt

  -- the job settled, if it is there
  abbrev settled_if_there : Setup → ℕ → ℕ → Option JobRow → Side → Side
  settled_if_there T i j None s = s
  settled_if_there T i j (Some x) s = settled T i j (count_lowered j s)

  -- a job is settled, if it is there
  settled_if_there-in : (T : Setup) (i j : ℕ) (o : Option JobRow) (s : Side) → NearSide version s → NearSide version (settled_if_there T i j o s)
  settled_if_there-in T i j None s is = is
  settled_if_there-in T i j (Some x) s is = settled-in T i j (count_lowered j s) is

  -- a token came back
  pub done-in : (T : Setup) (i j : ℕ) (s : Side) → NearSide version s → NearSide version (revoke_done T i j s)
  done-in T i j s is = settled_if_there-in T i j (job s j) s is
