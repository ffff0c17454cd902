-- Revokes keep what a side says that tells whether a VPE waits for a job: a job wakes those alone that wait for it.
use Rattle.std.proofs.Common.{◌≡◌, ◌⊎◌, ℕ, ◌+◌, ◌-◌, Bool, true, false, not, List, [], ◌∷◌, ◌++◌, filter, nat_lt}
use Rattle.std.proofs.Common.{Option, Some, None, sym, subst, inl, inr}
use Rattle.std.specs.Prelude.{◌==◌, if◌then◌else◌}
use Rattle.std.specs.List.{Contains}
use Rattle.std.proofs.lemmas.Bool.{cond_both}
use Rattle.std.proofs.lemmas.List.Elements.{Contains-append_cases}
use Rattle.sem_key.specs.KeyName.{KeyName}
use Rattle.sem_key.specs.Lists.{change, put}
use Rattle.sem_key.specs.Capability.{Capability}
use Rattle.sem_key.specs.CapList.{marked_by}
use Rattle.sem_key.specs.Region.{region}
use Rattle.sem_key.proofs.Members.{Contains-nil, Contains-cons_cases, Contains-from_filter, Contains-from_map}
use Rattle.sem_msg.specs.declared.code.Code.TheVariants.{Ok as OkCode}
use Rattle.sem_msg.specs.Codes.{code_number}
use Rattle.sem_msg.specs.declared.message.Message.{Message}
use Rattle.sem_msg.specs.declared.state.Parked.TheVariants.{ObtainCancelled, RevokeWait, Ready}
use Rattle.sem_msg.specs.declared.state.Slot.{Slot}
use Rattle.sem_msg.specs.declared.state.Slot.TheVariants.{Free}
use Rattle.sem_msg.specs.declared.state.Up.{Up}
use Rattle.sem_msg.specs.Rows.{Endpoint, JobRow}
use Rattle.sem_msg.specs.JobRows.{with_number}
use Rattle.sem_msg.specs.VpeRows
use Rattle.sem_msg.specs.ParkedStates.{is_ready_with}
use Rattle.sem_msg.specs.Setup.{Setup}
use Rattle.sem_machine.specs.Sides.{Side, parked, with_slot, parked_as, unlinked, mark_all}
use Rattle.sem_machine.specs.Sides.{job_opened, job_changed, job_removed, send}
use Rattle.sem_machine.specs.Revokes.{root_spared, selectors_freed, all_freed}
use Rattle.sem_machine.specs.Revokes.{swept, woken, begin, revoke_begun}
use Rattle.sem_machine.specs.Revokes.{revoke_requested, revoke_done}
use Rattle.sem_machine.proofs.Folds.{in_turn-keeps, in_turn-keeps_each}
use Rattle.sem_revoke.proofs.KeptJobs.{region_marked, KeepsJobs, begin-kept, requested-kept, done-kept}

-- P says of a side that the VPE waits for a job only where Waited holds, and is kept by the changes that a revoke is made of.
pub record KnowsWaiters (v : ℕ) (Waited : Type 0) (P : Side → Type 0) : Type 0 where
  pub waits : (t : Side) → P t → (x : JobRow) → Contains t.jobs x → Contains x.waiters v → Waited
  pub jobs : (t : Side) → P t → (xs : List JobRow) → ((y : JobRow) → Contains xs y → Contains y.waiters v → Waited) → P (record t { jobs = xs })
  pub numbers : (t : Side) → P t → (number : ℕ) → P (record t { next_job = number })
  pub wakes : (t : Side) → P t → (w : ℕ) → (w ≡ v → Waited) → P (parked_as w (Ready (code_number OkCode)) t)
  pub slots : (t : Side) → P t → (w sel : ℕ) (state : Slot) → P (with_slot w sel state t)
  pub caps : (t : Side) → P t → (cs : List Capability) → P (record t { caps = cs })
  pub endpoints : (t : Side) → P t → (es : List (List (Option Endpoint))) → P (record t { endpoints = es })
  pub sends : (t : Side) → P t → (j : ℕ) (m : Message) → P (send j m t)

module _ (v : ℕ) (Waited : Type 0) (P : Side → Type 0) (K : KnowsWaiters v Waited P) where
  -- a change of jobs after which nobody more waits, but where Waited holds
  changed-known : (t : Side) → P t → (j : ℕ) (f : JobRow → JobRow) → ((x : JobRow) → Contains (f x).waiters v → Contains x.waiters v ⊎ Waited) →
      P (job_changed j f t)
  changed-known t is j f fewer = K.jobs t is (change (λ x. x.id == j) f t.jobs) (λ y among waits'.
      let x = Contains-from_map (λ (x : JobRow). if x.id == j then f x else x) t.jobs y among in
      cond_both (x.0.id == j) (f x.0) x.0 (λ (z : JobRow). Contains z.waiters v → Waited)
      (λ _ w. elim (fewer x.0 w) [ inl before ↦ K.waits t is x.0 x.1 before | inr waited ↦ waited ])
      (λ _ w. K.waits t is x.0 x.1 w)
      (subst (λ (z : JobRow). Contains z.waiters v) (sym x.2) waits'))

  freed_rows-known : (cs : List Capability) (t : Side) → P t → P (record t { vpes = all_freed cs t.vpes })
  freed_rows-known cs t is = in_turn-keeps (λ rows. P (record t { vpes = rows })) (λ c rows. VpeRows.freed c.key.vpe c.selector rows)
      (λ c rows here. K.slots (record t { vpes = rows }) here c.key.vpe c.selector Free) cs t.vpes is

  swept-known : (x : JobRow) (t : Side) → P t → P (swept x t)
  swept-known x t is =
      let spared : Side = root_spared x t in
      let free : P (selectors_freed x.id spared) = freed_rows-known (marked_by x.id spared.caps) spared (K.caps t is spared.caps) in
      K.caps (selectors_freed x.id spared) free (swept x t).caps

  woken-known : (vs : List ℕ) (t : Side) → (Contains vs v → Waited) → P t → P (woken vs t)
  woken-known vs t waited is = in_turn-keeps_each (λ ps. P (record t { parks = ps })) (λ w ps. put None ps w (Some (Ready (code_number OkCode)))) vs
      (λ w among ps here. K.wakes (record t { parks = ps }) here w (λ same. waited (subst (Contains vs) same among))) t.parks is

  region_marked-known : (t : Side) → P t → (root : KeyName) (up : Option Up) (ws : List ℕ) (keep : Bool) → (Contains ws v → Waited) →
      P (region_marked root up ws keep t)
  region_marked-known t is root up ws keep waited =
      let new : JobRow = record { id = t.next_job; root = root; up = up; waiters = ws; count = 0; keep = keep } in
      let more : P (record t { jobs = t.jobs ++ new ∷ [] }) = K.jobs t is (t.jobs ++ new ∷ []) (λ y among w.
      elim (Contains-append_cases t.jobs (new ∷ []) y among) [
        | inl before ↦ K.waits t is y before w
        | inr now ↦ elim (Contains-cons_cases new [] y now) [
          | inl same ↦ waited (subst (λ (z : JobRow). Contains z.waiters v) (sym same) w)
          | inr none ↦ absurd (Contains-nil y none)
        ]
      ]) in
      let one : Side = job_opened root up ws keep t in
      let marks : Side = mark_all (region t.caps root) t.next_job one in
      K.endpoints marks (K.caps one (K.numbers (record t { jobs = t.jobs ++ new ∷ [] }) more (t.next_job + 1)) marks.caps)
      (region_marked root up ws keep t).endpoints

  kept : KeepsJobs P
  kept = record {
    raises = λ t is j. changed-known t is j (λ x. record x { count = x.count + 1 }) (λ x w. inl w);
    lowers = λ t is j. changed-known t is j (λ x. record x { count = x.count - 1 }) (λ x w. inl w);
    ups = λ t is up m. changed-known t is m (λ x. record x { up = Some up; keep = false }) (λ x w. inl w);
    marks = λ t is root up. region_marked-known t is root up [] false (λ none. absurd (Contains-nil v none));
    sweeps = λ t is x among. woken-known x.waiters (swept x (job_removed x.id t)) (K.waits t is x among) (swept-known x (job_removed x.id t)
        (K.jobs t is (job_removed x.id t).jobs (λ y there. K.waits t is y (Contains-from_filter (λ (z : JobRow). not (z.id == x.id)) t.jobs y there).0)));
    frees = λ t is w sel. K.slots t is w sel Free;
    unlinks = λ t is p k. K.caps t is (unlinked p k t).caps;
    sends = λ t is j m plain. K.sends t is j m;
  }

  pub begin-known : (T : Setup) (i : ℕ) (root : KeyName) (up : Option Up) (ws : List ℕ) (keep : Bool) (t : Side) → (Contains ws v → Waited) → P t →
      P (begin T i root up ws keep t)
  begin-known T i root up ws keep t waited is = begin-kept P kept T i root up ws keep t (region_marked-known t is root up ws keep waited)

  pub one-waiter : (w : ℕ) → (w ≡ v → Waited) → Contains (w ∷ []) v → Waited
  one-waiter w waited among = elim (Contains-cons_cases w [] v among) [ inl same ↦ waited same | inr none ↦ absurd (Contains-nil v none) ]

  -- the VPE u waits, and then the job begins, or is waited for
  pub revoked-known : (T : Setup) (i u : ℕ) (k : KeyName) (m : Option ℕ) (t : Side) → (u ≡ v → Waited) → ((j : ℕ) → P (parked_as u (RevokeWait j) t)) →
      P (revoke_begun T i u k m t)
  revoked-known T i u k None t waited parks =
      begin-known T i k None (u ∷ []) false (parked_as u (RevokeWait t.next_job) t) (one-waiter u waited) (parks t.next_job)
  revoked-known T i u k (Some j) t waited parks =
      changed-known (parked_as u (RevokeWait j) t) (parks j) j (λ x. record x { waiters = with_number x.waiters u })
      (λ x w. elim (Contains-append_cases (filter (λ n. nat_lt n u) x.waiters) (u ∷ filter (λ n. nat_lt u n) x.waiters) v w) [
        | inl before ↦ inl (Contains-from_filter (λ n. nat_lt n u) x.waiters v before).0
        | inr rest ↦ elim (Contains-cons_cases u (filter (λ n. nat_lt u n) x.waiters) v rest) [
          | inl same ↦ inr (waited same)
          | inr behind ↦ inl (Contains-from_filter (λ n. nat_lt u n) x.waiters v behind).0
        ]
      ])

  -- a request, which may cancel an obtain
  pub requested-known : (T : Setup) (i from j : ℕ) (k : KeyName) (o : Option Capability) (t : Side) →
      (is_ready_with k (parked t k.vpe) ≡ true → (u : Side) → P u → P (parked_as k.vpe ObtainCancelled u)) → P t → P (revoke_requested T i from j k o t)
  requested-known T i from j k o t cancels is = requested-kept P kept T i from j k o t (λ u ready parks here. cancels ready u here) is

  pub done-known : (T : Setup) (i j : ℕ) (t : Side) → P t → P (revoke_done T i j t)
  done-known = done-kept P kept
