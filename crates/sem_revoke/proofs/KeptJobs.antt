-- What each change of jobs keeps, a chain of jobs keeps that are closed, and so do requests and tokens.
use Rattle.std.proofs.Common.{◌≡◌, ℕ, zero, suc, Bool, true, false, List, [], length, Option, Some, None, refl}
use Rattle.std.specs.List.{Contains}
use Rattle.std.proofs.lemmas.Bool.{cond_both}
use Rattle.sem_key.specs.KeyName.{KeyName}
use Rattle.sem_key.specs.Capability.{Capability}
use Rattle.sem_key.specs.Region.{region, children_of}
use Rattle.sem_msg.specs.declared.message.Message.{Message}
use Rattle.sem_msg.specs.declared.message.Message.TheVariants.{RevokeReq, RevokeDone, Unlink}
use Rattle.sem_msg.specs.declared.state.Parked.{Parked}
use Rattle.sem_msg.specs.declared.state.Parked.TheVariants.{ObtainReady, ObtainCancelled}
use Rattle.sem_msg.specs.declared.state.Up.{Up}
use Rattle.sem_msg.specs.declared.state.Up.TheVariants.{Local, Remote}
use Rattle.sem_msg.specs.Rows.{JobRow}
use Rattle.sem_msg.specs.JobRows.{if_done, next_done}
use Rattle.sem_msg.specs.ParkedStates.{is_ready_with}
use Rattle.sem_msg.specs.Setup.{Setup}
use Rattle.sem_msg.specs.Lookups.{owner_of, is_local}
use Rattle.sem_machine.specs.Sides.{Side, cap, job, parked, freed, parked_as, unlinked, mark_all, unbind_all, job_opened, job_removed, send}
use Rattle.sem_machine.specs.Revokes.{count_raised, count_lowered, with_up, other_marker, adopted, request_or_adopt}
use Rattle.sem_machine.specs.Revokes.{swept, woken, parent_left, up_told, left_parent, closed_here, closed, finish, settled, opened, begin}
use Rattle.sem_machine.specs.Revokes.{ready_freed, obtain_cancelled, request_begun, revoke_requested, revoke_done}
use Rattle.sem_machine.proofs.Folds.{in_turn-keeps}
use Rattle.sem_safety.proofs.JobIds.{done-among, next-among}
use Rattle.sem_revoke.proofs.Growing.{is_plain}
use Rattle.sem_revoke.proofs.Rowing.{settled_if_there}

-- a job begins: its region is marked, and no endpoint is bound to that
abbrev pub region_marked : KeyName → Option Up → List ℕ → Bool → Side → Side
region_marked root up ws keep t = unbind_all (region t.caps root) (mark_all (region t.caps root) t.next_job (job_opened root up ws keep t))

pub record KeepsJobs (P : Side → Type 0) : Type 0 where
  pub raises : (t : Side) → P t → (j : ℕ) → P (count_raised j t)
  pub lowers : (t : Side) → P t → (j : ℕ) → P (count_lowered j t)
  pub ups : (t : Side) → P t → (up : Up) (m : ℕ) → P (with_up up m t)
  -- a job for which no other job waits
  pub marks : (t : Side) → P t → (root : KeyName) (up : Option Up) → P (region_marked root up [] false t)
  pub sweeps : (t : Side) → P t → (x : JobRow) → Contains t.jobs x → P (woken x.waiters (swept x (job_removed x.id t)))
  pub frees : (t : Side) → P t → (v sel : ℕ) → P (freed v sel t)
  pub unlinks : (t : Side) → P t → (p k : KeyName) → P (unlinked p k t)
  pub sends : (t : Side) → P t → (j : ℕ) (m : Message) → is_plain m ≡ false → P (send j m t)

module _ (P : Side → Type 0) (K : KeepsJobs P) where
  -- the job is given by its parts
  left-kept : (T : Setup) (i id count : ℕ) (root : KeyName) (up : Option Up) (ws : List ℕ) (keep : Bool) (o : Option KeyName) (t : Side) → P t →
      P (parent_left T i (record { id = id; root = root; up = up; waiters = ws; count = count; keep = keep }) o t)
  left-kept T i id count root up ws keep None t is = is
  left-kept T i id count root None ws keep (Some p) t is =
      cond_both (is_local T i p) _ _ P (λ _. K.unlinks t is p root) (λ _. K.sends t is (owner_of T p) (Unlink p root) refl)
  left-kept T i id count root (Some (Local j)) ws keep (Some p) t is =
      cond_both (is_local T i p) _ _ P (λ _. K.unlinks t is p root) (λ _. K.sends t is (owner_of T p) (Unlink p root) refl)
  left-kept T i id count root (Some (Remote kernel j)) ws keep (Some p) t is = cond_both (is_local T i p) _ _ P (λ _. K.unlinks t is p root) (λ _. is)

  told-kept : (up : Option Up) (t : Side) → P t → P (up_told up t)
  told-kept None t is = is
  told-kept (Some (Local j)) t is = K.lowers t is j
  told-kept (Some (Remote kernel j)) t is = K.sends t is kernel (RevokeDone j) refl

  pub closed-kept : (T : Setup) (i : ℕ) (x : JobRow) (t : Side) → Contains t.jobs x → P t → P (closed T i x t)
  unfolding closed_here
  closed-kept T i x t among is =
      let gone : Side = job_removed x.id t in
      told-kept x.up (closed_here T i x gone) (left-kept T i x.id x.count x.root x.up x.waiters x.keep (left_parent gone x) (woken x.waiters (swept x gone))
      (K.sweeps t is x among))

  finish-kept : (T : Setup) (i n : ℕ) (o : Option JobRow) (t : Side) → ((x : JobRow) → o ≡ Some x → Contains t.jobs x) → P t → P (finish T i n o t)
  unfolding finish
  finish-kept T i zero o t among is = is
  finish-kept T i (suc n) None t among is = is
  finish-kept T i (suc n) (Some x) t among is =
      let t2 : Side = closed T i x t in
      finish-kept T i n (next_done x.up t2.jobs) t2 (λ y next. next-among x.up t2 y next) (closed-kept T i x t (among x refl) is)

  pub settled-kept : (T : Setup) (i j : ℕ) (t : Side) → P t → P (settled T i j t)
  settled-kept T i j t is = finish-kept T i (length t.jobs) (if_done (job t j)) t (λ x done. done-among t j x done) is

  adopted-kept : (j : ℕ) (o : Option ℕ) (t : Side) → P t → P (adopted j o t)
  adopted-kept j None t is = is
  adopted-kept j (Some m) t is = K.raises (with_up (Local j) m t) (K.ups t is (Local j) m) j

  pub asks_for-kept : (T : Setup) (i j : ℕ) (k : KeyName) (t : Side) → P t → P (request_or_adopt T i j k t)
  asks_for-kept T i j k t is = cond_both (is_local T i k) _ _ P (λ _. adopted-kept j (other_marker j (cap t k)) t is)
      (λ _. K.raises (send (owner_of T k) (RevokeReq k j) t) (K.sends t is (owner_of T k) (RevokeReq k j) refl) j)

  -- a job begins, once its region is marked
  pub opened-kept : (T : Setup) (i : ℕ) (root : KeyName) (up : Option Up) (ws : List ℕ) (keep : Bool) (t : Side) → P (region_marked root up ws keep t) →
      P (opened T i root up ws keep t)
  unfolding opened
  opened-kept T i root up ws keep t is = in_turn-keeps P (request_or_adopt T i t.next_job) (λ k u here. asks_for-kept T i t.next_job k u here)
      (children_of t.caps (region t.caps root)) (region_marked root up ws keep t) is

  pub begin-kept : (T : Setup) (i : ℕ) (root : KeyName) (up : Option Up) (ws : List ℕ) (keep : Bool) (t : Side) → P (region_marked root up ws keep t) →
      P (begin T i root up ws keep t)
  begin-kept T i root up ws keep t is = settled-kept T i t.next_job (opened T i root up ws keep t) (opened-kept T i root up ws keep t is)

  -- a request, which may cancel an obtain
  pub requested-kept : (T : Setup) (i from j : ℕ) (k : KeyName) (o : Option Capability) (t : Side) →
      ((u : Side) → is_ready_with k (parked t k.vpe) ≡ true → u.parks ≡ t.parks → P u → P (parked_as k.vpe ObtainCancelled u)) → P t →
      P (revoke_requested T i from j k o t)
  requested-kept T i from j k None t cancels is =
      K.sends (obtain_cancelled k t) (cond_both (is_ready_with k (parked t k.vpe)) _ t P (λ ready. by_call ready (parked t k.vpe)) (λ _. is))
      from (RevokeDone j) refl
    where
      by_call : is_ready_with k (parked t k.vpe) ≡ true → (p : Option Parked) → P (parked_as k.vpe ObtainCancelled (ready_freed p k.vpe t))
      by_call ready (Some (ObtainReady key parent object sel)) = cancels (freed k.vpe sel t) ready refl (K.frees t is k.vpe sel)
      by_call ready p = cancels t ready refl is
  requested-kept T i from j k (Some c) t cancels is = by_mark c.mark
    where
      by_mark : (m : Option ℕ) → P (request_begun T i from j k m t)
      by_mark None = begin-kept T i k (Some (Remote from j)) [] false t (K.marks t is k (Some (Remote from j)))
      by_mark (Some m) = K.ups t is (Remote from j) m

  pub done-kept : (T : Setup) (i j : ℕ) (t : Side) → P t → P (revoke_done T i j t)
  done-kept T i j t is = by_job (job t j)
    where
      by_job : (o : Option JobRow) → P (settled_if_there T i j o t)
      by_job None = is
      by_job (Some x) = settled-kept T i j (count_lowered j t) (K.lowers t is j)
