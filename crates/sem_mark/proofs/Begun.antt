-- How a job that was opened is begun, and what the calls do with what a selector holds.
use Rattle.std.proofs.Common.{◌≡◌, ℕ, zero, suc, ◌≤◌, Bool, false, is_none, ◌&&◌, List, [], ◌∷◌, length, Option, Some, None, refl, sym, ap, ◌∙◌, inl, inr}
use Rattle.std.proofs.Common.{arith, length-append, rules}
use Rattle.std.specs.List.{filter, flat_map}
use Rattle.std.specs.Option.{option_and_then}
use Rattle.std.proofs.lemmas.Bool.{cases_Bool, cond-true, cond-false}
use Rattle.std.proofs.lemmas.List.Sums.{sum_by-cons}
use Rattle.sem_key.specs.KeyName.{KeyName}
use Rattle.sem_key.specs.Capability.{Capability}
use Rattle.sem_key.specs.CapList.{link_count}
use Rattle.sem_key.specs.Region.{has_key, region, linked_from, children_of}
use Rattle.sem_msg.specs.declared.code.Code.TheVariants.{NoCap}
use Rattle.sem_msg.specs.declared.message.Message.TheVariants.{RevokeDone, RevokeReq}
use Rattle.sem_msg.specs.declared.state.Parked.{Parked}
use Rattle.sem_msg.specs.declared.state.Parked.TheVariants.{RevokeWait}
use Rattle.sem_msg.specs.declared.state.Up.TheVariants.{Remote}
use Rattle.sem_msg.specs.JobRows.{if_done, job_of}
use Rattle.sem_msg.specs.Outboxes.{OutboxList}
use Rattle.sem_msg.specs.ParkedStates.{parked_as as states_parked}
use Rattle.sem_msg.specs.Setup.{Setup}
use Rattle.sem_caps.specs.CapStore.{CapStore}
use Rattle.sem_dtu.specs.EndpointTable.{EndpointTable}
use Rattle.sem_vpe.specs.VpeTable.{VpeTable}
use Rattle.sem_machine.specs.Sides.{Side, cap, own, parked_as, send}
use Rattle.sem_machine.specs.Steps.{answer, cutting, first_code, unshown}
use Rattle.sem_machine.specs.Calls.{clear_row, own_tests, revoke_row, with_held}
use Rattle.sem_machine.specs.Handles.{handle_row}
use Rattle.sem_machine.specs.Revokes.{begin, clear_begun, finish, finished, obtain_cancelled, opened, request_begun, revoke_begun, revoke_requested, settled}
use Rattle.sem_machine.specs.Revokes.{waiter_added, with_up}
use Rattle.sem_machine.specs.Stores.{with_parks, with_vpes}
use Rattle.sem_jobs.specs.JobStore.{JobStore}
use Rattle.sem_mark.specs.Marking.{HasBegun, beginning, revoking}
use Rattle.sem_machine.proofs.FirstCodes.{unless-first}
use Rattle.sem_machine.proofs.Lengths.{key_set-shorter}

-- finishing nothing leaves the side as it is
pub finish-none : (T : Setup) (i n : ℕ) (s : Side) → finish T i n None s ≡ s
unfolding finish
finish-none T i zero s = refl
finish-none T i (suc n) s = refl

-- a call that names no job begins none
pub begins-nothing : (T : Setup) (i v : ℕ) (keep : Bool) (root : Option Capability) (jobs jobs' : JobStore) (before after : Side → Side) →
    HasBegun T i v keep root jobs jobs' before after None
begins-nothing T i v keep root jobs jobs' before after = search rules

-- a job is settled by finishing it where no token is out for it
pub begun : (T : Setup) (i next : ℕ) (o : Option ℕ) (x y : Side) → option_and_then (job_of x.jobs) o ≡ if_done (job_of x.jobs next) → x ≡ y →
    finished T i o x ≡ settled T i next y
begun T i next o x y done same = ap (λ p. finish T i (length x.jobs) p x) done ∙ ap (settled T i next) same

-- a call that opened a job, for which its VPE waits
module _ (T : Setup) (i v : ℕ) (keep : Bool) (k : KeyName) (caps caps' : CapStore) (vpes : VpeTable) (dtus dtus' : EndpointTable) (jobs jobs' : JobStore)
    (park park' : List (Option Parked)) (outs outs' : OutboxList) (job : ℕ)
    (opens : (s : Side) → beginning caps' dtus' jobs' outs' s ≡ opened T i k None (v ∷ []) keep (beginning caps dtus jobs outs s))
    (waits : park' ≡ states_parked park v (RevokeWait job)) (id : job ≡ jobs.next) (s : Side) where
  pub call-opened : revoking caps' vpes dtus' jobs' park' outs' s
      ≡ opened T i k None (v ∷ []) keep (parked_as v (RevokeWait jobs.next) (revoking caps vpes dtus jobs park outs s))
  call-opened = opens (with_vpes vpes.rows (with_parks park' s))
      ∙ ap (λ (ps : List (Option Parked)). opened T i k None (v ∷ []) keep (revoking caps vpes dtus jobs ps outs s))
      (waits ∙ ap (λ j. states_parked park v (RevokeWait j)) id)

  pub call-begun : (o : Option ℕ) → option_and_then (job_of jobs'.jobs) o ≡ if_done (job_of jobs'.jobs job) →
      finished T i o (revoking caps' vpes dtus' jobs' park' outs' s)
      ≡ begin T i k None (v ∷ []) keep (parked_as v (RevokeWait jobs.next) (revoking caps vpes dtus jobs park outs s))
  call-begun o done = begun T i jobs.next o (revoking caps' vpes dtus' jobs' park' outs' s) _ (done ∙ ap (λ j. if_done (job_of jobs'.jobs j)) id) call-opened

-- a region has no more children than there are links
linked-few : (p : Capability → Bool) (caps : List Capability) → length (flat_map (λ (c : Capability). c.children) (filter p caps)) ≤ link_count caps
linked-few p [] = omega arith
linked-few p (c ∷ caps) =
    let count = sum_by-cons (λ (x : Capability). length x.children) c caps in
    let rest = linked-few p caps in
    elim (cases_Bool (p c)) [
      | inl taken ↦ rw (cond-true (p c) (c ∷ filter p caps) (filter p caps) taken)
          (omega (arith, count, rest, length-append c.children (flat_map (λ (x : Capability). x.children) (filter p caps))))
      | inr left ↦ rw (cond-false (p c) (c ∷ filter p caps) (filter p caps) left) (omega (arith, count, rest))
    ]

pub children-few : (caps : List Capability) (root : KeyName) → length (children_of caps (region caps root)) ≤ link_count caps
children-few caps root =
    let set = key_set-shorter (linked_from caps (region caps root)) in
    let links = linked-few (λ c. is_none c.mark && has_key (region caps root) c.key) caps in
    omega (arith, set, links)

module _ (T : Setup) (i : ℕ) (s : Side) (v sel : ℕ) where
  -- revoke, where nothing is held
  pub revoke-none : None ≡ own s v sel → revoke_row T i s v sel ≡ answer NoCap s
  revoke-none none = ap (λ o. with_held o (λ c. cutting c.key (unshown (revoke_begun T i v c.key c.mark s))) s) (sym none)

  -- revoke, of a capability
  revoke-held : (c : Capability) → Some c ≡ own s v sel → revoke_row T i s v sel ≡ cutting c.key (unshown (revoke_begun T i v c.key c.mark s))
  revoke-held c held = ap (λ o. with_held o (λ c. cutting c.key (unshown (revoke_begun T i v c.key c.mark s))) s) (sym held)

  -- which a job has marked
  pub revoke-marked : (c : Capability) (j : ℕ) → Some c ≡ own s v sel → c.mark ≡ Some j →
      revoke_row T i s v sel ≡ cutting c.key (unshown (waiter_added j v (parked_as v (RevokeWait j) s)))
  revoke-marked c j held mark = revoke-held c held ∙ ap (λ m. cutting c.key (unshown (revoke_begun T i v c.key m s))) mark

  -- which no job has marked
  pub revoke-open : (c : Capability) → Some c ≡ own s v sel → c.mark ≡ None →
      revoke_row T i s v sel ≡ cutting c.key (unshown (begin T i c.key None (v ∷ []) false (parked_as v (RevokeWait s.next_job) s)))
  revoke-open c held mark = revoke-held c held ∙ ap (λ m. cutting c.key (unshown (revoke_begun T i v c.key m s))) mark

  -- clear, where no test holds
  pub clear-done : (c : Capability) → None ≡ first_code (own_tests (own s v sel)) → Some c ≡ own s v sel →
      clear_row T i s v sel ≡ cutting c.key (unshown (clear_begun T i v c.key s))
  clear-done c first held = unless-first (own_tests (own s v sel)) _ _ ∙ rw (← first, ← held) refl

module _ (T : Setup) (i : ℕ) (s : Side) (from j : ℕ) (k : KeyName) where
  -- a request for a key that is not held
  pub request-absent : None ≡ cap s k → handle_row T i s from (RevokeReq k j) ≡ send from (RevokeDone j) (obtain_cancelled k s)
  unfolding handle_row
  request-absent none = ap (λ o. revoke_requested T i from j k o s) (sym none)

  request-held : (c : Capability) → Some c ≡ cap s k → handle_row T i s from (RevokeReq k j) ≡ request_begun T i from j k c.mark s
  unfolding handle_row
  request-held c held = ap (λ o. revoke_requested T i from j k o s) (sym held)

  -- for one that a job has marked
  pub request-marked : (c : Capability) (m : ℕ) → Some c ≡ cap s k → c.mark ≡ Some m → handle_row T i s from (RevokeReq k j) ≡ with_up (Remote from j) m s
  request-marked c m held mark = request-held c held ∙ ap (λ o. request_begun T i from j k o s) mark

  -- for one that no job has marked
  pub request-open : (c : Capability) → Some c ≡ cap s k → c.mark ≡ None → handle_row T i s from (RevokeReq k j) ≡ begin T i k (Some (Remote from j)) [] false s
  request-open c held mark = request-held c held ∙ ap (λ o. request_begun T i from j k o s) mark
