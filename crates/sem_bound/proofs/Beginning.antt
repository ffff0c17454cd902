-- Beginning a job: the marks of its region pay for the requests that go out of it, and what its root weighed pays for
-- the job.
use Rattle.std.proofs.Common.{◌≡◌, ℕ, zero, suc, ◌+◌, ◌≤◌, ◌&&◌, Bool, true, false, List, [], ◌∷◌, length, Option}
use Rattle.std.proofs.Common.{Some, None, is_none, refl, ap, subst, arith}
use Rattle.std.specs.Prelude.{if◌then◌else◌}
use Rattle.std.specs.List.{Contains, filter, sum_by}
use Rattle.std.specs.Option.{option_map_or}
use Rattle.std.proofs.lemmas.Bool.{cond-false, cond_both, and_from, or_left, or_right}
use Rattle.std.proofs.lemmas.List.Sums.{sum_by-cons}
use Rattle.sem_key.specs.KeyName.{KeyName, key_eq}
use Rattle.sem_key.specs.Lists.{in_turn}
use Rattle.sem_key.specs.Capability.{Capability}
use Rattle.sem_msg.specs.declared.message.Message.TheVariants.{RevokeReq, RevokeDone}
use Rattle.sem_msg.specs.declared.state.Parked.{Parked}
use Rattle.sem_msg.specs.declared.state.Parked.TheVariants.{ObtainWait, ObtainReady, ObtainCancelled, DelegateWait}
use Rattle.sem_msg.specs.declared.state.Parked.TheVariants.{DelegateReady, RevokeWait, Ready}
use Rattle.sem_msg.specs.declared.state.Slot.TheVariants.{Free}
use Rattle.sem_msg.specs.declared.state.Up.{Up}
use Rattle.sem_msg.specs.declared.state.Up.TheVariants.{Local, Remote}
use Rattle.sem_msg.specs.Rows.{JobRow}
use Rattle.sem_msg.specs.ParkedStates.{is_ready_with}
use Rattle.sem_msg.specs.Setup.{Setup}
use Rattle.sem_msg.specs.Lookups.{owner_of, is_local}
use Rattle.sem_machine.specs.Sides.{Side, cap, job, parked, freed, parked_as, mark_all, unbind_all, job_opened, send}
use Rattle.sem_key.specs.Region.{has_key, linked_from, next_reached, grow, region, children_of}
use Rattle.sem_machine.specs.Revokes.{clear_begun, count_raised, count_lowered, with_up, other_marker, adopted}
use Rattle.sem_machine.specs.Revokes.{request_or_adopt, settled, opened, begin, revoke_begun, ready_freed}
use Rattle.sem_machine.specs.Revokes.{obtain_cancelled, request_begun, revoke_requested, revoke_done}
use Rattle.sem_key.proofs.KeyTests.{key_eq-same, key_eq-true, has_key-from_Contains}
use Rattle.sem_key.proofs.Members.{found, Contains-filter, Contains-map}
use Rattle.sem_safety.proofs.Layers.{facts}
use Rattle.sem_machine.proofs.Folds.{in_turn-keeps}
use Rattle.sem_safety.proofs.Onwards.{AnyPlace}
use Rattle.sem_safety.proofs.KeptRevokes.{request-in}
use Rattle.sem_safety.proofs.JobIds.{IdsRise}
use Rattle.sem_bound.proofs.KeySums.{key_set-lighter}
use Rattle.sem_bound.proofs.Weights.{of_parked, of_key, of_link, of_children, of_up, of_cap, of_side, taken}
use Rattle.sem_bound.proofs.Weights.{side-slot, side-parked, side-reparked, side-send, side-opened, side-marked}
use Rattle.sem_bound.proofs.Weights.{taken-weighs, side-counted_up, side-counted_down, side-up_local, side-up_remote}
use Rattle.sem_bound.proofs.Weights.{side-waiting}
use Rattle.sem_bound.proofs.Layering.{NoKey, IsCalm, calm}
use Rattle.sem_bound.proofs.Finishing.{settled-lighter}

-- a root that is held and unmarked is in its region
grow-keeps : (n : ℕ) (caps : List Capability) (ks : List KeyName) (k : KeyName) → has_key ks k ≡ true →
    has_key (grow n caps ks) k ≡ true
unfolding grow
grow-keeps zero caps ks k has = has
grow-keeps (suc n) caps ks k has =
    from (next_reached caps ks) (λ q. grow-keeps n caps (q ∷ ks) k (or_right (key_eq k q) (has_key ks k) has))
  where
    from : (o : Option Capability) → ((q : KeyName) → has_key (grow n caps (q ∷ ks)) k ≡ true) →
        has_key (option_map_or (λ c. grow n caps (c.key ∷ ks)) o ks) k ≡ true
    from None rest = has
    from (Some c) rest = rest c.key

root-reached : (caps : List Capability) (c : Capability) → Contains caps c → c.mark ≡ None →
    has_key (region caps c.key) c.key ≡ true
root-reached caps c among unmarked =
    let reached : List KeyName = grow (length caps) caps (c.key ∷ []) in
    let t : Capability → Bool = λ x. is_none x.mark && has_key reached x.key in
    let has : has_key reached c.key ≡ true =
    grow-keeps (length caps) caps (c.key ∷ []) c.key (or_left (key_eq c.key c.key) false (key_eq-same c.key)) in
    let there : Contains (filter t caps) c =
    Contains-filter t caps c among
    (and_from (is_none c.mark) (has_key reached c.key) (ap is_none unmarked) has) in
    has_key-from_Contains (region caps c.key) c.key (Contains-map (λ (x : Capability). x.key) (filter t caps) c there)

module _ (T : Setup) (near : KeyName → Bool) (i : ℕ) where
  -- each child costs what it weighs: a request and its way, if it is of another kernel
  adopted-lighter : (j : ℕ) (o : Option ℕ) (t : Side) → of_side T near i (adopted j o t) ≤ of_side T near i t
  adopted-lighter j None t = omega arith
  adopted-lighter j (Some m) t =
      let up = side-up_local T near i t j m in
      let count = side-counted_up T near i (with_up (Local j) m t) j in
      omega (arith, up, count)

  request-costs : (j : ℕ) (k : KeyName) (t : Side) →
      of_side T near i (request_or_adopt T i j k t) ≤ of_side T near i t + of_link T near i k
  request-costs j k t =
      cond_both (is_local T i k) (adopted j (other_marker j (cap t k)) t)
      (count_raised j (send (owner_of T k) (RevokeReq k j) t))
      (λ u. of_side T near i u ≤ of_side T near i t + of_link T near i k)
      (λ _. let less = adopted-lighter j (other_marker j (cap t k)) t in omega (arith, less))
      (λ remote.
      let link : of_link T near i k ≡ 6 = cond-false (is_local T i k) 0 6 remote in
      let more : of_side T near i (send (owner_of T k) (RevokeReq k j) t) ≡ of_side T near i t + 6 =
      side-send T near i t (owner_of T k) (RevokeReq k j) in
      let count = side-counted_up T near i (send (owner_of T k) (RevokeReq k j) t) j in
      omega (arith, more, count, link))

  requests-cost : (j : ℕ) (ks : List KeyName) (t : Side) →
      of_side T near i (in_turn (request_or_adopt T i j) ks t) ≤ of_side T near i t + of_children T near i ks
  unfolding in_turn
  requests-cost j [] t = omega arith
  requests-cost j (k ∷ ks) t =
      let rest = requests-cost j ks (request_or_adopt T i j k t) in
      let here = request-costs j k t in
      let all = sum_by-cons (of_link T near i) k ks in
      omega (arith, rest, here, all)

  pub begin-costs : (root : KeyName) (up : Option Up) (waiters : List ℕ) (keep : Bool) (s : Side) (c : Capability) →
      cap s root ≡ Some c → c.mark ≡ None → IsCalm T near i s →
      of_side T near i (begin T i root up waiters keep s) + of_key T near i root
      ≤ of_side T near i s + (of_up T near i root keep up + length waiters)
  unfolding opened
  begin-costs root up waiters keep s c held unmarked calm' =
      let L = calm T near i in
      let j : ℕ = s.next_job in
      let ks : List KeyName = region s.caps root in
      let children : List KeyName = children_of s.caps ks in
      let with_job : Side = job_opened root up waiters keep s in
      let marked : Side = unbind_all ks (mark_all ks j with_job) in
      let asked : Side = in_turn (request_or_adopt T i j) children marked in
      let there = found (λ (x : Capability). key_eq x.key root) s.caps c held in
      let same : c.key ≡ root = key_eq-true c.key root there.1 in
      let has : has_key ks c.key ≡ true =
      subst (λ k. has_key (region s.caps k) c.key ≡ true) same (root-reached s.caps c there.0 unmarked) in
      let pays = taken-weighs T near i s.caps ks c there.0 unmarked has in
      let one = side-opened T near i s root up waiters keep in
      let two : of_side T near i marked + sum_taken ks ≡ of_side T near i with_job =
      side-marked T near i with_job ks j in
      let three = requests-cost j children marked in
      let few = key_set-lighter (of_link T near i) (linked_from s.caps ks) in
      let key = ap (of_key T near i) same in
      let job_calm : IsCalm T near i with_job = L.keeps_opened s calm' root up waiters keep in
      let marked_calm : IsCalm T near i marked = L.keeps_marked with_job job_calm ks j (λ k _. tt) in
      let asked_calm : IsCalm T near i asked =
      in_turn-keeps (IsCalm T near i) (request_or_adopt T i j)
      (λ k t here. request-in (facts NoKey AnyPlace) (IsCalm T near i) L T i j k t here tt) children marked
      marked_calm in
      let four = settled-lighter T near i j asked asked_calm in
      omega (arith, pays, one, two, three, few, key, four)
    where
      sum_taken : List KeyName → ℕ
      sum_taken ks = sum_by (of_cap T near i) (taken T near i ks s.caps)

  -- A revoke and a clear of a VPE, a request of another kernel, a token that comes back.
  pub cleared-costs : (v : ℕ) (k : KeyName) (s : Side) (c : Capability) → cap s k ≡ Some c → c.mark ≡ None →
      IsCalm T near i s → of_side T near i (clear_begun T i v k s) ≤ of_side T near i s + 1
  cleared-costs v k s c held unmarked calm' =
      let waiting : Side = parked_as v (RevokeWait s.next_job) s in
      let park : of_side T near i waiting ≤ of_side T near i s + 0 =
      side-parked T near i s v (RevokeWait s.next_job) in
      let begins = begin-costs k None (v ∷ []) true waiting c held unmarked calm' in
      omega (arith, park, begins)

  pub begun-costs : (v : ℕ) (k : KeyName) (mark : Option ℕ) (s : Side) (c : Capability) → cap s k ≡ Some c →
      c.mark ≡ mark → IsCalm T near i s → IdsRise s.jobs →
      of_side T near i (revoke_begun T i v k mark s) ≤ of_side T near i s + 1
  begun-costs v k None s c held unmarked calm' rise =
      let waiting : Side = parked_as v (RevokeWait s.next_job) s in
      let park : of_side T near i waiting ≤ of_side T near i s + 0 =
      side-parked T near i s v (RevokeWait s.next_job) in
      let begins = begin-costs k None (v ∷ []) false waiting c held unmarked calm' in
      omega (arith, park, begins)
  begun-costs v k (Some j) s c held marked calm' rise =
      let waiting : Side = parked_as v (RevokeWait j) s in
      let park : of_side T near i waiting ≤ of_side T near i s + 0 = side-parked T near i s v (RevokeWait j) in
      let waits = side-waiting T near i waiting v j rise in
      omega (arith, park, waits)

  request_begun-costs : (from j : ℕ) (k : KeyName) (mark : Option ℕ) (s : Side) (c : Capability) → cap s k ≡ Some c →
      c.mark ≡ mark → IsCalm T near i s → IdsRise s.jobs →
      of_side T near i (request_begun T i from j k mark s) ≤ of_side T near i s + 3
  request_begun-costs from j k None s c held unmarked calm' rise = let begins =
      begin-costs k (Some (Remote from j)) [] false s c held unmarked calm' in omega (arith, begins)
  request_begun-costs from j k (Some m) s c held marked calm' rise = side-up_remote T near i s from j m rise

  -- a cancelled call is lighter than one that was ready
  cancelled-lighter : (k : KeyName) (s : Side) → of_side T near i (obtain_cancelled k s) ≤ of_side T near i s
  cancelled-lighter k s = from (parked s k.vpe) refl
    where
      lighter : (p : Option Parked) (t : Side) → parked t k.vpe ≡ p → of_side T near i t ≤ of_side T near i s →
          1 ≤ of_parked p → of_side T near i (parked_as k.vpe ObtainCancelled t) ≤ of_side T near i s
      lighter p t at less weighs =
          let repark = side-reparked T near i t k.vpe ObtainCancelled in
          let now : of_parked (parked t k.vpe) ≡ of_parked p = ap of_parked at in
          omega (arith, repark, now, less, weighs)

      from : (p : Option Parked) → parked s k.vpe ≡ p →
          of_side T near i (if is_ready_with k p then parked_as k.vpe ObtainCancelled (ready_freed p k.vpe s) else s)
          ≤ of_side T near i s
      from None at = omega arith
      from (Some (ObtainReady key parent object sel)) at =
          let t : Side = freed k.vpe sel s in
          cond_both (is_ready_with k (Some (ObtainReady key parent object sel))) (parked_as k.vpe ObtainCancelled t) s
          (λ u. of_side T near i u ≤ of_side T near i s)
          (λ _. lighter (Some (ObtainReady key parent object sel)) t at (side-slot T near i s k.vpe sel Free)
          (omega arith))
          (λ _. omega arith)
      from (Some (ObtainWait number sel)) at = omega arith
      from (Some ObtainCancelled) at = omega arith
      from (Some (DelegateWait parent)) at = omega arith
      from (Some (DelegateReady parent key)) at = omega arith
      from (Some (RevokeWait j)) at = omega arith
      from (Some (Ready code)) at = omega arith

  pub requested-costs : (from j : ℕ) (k : KeyName) (o : Option Capability) (s : Side) → cap s k ≡ o →
      IsCalm T near i s → IdsRise s.jobs →
      of_side T near i (revoke_requested T i from j k o s) ≤ of_side T near i s + 3
  requested-costs from j k (Some c) s held calm' rise = request_begun-costs from j k c.mark s c held refl calm' rise
  requested-costs from j k None s none calm' rise =
      let more : of_side T near i (send from (RevokeDone j) (obtain_cancelled k s))
      ≡ of_side T near i (obtain_cancelled k s) + 3 =
      side-send T near i (obtain_cancelled k s) from (RevokeDone j) in
      let less = cancelled-lighter k s in
      omega (arith, more, less)

  pub done-lighter : (j : ℕ) (s : Side) → IsCalm T near i s →
      of_side T near i (revoke_done T i j s) ≤ of_side T near i s
  done-lighter j s calm' = from (job s j) s calm'
    where
      settled_if_there : Setup → ℕ → ℕ → Option JobRow → Side → Side
      settled_if_there T i j None s = s
      settled_if_there T i j (Some x) s = settled T i j (count_lowered j s)

      from : (o : Option JobRow) (s : Side) → IsCalm T near i s →
          of_side T near i (settled_if_there T i j o s) ≤ of_side T near i s
      from None s calm' = omega arith
      from (Some x) s calm' =
          let count = side-counted_down T near i s j in
          let rest = settled-lighter T near i j (count_lowered j s) calm' in
          omega (arith, count, rest)
