-- Where jobs count, what a revoke does keeps the sum: each request and each job below is paid by the count of the job.
use Rattle.std.proofs.Common.{◌≡◌, ℕ, zero, suc, ◌+◌, ◌-◌, ◌≤◌, ◌&&◌, Bool, true, false, not, List, [], ◌∷◌, length}
use Rattle.std.proofs.Common.{Option, Some, None, refl, ◌∙◌, arith}
use Rattle.std.specs.Prelude.{◌==◌, if◌then◌else◌}
use Rattle.std.specs.List.{sum_by}
use Rattle.std.proofs.lemmas.Bool.{cond_both}
use Rattle.sem_key.specs.Lists.{in_turn}
use Rattle.std.proofs.lemmas.List.Sums.{sum_by-cons}
use Rattle.sem_key.specs.KeyName.{KeyName}
use Rattle.sem_key.specs.Capability.{Capability}
use Rattle.sem_key.specs.CapList.{marked_by}
use Rattle.sem_key.specs.Region.{region, children_of, linked_from}
use Rattle.sem_msg.specs.declared.message.Message.TheVariants.{RevokeReq, RevokeDone, Unlink}
use Rattle.sem_msg.specs.declared.state.Parked.{Parked}
use Rattle.sem_msg.specs.declared.state.Parked.TheVariants.{ObtainWait, ObtainReady, ObtainCancelled, DelegateWait}
use Rattle.sem_msg.specs.declared.state.Parked.TheVariants.{DelegateReady, RevokeWait, Ready}
use Rattle.sem_msg.specs.declared.state.Slot.TheVariants.{Free}
use Rattle.sem_msg.specs.declared.state.Up.{Up}
use Rattle.sem_msg.specs.declared.state.Up.TheVariants.{Local, Remote}
use Rattle.sem_msg.specs.Rows.{JobRow}
use Rattle.sem_msg.specs.JobRows.{if_done, next_done, with_number, without_number}
use Rattle.sem_msg.specs.ParkedStates.{is_ready_with}
use Rattle.sem_msg.specs.VpeRows
use Rattle.sem_msg.specs.Setup.{Setup}
use Rattle.sem_msg.specs.Lookups.{owner_of, is_local}
use Rattle.sem_machine.specs.Sides.{Side, cap, job, parked, freed, parked_as, unlinked, mark_all, unbind_all}
use Rattle.sem_machine.specs.Sides.{job_opened, job_removed, send}
use Rattle.sem_machine.specs.Revokes.{all_freed, spared, count_raised, count_lowered, with_up, adopted}
use Rattle.sem_machine.specs.Revokes.{other_marker, request_or_adopt}
use Rattle.sem_machine.specs.Revokes.{root_spared, swept, woken, parent_left, left_parent, up_told, closed_here, closed}
use Rattle.sem_machine.specs.Revokes.{finish, settled, opened, begin, ready_freed}
use Rattle.sem_machine.specs.Revokes.{obtain_cancelled, request_begun, revoke_requested, revoke_done}
use Rattle.sem_machine.proofs.Folds.{in_turn-keeps}
use Rattle.sem_machine.proofs.Weighing.{weigh-map}
use Rattle.sem_safety.proofs.JobIds.{HasIds, ids}
use Rattle.sem_safety.proofs.KeptRevokes.{closed-in, request-in, opened-in}
use Rattle.sem_safety.proofs.Layers.{facts}
use Rattle.sem_safety.proofs.Onwards.{Any, AnyPlace}
use Rattle.sem_revoke.proofs.Rowing.{settled_if_there}
use Rattle.sem_revoke.proofs.Scaling.{jobs-removed}
use Rattle.sem_messages.proofs.Links.{IsBare, key_set-lighter, caps-bare, side-bare, side-unlinked, caps-removed}
use Rattle.sem_messages.proofs.Links.{caps-restored, marks-pay}
use Rattle.sem_messages.proofs.Tallies.{Tally, of_cap, of_side, side-slot, side-send, side-opened}
use Rattle.sem_messages.proofs.Falling.{Falls, Revokings}
use Rattle.sem_messages.proofs.Jobs.{turned, turned-there, IsThere, there-changed, there-opened}
use Rattle.sem_messages.proofs.Jobs.{IsDone, done-is, next-is}

-- Jobs that count. The count of a job pays d for each token that is out for it.
pub record IsFair (T : Setup) (P N : Tally) (d : ℕ) : Type 0 where
  pub bare : IsBare N
  pub opens : (id : ℕ) (root : KeyName) (ws : List ℕ) (keep : Bool) →
      P.job (record { id = id; root = root; up = None; waiters = ws; count = 0; keep = keep })
      ≤ N.job (record { id = id; root = root; up = None; waiters = ws; count = 0; keep = keep })
  pub opens_far : (id : ℕ) (root : KeyName) (from j : ℕ) →
      P.job (record { id = id; root = root; up = Some (Remote from j); waiters = []; count = 0; keep = false })
      + N.on (RevokeReq root j)
      ≤ N.job (record { id = id; root = root; up = Some (Remote from j); waiters = []; count = 0; keep = false })
      + P.on (RevokeReq root j)
  pub raised : (x : JobRow) → (P.job (record x { count = x.count + 1 }) + N.job x) + d
      ≤ N.job (record x { count = x.count + 1 }) + P.job x
  pub lowered : (x : JobRow) → P.job (record x { count = x.count - 1 }) + N.job x
      ≤ (N.job (record x { count = x.count - 1 }) + P.job x) + d
  pub taken : (x : JobRow) (j : ℕ) → P.job (record x { up = Some (Local j); keep = false }) + N.job x
      ≤ (N.job (record x { up = Some (Local j); keep = false }) + P.job x) + d
  pub taken_far : (x : JobRow) (from j : ℕ) (key : KeyName) →
      (P.job (record x { up = Some (Remote from j); keep = false }) + N.job x) + N.on (RevokeReq key j)
      ≤ (N.job (record x { up = Some (Remote from j); keep = false }) + P.job x) + P.on (RevokeReq key j)
  pub waited : (x : JobRow) (ws : List ℕ) (keep : Bool) →
      (P.job (record x { waiters = ws; keep = keep }) ≡ P.job x)
      × (N.job (record x { waiters = ws; keep = keep }) ≡ N.job x)
  -- a job that is done
  pub ends : (x : JobRow) → x.count ≡ 0 → x.up ≡ None → N.job x ≤ P.job x
  pub ends_near : (x : JobRow) (j : ℕ) → x.count ≡ 0 → x.up ≡ Some (Local j) → N.job x + d ≤ P.job x
  pub ends_far : (x : JobRow) (kernel j : ℕ) → x.count ≡ 0 → x.up ≡ Some (Remote kernel j) →
      P.out (RevokeDone j) + N.job x ≤ N.out (RevokeDone j) + P.job x
  -- messages
  pub request : (i : ℕ) (key : KeyName) (j : ℕ) → is_local T i key ≡ false →
      P.out (RevokeReq key j) ≤ (N.out (RevokeReq key j) + d) + P.leads i key
  pub came : (key : KeyName) (j : ℕ) → N.on (RevokeReq key j) ≤ P.on (RevokeReq key j)
  pub gone : (key : KeyName) (j : ℕ) →
      P.out (RevokeDone j) + N.on (RevokeReq key j) ≤ N.out (RevokeDone j) + P.on (RevokeReq key j)
  pub done : (j : ℕ) → N.on (RevokeDone j) + d ≤ P.on (RevokeDone j)
  pub unlink : (p k : KeyName) → P.out (Unlink p k) ≤ N.out (Unlink p k)

module _ (T : Setup) (K : Tally) (i : ℕ) where
  rows-same : (cs : List Capability) (s : Side) →
      of_side T K i (record s { vpes = all_freed cs s.vpes }) ≡ of_side T K i s
  rows-same cs s = in_turn-keeps (λ rows. of_side T K i (record s { vpes = rows }) ≡ of_side T K i s)
      (λ (c : Capability) rows. VpeRows.freed c.key.vpe c.selector rows)
      (λ c rows is. side-slot T K i (record s { vpes = rows }) c.key.vpe c.selector Free ∙ is) cs s.vpes refl

  spared-less : (b : Bool) (root : KeyName) (cs : List Capability) →
      sum_by (of_cap T K i) (spared b root cs) ≤ sum_by (of_cap T K i) cs
  spared-less true root cs = caps-restored T K i root cs
  spared-less false root cs = omega arith

  swept-less : (x : JobRow) (s : Side) → of_side T K i (swept x s) ≤ of_side T K i s
  swept-less x s =
      let rows = rows-same (marked_by x.id (root_spared x s).caps) s in
      let removed = caps-removed T K i x.id (root_spared x s).caps in
      let spares = spared-less x.keep x.root s.caps in
      omega (arith, rows, removed, spares)

  swept-bare : IsBare K → (x : JobRow) (s : Side) → of_side T K i (swept x s) ≡ of_side T K i s
  swept-bare bare x s =
      let rows = rows-same (marked_by x.id (root_spared x s).caps) s in
      let old = caps-bare T K i bare s.caps in
      let new = caps-bare T K i bare (swept x s).caps in
      omega (arith, rows, old, new)

  cancelled-same : (k : KeyName) (s : Side) → of_side T K i (obtain_cancelled k s) ≡ of_side T K i s
  cancelled-same k s = from (parked s k.vpe) refl
    where
      from : (p : Option Parked) → parked s k.vpe ≡ p →
          of_side T K i (if is_ready_with k p then parked_as k.vpe ObtainCancelled (ready_freed p k.vpe s) else s)
          ≡ of_side T K i s
      from (Some (ObtainReady key parent object sel)) at =
          let t : Side = freed k.vpe sel s in
          cond_both (is_ready_with k (Some (ObtainReady key parent object sel))) (parked_as k.vpe ObtainCancelled t) s
          (λ u. of_side T K i u ≡ of_side T K i s) (λ _. side-slot T K i s k.vpe sel Free) (λ _. refl)
      from None at = refl
      from (Some (ObtainWait number sel)) at = refl
      from (Some ObtainCancelled) at = refl
      from (Some (DelegateWait parent)) at = refl
      from (Some (DelegateReady parent key)) at = refl
      from (Some (RevokeWait j)) at = refl
      from (Some (Ready code)) at = refl

-- what an Unlink and a cut link keep is kept where a parent is left
left-by : (Q : Side → Type 0) → ((t : Side) (p k : KeyName) → Q t → Q (unlinked p k t)) →
    ((t : Side) (j : ℕ) (p k : KeyName) → Q t → Q (send j (Unlink p k) t)) → (T : Setup) (i id count : ℕ)
    (root : KeyName) (up : Option Up) (ws : List ℕ) (keep : Bool) (o : Option KeyName) (t : Side) → Q t →
    Q (parent_left T i (record { id = id; root = root; up = up; waiters = ws; count = count; keep = keep }) o t)
left-by Q cuts sends T i id count root up ws keep None t is = is
left-by Q cuts sends T i id count root None ws keep (Some p) t is =
    cond_both (is_local T i p) _ _ Q (λ _. cuts t p root is) (λ _. sends t (owner_of T p) p root is)
left-by Q cuts sends T i id count root (Some (Local j)) ws keep (Some p) t is =
    cond_both (is_local T i p) _ _ Q (λ _. cuts t p root is) (λ _. sends t (owner_of T p) p root is)
left-by Q cuts sends T i id count root (Some (Remote kernel j)) ws keep (Some p) t is =
    cond_both (is_local T i p) _ _ Q (λ _. cuts t p root is) (λ _. is)

module _ (T : Setup) (P N : Tally) (d : ℕ) (F : IsFair T P N d) (i : ℕ) where
  -- a token comes back
  lowered-falls : (j : ℕ) (s : Side) → HasIds s →
      of_side T P i (count_lowered j s) + of_side T N i s ≤ (of_side T P i s + of_side T N i (count_lowered j s)) + d
  lowered-falls j s has =
      let jobs = turned P N (λ x. record x { count = x.count - 1 }) j 0 d s.jobs has.rise (omega arith)
      (λ x. let less = F.lowered x in omega (arith, less)) in
      omega (arith, jobs)

  -- one more is out
  raised-falls : (j : ℕ) (s : Side) → HasIds s → IsThere j s →
      (of_side T P i (count_raised j s) + of_side T N i s) + d ≤ of_side T P i s + of_side T N i (count_raised j s)
  raised-falls j s has is =
      let less = F.raised is.0 in
      let jobs = turned-there P N (λ x. record x { count = x.count + 1 }) j d 0 s.jobs is.0 has.rise is.1
      (omega (arith, less)) in
      omega (arith, jobs)

  closed-falls : (x : JobRow) (s : Side) → HasIds s → IsDone s x → Falls T P N i s (closed T i x s)
  unfolding closed_here
  closed-falls x s has is =
      let r : Side = job_removed x.id s in
      let b : Side = woken x.waiters (swept x r) in
      let c : Side = closed_here T i x r in
      let rp = jobs-removed P.job x.id s.jobs x has.rise is.0 in
      let rn = jobs-removed N.job x.id s.jobs x has.rise is.0 in
      let sp = swept-less T P i x r in
      let sn = swept-bare T N i F.bare x r in
      let kept : HasIds r = ids.keeps_closed s has x.id in
      let left : Falls T P N i b c × HasIds c =
      left-by (λ t. Falls T P N i b t × HasIds t) (λ t p k q. (
        (let up = side-unlinked T P i t p k in let un = side-bare T N i F.bare t (unlinked p k t).caps in
            let so = q.0 in omega (arith, up, un, so)),
        ids.keeps_unlinked t q.1 p k,
      ))
      (λ t j p k q. (
        (let up = side-send T P i t j (Unlink p k) in let un = side-send T N i t j (Unlink p k) in
            let less = F.unlink p k in let so = q.0 in omega (arith, up, un, less, so)),
        ids.keeps_send t q.1 j (Unlink p k) tt,
      )) T i x.id x.count x.root x.up x.waiters x.keep (left_parent r x) b
      (omega arith, record { rise = kept.rise; drawn = kept.drawn }) in
      told x.up refl c left.1 (omega (arith, rp, rn, sp, sn, left))
    where
      told : (up : Option Up) → x.up ≡ up → (c : Side) → HasIds c →
          (of_side T P i c + of_side T N i s) + P.job x ≤ (of_side T P i s + of_side T N i c) + N.job x →
          Falls T P N i s (up_told up c)
      told None at c has' so = let pays = F.ends x is.1 at in omega (arith, so, pays)
      told (Some (Local j)) at c has' so =
          let pays = F.ends_near x j is.1 at in
          let low = lowered-falls j c has' in
          omega (arith, so, pays, low)
      told (Some (Remote kernel j)) at c has' so =
          let pays = F.ends_far x kernel j is.1 at in
          let p = side-send T P i c kernel (RevokeDone j) in
          let n = side-send T N i c kernel (RevokeDone j) in
          omega (arith, so, pays, p, n)

  finish-falls : (n : ℕ) (o : Option JobRow) (s : Side) → HasIds s → ((x : JobRow) → o ≡ Some x → IsDone s x) →
      Falls T P N i s (finish T i n o s)
  unfolding finish
  finish-falls zero o s has done = omega arith
  finish-falls (suc n) None s has done = omega arith
  finish-falls (suc n) (Some x) s has done =
      let s2 : Side = closed T i x s in
      let first = closed-falls x s has (done x refl) in
      let rest = finish-falls n (next_done x.up s2.jobs) s2 (closed-in (facts Any AnyPlace) HasIds ids T i x s has)
      (λ y next. next-is x.up s2 y next) in
      omega (arith, first, rest)

  settled-falls : (j : ℕ) (s : Side) → HasIds s → Falls T P N i s (settled T i j s)
  settled-falls j s has = finish-falls (length s.jobs) (if_done (job s j)) s has (λ x done. done-is s j x done)

  -- A job that begins.
  adopted-falls : (j : ℕ) (o : Option ℕ) (t : Side) → HasIds t → IsThere j t →
      Falls T P N i t (adopted j o t) × IsThere j (adopted j o t)
  adopted-falls j None t has is = (omega arith, is)
  adopted-falls j (Some m) t has is =
      let u : Side = with_up (Local j) m t in
      let jobs = turned P N (λ x. record x { up = Some (Local j); keep = false }) m 0 d t.jobs has.rise (omega arith)
      (λ x. let less = F.taken x j in omega (arith, less)) in
      let there : IsThere j u =
      there-changed j m (λ x. record x { up = Some (Local j); keep = false }) t (λ x. refl) is in
      let has' : HasIds u =
      ids.keeps_changed t has m (λ x. record x { up = Some (Local j); keep = false }) (λ x. (refl, refl)) in
      let more = raised-falls j u has' there in
      (omega (arith, jobs, more), there-changed j j (λ x. record x { count = x.count + 1 }) u (λ x. refl) there)

  request-falls : (j : ℕ) (k : KeyName) (t : Side) → HasIds t → IsThere j t →
      (of_side T P i (request_or_adopt T i j k t) + of_side T N i t
      ≤ (of_side T P i t + of_side T N i (request_or_adopt T i j k t)) + P.leads i k)
      × IsThere j (request_or_adopt T i j k t)
  request-falls j k t has is =
      cond_both (is_local T i k) (adopted j (other_marker j (cap t k)) t)
      (count_raised j (send (owner_of T k) (RevokeReq k j) t))
      (λ u. (of_side T P i u + of_side T N i t ≤ (of_side T P i t + of_side T N i u) + P.leads i k) × IsThere j u)
      (λ _. let fell = adopted-falls j (other_marker j (cap t k)) t has is in
      let less = fell.0 in (omega (arith, less), fell.1))
      (λ remote.
      let u : Side = send (owner_of T k) (RevokeReq k j) t in
      let p = side-send T P i t (owner_of T k) (RevokeReq k j) in
      let n = side-send T N i t (owner_of T k) (RevokeReq k j) in
      let less = F.request i k j remote in
      let more = raised-falls j u (ids.keeps_send t has (owner_of T k) (RevokeReq k j) tt) is in
      (omega (arith, p, n, less, more), there-changed j j (λ x. record x { count = x.count + 1 }) u (λ x. refl) is))

  -- what the children count pays for their requests
  requests-fall : (j : ℕ) (ks : List KeyName) (t : Side) → HasIds t → IsThere j t →
      of_side T P i (in_turn (request_or_adopt T i j) ks t) + of_side T N i t
      ≤ (of_side T P i t + of_side T N i (in_turn (request_or_adopt T i j) ks t)) + sum_by (P.leads i) ks
  unfolding in_turn
  requests-fall j [] t has is = omega arith
  requests-fall j (k ∷ ks) t has is =
      let u : Side = request_or_adopt T i j k t in
      let one = request-falls j k t has is in
      let here = one.0 in
      let rest = requests-fall j ks u (request-in (facts Any AnyPlace) HasIds ids T i j k t has tt) one.1 in
      let all = sum_by-cons (P.leads i) k ks in
      omega (arith, here, rest, all)

  -- since the job was opened
  opened-falls : (root : KeyName) (up : Option Up) (ws : List ℕ) (keep : Bool) (s : Side) → HasIds s →
      Falls T P N i (job_opened root up ws keep s) (opened T i root up ws keep s)
  unfolding opened
  opened-falls root up ws keep s has =
      let j : ℕ = s.next_job in
      let ks : List KeyName = region s.caps root in
      let one : Side = job_opened root up ws keep s in
      let marked : Side = unbind_all ks (mark_all ks j one) in
      let has' : HasIds one = ids.keeps_opened s has root up ws keep in
      let pays = marks-pay T P i ks j s.caps in
      let bare = side-bare T N i F.bare one marked.caps in
      let few = key_set-lighter (P.leads i) (linked_from s.caps ks) in
      let fell = requests-fall j (children_of s.caps ks) marked (record { rise = has'.rise; drawn = has'.drawn })
      (there-opened root up ws keep s) in
      omega (arith, pays, bare, few, fell)

  begin-falls : (root : KeyName) (up : Option Up) (ws : List ℕ) (keep : Bool) (s : Side) → HasIds s →
      Falls T P N i (job_opened root up ws keep s) (begin T i root up ws keep s)
  begin-falls root up ws keep s has =
      let u : Side = opened T i root up ws keep s in
      let one = opened-falls root up ws keep s has in
      let two = settled-falls s.next_job u (opened-in (facts Any AnyPlace) HasIds ids T i root up ws keep s has tt) in
      omega (arith, one, two)

  nobody-falls : (root : KeyName) (ws : List ℕ) (keep : Bool) (s : Side) → HasIds s →
      Falls T P N i s (begin T i root None ws keep s)
  nobody-falls root ws keep s has =
      let p = side-opened T P i s root None ws keep in
      let n = side-opened T N i s root None ws keep in
      let less = F.opens s.next_job root ws keep in
      let rest = begin-falls root None ws keep s has in
      omega (arith, p, n, less, rest)

  -- A request, and a token that comes back.
  abbrev Asked : ℕ → KeyName → Side → Side → Type 0
  Asked j key s t = (of_side T P i t + of_side T N i s) + N.on (RevokeReq key j)
      ≤ (of_side T P i s + of_side T N i t) + P.on (RevokeReq key j)

  request_begun-falls : (from j : ℕ) (key : KeyName) (mark : Option ℕ) (s : Side) → HasIds s →
      Asked j key s (request_begun T i from j key mark s)
  request_begun-falls from j key None s has =
      let p = side-opened T P i s key (Some (Remote from j)) [] false in
      let n = side-opened T N i s key (Some (Remote from j)) [] false in
      let less = F.opens_far s.next_job key from j in
      let rest = begin-falls key (Some (Remote from j)) [] false s has in
      omega (arith, p, n, less, rest)
  request_begun-falls from j key (Some m) s has =
      let jobs = turned P N (λ x. record x { up = Some (Remote from j); keep = false }) m (N.on (RevokeReq key j))
      (P.on (RevokeReq key j)) s.jobs has.rise (F.came key j) (λ x. F.taken_far x from j key) in
      omega (arith, jobs)

  requested-falls : (from j : ℕ) (key : KeyName) (o : Option Capability) (s : Side) → HasIds s →
      Asked j key s (revoke_requested T i from j key o s)
  requested-falls from j key (Some c) s has = request_begun-falls from j key c.mark s has
  requested-falls from j key None s has =
      let cp = cancelled-same T P i key s in
      let cn = cancelled-same T N i key s in
      let p = side-send T P i (obtain_cancelled key s) from (RevokeDone j) in
      let n = side-send T N i (obtain_cancelled key s) from (RevokeDone j) in
      let less = F.gone key j in
      omega (arith, cp, cn, p, n, less)

  done-falls : (j : ℕ) (s : Side) → HasIds s →
      (of_side T P i (revoke_done T i j s) + of_side T N i s) + N.on (RevokeDone j)
      ≤ (of_side T P i s + of_side T N i (revoke_done T i j s)) + P.on (RevokeDone j)
  done-falls j s has = by_job (job s j)
    where
      by_job : (o : Option JobRow) →
          (of_side T P i (settled_if_there T i j o s) + of_side T N i s) + N.on (RevokeDone j)
          ≤ (of_side T P i s + of_side T N i (settled_if_there T i j o s)) + P.on (RevokeDone j)
      by_job None = let less = F.done j in omega (arith, less)
      by_job (Some x) =
          let t : Side = count_lowered j s in
          let low = lowered-falls j s has in
          let has' : HasIds t = ids.keeps_changed s has j (λ y. record y { count = y.count - 1 }) (λ y. (refl, refl)) in
          let rest = settled-falls j t has' in
          let less = F.done j in
          omega (arith, low, rest, less)

  pub fair-revokings : Revokings T P N i
  fair-revokings = record {
    begins = λ s has root ws. nobody-falls root ws false s has;
    clears = λ s has v root. nobody-falls root (v ∷ []) true (parked_as v (RevokeWait s.next_job) s)
        (ids.keeps_parked s has v _ tt);
    waits = λ s j v.
        let f : JobRow → JobRow = λ x. record x { waiters = with_number x.waiters v } in
        let p = weigh-map P.job (λ x. if x.id == j then f x else x)
        (λ x. cond_both (x.id == j) (f x) x (λ y. P.job y ≡ P.job x)
        (λ _. (F.waited x (with_number x.waiters v) x.keep).0) (λ _. refl)) s.jobs in
        let n = weigh-map N.job (λ x. if x.id == j then f x else x)
        (λ x. cond_both (x.id == j) (f x) x (λ y. N.job y ≡ N.job x)
        (λ _. (F.waited x (with_number x.waiters v) x.keep).1) (λ _. refl)) s.jobs in
        omega (arith, p, n);
    leaves = λ s j v.
        let f : JobRow → JobRow = λ x. record x {
          waiters = without_number x.waiters v;
          keep = x.keep
              && not ((x.id == j) && (x.root.vpe == v));
        } in
        let p = weigh-map P.job f (λ x. (F.waited x (without_number x.waiters v)
        (x.keep && not ((x.id == j) && (x.root.vpe == v)))).0) s.jobs in
        let n = weigh-map N.job f (λ x. (F.waited x (without_number x.waiters v)
        (x.keep && not ((x.id == j) && (x.root.vpe == v)))).1) s.jobs in
        omega (arith, p, n);
    requests = λ s has from j key. requested-falls from j key (cap s key) s has;
    dones = λ s has j. done-falls j s has;
  }
