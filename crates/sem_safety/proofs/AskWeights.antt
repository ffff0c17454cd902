-- One exchange at a time: what is under way for a VPE that asks, revokes or delegates, and whether it may call. Each change of a side adds no more than it is
-- handed.
use Rattle.std.proofs.Common.{◌≡◌, ℕ, ◌+◌, ◌≤◌, ◌&&◌, Bool, true, false, not, List, [], ◌∷◌, ◌++◌, length, drop, get_or, Option, Some, None, slice_get, refl}
use Rattle.std.proofs.Common.{sym, ap, subst, ◌∙◌, inl, inr, arith, eq-eqb, ◌<◌}
use Rattle.std.specs.Prelude.{◌==◌, nat_lt, if◌then◌else◌}
use Rattle.std.specs.List.{Contains, AllPairs, filter, sum_by}
use Rattle.std.proofs.lemmas.Bool.{cases_eq, cond-true, cond-false, cond_both, eqb-true, ne_eqb}
use Rattle.std.proofs.lemmas.List.Sums.{sum_by-cons, sum_by-append, sum_by_push}
use Rattle.sem_key.specs.KeyName.{KeyName}
use Rattle.sem_key.specs.Lists.{put}
use Rattle.sem_msg.specs.declared.limits.TheConstants.{ASKS}
use Rattle.sem_msg.specs.declared.message.Message.{Message}
use Rattle.sem_msg.specs.declared.message.Message.TheVariants.{ObtainReq, ObtainOk, ObtainNo, DelegateReq, DelegatePrepared, DelegateNo, Ack, Orphan, RevokeReq}
use Rattle.sem_msg.specs.declared.message.Message.TheVariants.{RevokeDone, Unlink}
use Rattle.sem_msg.specs.declared.state.Ask.{Ask}
use Rattle.sem_msg.specs.declared.state.Parked.{Parked}
use Rattle.sem_msg.specs.declared.state.Parked.TheVariants.{ObtainWait, ObtainReady, ObtainCancelled, DelegateWait, DelegateReady, RevokeWait, Ready}
use Rattle.sem_msg.specs.declared.state.Slot.{Slot}
use Rattle.sem_msg.specs.declared.state.Slot.TheVariants.{Free}
use Rattle.sem_msg.specs.declared.state.Up.{Up}
use Rattle.sem_msg.specs.Rows.{Endpoint, JobRow, VpeRow, no_vpe}
use Rattle.sem_msg.specs.JobRows.{with_number, without_number}
use Rattle.sem_machine.specs.Asks.{asker}
use Rattle.sem_machine.specs.Sides.{Side, row, outbox, call_counted, drawn, with_slot, parked_as, unparked, asked, ask_taken, buried, with_endpoint, unbind_all}
use Rattle.sem_machine.specs.Sides.{job_opened, job_changed, job_removed, mark_all, send, sent, with_inbox, parked}
use Rattle.sem_machine.specs.Resumes.{can_resume}
use Rattle.sem_machine.specs.Revokes.{waiter_left}
use Rattle.sem_machine.specs.Endpoints.{with_ring}
use Rattle.sem_key.proofs.Members.{Contains-filter}
use Rattle.sem_key.proofs.Puts.{get_or-put_same, get_or-put_other}
use Rattle.sem_machine.proofs.Weighing.{of_option, weigh-put, weigh-drop, weigh-map, weigh-parts, weigh-filter, weigh-among, change-once}
use Rattle.sem_machine.proofs.Lengths.{weigh-map_less, apart-lighter, below-not_above}
use Rattle.sem_safety.proofs.JobIds.{IdsRise}

-- whether a call in that state waits for something
abbrev pub waits : Option Parked → Bool
waits None = false
waits (Some (ObtainWait number sel)) = true
waits (Some (ObtainReady key parent object sel)) = false
waits (Some ObtainCancelled) = false
waits (Some (DelegateWait parent)) = true
waits (Some (DelegateReady parent key)) = false
waits (Some (RevokeWait job)) = true
waits (Some (Ready code)) = false

-- one, if the VPE is alive and waits for nothing
abbrev pub free : VpeRow → Option Parked → ℕ
free r p = if r.alive && not (waits p) then 1 else 0

module _ (v0 : ℕ) where
  -- one, if it is that VPE
  abbrev pub here : ℕ → ℕ
  here v = if v == v0 then 1 else 0

  abbrev pub of_message : Message → ℕ
  of_message (ObtainReq place target) = here place.vpe
  of_message (ObtainOk parent key object) = here key.vpe
  of_message (ObtainNo place code) = here place.vpe
  of_message (DelegateReq parent object vpe sel) = here parent.vpe
  of_message (DelegatePrepared parent key) = here parent.vpe
  of_message (DelegateNo parent code) = here parent.vpe
  of_message (Ack key accepted) = 0
  of_message (Orphan parent key) = 0
  of_message (RevokeReq key job) = 0
  of_message (RevokeDone job) = 0
  of_message (Unlink parent key) = 0

  abbrev pub of_ask : Ask → ℕ
  of_ask a = here (asker a)

  abbrev pub of_asks : VpeRow → ℕ
  of_asks r = sum_by of_ask r.asks

  abbrev pub of_inbox : Option (ℕ × Message) → ℕ
  of_inbox None = 0
  of_inbox (Some m) = of_message m.1

  abbrev pub of_messages : List Message → ℕ
  of_messages ms = sum_by of_message ms

  -- those who wait for a job
  abbrev pub of_job : JobRow → ℕ
  of_job x = sum_by here x.waiters

  abbrev pub of_side : Side → ℕ
  of_side s = free (row s v0) (parked s v0) + (sum_by of_asks s.vpes + (sum_by of_job s.jobs + (of_inbox s.inbox + sum_by of_messages s.outs)))

  -- of the row and the parked call of that VPE
  abbrev pub free_at : ℕ → VpeRow → Option Parked → ℕ
  free_at v r p = if v == v0 then free r p else 0

  pub free-most : (v : ℕ) (r : VpeRow) (p : Option Parked) → free_at v r p ≤ here v
  free-most v r p = cond_both (v == v0) (free r p) 0 (λ n. n ≤ here v) (λ same. let one : here v ≡ 1 = cond-true (v == v0) 1 0 same in
      let most : free r p ≤ 1 = cond_both (r.alive && not (waits p)) 1 0 (λ n. n ≤ 1) (λ _. omega arith) (λ _. omega arith) in
      omega (arith, one, most)) (λ _. omega arith)

  -- Rows.

  -- a row comes in for another
  pub side-row : (s : Side) (v : ℕ) (r : VpeRow) → of_side (record s { vpes = put no_vpe s.vpes v r }) + (free_at v (row s v) (parked s v) + of_asks (row s v))
      ≡ of_side s + (free_at v r (parked s v) + of_asks r)
  side-row s v r =
      let rows = weigh-put of_asks no_vpe refl s.vpes v r in
      elim (cases_eq v v0) [
        | inl same ↦
            let now : free (row (record s { vpes = put no_vpe s.vpes v r }) v0) (parked s v0) ≡ free r (parked s v) =
            ap (λ x. free x (parked s v0)) (subst (λ w. get_or (put no_vpe s.vpes v r) w no_vpe ≡ r) same (get_or-put_same no_vpe s.vpes v r))
            ∙ ap (λ w. free r (parked s w)) (sym same) in
            let old : free_at v (row s v) (parked s v) ≡ free (row s v0) (parked s v0) = cond-true (v == v0) (free (row s v) (parked s v)) 0 (eq-eqb v v0 same)
            ∙ ap (λ w. free (row s w) (parked s w)) same in
            let new : free_at v r (parked s v) ≡ free r (parked s v) = cond-true (v == v0) (free r (parked s v)) 0 (eq-eqb v v0 same) in
            omega (arith, rows, now, old, new)
        | inr other ↦
            let now : free (row (record s { vpes = put no_vpe s.vpes v r }) v0) (parked s v0) ≡ free (row s v0) (parked s v0) =
            ap (λ x. free x (parked s v0)) (get_or-put_other no_vpe s.vpes v v0 r (λ same. other (sym same))) in
            let old : free_at v (row s v) (parked s v) ≡ 0 = cond-false (v == v0) (free (row s v) (parked s v)) 0 (ne_eqb v v0 other) in
            let new : free_at v r (parked s v) ≡ 0 = cond-false (v == v0) (free r (parked s v)) 0 (ne_eqb v v0 other) in
            omega (arith, rows, now, old, new)
      ]

  -- a parked call, or none, comes in for another
  side-park : (s : Side) (v : ℕ) (p : Option Parked) → of_side (record s { parks = put None s.parks v p }) + free_at v (row s v) (parked s v)
      ≡ of_side s + free_at v (row s v) p
  side-park s v p =
      elim (cases_eq v v0) [
        | inl same ↦
            let now : free (row s v0) (parked (record s { parks = put None s.parks v p }) v0) ≡ free (row s v) p =
            ap (free (row s v0)) (subst (λ w. get_or (put None s.parks v p) w None ≡ p) same (get_or-put_same None s.parks v p))
            ∙ ap (λ w. free (row s w) p) (sym same) in
            let old : free_at v (row s v) (parked s v) ≡ free (row s v0) (parked s v0) = cond-true (v == v0) (free (row s v) (parked s v)) 0 (eq-eqb v v0 same)
            ∙ ap (λ w. free (row s w) (parked s w)) same in
            let new : free_at v (row s v) p ≡ free (row s v) p = cond-true (v == v0) (free (row s v) p) 0 (eq-eqb v v0 same) in
            omega (arith, now, old, new)
        | inr other ↦
            let now : free (row s v0) (parked (record s { parks = put None s.parks v p }) v0) ≡ free (row s v0) (parked s v0) =
            ap (free (row s v0)) (get_or-put_other None s.parks v v0 p (λ same. other (sym same))) in
            let old : free_at v (row s v) (parked s v) ≡ 0 = cond-false (v == v0) (free (row s v) (parked s v)) 0 (ne_eqb v v0 other) in
            let new : free_at v (row s v) p ≡ 0 = cond-false (v == v0) (free (row s v) p) 0 (ne_eqb v v0 other) in
            omega (arith, now, old, new)
      ]

  pub side-drawn : (s : Side) (v : ℕ) → of_side (drawn v s) ≡ of_side s
  side-drawn s v = let rows = side-row s v (record (row s v) { next_number = (row s v).next_number + 1 }) in omega (arith, rows)

  pub side-counted : (s : Side) (v : ℕ) → of_side (call_counted v s) ≡ of_side s
  side-counted s v = let rows = side-row s v (record (row s v) { next_call = (row s v).next_call + 1 }) in omega (arith, rows)

  pub side-slot : (s : Side) (v sel : ℕ) (state : Slot) → of_side (with_slot v sel state s) ≡ of_side s
  side-slot s v sel state = let rows = side-row s v (record (row s v) { slots = put Free (row s v).slots sel state }) in omega (arith, rows)

  pub side-endpoint : (s : Side) (v ep : ℕ) (e : Option Endpoint) → of_side (with_endpoint v ep e s) ≡ of_side s
  side-endpoint s v ep e = refl

  pub side-rung : (s : Side) (v ep : ℕ) (f : List ℕ → List ℕ) → of_side (with_ring v ep f s) ≡ of_side s
  side-rung s v ep f = refl

  -- a parked call comes in for another, or for none: it costs the VPE at most
  pub side-parked : (s : Side) (v : ℕ) (p : Parked) → of_side (parked_as v p s) + free_at v (row s v) (parked s v) ≡ of_side s + free_at v (row s v) (Some p)
  side-parked s v p = side-park s v (Some p)

  pub parked-costs : (s : Side) (v : ℕ) (p : Parked) → of_side (parked_as v p s) ≤ of_side s + here v
  parked-costs s v p =
      let rows = side-parked s v p in
      let most = free-most v (row s v) (Some p) in
      omega (arith, rows, most)

  -- one that waits gives the VPE up
  waiting-none : (v : ℕ) (r : VpeRow) (p : Option Parked) → waits p ≡ true → free_at v r p ≡ 0
  waiting-none v r p waiting = cond_both (v == v0) (free r p) 0 (λ n. n ≡ 0) (λ _. cond-false (r.alive && not (waits p)) 1 0 (from r.alive)) (λ _. refl)
    where
      from : (b : Bool) → (b && not (waits p)) ≡ false
      from true = ap not waiting
      from false = refl

  pub side-waiting : (s : Side) (v : ℕ) (p : Parked) → waits (Some p) ≡ true → of_side (parked_as v p s) + free_at v (row s v) (parked s v) ≡ of_side s
  side-waiting s v p waiting =
      let rows = side-parked s v p in
      let none = waiting-none v (row s v) (Some p) waiting in
      omega (arith, rows, none)

  -- where neither waits, it costs nothing
  pub side-same : (s : Side) (v : ℕ) (p : Parked) → waits (parked s v) ≡ false → waits (Some p) ≡ false → of_side (parked_as v p s) ≡ of_side s
  side-same s v p before now =
      let rows = side-parked s v p in
      let same : free_at v (row s v) (parked s v) ≡ free_at v (row s v) (Some p) = ap (λ b. if v == v0 then (if (row s v).alive && not b then 1 else 0)
      else 0) (before ∙ sym now) in
      omega (arith, rows, same)

  pub side-unparked : (s : Side) (v : ℕ) → can_resume (parked s v) ≡ true → of_side (unparked v s) ≡ of_side s
  side-unparked s v can =
      let rows = side-park s v None in
      let same : free_at v (row s v) (parked s v) ≡ free_at v (row s v) None = ap (λ b. if v == v0 then (if (row s v).alive && not b then 1 else 0)
      else 0) (from (parked s v) can) in
      omega (arith, rows, same)
    where
      from : (p : Option Parked) → can_resume p ≡ true → waits p ≡ false
      from None h = absurd cc
      from (Some (ObtainWait number sel)) h = absurd cc
      from (Some (ObtainReady key parent object sel)) h = refl
      from (Some ObtainCancelled) h = refl
      from (Some (DelegateWait parent)) h = absurd cc
      from (Some (DelegateReady parent key)) h = refl
      from (Some (RevokeWait job)) h = absurd cc
      from (Some (Ready code)) h = refl

  dead-none : (v : ℕ) (r : VpeRow) (p : Option Parked) → r.alive ≡ false → free_at v r p ≡ 0
  dead-none v r p dead = cond_both (v == v0) (free r p) 0 (λ n. n ≡ 0) (λ _. cond-false (r.alive && not (waits p)) 1 0 (ap (λ b. b && not (waits p)) dead))
      (λ _. refl)

  pub side-unparked_dead : (s : Side) (v : ℕ) → (row s v).alive ≡ false → of_side (unparked v s) ≤ of_side s
  side-unparked_dead s v dead =
      let rows = side-park s v None in
      let none = dead-none v (row s v) None dead in
      omega (arith, rows, none)

  pub side-buried : (s : Side) (v : ℕ) → of_side (buried v s) + of_asks (row s v) ≤ of_side s
  side-buried s v =
      let rows = side-row s v (record (row s v) { alive = false; asks = [] }) in
      let none = dead-none v (record (row s v) { alive = false; asks = [] }) (parked s v) refl in
      omega (arith, rows, none)

  pub side-asked : (s : Side) (v : ℕ) (a : Ask) → of_side (asked v a s) ≤ of_side s + of_ask a
  side-asked s v a =
      let asks : List Ask = (row s v).asks in
      let more : List Ask = if nat_lt (length asks) ASKS then asks ++ a ∷ [] else asks in
      let push = sum_by_push of_ask asks a in
      let sum : sum_by of_ask more ≤ sum_by of_ask asks + of_ask a =
      cond_both (nat_lt (length asks) ASKS) (asks ++ a ∷ []) asks (λ xs. sum_by of_ask xs ≤ sum_by of_ask asks + of_ask a) (λ _. omega (arith, push))
      (λ _. omega arith) in
      let rows = side-row s v (record (row s v) { asks = more }) in
      omega (arith, rows, sum)

  pub side-taken : (s : Side) (v : ℕ) → of_side (ask_taken v s) + of_option of_ask (slice_get (row s v).asks 0) ≡ of_side s
  side-taken s v =
      let rows = side-row s v (record (row s v) { asks = drop 1 (row s v).asks }) in
      let asks = weigh-drop of_ask (row s v).asks in
      omega (arith, rows, asks)

  -- marks leave the rows and the parked calls
  pub side-marked : (s : Side) (ks : List KeyName) (j : ℕ) → of_side (unbind_all ks (mark_all ks j s)) ≡ of_side s
  side-marked s ks j = refl

  -- Messages.

  pub side-send : (s : Side) (j : ℕ) (m : Message) → of_side (send j m s) ≡ of_side s + of_message m
  side-send s j m =
      let outs = weigh-put of_messages [] refl s.outs j (outbox s j ++ m ∷ []) in
      let push = sum_by_push of_message (outbox s j) m in
      omega (arith, outs, push)

  pub side-sent : (s : Side) (j : ℕ) → of_side (sent j s) + of_option of_message (slice_get (outbox s j) 0) ≡ of_side s
  side-sent s j =
      let outs = weigh-put of_messages [] refl s.outs j (drop 1 (outbox s j)) in
      let front = weigh-drop of_message (outbox s j) in
      omega (arith, outs, front)

  pub side-inbox : (s : Side) (message : Option (ℕ × Message)) → of_side (with_inbox message s) + of_inbox s.inbox ≡ of_side s + of_inbox message
  side-inbox s message = omega arith

  -- Jobs.

  pub side-opened : (s : Side) (root : KeyName) (up : Option Up) (waiters : List ℕ) (keep : Bool) →
      of_side (job_opened root up waiters keep s) ≡ of_side s + sum_by here waiters
  side-opened s root up waiters keep =
      let push = sum_by_push of_job s.jobs (record { id = s.next_job; root = root; up = up; waiters = waiters; count = 0; keep = keep }) in
      omega (arith, push)

  -- a change that leaves those who wait
  pub side-changed : (s : Side) (j : ℕ) (f : JobRow → JobRow) → ((x : JobRow) → of_job (f x) ≡ of_job x) → of_side (job_changed j f s) ≡ of_side s
  side-changed s j f same =
      let jobs = weigh-map of_job (λ x. if x.id == j then f x else x) (λ x. cond_both (x.id == j) (f x) x (λ y. of_job y ≡ of_job x) (λ _. same x) (λ _. refl))
      s.jobs in
      omega (arith, jobs)

  number-more : (vs : List ℕ) (v : ℕ) → sum_by here (with_number vs v) ≤ sum_by here vs + here v
  number-more vs v =
      let joined = sum_by-append here (filter (λ w. nat_lt w v) vs) (v ∷ filter (λ w. nat_lt v w) vs) in
      let first = sum_by-cons here v (filter (λ w. nat_lt v w) vs) in
      let parts = apart-lighter here (λ w. nat_lt w v) (λ w. nat_lt v w) (λ w below. below-not_above w v below) vs in
      omega (arith, joined, first, parts)

  pub side-waiter : (s : Side) (v j : ℕ) → IdsRise s.jobs → of_side (job_changed j (λ x. record x { waiters = with_number x.waiters v }) s) ≤ of_side s + here v
  side-waiter s v j rise =
      let pairs : AllPairs (λ (a b : JobRow). (a.id == j) ≡ true → (b.id == j) ≡ false) s.jobs =
      λ m n e lt within at. apart (get_or s.jobs m e).id (get_or s.jobs n e).id (rise m n e lt within) at in
      let jobs = change-once of_job (λ x. x.id == j) (λ x. record x { waiters = with_number x.waiters v }) (here v) s.jobs pairs
      (λ x _. number-more x.waiters v) in
      omega (arith, jobs)
    where
      apart : (a b : ℕ) → a < b → (a == j) ≡ true → (b == j) ≡ false
      apart a b below at = ne_eqb b j (λ same. let first = eqb-true a j at in omega (arith, first, same, below))

  pub side-left : (s : Side) (j v : ℕ) → of_side (waiter_left j v s) ≤ of_side s
  side-left s j v =
      let jobs = weigh-map_less of_job (λ (x : JobRow). record x {
        waiters = without_number x.waiters v;
        keep = x.keep && not ((x.id == j) && (x.root.vpe == v));
      }) (λ x. weigh-filter here (λ w. not (w == v)) x.waiters) s.jobs in
      omega (arith, jobs)

  abbrev pub of_id : ℕ → List JobRow → ℕ
  of_id j xs = sum_by of_job (filter (λ x. x.id == j) xs)

  pub side-closed : (s : Side) (j : ℕ) → of_side (job_removed j s) + of_id j s.jobs ≡ of_side s
  side-closed s j = let parts = weigh-parts of_job (λ x. x.id == j) s.jobs in omega (arith, parts)

  pub id-weighs : (xs : List JobRow) (x : JobRow) → Contains xs x → of_job x ≤ of_id x.id xs
  id-weighs xs x among = weigh-among of_job (filter (λ y. y.id == x.id) xs) x (Contains-filter (λ y. y.id == x.id) xs x among (eq-eqb x.id x.id refl))
