-- What each part of a side weighs for the bound, and what each change of a side does to the weight.
use Rattle.sem_machine.proofs.Weighing.{change-once, change-less, of_option, weigh-put, weigh-drop, weigh-parts}
use Rattle.sem_machine.proofs.Weighing.{weigh-filter, weigh-among}
use Rattle.std.proofs.Common.{◌≡◌, ℕ, ◌+◌, ◌-◌, ◌<◌, ◌≤◌, Bool, true, false, not, ◌&&◌, List, [], ◌∷◌, ◌++◌, length}
use Rattle.std.proofs.Common.{drop, get_or, Option, Some, None, is_some, is_none, slice_get, refl, sym, ap, ◌∙◌, inl}
use Rattle.std.proofs.Common.{inr, arith, eq-eqb}
use Rattle.std.specs.Prelude.{◌==◌, nat_lt, if◌then◌else◌}
use Rattle.std.specs.List.{Contains, AllPairs, filter, flat_map, sum_by, list_any}
use Rattle.std.proofs.lemmas.Bool.{cases_Bool, cond-true, cond-false, cond_both, eqb-true, ne_eqb, false_from_ne_true}
use Rattle.std.proofs.lemmas.Bool.{and_parts, and_from}
use Rattle.std.proofs.lemmas.List.Sums.{sum_by-cons, sum_by-append, sum_by_push}
use Rattle.sem_key.specs.KeyName.{KeyName, key_eq, key_lt}
use Rattle.sem_key.specs.KeyList.{with_key, without_key}
use Rattle.sem_key.specs.Lists.{change, put}
use Rattle.sem_key.specs.Capability.{Capability}
use Rattle.sem_key.specs.CapList.{is_marked_by, with_mark, restored}
use Rattle.sem_msg.specs.declared.limits.TheConstants.{ASKS}
use Rattle.sem_msg.specs.declared.message.Message.{Message}
use Rattle.sem_msg.specs.declared.message.Message.TheVariants.{ObtainReq, ObtainOk, ObtainNo, DelegateReq}
use Rattle.sem_msg.specs.declared.message.Message.TheVariants.{DelegatePrepared, DelegateNo, Ack, Orphan, RevokeReq}
use Rattle.sem_msg.specs.declared.message.Message.TheVariants.{RevokeDone, Unlink}
use Rattle.sem_msg.specs.declared.state.Ask.{Ask}
use Rattle.sem_msg.specs.declared.state.Ask.TheVariants.{Obtain as ObtainAsk, Delegate as DelegateAsk}
use Rattle.sem_msg.specs.declared.state.Parked.{Parked}
use Rattle.sem_msg.specs.declared.state.Parked.TheVariants.{ObtainWait, ObtainReady, ObtainCancelled, DelegateWait}
use Rattle.sem_msg.specs.declared.state.Parked.TheVariants.{DelegateReady, RevokeWait, Ready}
use Rattle.sem_msg.specs.declared.state.Slot.{Slot}
use Rattle.sem_msg.specs.declared.state.Slot.TheVariants.{Free}
use Rattle.sem_msg.specs.declared.state.Up.{Up}
use Rattle.sem_msg.specs.declared.state.Up.TheVariants.{Local, Remote}
use Rattle.sem_msg.specs.Rows.{Endpoint, JobRow, VpeRow, no_vpe}
use Rattle.sem_msg.specs.Setup.{Setup}
use Rattle.sem_msg.specs.Lookups.{kernel_of, is_local}
use Rattle.sem_msg.specs.JobRows.{with_number, without_number}
use Rattle.sem_machine.specs.Sides.{Side, row, outbox, call_counted, drawn, with_slot, parked_as, unparked, asked}
use Rattle.sem_machine.specs.Sides.{ask_taken, buried, with_endpoint, unbind_all, cap_added, linked, unlinked}
use Rattle.sem_machine.specs.Sides.{mark_all, caps_removed, job_opened, job_changed, job_removed, send, sent}
use Rattle.sem_machine.specs.Sides.{with_inbox, parked}
use Rattle.sem_key.specs.Region.{has_key, linked_from, all_marked}
use Rattle.sem_machine.specs.Asks.{asker}
use Rattle.sem_machine.specs.Revokes.{waiter_left, spared, root_spared}
use Rattle.sem_machine.specs.Endpoints.{with_ring}
use Rattle.sem_key.proofs.KeyTests.{key_eq-true, key_eq-from}
use Rattle.sem_key.proofs.Members.{Contains-head, Contains-tail, Contains-filter, Contains-from_filter}
use Rattle.sem_safety.specs.Observations.{AreDistinct}
use Rattle.sem_machine.proofs.Lengths.{with_number-longer, without_number-shorter, weigh-map_less}
use Rattle.sem_safety.proofs.JobIds.{IdsRise}
use Rattle.sem_bound.proofs.KeySums.{with_key-heavier}

-- what a message weighs besides its way
abbrev pub besides : Message → ℕ
besides (ObtainReq place target) = 14
besides (ObtainOk parent key object) = 4
besides (ObtainNo place code) = 1
besides (DelegateReq parent object vpe sel) = 17
besides (DelegatePrepared parent key) = 13
besides (DelegateNo parent code) = 1
besides (Ack key true) = 3
besides (Ack key false) = 0
besides (Orphan parent key) = 0
besides (RevokeReq key job) = 3
besides (RevokeDone job) = 0
besides (Unlink parent key) = 0

-- in an outbox, in a link
abbrev pub in_outbox : Message → ℕ
in_outbox m = 3 + besides m

abbrev pub in_link : Message → ℕ
in_link m = 2 + besides m

abbrev pub of_inbox : Option (ℕ × Message) → ℕ
of_inbox None = 0
of_inbox (Some m) = 1 + besides m.1

-- a parked call that can go on; one that waits weighs nothing, since what it waits for does
abbrev pub of_parked : Option Parked → ℕ
of_parked None = 0
of_parked (Some (ObtainWait number sel)) = 0
of_parked (Some (ObtainReady key parent object sel)) = 4
of_parked (Some ObtainCancelled) = 1
of_parked (Some (DelegateWait parent)) = 0
of_parked (Some (DelegateReady parent key)) = 13
of_parked (Some (RevokeWait job)) = 0
of_parked (Some (Ready code)) = 1

-- an ask of another kernel's VPE
abbrev pub of_far_ask : Ask → ℕ
of_far_ask (ObtainAsk place target) = 14
of_far_ask (DelegateAsk parent object sel) = 17

abbrev pub of_outbox : List Message → ℕ
of_outbox ms = sum_by in_outbox ms

-- The side of kernel i. What is near costs no message: a root has no parent to tell, and a key that was granted
-- within its kernel has its parent there.
module _ (T : Setup) (near : KeyName → Bool) (i : ℕ) where
  -- what an ask of the same kernel brings: its upcall, and that the call goes on
  abbrev pub of_ask : Ask → ℕ
  of_ask a = if kernel_of T (asker a) == i then 2 else of_far_ask a

  abbrev pub of_row : VpeRow → ℕ
  of_row r = sum_by of_ask r.asks

  -- what it costs to tell the parent of a key that it is gone
  abbrev pub of_key : KeyName → ℕ
  of_key k = if near k then 0 else 3

  -- what it costs to ask for the revoke of a child, and to be told of it
  abbrev pub of_link : KeyName → ℕ
  of_link k = if is_local T i k then 0 else 6

  abbrev pub of_children : List KeyName → ℕ
  of_children ks = sum_by of_link ks

  -- a marked capability weighs nothing
  abbrev pub of_cap : Capability → ℕ
  of_cap c = if is_some c.mark then 0 else of_key c.key + of_children c.children

  -- what a job that keeps its root gives back to it
  abbrev pub of_keep : KeyName → Bool → ℕ
  of_keep root keep = if keep then of_key root else 0

  -- A finished job tells the job above it, or the parent of its root; one that nobody asked for tells no parent if it
  -- keeps its root.
  abbrev pub of_up : KeyName → Bool → Option Up → ℕ
  of_up root keep None = of_key root
  of_up root keep (Some (Local j)) = of_key root + of_keep root keep
  of_up root keep (Some (Remote kernel j)) = 3 + of_keep root keep

  abbrev pub of_job : JobRow → ℕ
  of_job x = of_up x.root x.keep x.up + length x.waiters

  abbrev pub of_side : Side → ℕ
  of_side s = sum_by of_cap s.caps
      + (sum_by of_row s.vpes
      + (sum_by of_parked s.parks + (sum_by of_job s.jobs + (of_inbox s.inbox + sum_by of_outbox s.outs))))

  pub key-most : (k : KeyName) → of_key k ≤ 3
  key-most k = cond_both (near k) 0 3 (λ n. n ≤ 3) (λ _. omega arith) (λ _. omega arith)

  up-least : (root : KeyName) (keep : Bool) (up : Option Up) → of_key root ≤ of_up root keep up
  up-least root keep None = omega arith
  up-least root keep (Some (Local j)) = omega arith
  up-least root keep (Some (Remote kernel j)) = let most = key-most root in omega (arith, most)

  pub ask-most : (a : Ask) → of_ask a ≤ of_far_ask a
  ask-most a = cond_both (kernel_of T (asker a) == i) 2 (of_far_ask a) (λ n. n ≤ of_far_ask a)
      (λ _. let least = far-least a in omega (arith, least)) (λ _. omega arith)
    where
      far-least : (b : Ask) → 14 ≤ of_far_ask b
      far-least (ObtainAsk place target) = omega arith
      far-least (DelegateAsk parent object sel) = omega arith

  -- what is local is linked to for nothing
  pub link-local : (k : KeyName) → is_local T i k ≡ true → of_link k ≡ 0
  link-local k here = cond-true (is_local T i k) 0 6 here

  pub link-most : (k : KeyName) → of_link k ≤ 6
  link-most k = cond_both (is_local T i k) 0 6 (λ n. n ≤ 6) (λ _. omega arith) (λ _. omega arith)

  -- Rows.

  pub side-row : (s : Side) (v : ℕ) (r : VpeRow) →
      of_side (record s { vpes = put no_vpe s.vpes v r }) + of_row (row s v) ≡ of_side s + of_row r
  side-row s v r = let rows = weigh-put of_row no_vpe refl s.vpes v r in omega (arith, rows)

  pub side-lighter : (s : Side) (v : ℕ) (r : VpeRow) → of_row r ≤ of_row (row s v) →
      of_side (record s { vpes = put no_vpe s.vpes v r }) ≤ of_side s
  side-lighter s v r less = let rows = side-row s v r in omega (arith, rows, less)

  pub side-drawn : (s : Side) (v : ℕ) → of_side (drawn v s) ≤ of_side s
  side-drawn s v = side-lighter s v (record (row s v) { next_number = (row s v).next_number + 1 }) (omega arith)

  pub side-counted : (s : Side) (v : ℕ) → of_side (call_counted v s) ≤ of_side s
  side-counted s v = side-lighter s v (record (row s v) { next_call = (row s v).next_call + 1 }) (omega arith)

  pub side-slot : (s : Side) (v sel : ℕ) (state : Slot) → of_side (with_slot v sel state s) ≤ of_side s
  side-slot s v sel state =
      side-lighter s v (record (row s v) { slots = put Free (row s v).slots sel state }) (omega arith)

  pub side-endpoint : (s : Side) (v ep : ℕ) (e : Option Endpoint) → of_side (with_endpoint v ep e s) ≤ of_side s
  side-endpoint s v ep e = omega arith

  pub side-rung : (s : Side) (v ep : ℕ) (f : List ℕ → List ℕ) → of_side (with_ring v ep f s) ≤ of_side s
  side-rung s v ep f = omega arith

  side-park : (s : Side) (v : ℕ) (p : Option Parked) →
      of_side (record s { parks = put None s.parks v p }) + of_parked (parked s v) ≡ of_side s + of_parked p
  side-park s v p = let calls = weigh-put of_parked None refl s.parks v p in omega (arith, calls)

  pub side-parked : (s : Side) (v : ℕ) (p : Parked) → of_side (parked_as v p s) ≤ of_side s + of_parked (Some p)
  side-parked s v p = let calls = side-park s v (Some p) in omega (arith, calls)

  pub side-reparked : (s : Side) (v : ℕ) (p : Parked) →
      of_side (parked_as v p s) + of_parked (parked s v) ≡ of_side s + of_parked (Some p)
  side-reparked s v p = let calls = side-park s v (Some p) in omega (arith, calls)

  pub side-unparked : (s : Side) (v : ℕ) → of_side (unparked v s) + of_parked (parked s v) ≡ of_side s
  side-unparked s v = let calls = side-park s v None in omega (arith, calls)

  pub side-buried : (s : Side) (v : ℕ) → of_side (buried v s) + sum_by of_ask (row s v).asks ≡ of_side s
  side-buried s v = let rows = side-row s v (record (row s v) { alive = false; asks = [] }) in omega (arith, rows)

  pub side-asked : (s : Side) (v : ℕ) (a : Ask) → of_side (asked v a s) ≤ of_side s + of_ask a
  side-asked s v a =
      let asks : List Ask = (row s v).asks in
      let more : List Ask = if nat_lt (length asks) ASKS then asks ++ a ∷ [] else asks in
      let push = sum_by_push of_ask asks a in
      let sum : sum_by of_ask more ≤ sum_by of_ask asks + of_ask a =
      cond_both (nat_lt (length asks) ASKS) (asks ++ a ∷ []) asks
      (λ xs. sum_by of_ask xs ≤ sum_by of_ask asks + of_ask a) (λ _. omega (arith, push))
      (λ _. omega arith) in
      let rows = side-row s v (record (row s v) { asks = more }) in
      omega (arith, rows, sum)

  pub side-taken : (s : Side) (v : ℕ) →
      of_side (ask_taken v s) + of_option of_ask (slice_get (row s v).asks 0) ≡ of_side s
  side-taken s v =
      let rows = side-row s v (record (row s v) { asks = drop 1 (row s v).asks }) in
      let asks = weigh-drop of_ask (row s v).asks in
      omega (arith, rows, asks)

  -- Messages.

  pub side-send : (s : Side) (j : ℕ) (m : Message) → of_side (send j m s) ≡ of_side s + (3 + besides m)
  side-send s j m =
      let outs = weigh-put of_outbox [] refl s.outs j (outbox s j ++ m ∷ []) in
      let push = sum_by_push in_outbox (outbox s j) m in
      omega (arith, outs, push)

  pub side-sent : (s : Side) (j : ℕ) → of_side (sent j s) + of_option in_outbox (slice_get (outbox s j) 0) ≡ of_side s
  side-sent s j =
      let outs = weigh-put of_outbox [] refl s.outs j (drop 1 (outbox s j)) in
      let front = weigh-drop in_outbox (outbox s j) in
      omega (arith, outs, front)

  pub side-inbox : (s : Side) (message : Option (ℕ × Message)) →
      of_side (with_inbox message s) + of_inbox s.inbox ≡ of_side s + of_inbox message
  side-inbox s message = omega arith

  -- Capabilities.

  pub side-added : (s : Side) (c : Capability) → of_side (cap_added c s) ≡ of_side s + of_cap c
  side-added s c =
      let parts = weigh-parts of_cap (λ x. key_lt x.key c.key) s.caps in
      let joined = sum_by-append of_cap (filter (λ x. key_lt x.key c.key) s.caps)
      (c ∷ filter (λ x. not (key_lt x.key c.key)) s.caps) in
      let first = sum_by-cons of_cap c (filter (λ x. not (key_lt x.key c.key)) s.caps) in
      omega (arith, parts, joined, first)

  -- more or fewer children
  children-weigh : (c : Capability) (ks : List KeyName) (d : ℕ) → of_children ks ≤ of_children c.children + d →
      of_cap (record c { children = ks }) ≤ of_cap c + d
  children-weigh c ks d more = from (is_some c.mark) refl
    where
      from : (b : Bool) → is_some c.mark ≡ b →
          (if is_some c.mark then 0 else of_key c.key + of_children ks) ≤ of_cap c + d
      from true marked = let new = cond-true (is_some c.mark) 0 (of_key c.key + of_children ks) marked in
          omega (arith, new)
      from false unmarked =
          let new = cond-false (is_some c.mark) 0 (of_key c.key + of_children ks) unmarked in
          let old = cond-false (is_some c.mark) 0 (of_key c.key + of_children c.children) unmarked in
          omega (arith, new, old, more)

  pub side-linked : (s : Side) (p k : KeyName) → AreDistinct s.caps → of_side (linked p k s) ≤ of_side s + of_link k
  side-linked s p k distinct =
      let f : Capability → Capability = λ c. record c { children = with_key c.children k } in
      let pairs : AllPairs (λ (a b : Capability). key_eq a.key p ≡ true → key_eq b.key p ≡ false) s.caps =
      λ i j d lt within here. apart (get_or s.caps i d).key (get_or s.caps j d).key
      (distinct i j d lt within) here in
      let caps = change-once of_cap (λ c. key_eq c.key p) f (of_link k) s.caps pairs
      (λ c _. children-weigh c (with_key c.children k) (of_link k) (with_key-heavier of_link c.children k)) in
      omega (arith, caps)
    where
      apart : (a b : KeyName) → key_eq a b ≡ false → key_eq a p ≡ true → key_eq b p ≡ false
      apart a b differ here =
          false_from_ne_true (key_eq b p)
          (λ there.
          let same : key_eq a b ≡ true =
          key_eq-from a b (key_eq-true a p here ∙ sym (key_eq-true b p there)) in absurd cc)

  pub side-unlinked : (s : Side) (p k : KeyName) → of_side (unlinked p k s) ≤ of_side s
  side-unlinked s p k =
      let caps = change-less of_cap (λ c. key_eq c.key p)
      (λ c. record c { children = without_key c.children k }) s.caps
      (λ c. let less = children-weigh c (without_key c.children k) 0
      (let l = weigh-filter of_link (λ q. not (key_eq q k)) c.children in omega (arith, l)) in
      omega (arith, less)) in
      omega (arith, caps)

  pub side-removed : (s : Side) (j : ℕ) → of_side (caps_removed j s) ≤ of_side s
  side-removed s j = let caps = weigh-filter of_cap (λ c. not (is_marked_by j c)) s.caps in omega (arith, caps)

  -- the root of a job loses its mark and all its links
  pub side-restored : (s : Side) (k : KeyName) → AreDistinct s.caps →
      of_side (record s { caps = restored s.caps k }) ≤ of_side s + of_key k
  side-restored s k distinct =
      let f : Capability → Capability = λ c. record c { children = []; mark = None } in
      let pairs : AllPairs (λ (a b : Capability). key_eq a.key k ≡ true → key_eq b.key k ≡ false) s.caps =
      λ i j d lt within here. apart (get_or s.caps i d).key (get_or s.caps j d).key
      (distinct i j d lt within) here in
      let caps = change-once of_cap (λ c. key_eq c.key k) f (of_key k) s.caps pairs
      (λ c here. let same = ap of_key (key_eq-true c.key k here) in
      let new : of_cap (f c) ≡ of_key c.key = omega arith in omega (arith, new, same)) in
      omega (arith, caps)
    where
      apart : (a b : KeyName) → key_eq a b ≡ false → key_eq a k ≡ true → key_eq b k ≡ false
      apart a b differ here =
          false_from_ne_true (key_eq b k)
          (λ there.
          let same : key_eq a b ≡ true =
          key_eq-from a b (key_eq-true a k here ∙ sym (key_eq-true b k there)) in absurd cc)

  pub side-spared : (s : Side) (x : JobRow) → AreDistinct s.caps →
      of_side (root_spared x s) ≤ of_side s + of_keep x.root x.keep
  side-spared s x distinct = from x.keep
    where
      from : (b : Bool) → of_side (record s { caps = spared b x.root s.caps }) ≤ of_side s + of_keep x.root b
      from true = side-restored s x.root distinct
      from false = omega arith

  -- Marks.

  -- those of the keys that are not marked yet
  abbrev pub taken : List KeyName → List Capability → List Capability
  taken ks cs = filter (λ c. is_none c.mark && has_key ks c.key) cs

  unmarked-weighs : (c : Capability) → is_none c.mark ≡ true → of_cap c ≡ of_key c.key + of_children c.children
  unmarked-weighs c unmarked =
      cond-false (is_some c.mark) 0 (of_key c.key + of_children c.children) (from c.mark unmarked)
    where
      from : (m : Option ℕ) → is_none m ≡ true → is_some m ≡ false
      from None h = refl
      from (Some j) h = absurd cc

  marked-weighs : (c : Capability) → is_none c.mark ≡ false → of_cap c ≡ 0
  marked-weighs c marked = cond-true (is_some c.mark) 0 (of_key c.key + of_children c.children) (from c.mark marked)
    where
      from : (m : Option ℕ) → is_none m ≡ false → is_some m ≡ true
      from None h = absurd cc
      from (Some j) h = refl

  marks-lighten : (ks : List KeyName) (j : ℕ) (cs : List Capability) →
      sum_by of_cap (all_marked ks j cs) + sum_by of_cap (taken ks cs) ≡ sum_by of_cap cs
  marks-lighten ks j [] = refl
  marks-lighten ks j (c ∷ cs) =
      let rest = marks-lighten ks j cs in
      let t : Capability → Bool = λ x. is_none x.mark && has_key ks x.key in
      let new = sum_by-cons of_cap (if has_key ks c.key then with_mark j c else c)
      (change (λ x. list_any (key_eq x.key) ks) (with_mark j) cs) in
      let old = sum_by-cons of_cap c cs in
      elim (cases_Bool (has_key ks c.key)) [
        | inl has ↦
            let here : of_cap (if has_key ks c.key then with_mark j c else c) ≡ 0 =
            ap of_cap (cond-true (has_key ks c.key) (with_mark j c) c has) in
            elim (cases_Bool (is_none c.mark)) [
              | inl unmarked ↦
                  let first : taken ks (c ∷ cs) ≡ c ∷ taken ks cs =
                  cond-true (t c) (c ∷ taken ks cs) (taken ks cs)
                  (and_from (is_none c.mark) (has_key ks c.key) unmarked has) in
                  let sum = ap (sum_by of_cap) first in
                  let kept = sum_by-cons of_cap c (taken ks cs) in
                  omega (arith, rest, new, old, here, sum, kept)
              | inr marked ↦
                  let none : of_cap c ≡ 0 = marked-weighs c marked in
                  let first : taken ks (c ∷ cs) ≡ taken ks cs =
                  cond-false (t c) (c ∷ taken ks cs) (taken ks cs) (ap (λ b. b && has_key ks c.key) marked) in
                  let sum = ap (sum_by of_cap) first in
                  omega (arith, rest, new, old, here, sum, none)
            ]
        | inr other ↦
            let here : of_cap (if has_key ks c.key then with_mark j c else c) ≡ of_cap c =
            ap of_cap (cond-false (has_key ks c.key) (with_mark j c) c other) in
            let fails : t c ≡ false =
            false_from_ne_true (t c) (λ pass. let both = and_parts (is_none c.mark) (has_key ks c.key) pass in
            absurd (cc (both.1, other))) in
            let first : taken ks (c ∷ cs) ≡ taken ks cs = cond-false (t c) (c ∷ taken ks cs) (taken ks cs) fails in
            let sum = ap (sum_by of_cap) first in
            omega (arith, rest, new, old, here, sum)
      ]

  pub side-marked : (s : Side) (ks : List KeyName) (j : ℕ) →
      of_side (unbind_all ks (mark_all ks j s)) + sum_by of_cap (taken ks s.caps) ≡ of_side s
  side-marked s ks j =
      let caps = marks-lighten ks j s.caps in
      omega (arith, caps)

  -- unmarked capabilities weigh what the children do that they lead to
  links-weigh : (cs : List Capability) → ((c : Capability) → Contains cs c → is_none c.mark ≡ true) →
      of_children (flat_map (λ (c : Capability). c.children) cs) + sum_by (λ (c : Capability). of_key c.key) cs
      ≡ sum_by of_cap cs
  links-weigh [] unmarked = refl
  links-weigh (c ∷ cs) unmarked =
      let rest = links-weigh cs (λ d among. unmarked d (Contains-tail c cs d among)) in
      let here = unmarked-weighs c (unmarked c (Contains-head c cs)) in
      let old = sum_by-cons of_cap c cs in
      let keys = sum_by-cons (λ (x : Capability). of_key x.key) c cs in
      let joined = sum_by-append of_link c.children (flat_map (λ (x : Capability). x.children) cs) in
      omega (arith, rest, here, old, keys, joined)

  -- what a region weighs: its links, and what its root weighs
  pub taken-weighs : (cs : List Capability) (ks : List KeyName) (c : Capability) → Contains cs c → c.mark ≡ None →
      has_key ks c.key ≡ true → of_children (linked_from cs ks) + of_key c.key ≤ sum_by of_cap (taken ks cs)
  taken-weighs cs ks c among unmarked has =
      let t : Capability → Bool = λ x. is_none x.mark && has_key ks x.key in
      let all = links-weigh (taken ks cs)
      (λ d in_taken. (and_parts (is_none d.mark) (has_key ks d.key)
      (Contains-from_filter t cs d in_taken).1).0) in
      let there : Contains (taken ks cs) c =
      Contains-filter t cs c among (and_from (is_none c.mark) (has_key ks c.key) (ap is_none unmarked) has) in
      let root = weigh-among (λ (x : Capability). of_key x.key) (taken ks cs) c there in
      omega (arith, all, root)

  -- Jobs.

  pub side-opened : (s : Side) (root : KeyName) (up : Option Up) (waiters : List ℕ) (keep : Bool) →
      of_side (job_opened root up waiters keep s) ≡ of_side s + (of_up root keep up + length waiters)
  side-opened s root up waiters keep =
      let push = sum_by_push of_job s.jobs
      (record { id = s.next_job; root = root; up = up; waiters = waiters; count = 0; keep = keep }) in
      omega (arith, push)

  pub side-changed : (s : Side) (j : ℕ) (f : JobRow → JobRow) → ((x : JobRow) → of_job (f x) ≤ of_job x) →
      of_side (job_changed j f s) ≤ of_side s
  side-changed s j f less = let jobs = change-less of_job (λ x. x.id == j) f s.jobs less in omega (arith, jobs)

  pub side-grown : (s : Side) (j d : ℕ) (f : JobRow → JobRow) → IdsRise s.jobs →
      ((x : JobRow) → of_job (f x) ≤ of_job x + d) → of_side (job_changed j f s) ≤ of_side s + d
  side-grown s j d f rise more =
      let pairs : AllPairs (λ (a b : JobRow). (a.id == j) ≡ true → (b.id == j) ≡ false) s.jobs =
      λ m n e lt within here. apart (get_or s.jobs m e).id (get_or s.jobs n e).id (rise m n e lt within) here in
      let jobs = change-once of_job (λ x. x.id == j) f d s.jobs pairs (λ x _. more x) in
      omega (arith, jobs)
    where
      apart : (a b : ℕ) → a < b → (a == j) ≡ true → (b == j) ≡ false
      apart a b below here = ne_eqb b j (λ same. let at = eqb-true a j here in omega (arith, at, same, below))

  pub side-counted_up : (s : Side) (j : ℕ) →
      of_side (job_changed j (λ x. record x { count = x.count + 1 }) s) ≤ of_side s
  side-counted_up s j = side-changed s j (λ x. record x { count = x.count + 1 }) (λ x. omega arith)

  pub side-counted_down : (s : Side) (j : ℕ) →
      of_side (job_changed j (λ x. record x { count = x.count - 1 }) s) ≤ of_side s
  side-counted_down s j = side-changed s j (λ x. record x { count = x.count - 1 }) (λ x. omega arith)

  pub side-up_local : (s : Side) (j m : ℕ) →
      of_side (job_changed m (λ x. record x { up = Some (Local j); keep = false }) s) ≤ of_side s
  side-up_local s j m =
      side-changed s m (λ x. record x { up = Some (Local j); keep = false })
      (λ x. let least = up-least x.root x.keep x.up in omega (arith, least))

  pub side-up_remote : (s : Side) (kernel j m : ℕ) → IdsRise s.jobs →
      of_side (job_changed m (λ x. record x { up = Some (Remote kernel j); keep = false }) s) ≤ of_side s + 3
  side-up_remote s kernel j m rise =
      side-grown s m 3 (λ x. record x { up = Some (Remote kernel j); keep = false }) rise (λ x. omega arith)

  pub side-waiting : (s : Side) (v j : ℕ) → IdsRise s.jobs →
      of_side (job_changed j (λ x. record x { waiters = with_number x.waiters v }) s) ≤ of_side s + 1
  side-waiting s v j rise = side-grown s j 1 (λ x. record x { waiters = with_number x.waiters v }) rise
      (λ x. let more = with_number-longer x.waiters v in omega (arith, more))

  keep-less : (root : KeyName) (keep other : Bool) → of_keep root (keep && other) ≤ of_keep root keep
  keep-less root true other =
      cond_both other (of_key root) 0 (λ n. n ≤ of_key root) (λ _. omega arith) (λ _. omega arith)
  keep-less root false other = omega arith

  up-less : (root : KeyName) (keep other : Bool) (up : Option Up) → of_up root (keep && other) up ≤ of_up root keep up
  up-less root keep other None = omega arith
  up-less root keep other (Some (Local j)) = let less = keep-less root keep other in omega (arith, less)
  up-less root keep other (Some (Remote kernel j)) = let less = keep-less root keep other in omega (arith, less)

  pub side-left : (s : Side) (j v : ℕ) → of_side (waiter_left j v s) ≤ of_side s
  side-left s j v =
      let jobs = weigh-map_less of_job
      (λ (x : JobRow). record x {
        waiters = without_number x.waiters v;
        keep = x.keep
            && not ((x.id == j) && (x.root.vpe == v));
      }) (λ x. let fewer = without_number-shorter x.waiters v in
      let less = up-less x.root x.keep (not ((x.id == j) && (x.root.vpe == v))) x.up in
      omega (arith, fewer, less)) s.jobs in
      omega (arith, jobs)

  -- what the jobs of an id weigh
  abbrev pub of_id : ℕ → List JobRow → ℕ
  of_id j xs = sum_by of_job (filter (λ x. x.id == j) xs)

  pub side-closed : (s : Side) (j : ℕ) → of_side (job_removed j s) + of_id j s.jobs ≡ of_side s
  side-closed s j = let parts = weigh-parts of_job (λ x. x.id == j) s.jobs in omega (arith, parts)

  pub id-weighs : (xs : List JobRow) (x : JobRow) → Contains xs x → of_job x ≤ of_id x.id xs
  id-weighs xs x among =
      weigh-among of_job (filter (λ y. y.id == x.id) xs) x
      (Contains-filter (λ y. y.id == x.id) xs x among (eq-eqb x.id x.id refl))
  -- a count changes no weight
