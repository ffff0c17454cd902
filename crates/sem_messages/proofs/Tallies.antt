-- A tally: what each message, ask, pending delegation and job counts; and what each change of a side does to the sum.
use Rattle.std.proofs.Common.{◌≡◌, ℕ, ◌+◌, ◌<◌, Bool, false, List, [], ◌∷◌, ◌++◌, length, drop}
use Rattle.std.proofs.Common.{Option, is_some, Some, None, slice_get, refl, ap, arith, lt-ltb}
use Rattle.std.specs.Prelude.{◌==◌, nat_lt, if◌then◌else◌}
use Rattle.std.specs.List.{sum_by}
use Rattle.std.proofs.lemmas.Bool.{cond-true, cond_both}
use Rattle.std.proofs.lemmas.List.Sums.{sum_by_push}
use Rattle.sem_key.specs.KeyName.{KeyName}
use Rattle.sem_key.specs.Lists.{put}
use Rattle.sem_key.specs.Capability.{Capability}
use Rattle.sem_msg.specs.declared.limits.TheConstants.{ASKS}
use Rattle.sem_msg.specs.declared.message.Message.{Message}
use Rattle.sem_msg.specs.declared.state.Ask.{Ask}
use Rattle.sem_msg.specs.declared.state.Pending.{Pending}
use Rattle.sem_msg.specs.declared.state.Slot.{Slot}
use Rattle.sem_msg.specs.declared.state.Slot.TheVariants.{Free}
use Rattle.sem_msg.specs.declared.state.Up.{Up}
use Rattle.sem_msg.specs.Rows.{JobRow, VpeRow, no_vpe}
use Rattle.sem_msg.specs.Setup.{Setup}
use Rattle.sem_msg.specs.Lookups.{kernel_of}
use Rattle.sem_machine.specs.Sides.{Side, row, outbox, call_counted, drawn, with_slot, asked, ask_taken, buried}
use Rattle.sem_machine.specs.Sides.{pending_added, pending_removed, job_opened, send, sent, with_inbox}
use Rattle.sem_machine.specs.Asks.{asker}
use Rattle.sem_machine.proofs.Weighing.{of_option, weigh-put, weigh-drop}

-- what each thing counts
pub record Tally : Type 0 where
  -- a message that waits to be sent, and one that is in a link or was fetched
  pub out : Message → ℕ
  pub on : Message → ℕ
  -- an ask of another kernel's VPE
  pub ask : Ask → ℕ
  -- a pending delegation
  pub pend : ℕ
  -- an open job
  pub job : JobRow → ℕ
  -- a link of an unmarked capability, by its kernel and by the child
  pub leads : ℕ → KeyName → ℕ

module _ (T : Setup) (K : Tally) where
  abbrev pub of_inbox : Option (ℕ × Message) → ℕ
  of_inbox None = 0
  of_inbox (Some m) = K.on m.1

  abbrev pub of_outbox : List Message → ℕ
  of_outbox ms = sum_by K.out ms

  -- an ask of a VPE of the same kernel counts nothing
  abbrev pub of_ask : ℕ → Ask → ℕ
  of_ask i a = if kernel_of T (asker a) == i then 0 else K.ask a

  abbrev pub of_row : ℕ → VpeRow → ℕ
  of_row i r = sum_by (of_ask i) r.asks

  abbrev pub of_pendings : List Pending → ℕ
  of_pendings ps = sum_by (λ (p : Pending). K.pend) ps

  abbrev pub of_cap : ℕ → Capability → ℕ
  of_cap i c = if is_some c.mark then 0 else sum_by (K.leads i) c.children

  -- the side of kernel i
  abbrev pub of_side : ℕ → Side → ℕ
  of_side i s = sum_by (of_cap i) s.caps + (sum_by (of_row i) s.vpes
      + (of_pendings s.pendings + (sum_by K.job s.jobs + (of_inbox s.inbox + sum_by of_outbox s.outs))))

  module _ (i : ℕ) where
    -- Rows.
    pub side-row : (s : Side) (v : ℕ) (r : VpeRow) →
        of_side i (record s { vpes = put no_vpe s.vpes v r }) + of_row i (row s v) ≡ of_side i s + of_row i r
    side-row s v r = let rows = weigh-put (of_row i) no_vpe refl s.vpes v r in omega (arith, rows)

    pub side-drawn : (s : Side) (v : ℕ) → of_side i (drawn v s) ≡ of_side i s
    side-drawn s v =
        let rows = side-row s v (record (row s v) { next_number = (row s v).next_number + 1 }) in omega (arith, rows)

    pub side-counted : (s : Side) (v : ℕ) → of_side i (call_counted v s) ≡ of_side i s
    side-counted s v =
        let rows = side-row s v (record (row s v) { next_call = (row s v).next_call + 1 }) in omega (arith, rows)

    pub side-slot : (s : Side) (v sel : ℕ) (state : Slot) → of_side i (with_slot v sel state s) ≡ of_side i s
    side-slot s v sel state =
        let rows = side-row s v (record (row s v) { slots = put Free (row s v).slots sel state }) in omega (arith, rows)

    pub side-buried : (s : Side) (v : ℕ) →
        of_side i (buried v s) + sum_by (of_ask i) (row s v).asks ≡ of_side i s
    side-buried s v = let rows = side-row s v (record (row s v) { alive = false; asks = [] }) in omega (arith, rows)

    pub side-taken : (s : Side) (v : ℕ) →
        of_side i (ask_taken v s) + of_option (of_ask i) (slice_get (row s v).asks 0) ≡ of_side i s
    side-taken s v =
        let rows = side-row s v (record (row s v) { asks = drop 1 (row s v).asks }) in
        let asks = weigh-drop (of_ask i) (row s v).asks in
        omega (arith, rows, asks)

    -- an ask counts where there is room for it
    pub side-asked : (s : Side) (v : ℕ) (a : Ask) → length (row s v).asks < ASKS →
        of_side i (asked v a s) ≡ of_side i s + of_ask i a
    side-asked s v a room =
        let asks : List Ask = (row s v).asks in
        let more : List Ask = if nat_lt (length asks) ASKS then asks ++ a ∷ [] else asks in
        let fits : more ≡ asks ++ a ∷ [] =
        cond-true (nat_lt (length asks) ASKS) (asks ++ a ∷ []) asks (lt-ltb (length asks) ASKS room) in
        let push = sum_by_push (of_ask i) asks a in
        let sum = ap (sum_by (of_ask i)) fits in
        let rows = side-row s v (record (row s v) { asks = more }) in
        omega (arith, rows, sum, push)

    -- and one that counts nothing may be lost
    pub side-asked_near : (s : Side) (v : ℕ) (a : Ask) → of_ask i a ≡ 0 → of_side i (asked v a s) ≡ of_side i s
    side-asked_near s v a none =
        let asks : List Ask = (row s v).asks in
        let more : List Ask = if nat_lt (length asks) ASKS then asks ++ a ∷ [] else asks in
        let push = sum_by_push (of_ask i) asks a in
        let sum : sum_by (of_ask i) more ≡ sum_by (of_ask i) asks =
        cond_both (nat_lt (length asks) ASKS) (asks ++ a ∷ []) asks
        (λ xs. sum_by (of_ask i) xs ≡ sum_by (of_ask i) asks) (λ _. omega (arith, push, none)) (λ _. refl) in
        let rows = side-row s v (record (row s v) { asks = more }) in
        omega (arith, rows, sum)

    -- Messages.
    pub side-send : (s : Side) (j : ℕ) (m : Message) → of_side i (send j m s) ≡ of_side i s + K.out m
    side-send s j m =
        let outs = weigh-put of_outbox [] refl s.outs j (outbox s j ++ m ∷ []) in
        let push = sum_by_push K.out (outbox s j) m in
        omega (arith, outs, push)

    pub side-sent : (s : Side) (j : ℕ) →
        of_side i (sent j s) + of_option K.out (slice_get (outbox s j) 0) ≡ of_side i s
    side-sent s j =
        let outs = weigh-put of_outbox [] refl s.outs j (drop 1 (outbox s j)) in
        let front = weigh-drop K.out (outbox s j) in
        omega (arith, outs, front)

    pub side-inbox : (s : Side) (message : Option (ℕ × Message)) →
        of_side i (with_inbox message s) + of_inbox s.inbox ≡ of_side i s + of_inbox message
    side-inbox s message = omega arith

    -- Pending delegations and jobs.
    pub side-pending : (s : Side) (p : Pending) → of_side i (pending_added p s) ≡ of_side i s + K.pend
    side-pending s p = let push = sum_by_push (λ (q : Pending). K.pend) s.pendings p in omega (arith, push)

    pub side-acked : (s : Side) (k : KeyName) →
        of_pendings (pending_removed k s).pendings + K.pend ≡ of_pendings s.pendings →
        of_side i (pending_removed k s) + K.pend ≡ of_side i s
    side-acked s k one = omega (arith, one)

    pub side-opened : (s : Side) (root : KeyName) (up : Option Up) (waiters : List ℕ) (keep : Bool) →
        of_side i (job_opened root up waiters keep s)
        ≡ of_side i s
        + K.job (record { id = s.next_job; root = root; up = up; waiters = waiters; count = 0; keep = keep })
    side-opened s root up waiters keep =
        let push = sum_by_push K.job s.jobs
        (record { id = s.next_job; root = root; up = up; waiters = waiters; count = 0; keep = keep }) in
        omega (arith, push)
