-- What revokes send, in three sums that are added up by weights. As many requests to revoke are sent as are done: a request is
-- answered once, and each request of a job comes back. And each request follows a link between kernels.
use Rattle.std.proofs.Common.{◌≡◌, ℕ, ◌+◌, ◌-◌, ◌*◌, ◌≤◌, List, [], ◌∷◌, Option, Some, refl, ap, arith, eq-eqb}
use Rattle.std.specs.Prelude.{if◌then◌else◌, count_by}
use Rattle.std.proofs.Math.Nat.{mul-le-mul_left}
use Rattle.std.proofs.lemmas.Bool.{cond_both, cond-true, cond-false}
use Rattle.std.proofs.lemmas.List.Sums.{sum_by-cons}
use Rattle.std.specs.List.{sum_by}
use Rattle.sem_msg.specs.declared.entry.Entry.{Entry}
use Rattle.sem_msg.specs.declared.message.Message.{Message}
use Rattle.sem_msg.specs.declared.state.Up.{Up}
use Rattle.sem_msg.specs.Rows.{JobRow}
use Rattle.sem_msg.specs.declared.state.Up.TheVariants.{Local, Remote}
use Rattle.sem_msg.specs.Setup.{Setup, IsSetup}
use Rattle.sem_msg.specs.Lookups.{owner_of, is_local}
use Rattle.sem_machine.specs.Journals.{grants}
use Rattle.sem_machine.specs.Schedules.{IsSchedule, world_after}
use Rattle.sem_machine.specs.Living.{IsIdle}
use Rattle.sem_safety.specs.Counts.{count_if}
use Rattle.sem_messages.specs.Messages.{all_sent, is_revoke_req, is_revoke_done, count_sent, grants_across}
use Rattle.sem_messages.proofs.Tallies.{Tally}
use Rattle.sem_messages.proofs.Falling.{IsFalling, AreLed}
use Rattle.sem_messages.proofs.Worlds.{of_world}
use Rattle.sem_messages.proofs.Keeping.{of_flush, schedule-kept}
use Rattle.sem_messages.proofs.Known.{side-known}
use Rattle.sem_messages.proofs.Counting.{nothing, entries-count, across-count}
use Rattle.sem_messages.proofs.Idle.{idle-none}
use Rattle.sem_messages.proofs.Revoking.{IsFair, fair-revokings}

-- a job for which one of another kernel waits, or one of this kernel
abbrev of_far_up : Option Up → ℕ
of_far_up (Some (Remote kernel j)) = 1
of_far_up up = 0

abbrev of_near_up : Option Up → ℕ
of_near_up (Some (Local j)) = 1
of_near_up up = 0

-- how much each sum counts: answers that are owed, tokens that are out for jobs, links to other kernels
pub record RevokeWeights : Type 0 where
  pub owed : ℕ
  pub tokens : ℕ
  pub links : ℕ

module _ (T : Setup) (w : RevokeWeights) where
  -- A request is owed an answer from its flush on, by the message and then by a job, until the answer is put into a link.
  -- It is a token of its job from its making on, until the answer is handled, and so is a job below. It follows the link
  -- of an unmarked capability to another kernel, and is counted for that until its flush.
  abbrev pub sending : Tally
  sending = record {
    out = λ m. w.owed * count_if is_revoke_done m + (w.tokens + w.links) * count_if is_revoke_req m;
    on = λ m. w.owed * count_if is_revoke_req m + w.tokens * count_if is_revoke_done m;
    ask = λ a. 0;
    pend = 0;
    job = λ x. w.owed * of_far_up x.up + w.tokens * of_near_up x.up;
    leads = λ i k. if is_local T i k then 0 else w.links;
  }

  -- What jobs count pays for the tokens.
  abbrev pub counting : Tally
  counting = record {
    out = nothing;
    on = nothing;
    ask = λ a. 0;
    pend = 0;
    job = λ x. w.tokens * x.count;
    leads = λ i k. 0;
  }

  sending-falls : IsFalling sending counting (0 + w.links) w.links
  sending-falls = record {
    obtain = λ place target. omega arith;
    delegate = λ parent object vpe sel. omega arith;
    queued_obtain = λ place target. omega arith;
    queued_delegate = λ parent object vpe sel. omega arith;
    no_obtain = λ place target code. omega arith;
    no_delegate = λ parent object sel code. omega arith;
    given = λ place target parent key object. omega arith;
    prepared = λ parent key object sel. omega arith;
    yes = λ key. omega arith;
    no = λ key. omega arith;
    acked = λ key accepted. omega arith;
    orphan = λ parent key. omega arith;
    done = λ m is. omega arith;
  }

  sending-led : AreLed T sending counting w.links
  sending-led = record {
    bare = λ i k. refl;
    near = λ i k here. cond-true (is_local T i k) 0 w.links (eq-eqb (owner_of T k) i here);
    most = λ i k. cond_both (is_local T i k) 0 w.links (λ n. n ≤ w.links) (λ _. omega arith) (λ _. omega arith);
  }

  -- what a job counts that has nothing out
  nothing-counted : (x : JobRow) → x.count ≡ 0 → w.tokens * x.count ≡ w.tokens * 0
  nothing-counted x none = ap (λ n. w.tokens * n) none

  sending-fair : IsFair T sending counting w.tokens
  sending-fair = record {
    bare = λ i k. refl;
    opens = λ id root ws keep. omega arith;
    opens_far = λ id root from j. omega arith;
    raised = λ x. omega arith;
    lowered = λ x. let less : x.count ≤ (x.count - 1) + 1 = omega arith in omega (arith, mul-le-mul_left w.tokens less);
    taken = λ x j. omega arith;
    taken_far = λ x from j key. omega arith;
    waited = λ x ws keep. (refl, refl);
    ends = λ x none at. omega (arith, nothing-counted x none);
    ends_near = λ x j none at.
        let one : w.tokens * of_near_up x.up ≡ w.tokens * 1 = ap (λ up. w.tokens * of_near_up up) at in
        omega (arith, nothing-counted x none, one);
    ends_far = λ x kernel j none at.
        let one : w.owed * of_far_up x.up ≡ w.owed * 1 = ap (λ up. w.owed * of_far_up up) at in
        omega (arith, nothing-counted x none, one);
    request = λ i key j remote.
        let one : sending.leads i key ≡ w.links = cond-false (is_local T i key) 0 w.links remote in omega (arith, one);
    came = λ key j. omega arith;
    gone = λ key j. omega arith;
    done = λ j. omega arith;
    unlink = λ p k. omega arith;
  }

  -- what they count of messages that are flushed
  left-count : (ms : List Message) → sum_by (of_flush sending counting) ms
      ≡ w.owed * count_by is_revoke_done ms + (w.tokens + w.links) * count_by is_revoke_req ms
  left-count [] = omega arith
  left-count (m ∷ ms) = let rest = left-count ms in simp sum_by-cons (omega (arith, rest))

  right-count : (ms : List Message) → sum_by (of_flush counting sending) ms
      ≡ w.owed * count_by is_revoke_req ms + w.tokens * count_by is_revoke_done ms
  right-count [] = omega arith
  right-count (m ∷ ms) = let rest = right-count ms in simp sum_by-cons (omega (arith, rest))

  -- of every schedule after which jobs count nothing
  pub sent-less : IsSetup T → (J : List Entry) → IsSchedule T J → of_world T counting (world_after T J) ≡ 0 →
      w.owed * count_sent is_revoke_done J + (w.tokens + w.links) * count_sent is_revoke_req J
      ≤ (w.owed * count_sent is_revoke_req J + w.tokens * count_sent is_revoke_done J) + w.links * grants_across T J
  sent-less valid J runs none =
      let less = schedule-kept T sending counting 0 w.links w.links sending-falls sending-led
      (fair-revokings T sending counting w.tokens sending-fair) J
      (λ before runs' i within. side-known T valid before runs' i within) runs in
      let l = entries-count T (of_flush sending counting) 0 J in
      let r = entries-count T (of_flush counting sending) w.links J in
      let ls = left-count (all_sent J) in
      let rs = right-count (all_sent J) in
      let lg = across-count T 0 (grants J) in
      let rg = across-count T w.links (grants J) in
      omega (arith, less, none, l, r, ls, rs, lg, rg)

module _ (T : Setup) (valid : IsSetup T) (J : List Entry) (runs : IsSchedule T J)
    (idle : IsIdle (world_after T J)) where
  idle-less : (w : RevokeWeights) →
      w.owed * count_sent is_revoke_done J + (w.tokens + w.links) * count_sent is_revoke_req J
      ≤ (w.owed * count_sent is_revoke_req J + w.tokens * count_sent is_revoke_done J) + w.links * grants_across T J
  idle-less w = sent-less T w valid J runs (idle-none T (counting T w) (λ i k. refl) valid J runs idle)

  pub revokes-answered : count_sent is_revoke_req J ≡ count_sent is_revoke_done J
  revokes-answered =
      let less = idle-less (record { owed = 1; tokens = 0; links = 0 }) in
      let more = idle-less (record { owed = 0; tokens = 1; links = 0 }) in
      omega (arith, less, more)
