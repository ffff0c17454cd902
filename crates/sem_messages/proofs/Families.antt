-- Four sums that are kept, added up by weights: what is obtained, delegated, acknowledged and granted across kernels.
use Rattle.std.proofs.Common.{◌≡◌, ℕ, ◌+◌, ◌*◌, true, false, List, [], ◌∷◌, refl}
use Rattle.std.proofs.Common.{arith}
use Rattle.std.specs.Prelude.{count_by}
use Rattle.std.specs.List.{sum_by}
use Rattle.std.proofs.lemmas.List.Sums.{sum_by-cons}
use Rattle.sem_msg.specs.declared.message.Message.{Message}
use Rattle.sem_msg.specs.declared.message.Message.TheVariants.{ObtainReq, ObtainOk, ObtainNo, DelegateReq}
use Rattle.sem_msg.specs.declared.message.Message.TheVariants.{DelegatePrepared, DelegateNo, Ack}
use Rattle.sem_msg.specs.declared.state.Ask.{Ask}
use Rattle.sem_msg.specs.declared.state.Ask.TheVariants.{Obtain as ObtainAsk, Delegate as DelegateAsk}
use Rattle.sem_safety.specs.Counts.{count_if}
use Rattle.sem_revoke.proofs.Growing.{is_plain}
use Rattle.sem_messages.specs.Messages.{is_obtain_req, is_obtain_ok, is_obtain_no, is_delegate_req}
use Rattle.sem_messages.specs.Messages.{is_prepared, is_delegate_no, is_ack, is_ack_yes}
use Rattle.sem_messages.proofs.Tallies.{Tally}
use Rattle.sem_messages.proofs.Falling.{is_done}
use Rattle.sem_messages.proofs.Keeping.{of_flush}
use Rattle.sem_messages.proofs.Balancing.{IsBalanced}
use Rattle.sem_messages.proofs.Counting.{either}

-- how much each sum counts
pub record ExchangeWeights : Type 0 where
  pub obtains : ℕ
  pub delegates : ℕ
  pub acks : ℕ
  pub grants : ℕ

module _ (w : ExchangeWeights) where
  -- A delegation is pending from its preparation on, until its Ack is handled.
  abbrev pub telling : Tally
  telling = record {
    out = λ m. w.acks * count_if is_prepared m;
    on = λ m. w.acks * count_if is_ack m;
    ask = λ a. 0;
    pend = 0;
    job = λ x. 0;
    leads = λ i k. 0;
  }

  abbrev of_ask : Ask → ℕ
  of_ask (ObtainAsk place target) = w.obtains
  of_ask (DelegateAsk parent object sel) = w.delegates

  -- An obtain or a delegate is asked for, and owes an answer until that is put into a link. A grant to another kernel
  -- is told by a message, which waits to be sent.
  abbrev pub owing : Tally
  owing = record {
    out = λ m. w.obtains * either is_obtain_ok is_obtain_no m
        + (w.delegates * either is_prepared is_delegate_no m + w.grants * either is_obtain_ok is_ack_yes m);
    on = λ m. w.obtains * count_if is_obtain_req m + w.delegates * count_if is_delegate_req m;
    ask = of_ask;
    pend = w.acks;
    job = λ x. 0;
    leads = λ i k. 0;
  }

  owing-done : (m : Message) → is_done m ≡ true → owing.on m ≡ telling.on m
  owing-done (ObtainReq place target) is = absurd cc
  owing-done (DelegateReq parent object vpe sel) is = absurd cc
  owing-done (Ack key accepted) is = absurd cc
  owing-done m is = omega arith

  owing-sends : (m : Message) → is_plain m ≡ false → telling.out m ≡ owing.out m
  owing-sends (ObtainOk parent key object) none = absurd cc
  owing-sends (ObtainNo place code) none = absurd cc
  owing-sends (DelegatePrepared parent key) none = absurd cc
  owing-sends (DelegateNo parent code) none = absurd cc
  owing-sends (Ack key accepted) none = absurd cc
  owing-sends m none = omega arith

  pub exchanges-balanced : IsBalanced telling owing w.grants
  exchanges-balanced = record {
    obtain = λ place target. omega arith;
    delegate = λ parent object vpe sel. omega arith;
    queued_obtain = λ place target. omega arith;
    queued_delegate = λ parent object vpe sel. omega arith;
    no_obtain = λ place target code. omega arith;
    no_delegate = λ parent object sel code. omega arith;
    given = λ place target parent key object. omega arith;
    prepared = λ parent key object sel. omega arith;
    yes = λ key. omega arith;
    no = λ key. omega arith;
    acked = λ key accepted. omega arith;
    orphan = λ parent key. omega arith;
    done = owing-done;
    settled = record {
      links = (λ i k. refl, λ i k. refl);
      jobs = λ x. (refl, refl);
      sends = owing-sends;
      requests = λ key job. omega arith;
      dones = λ job. omega arith;
    };
  }

  -- what they count of messages that are flushed
  pub requests-count : (ms : List Message) → sum_by (of_flush telling owing) ms
      ≡ w.obtains * count_by is_obtain_req ms
      + (w.delegates * count_by is_delegate_req ms + w.acks * count_by is_prepared ms)
  requests-count [] = omega arith
  requests-count (m ∷ ms) = let rest = requests-count ms in simp sum_by-cons (omega (arith, rest))

  pub replies-count : (ms : List Message) → sum_by (of_flush owing telling) ms
      ≡ w.obtains * (count_by is_obtain_ok ms + count_by is_obtain_no ms)
      + (w.delegates * (count_by is_prepared ms + count_by is_delegate_no ms)
      + (w.acks * count_by is_ack ms + w.grants * (count_by is_obtain_ok ms + count_by is_ack_yes ms)))
  replies-count [] = omega arith
  replies-count (m ∷ ms) = let rest = replies-count ms in simp sum_by-cons (omega (arith, rest))
