-- The laws of idle worlds: each request was answered, and each grant from one kernel to another was told.
use Rattle.std.proofs.Common.{◌≡◌, ℕ, ◌+◌, ◌*◌, List, [], ◌∷◌, length, refl, arith}
use Rattle.std.specs.Prelude.{count_by}
use Rattle.std.proofs.lemmas.List.Sums.{sum_by-cons}
use Rattle.sem_msg.specs.declared.entry.Entry.{Entry}
use Rattle.sem_msg.specs.declared.message.Message.{Message}
use Rattle.sem_msg.specs.declared.message.Message.TheVariants.{ObtainReq}
use Rattle.sem_msg.specs.Setup.{Setup, IsSetup}
use Rattle.sem_machine.specs.Schedules.{IsSchedule, world_after}
use Rattle.sem_machine.specs.Living.{IsIdle}
use Rattle.sem_safety.specs.Counts.{count_if}
use Rattle.sem_messages.specs.Messages.{all_sent, is_obtain_req, is_obtain_ok, is_obtain_no, is_delegate_req, is_prepared}
use Rattle.sem_messages.specs.Messages.{is_delegate_no, is_ack, is_ack_yes, is_orphan, is_revoke_req, is_revoke_done}
use Rattle.sem_messages.specs.Messages.{is_unlink, count_sent, grants_across, IsAnswered}
use Rattle.sem_messages.proofs.Counting.{settled-count}
use Rattle.sem_messages.proofs.Families.{ExchangeWeights, telling, owing, exchanges-balanced}
use Rattle.sem_messages.proofs.Families.{requests-count, replies-count}
use Rattle.sem_messages.proofs.Requests.{revokes-answered}

-- Every message is of one kind.

abbrev kinds_of : Message → ℕ
kinds_of m =
    count_if is_obtain_req m + (count_if is_obtain_ok m + (
    count_if is_obtain_no m + (count_if is_delegate_req m + (
    count_if is_prepared m + (count_if is_delegate_no m + (
    count_if is_ack m + (count_if is_orphan m + (
    count_if is_revoke_req m + (count_if is_revoke_done m + (
    count_if is_unlink m))))))))))

one-kind : (m : Message) → kinds_of m ≡ 1
one-kind (ObtainReq place target) = refl
one-kind m = refl

abbrev kinds_sent : List Message → ℕ
kinds_sent ms =
    count_by is_obtain_req ms + (count_by is_obtain_ok ms + (
    count_by is_obtain_no ms + (count_by is_delegate_req ms + (
    count_by is_prepared ms + (count_by is_delegate_no ms + (
    count_by is_ack ms + (count_by is_orphan ms + (
    count_by is_revoke_req ms + (count_by is_revoke_done ms + (
    count_by is_unlink ms))))))))))

all-kinds : (ms : List Message) → length ms ≡ kinds_sent ms
all-kinds [] = refl
all-kinds (m ∷ ms) =
    let rest = all-kinds ms in
    let one = one-kind m in
    simp sum_by-cons (omega (arith, rest, one))

module _ (T : Setup) (valid : IsSetup T) (J : List Entry) (runs : IsSchedule T J)
    (idle : IsIdle (world_after T J)) where
  -- all exchanges, by any weights
  exchanged : (w : ExchangeWeights) → w.obtains * count_sent is_obtain_req J
      + (w.delegates * count_sent is_delegate_req J + (w.acks * count_sent is_prepared J + w.grants * grants_across T J))
      ≡ w.obtains * (count_sent is_obtain_ok J + count_sent is_obtain_no J)
      + (w.delegates * (count_sent is_prepared J + count_sent is_delegate_no J)
      + (w.acks * count_sent is_ack J + w.grants * (count_sent is_obtain_ok J + count_sent is_ack_yes J)))
  exchanged w =
      let same = settled-count T valid J runs idle (telling w) (owing w) w.grants (exchanges-balanced w) in
      let l = requests-count w (all_sent J) in
      let r = replies-count w (all_sent J) in
      omega (arith, same, l, r)

  pub obtains-answered : count_sent is_obtain_req J ≡ count_sent is_obtain_ok J + count_sent is_obtain_no J
  obtains-answered =
      let same = exchanged (record { obtains = 1; delegates = 0; acks = 0; grants = 0 }) in omega (arith, same)

  pub delegates-answered : count_sent is_delegate_req J ≡ count_sent is_prepared J + count_sent is_delegate_no J
  delegates-answered =
      let same = exchanged (record { obtains = 0; delegates = 1; acks = 0; grants = 0 }) in omega (arith, same)

  pub delegations-acknowledged : count_sent is_prepared J ≡ count_sent is_ack J
  delegations-acknowledged =
      let same = exchanged (record { obtains = 0; delegates = 0; acks = 1; grants = 0 }) in omega (arith, same)

  pub grants-told : grants_across T J ≡ count_sent is_obtain_ok J + count_sent is_ack_yes J
  grants-told =
      let same = exchanged (record { obtains = 0; delegates = 0; acks = 0; grants = 1 }) in omega (arith, same)

  pub all-answered : IsAnswered J
  all-answered = record {
    obtains = obtains-answered;
    delegates = delegates-answered;
    acks = delegations-acknowledged;
    revokes = revokes-answered T valid J runs idle;
  }

  pub messages-counted : length (all_sent J) ≡ 2 * count_sent is_obtain_req J
      + (2 * count_sent is_delegate_req J
      + (count_sent is_prepared J
      + (2 * count_sent is_revoke_req J + (count_sent is_orphan J + count_sent is_unlink J))))
  messages-counted =
      let all = all-kinds (all_sent J) in
      let o = obtains-answered in
      let d = delegates-answered in
      let a = delegations-acknowledged in
      let r = revokes-answered T valid J runs idle in
      omega (arith, all, o, d, a, r)
