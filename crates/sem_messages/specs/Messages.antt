-- The messages that kernels send each other, by their kinds ("Messages" in docs/proof.md).
use Rattle.std.specs.Prelude.{◌≡◌, ℕ, ◌+◌, ◌*◌, ◌==◌, Bool, true, false, not, List, [], flat_map}
use Rattle.std.specs.Prelude.{count_by, if◌then◌else◌}
use Rattle.sem_machine.specs.Prelude.{KeyName, Message, ObtainReq, ObtainOk, ObtainNo, DelegateReq, DelegatePrepared}
use Rattle.sem_machine.specs.Prelude.{DelegateNo, Ack, Orphan, RevokeReq, RevokeDone, Unlink, Act, Flush, Entry}
use Rattle.sem_machine.specs.Prelude.{Setup, owner_of, grants}
use Rattle.sem_msg.specs.Journal.{message_in}

-- What was sent.

-- whether an act is a flush, which puts a message into a link
abbrev pub is_flush : Act → Bool
is_flush (Flush to) = true
is_flush act = false

-- the message that an entry sends, if it is one of a flush
abbrev pub sent_by : Entry → List Message
sent_by e = if is_flush e.event.act then message_in e.detail else []

-- all messages that the kernels sent each other, in order
abbrev pub all_sent : List Entry → List Message
all_sent J = flat_map sent_by J

-- Kinds of messages.

abbrev pub is_obtain_req : Message → Bool
is_obtain_req (ObtainReq place target) = true
is_obtain_req m = false

abbrev pub is_obtain_ok : Message → Bool
is_obtain_ok (ObtainOk parent key object) = true
is_obtain_ok m = false

abbrev pub is_obtain_no : Message → Bool
is_obtain_no (ObtainNo place code) = true
is_obtain_no m = false

abbrev pub is_delegate_req : Message → Bool
is_delegate_req (DelegateReq parent object vpe sel) = true
is_delegate_req m = false

abbrev pub is_prepared : Message → Bool
is_prepared (DelegatePrepared parent key) = true
is_prepared m = false

abbrev pub is_delegate_no : Message → Bool
is_delegate_no (DelegateNo parent code) = true
is_delegate_no m = false

abbrev pub is_ack : Message → Bool
is_ack (Ack key accepted) = true
is_ack m = false

-- an Ack that accepts
abbrev pub is_ack_yes : Message → Bool
is_ack_yes (Ack key accepted) = accepted
is_ack_yes m = false

abbrev pub is_orphan : Message → Bool
is_orphan (Orphan parent key) = true
is_orphan m = false

abbrev pub is_revoke_req : Message → Bool
is_revoke_req (RevokeReq key job) = true
is_revoke_req m = false

abbrev pub is_revoke_done : Message → Bool
is_revoke_done (RevokeDone job) = true
is_revoke_done m = false

abbrev pub is_unlink : Message → Bool
is_unlink (Unlink parent key) = true
is_unlink m = false

-- how many messages of a kind were sent
abbrev pub count_sent : (Message → Bool) → List Entry → ℕ
count_sent kind J = count_by kind (all_sent J)

-- Grants.

-- whether parent and child belong to different kernels
abbrev pub is_across : Setup → KeyName × KeyName → Bool
is_across T g = not (owner_of T g.0 == owner_of T g.1)

-- how many grants were made from one kernel to another
abbrev pub grants_across : Setup → List Entry → ℕ
grants_across T J = count_by (is_across T) (grants J)

-- What holds of an idle world.

-- as many replies were sent as requests, kind by kind
pub record IsAnswered (J : List Entry) : Type 0 where
  -- as many obtains, opens and asks of an offer were sent as grants and refusals of them
  pub obtains : count_sent is_obtain_req J
      ≡ count_sent is_obtain_ok J + count_sent is_obtain_no J
  -- as many delegates were sent as preparations and refusals of them
  pub delegates : count_sent is_delegate_req J
      ≡ count_sent is_prepared J + count_sent is_delegate_no J
  -- as many preparations were sent as acknowledgements
  pub acks : count_sent is_prepared J ≡ count_sent is_ack J
  -- as many requests to revoke were sent as replies that one is done
  pub revokes : count_sent is_revoke_req J ≡ count_sent is_revoke_done J

-- how many messages requests and notices make: two for each exchange and each request to revoke,
-- one more for each prepared delegate, and one for each orphan and unlink
abbrev pub messages_made : List Entry → ℕ
messages_made J =
    2 * count_sent is_obtain_req J
    + (2 * count_sent is_delegate_req J
    + (count_sent is_prepared J
    + (2 * count_sent is_revoke_req J
    + (count_sent is_orphan J + count_sent is_unlink J))))

-- how many messages tell of a grant across kernels
abbrev pub grants_told : List Entry → ℕ
grants_told J = count_sent is_obtain_ok J + count_sent is_ack_yes J
