-- The tokens of an exchange: all that is under way for a call that waits for the answer to an ask
-- ("Idle worlds" in docs/proof.md).
use Rattle.std.specs.Prelude.{ℕ, ◌+◌, ◌==◌, Bool, ◌&&◌, Option, sum_by}
use Rattle.sem_machine.specs.Prelude.{KeyName, key_eq, Message, ObtainReq, ObtainOk, ObtainNo, DelegateReq}
use Rattle.sem_machine.specs.Prelude.{DelegatePrepared, DelegateNo, Ack, Orphan, RevokeReq, RevokeDone, Unlink, Ask}
use Rattle.sem_machine.specs.Prelude.{ObtainAsk, DelegateAsk, Parked, VpeRow, is_obtain_wait, World, Side}
use Rattle.sem_machine.specs.Asks.{is_delegate_wait}
use Rattle.sem_revoke.specs.Scales.{Scale, bit, of_world}

-- an ask of a VPE for the place of that number, or a delegate of that capability
pub data Exchange : Type 0 where
  Obtaining : (v n : ℕ) → Exchange
  Delegating : (p : KeyName) → Exchange

-- the VPE that waits
abbrev pub waiter : Exchange → ℕ
waiter (Obtaining v n) = v
waiter (Delegating p) = p.vpe

-- whether a call in that state waits for the exchange
abbrev pub is_waiting : Exchange → Option Parked → Bool
is_waiting (Obtaining v n) p = is_obtain_wait n p
is_waiting (Delegating q) p = is_delegate_wait q p

abbrev pub of_ask : Exchange → Ask → ℕ
of_ask (Obtaining v n) (ObtainAsk place target) = bit ((place.vpe == v) && (place.number == n))
of_ask (Obtaining v n) (DelegateAsk parent object sel) = 0
of_ask (Delegating p) (ObtainAsk place target) = 0
of_ask (Delegating p) (DelegateAsk parent object sel) = bit (key_eq parent p)

abbrev pub of_message : Exchange → Message → ℕ
of_message (Obtaining v n) (ObtainReq place target) = bit ((place.vpe == v) && (place.number == n))
of_message (Obtaining v n) (ObtainOk parent key object) = bit ((key.vpe == v) && (key.number == n))
of_message (Obtaining v n) (ObtainNo place code) = bit ((place.vpe == v) && (place.number == n))
of_message (Obtaining v n) (DelegateReq parent object vpe sel) = 0
of_message (Obtaining v n) (DelegatePrepared parent key) = 0
of_message (Obtaining v n) (DelegateNo parent code) = 0
of_message (Obtaining v n) (Ack key accepted) = 0
of_message (Obtaining v n) (Orphan parent key) = 0
of_message (Obtaining v n) (RevokeReq key job) = 0
of_message (Obtaining v n) (RevokeDone job) = 0
of_message (Obtaining v n) (Unlink parent key) = 0
of_message (Delegating p) (ObtainReq place target) = 0
of_message (Delegating p) (ObtainOk parent key object) = 0
of_message (Delegating p) (ObtainNo place code) = 0
of_message (Delegating p) (DelegateReq parent object vpe sel) = bit (key_eq parent p)
of_message (Delegating p) (DelegatePrepared parent key) = bit (key_eq parent p)
of_message (Delegating p) (DelegateNo parent code) = bit (key_eq parent p)
of_message (Delegating p) (Ack key accepted) = 0
of_message (Delegating p) (Orphan parent key) = 0
of_message (Delegating p) (RevokeReq key job) = 0
of_message (Delegating p) (RevokeDone job) = 0
of_message (Delegating p) (Unlink parent key) = 0

abbrev pub of_row : Exchange → VpeRow → ℕ
of_row x r = sum_by (of_ask x) r.asks

abbrev pub of_rows : Exchange → Side → ℕ
of_rows x s = sum_by (of_row x) s.vpes

-- the messages of an exchange
abbrev pub exchanging : Exchange → Scale
exchanging x = record { message = λ from to m. of_message x m; job = λ i y. 0 }

-- the tokens of an exchange: asks in queues and messages
abbrev pub tokens : Exchange → World → ℕ
tokens x W = sum_by (of_rows x) W.sides + of_world (exchanging x) W
