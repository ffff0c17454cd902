-- What a tally on each side of a sum has to be like for each row of the machine to keep the sum.
use Rattle.std.proofs.Common.{◌≡◌, ℕ, ◌+◌, ◌≤◌, Bool, true, false, List, Option, Some, None}
use Rattle.std.specs.Prelude.{if◌then◌else◌}
use Rattle.sem_key.specs.declared.object.Object.{Object}
use Rattle.sem_key.specs.KeyName.{KeyName}
use Rattle.sem_key.specs.PlaceName.{PlaceName}
use Rattle.sem_msg.specs.declared.message.Message.{Message}
use Rattle.sem_msg.specs.declared.message.Message.TheVariants.{ObtainReq, ObtainOk, ObtainNo, DelegateReq}
use Rattle.sem_msg.specs.declared.message.Message.TheVariants.{DelegatePrepared, DelegateNo, Ack, Orphan, RevokeReq}
use Rattle.sem_msg.specs.declared.message.Message.TheVariants.{RevokeDone}
use Rattle.sem_msg.specs.declared.message.Target.{Target}
use Rattle.sem_msg.specs.declared.state.Ask.TheVariants.{Obtain as ObtainAsk, Delegate as DelegateAsk}
use Rattle.sem_msg.specs.Setup.{Setup}
use Rattle.sem_msg.specs.Lookups.{owner_of}
use Rattle.sem_machine.specs.Sides.{Side, cap}
use Rattle.sem_machine.specs.Revokes.{begin, clear_begun, waiter_added, waiter_left, revoke_requested, revoke_done}
use Rattle.sem_safety.proofs.JobIds.{HasIds}
use Rattle.sem_messages.specs.Messages.{is_across}
use Rattle.sem_messages.proofs.Links.{IsBare}
use Rattle.sem_messages.proofs.Tallies.{Tally, of_side}

-- what a grant counts, if it goes from one kernel to another
abbrev pub of_grant : Setup → ℕ → Option (KeyName × KeyName) → ℕ
of_grant T g None = 0
of_grant T g (Some grant) = if is_across T grant then g else 0

-- a message of which handling answers nothing that counts
abbrev pub is_done : Message → Bool
is_done (ObtainReq place target) = false
is_done (DelegateReq parent object vpe sel) = false
is_done (Ack key accepted) = false
is_done (RevokeReq key job) = false
is_done (RevokeDone job) = false
is_done m = true

-- What becomes of each message, ask, delegation and grant: P grows by no more than N.
pub record IsFalling (P N : Tally) (gl gr : ℕ) : Type 0 where
  -- calls ask
  pub obtain : (place : PlaceName) (target : Target) → P.out (ObtainReq place target) ≤ N.out (ObtainReq place target)
  pub delegate : (parent : KeyName) (object : Object) (vpe sel : ℕ) →
      P.out (DelegateReq parent object vpe sel) ≤ N.out (DelegateReq parent object vpe sel)
  -- a request is put into a queue
  pub queued_obtain : (place : PlaceName) (target : Target) →
      P.ask (ObtainAsk place target) + N.on (ObtainReq place target)
      ≤ N.ask (ObtainAsk place target) + P.on (ObtainReq place target)
  pub queued_delegate : (parent : KeyName) (object : Object) (vpe sel : ℕ) →
      P.ask (DelegateAsk parent object sel) + N.on (DelegateReq parent object vpe sel)
      ≤ N.ask (DelegateAsk parent object sel) + P.on (DelegateReq parent object vpe sel)
  -- an ask is refused
  pub no_obtain : (place : PlaceName) (target : Target) (code : ℕ) →
      P.out (ObtainNo place code) + N.ask (ObtainAsk place target)
      ≤ N.out (ObtainNo place code) + P.ask (ObtainAsk place target)
  pub no_delegate : (parent : KeyName) (object : Object) (sel code : ℕ) →
      P.out (DelegateNo parent code) + N.ask (DelegateAsk parent object sel)
      ≤ N.out (DelegateNo parent code) + P.ask (DelegateAsk parent object sel)
  -- or granted
  pub given : (place : PlaceName) (target : Target) (parent key : KeyName) (object : Object) →
      (P.out (ObtainOk parent key object) + N.ask (ObtainAsk place target)) + gl
      ≤ (N.out (ObtainOk parent key object) + P.ask (ObtainAsk place target)) + gr
  pub prepared : (parent key : KeyName) (object : Object) (sel : ℕ) →
      (P.out (DelegatePrepared parent key) + P.pend) + N.ask (DelegateAsk parent object sel)
      ≤ (N.out (DelegatePrepared parent key) + N.pend) + P.ask (DelegateAsk parent object sel)
  -- a delegation is acknowledged
  pub yes : (key : KeyName) → P.out (Ack key true) + gl ≤ N.out (Ack key true) + gr
  pub no : (key : KeyName) → P.out (Ack key false) ≤ N.out (Ack key false)
  pub acked : (key : KeyName) (accepted : Bool) → N.pend + N.on (Ack key accepted) ≤ P.pend + P.on (Ack key accepted)
  -- what is given comes to nobody
  pub orphan : (parent key : KeyName) → P.out (Orphan parent key) ≤ N.out (Orphan parent key)
  -- all other messages
  pub done : (m : Message) → is_done m ≡ true → N.on m ≤ P.on m

-- Of links: N counts none, and P none to a child of the same kernel, and no more than that number to another.
pub record AreLed (T : Setup) (P N : Tally) (lead : ℕ) : Type 0 where
  pub bare : IsBare N
  pub near : (i : ℕ) (k : KeyName) → owner_of T k ≡ i → P.leads i k ≡ 0
  pub most : (i : ℕ) (k : KeyName) → P.leads i k ≤ lead

module _ (T : Setup) (P N : Tally) (i : ℕ) where
  -- P grows by no more than N on the way from a side to another
  abbrev pub Falls : Side → Side → Type 0
  Falls s t = of_side T P i t + of_side T N i s ≤ of_side T P i s + of_side T N i t

  -- What revokes do.
  pub record Revokings : Type 0 where
    pub begins : (s : Side) → HasIds s → (root : KeyName) (waiters : List ℕ) →
        Falls s (begin T i root None waiters false s)
    pub clears : (s : Side) → HasIds s → (v : ℕ) (root : KeyName) → Falls s (clear_begun T i v root s)
    pub waits : (s : Side) (j v : ℕ) → Falls s (waiter_added j v s)
    pub leaves : (s : Side) (j v : ℕ) → Falls s (waiter_left j v s)
    pub requests : (s : Side) → HasIds s → (from j : ℕ) (key : KeyName) →
        (of_side T P i (revoke_requested T i from j key (cap s key) s) + of_side T N i s) + N.on (RevokeReq key j)
        ≤ (of_side T P i s + of_side T N i (revoke_requested T i from j key (cap s key) s)) + P.on (RevokeReq key j)
    pub dones : (s : Side) → HasIds s → (j : ℕ) →
        (of_side T P i (revoke_done T i j s) + of_side T N i s) + N.on (RevokeDone j)
        ≤ (of_side T P i s + of_side T N i (revoke_done T i j s)) + P.on (RevokeDone j)
