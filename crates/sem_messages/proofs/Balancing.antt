-- A tally on each side of a sum that each row keeps to the number, and what follows for a schedule.
use Rattle.std.proofs.Common.{◌≡◌, ℕ, ◌+◌, Bool, true, false, List, sym, arith}
use Rattle.std.specs.List.{sum_by}
use Rattle.sem_key.specs.declared.object.Object.{Object}
use Rattle.sem_key.specs.KeyName.{KeyName}
use Rattle.sem_key.specs.PlaceName.{PlaceName}
use Rattle.sem_msg.specs.declared.entry.Entry.{Entry}
use Rattle.sem_msg.specs.declared.message.Message.{Message}
use Rattle.sem_msg.specs.declared.message.Message.TheVariants.{ObtainReq, ObtainOk, ObtainNo, DelegateReq}
use Rattle.sem_msg.specs.declared.message.Message.TheVariants.{DelegatePrepared, DelegateNo, Ack, Orphan}
use Rattle.sem_msg.specs.declared.message.Target.{Target}
use Rattle.sem_msg.specs.declared.state.Ask.TheVariants.{Obtain as ObtainAsk, Delegate as DelegateAsk}
use Rattle.sem_msg.specs.Setup.{Setup, IsSetup}
use Rattle.sem_machine.specs.Schedules.{IsSchedule, world_after}
use Rattle.sem_messages.proofs.Tallies.{Tally}
use Rattle.sem_messages.proofs.Links.{IsBare}
use Rattle.sem_messages.proofs.Falling.{AreLed, is_done, IsFalling}
use Rattle.sem_messages.proofs.Steadying.{IsSettled, settled-revokings}
use Rattle.sem_messages.proofs.Worlds.{of_world}
use Rattle.sem_messages.proofs.Keeping.{of_entry, of_flush, schedule-kept}
use Rattle.sem_messages.proofs.Known.{side-known}

-- As IsFalling, with equations. A grant to another kernel counts on the left.
pub record IsBalanced (P N : Tally) (g : ℕ) : Type 0 where
  pub obtain : (place : PlaceName) (target : Target) → P.out (ObtainReq place target) ≡ N.out (ObtainReq place target)
  pub delegate : (parent : KeyName) (object : Object) (vpe sel : ℕ) →
      P.out (DelegateReq parent object vpe sel) ≡ N.out (DelegateReq parent object vpe sel)
  pub queued_obtain : (place : PlaceName) (target : Target) →
      P.ask (ObtainAsk place target) + N.on (ObtainReq place target)
      ≡ N.ask (ObtainAsk place target) + P.on (ObtainReq place target)
  pub queued_delegate : (parent : KeyName) (object : Object) (vpe sel : ℕ) →
      P.ask (DelegateAsk parent object sel) + N.on (DelegateReq parent object vpe sel)
      ≡ N.ask (DelegateAsk parent object sel) + P.on (DelegateReq parent object vpe sel)
  pub no_obtain : (place : PlaceName) (target : Target) (code : ℕ) →
      P.out (ObtainNo place code) + N.ask (ObtainAsk place target)
      ≡ N.out (ObtainNo place code) + P.ask (ObtainAsk place target)
  pub no_delegate : (parent : KeyName) (object : Object) (sel code : ℕ) →
      P.out (DelegateNo parent code) + N.ask (DelegateAsk parent object sel)
      ≡ N.out (DelegateNo parent code) + P.ask (DelegateAsk parent object sel)
  pub given : (place : PlaceName) (target : Target) (parent key : KeyName) (object : Object) →
      (P.out (ObtainOk parent key object) + N.ask (ObtainAsk place target)) + g
      ≡ N.out (ObtainOk parent key object) + P.ask (ObtainAsk place target)
  pub prepared : (parent key : KeyName) (object : Object) (sel : ℕ) →
      (P.out (DelegatePrepared parent key) + P.pend) + N.ask (DelegateAsk parent object sel)
      ≡ (N.out (DelegatePrepared parent key) + N.pend) + P.ask (DelegateAsk parent object sel)
  pub yes : (key : KeyName) → P.out (Ack key true) + g ≡ N.out (Ack key true)
  pub no : (key : KeyName) → P.out (Ack key false) ≡ N.out (Ack key false)
  pub acked : (key : KeyName) (accepted : Bool) → N.pend + N.on (Ack key accepted) ≡ P.pend + P.on (Ack key accepted)
  pub orphan : (parent key : KeyName) → P.out (Orphan parent key) ≡ N.out (Orphan parent key)
  pub done : (m : Message) → is_done m ≡ true → N.on m ≡ P.on m
  pub settled : IsSettled P N

module _ (P N : Tally) (g : ℕ) (B : IsBalanced P N g) where
  falls : IsFalling P N (g + 0) 0
  falls = record {
    obtain = λ place target. let e = B.obtain place target in omega (arith, e);
    delegate = λ parent object vpe sel. let e = B.delegate parent object vpe sel in omega (arith, e);
    queued_obtain = λ place target. let e = B.queued_obtain place target in omega (arith, e);
    queued_delegate = λ parent object vpe sel. let e = B.queued_delegate parent object vpe sel in omega (arith, e);
    no_obtain = λ place target code. let e = B.no_obtain place target code in omega (arith, e);
    no_delegate = λ parent object sel code. let e = B.no_delegate parent object sel code in omega (arith, e);
    given = λ place target parent key object. let e = B.given place target parent key object in omega (arith, e);
    prepared = λ parent key object sel. let e = B.prepared parent key object sel in omega (arith, e);
    yes = λ key. let e = B.yes key in omega (arith, e);
    no = λ key. let e = B.no key in omega (arith, e);
    acked = λ key accepted. let e = B.acked key accepted in omega (arith, e);
    orphan = λ parent key. let e = B.orphan parent key in omega (arith, e);
    done = λ m is. let e = B.done m is in omega (arith, e);
  }

  rises : IsFalling N P 0 g
  rises = record {
    obtain = λ place target. let e = B.obtain place target in omega (arith, e);
    delegate = λ parent object vpe sel. let e = B.delegate parent object vpe sel in omega (arith, e);
    queued_obtain = λ place target. let e = B.queued_obtain place target in omega (arith, e);
    queued_delegate = λ parent object vpe sel. let e = B.queued_delegate parent object vpe sel in omega (arith, e);
    no_obtain = λ place target code. let e = B.no_obtain place target code in omega (arith, e);
    no_delegate = λ parent object sel code. let e = B.no_delegate parent object sel code in omega (arith, e);
    given = λ place target parent key object. let e = B.given place target parent key object in omega (arith, e);
    prepared = λ parent key object sel. let e = B.prepared parent key object sel in omega (arith, e);
    yes = λ key. let e = B.yes key in omega (arith, e);
    no = λ key. let e = B.no key in omega (arith, e);
    acked = λ key accepted. let e = B.acked key accepted in omega (arith, e);
    orphan = λ parent key. let e = B.orphan parent key in omega (arith, e);
    done = λ m is. let e = B.done m is in omega (arith, e);
  }

  turned : IsSettled N P
  turned = let S = B.settled in record {
    links = (S.links.1, S.links.0);
    jobs = λ x. ((S.jobs x).1, (S.jobs x).0);
    sends = λ m none. sym (S.sends m none);
    requests = λ key job. sym (S.requests key job);
    dones = λ job. sym (S.dones job);
  }

  led : (T : Setup) (P N : Tally) → IsBare P × IsBare N → AreLed T P N 0
  led T P N bare = record {
    bare = bare.1;
    near = λ i k here. bare.0 i k;
    most = λ i k. let none = bare.0 i k in omega (arith, none);
  }

  -- after every schedule both sides of the sum are the same
  pub balanced : (T : Setup) → IsSetup T → (J : List Entry) → IsSchedule T J →
      sum_by (of_entry T (of_flush P N) g) J + of_world T P (world_after T J)
      ≡ sum_by (of_entry T (of_flush N P) 0) J + of_world T N (world_after T J)
  balanced T valid J runs =
      let less = schedule-kept T P N g 0 0 falls (led T P N B.settled.links)
      (settled-revokings T P N B.settled) J
      (λ before runs' i within. side-known T valid before runs' i within) runs in
      let more = schedule-kept T N P 0 0 g rises (led T N P (B.settled.links.1, B.settled.links.0))
      (settled-revokings T N P turned) J
      (λ before runs' i within. side-known T valid before runs' i within) runs in
      omega (arith, less, more)
