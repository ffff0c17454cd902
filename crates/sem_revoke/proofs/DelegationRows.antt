-- What a step does to the tokens of a delegation: one is added only where its VPE draws the number and prepares it, and the Ack that is handled is one less.
use Rattle.std.proofs.Common.{◌≡◌, ℕ, ◌+◌, ◌<◌, ◌≤◌, ◌⊎◌, inl, inr, Bool, true, false, List, [], ◌∷◌, ◌++◌, drop, find, Option, Some, None, slice_get, refl}
use Rattle.std.proofs.Common.{sym, ap, ◌∙◌, arith}
use Rattle.std.specs.Prelude.{◌==◌}
use Rattle.std.specs.Option.{option_map_or}
use Rattle.std.proofs.lemmas.Bool.{cases_Bool, cond_both, cond-true, cond-false}
use Rattle.sem_key.specs.declared.object.Object.{Object}
use Rattle.sem_key.specs.KeyName.{KeyName, key_eq}
use Rattle.sem_key.specs.PlaceName.{PlaceName, keyed}
use Rattle.sem_key.specs.Capability.{Capability}
use Rattle.sem_key.proofs.KeyTests.{key_eq-true}
use Rattle.sem_key.proofs.Puts.{get_or-put_same}
use Rattle.sem_msg.specs.declared.call.Call.{Call}
use Rattle.sem_msg.specs.declared.code.Code.TheVariants.{Ok as OkCode, Dead}
use Rattle.sem_msg.specs.Codes.{code_number}
use Rattle.sem_msg.specs.declared.event.Act.TheVariants.{Call as Calls, Handle, Resume, Kill}
use Rattle.sem_msg.specs.declared.message.Message.{Message}
use Rattle.sem_msg.specs.declared.message.Message.TheVariants.{ObtainReq, ObtainOk, ObtainNo, DelegateReq, DelegatePrepared, DelegateNo, Ack, Orphan, RevokeReq}
use Rattle.sem_msg.specs.declared.message.Message.TheVariants.{RevokeDone, Unlink}
use Rattle.sem_msg.specs.declared.state.Ask.{Ask}
use Rattle.sem_msg.specs.declared.state.Ask.TheVariants.{Obtain as ObtainAsk, Delegate as DelegateAsk}
use Rattle.sem_msg.specs.declared.state.Parked.{Parked}
use Rattle.sem_msg.specs.declared.state.Parked.TheVariants.{ObtainWait, ObtainReady, ObtainCancelled, DelegateWait, DelegateReady, RevokeWait, Ready}
use Rattle.sem_msg.specs.declared.state.Pending.{Pending}
use Rattle.sem_msg.specs.Rows.{VpeRow, no_vpe}
use Rattle.sem_msg.specs.Setup.{Setup}
use Rattle.sem_msg.specs.Lookups.{kernel_of, owner_of, place_owner, pe_of}
use Rattle.sem_machine.specs.Sides.{Side, row, cap, parked, pending, is_alive, call_counted, drawn, promised, parked_as, unparked, asked, ask_taken, installed}
use Rattle.sem_machine.specs.Sides.{linked, send, with_inbox, pending_added, pending_removed}
use Rattle.sem_machine.specs.Steps.{Step, unshown}
use Rattle.sem_machine.specs.Asks.{target_vpe}
use Rattle.sem_machine.specs.Calls.{next_key, next_place, call_row}
use Rattle.sem_machine.specs.Upcalls.{given, given_kind, given_here, delegate_prepared, ask_decided, upcall_row}
use Rattle.sem_machine.specs.Handles.{obtain_ready, acknowledged, handled}
use Rattle.sem_machine.specs.Resumes.{delegate_granted, delegate_resumed, resumed, resume_row}
use Rattle.sem_machine.specs.Machine.{next_call, local_step}
use Rattle.sem_machine.proofs.Folds.{option-keeps}
use Rattle.sem_safety.specs.Onward.{IsOnward}
use Rattle.sem_safety.proofs.Onwards.{onward-same, onward, drawn-below}
use Rattle.sem_safety.proofs.Skeleton.{call_row-by, decided-by, handled-by}
use Rattle.sem_revoke.specs.Delegations.{of_key, of_message, of_parked, of_inbox, of_side}
use Rattle.sem_revoke.proofs.Delegations.{Few, side-parked, side-unparked, side-send, side-inbox, few-send, few-park, few-ready, few-refused, few-ask_refused}
use Rattle.sem_revoke.proofs.Delegations.{few-ended, few-revoked, few-cleared, few-requested, few-done}

-- what a message turns into when it is handled, and what ends with it
abbrev pub of_returned : KeyName → Message → ℕ
of_returned k0 (DelegatePrepared parent key) = of_key k0 key
of_returned k0 m = 0

abbrev pub of_acked : KeyName → Message → ℕ
of_acked k0 (Ack key accepted) = of_key k0 key
of_acked k0 m = 0

abbrev pub of_settled : KeyName → Option (ℕ × Message) → ℕ
of_settled k0 None = 0
of_settled k0 (Some m) = of_acked k0 m.1

message-parts : (k0 : KeyName) (m : Message) → of_message k0 m ≡ of_returned k0 m + of_acked k0 m
message-parts k0 (ObtainReq place target) = refl
message-parts k0 (ObtainOk parent key object) = refl
message-parts k0 (ObtainNo place code) = refl
message-parts k0 (DelegateReq parent object vpe sel) = refl
message-parts k0 (DelegatePrepared parent key) = omega arith
message-parts k0 (DelegateNo parent code) = refl
message-parts k0 (Ack key accepted) = omega arith
message-parts k0 (Orphan parent key) = refl
message-parts k0 (RevokeReq key job) = refl
message-parts k0 (RevokeDone job) = refl
message-parts k0 (Unlink parent key) = refl

-- what is added is found
added-found : (k0 : KeyName) (p : Pending) (xs : List Pending) → key_eq p.key k0 ≡ true →
    (q : Pending) × (find (λ (y : Pending). key_eq y.key k0) (xs ++ p ∷ []) ≡ Some q)
added-found k0 p [] same = (p, cond-true (key_eq p.key k0) (Some p) None same)
added-found k0 p (y ∷ ys) same = elim (cases_Bool (key_eq y.key k0)) [
  | inl first ↦ (y, cond-true (key_eq y.key k0) (Some y) (find (λ (y : Pending). key_eq y.key k0) (ys ++ p ∷ [])) first)
  | inr other ↦ let rest = added-found k0 p ys same in
      (rest.0, cond-false (key_eq y.key k0) (Some y) (find (λ (y : Pending). key_eq y.key k0) (ys ++ p ∷ [])) other ∙ rest.1)
]

-- the VPE draws the number of the key, and the delegation is pending
pub record Prepares (k0 : KeyName) (T : Setup) (v : ℕ) (s t : Side) : Type 0 where
  pub one : of_side k0 t ≤ of_side k0 s + 1
  pub vpe : k0.vpe ≡ v
  pub pe : k0.pe ≡ pe_of T v
  pub number : (row s v).next_number ≡ k0.number
  pub below : (row s v).next_number < (row t v).next_number
  pub pends : (p : Pending) × (pending t k0 ≡ Some p)

module _ (k0 : KeyName) where
  module _ (m : ℕ) where
    abbrev F : Side → Type 0
    F t = Few k0 m t

    -- Calls.
    pub few-call : (T : Setup) (i u : ℕ) (c : Call) (s : Side) → F s → F (call_row T i s u c).side
    few-call T i u c s is = call_row-by (λ (x : Step). F x.side) T i u s (record {
      answered = λ code. is;
      child = λ src dst object p held. is;
      ask = λ dst target.
          let place : PlaceName = next_place T s u in
          let w : ℕ = target_vpe target in
          let waiting : Side = parked_as u (ObtainWait place.number dst) (promised u dst (drawn u s)) in
          let waits' : F waiting = few-park k0 m (promised u dst (drawn u s)) u (Some (ObtainWait place.number dst)) refl is in
          cond_both (kernel_of T w == i) (asked w (ObtainAsk place target) waiting) (send (kernel_of T w) (ObtainReq place target) waiting) F (λ _. waits')
          (λ _. few-send k0 m (kernel_of T w) (ObtainReq place target) waiting refl waits');
      offer = λ src w dst p held.
          let waiting : Side = parked_as u (DelegateWait p.key) s in
          let waits' : F waiting = few-park k0 m s u (Some (DelegateWait p.key)) refl is in
          cond_both (kernel_of T w == i) (asked w (DelegateAsk p.key p.object dst) waiting) (send (kernel_of T w) (DelegateReq p.key p.object w dst) waiting) F
          (λ _. waits') (λ _. few-send k0 m (kernel_of T w) (DelegateReq p.key p.object w dst) waiting refl waits');
      revoke = λ src c held. few-revoked k0 m T i u c.key c.mark s is;
      clear = λ src c held unmarked. few-cleared k0 m T i u c.key s is;
      bound = λ ep src c held. is;
      rung = λ ep f. is;
      ends = few-ended k0 m T i u s is;
    }) c

    few-given : (k p : KeyName) (object : Object) (state : Option Parked) (s : Side) → F s → F (given_here k p object state s)
    few-given k p object (Some (ObtainWait number sel)) s is = few-ready k0 m (code_number OkCode) k.vpe (installed k (Some p) sel object s) is
    few-given k p object None s is = is
    few-given k p object (Some (ObtainReady key parent object' sel)) s is = is
    few-given k p object (Some ObtainCancelled) s is = is
    few-given k p object (Some (DelegateWait parent)) s is = is
    few-given k p object (Some (DelegateReady parent key)) s is = is
    few-given k p object (Some (RevokeWait j)) s is = is
    few-given k p object (Some (Ready code)) s is = is

    few-obtained : (parent key : KeyName) (object : Object) (state : Option Parked) (s : Side) → F s → F (obtain_ready parent key object state s)
    few-obtained parent key object (Some (ObtainWait number sel)) s is = few-park k0 m s key.vpe (Some (ObtainReady key parent object sel)) refl is
    few-obtained parent key object None s is = is
    few-obtained parent key object (Some (ObtainReady key' parent' object' sel)) s is = is
    few-obtained parent key object (Some ObtainCancelled) s is = is
    few-obtained parent key object (Some (DelegateWait parent')) s is = is
    few-obtained parent key object (Some (DelegateReady parent' key')) s is = is
    few-obtained parent key object (Some (RevokeWait j)) s is = is
    few-obtained parent key object (Some (Ready code)) s is = is

    few-acknowledged : (T : Setup) (key : KeyName) (accepted : Bool) (s : Side) (p : Pending) → F s → F (acknowledged T key accepted s p)
    few-acknowledged T key true s p is = cond_both (is_alive s key.vpe) (installed key (Some p.parent) p.sel p.object (pending_removed key s))
        (send (owner_of T p.parent) (Orphan p.parent key) (pending_removed key s)) F (λ _. is)
        (λ _. few-send k0 m (owner_of T p.parent) (Orphan p.parent key) (pending_removed key s) refl is)
    few-acknowledged T key false s p is = is

    -- Parked calls, from the side without the call.
    few-granted : (T : Setup) (parent key : KeyName) (mark : Option ℕ) (s : Side) → of_side k0 s + of_key k0 key ≤ m →
        F (delegate_granted T parent key mark s).side
    few-granted T parent key None s is = let sum = side-send k0 (linked parent key s) (owner_of T key) (Ack key true) in omega (arith, sum, is)
    few-granted T parent key (Some j) s is = let sum = side-send k0 s (owner_of T key) (Ack key false) in omega (arith, sum, is)

    few-delegated : (T : Setup) (parent key : KeyName) (o : Option Capability) (s : Side) → of_side k0 s + of_key k0 key ≤ m →
        F (delegate_resumed T parent key o s).side
    few-delegated T parent key None s is = let sum = side-send k0 s (owner_of T key) (Ack key false) in omega (arith, sum, is)
    few-delegated T parent key (Some c) s is = few-granted T parent key c.mark s is

    few-resumed : (T : Setup) (p : Option Parked) (s : Side) → of_side k0 s + of_parked k0 p ≤ m → F (resumed T p s).side
    few-resumed T (Some (DelegateReady parent key)) s is = few-delegated T parent key (cap s parent) s is
    few-resumed T None s is = let few : of_side k0 s + 0 ≤ m = is in omega (arith, few)
    few-resumed T (Some (ObtainWait number sel)) s is = let few : of_side k0 s + 0 ≤ m = is in omega (arith, few)
    few-resumed T (Some (ObtainReady key parent object sel)) s is = let few : of_side k0 s + 0 ≤ m = is in omega (arith, few)
    few-resumed T (Some ObtainCancelled) s is = let few : of_side k0 s + 0 ≤ m = is in omega (arith, few)
    few-resumed T (Some (DelegateWait parent)) s is = let few : of_side k0 s + 0 ≤ m = is in omega (arith, few)
    few-resumed T (Some (RevokeWait j)) s is = let few : of_side k0 s + 0 ≤ m = is in omega (arith, few)
    few-resumed T (Some (Ready code)) s is = let few : of_side k0 s + 0 ≤ m = is in omega (arith, few)

  -- Upcalls.
  module _ (T : Setup) (i v : ℕ) (s : Side) where
    abbrev u : Side
    u = ask_taken v s

    abbrev n : ℕ
    n = of_side k0 s

    abbrev Adds : Step → Type 0
    Adds x = Few k0 n x.side ⊎ Prepares k0 T v s x.side

    prepared-adds : (parent : KeyName) (object : Object) (sel : ℕ) → Adds (delegate_prepared T v parent object sel u)
    prepared-adds parent object sel =
        let k : KeyName = next_key T u v parent.kind in
        let x : Step = delegate_prepared T v parent object sel u in
        let p : Pending = record { key = k; parent = parent; object = object; sel = sel } in
        let promising : Side = promised v sel (drawn v u) in
        let preparing : Side = pending_added p promising in
        let O = (onward (drawn v u)).kept in
        let after : IsOnward (drawn v u) x.side =
        O.keeps_send preparing (O.keeps_pending_added promising (O.keeps_slot (drawn v u) (onward-same (drawn v u)) v sel _ tt) p tt) (owner_of T parent)
        (DelegatePrepared parent k) tt in
        let same : (row u v).next_number ≡ (row s v).next_number =
        ap (λ (r : VpeRow). r.next_number) (get_or-put_same no_vpe s.vpes v (record (row s v) { asks = drop 1 (row s v).asks })) in
        let low = drawn-below v u x.side after in
        let sum : of_side k0 x.side ≡ n + of_key k0 k = side-send k0 preparing (owner_of T parent) (DelegatePrepared parent k) in
        elim (cases_Bool (key_eq k k0)) [
          | inl here ↦
              let is = key_eq-true k k0 here in
              let one : of_key k0 k ≡ 1 = cond-true (key_eq k k0) 1 0 here in
              inr (record {
                one = omega (arith, sum, one);
                vpe = sym (ap (λ (z : KeyName). z.vpe) is);
                pe = sym (ap (λ (z : KeyName). z.pe) is);
                number = sym same ∙ ap (λ (z : KeyName). z.number) is;
                below = omega (arith, same, low);
                pends = added-found k0 p promising.pendings here;
              })
          | inr other ↦ let none : of_key k0 k ≡ 0 = cond-false (key_eq k k0) 1 0 other in inl (omega (arith, sum, none))
        ]

    decided-adds : (a : Ask) → Adds (ask_decided T i v a u)
    decided-adds a =
        let is : Few k0 n u = omega arith in
        decided-by Adds (λ w x here'. here') (λ w x here'. here') (λ w x here'. here') T i v a u (record {
          nothing = inl is;
          refused = λ code. inl (few-ask_refused k0 n T i code a u is);
          given = λ place target p of.
              let k : KeyName = keyed place (given_kind target p) in
              let linking : Side = linked p.key k u in
              inl (cond_both (kernel_of T place.vpe == i) (given_here k p.key (given target place.vpe p) (parked linking place.vpe) linking)
              (send (place_owner T place) (ObtainOk p.key k (given target place.vpe p)) linking) (Few k0 n)
              (λ _. few-given n k p.key (given target place.vpe p) (parked linking place.vpe) linking is)
              (λ _. few-send k0 n (place_owner T place) (ObtainOk p.key k (given target place.vpe p)) linking refl is));
          here = λ parent object sel of.
              let k : KeyName = next_key T u v parent.kind in
              inl (few-ready k0 n (code_number OkCode) parent.vpe (installed k (Some parent) sel object (linked parent k (drawn v u))) is);
          prepared = λ parent object sel of. prepared-adds parent object sel;
        })

    pub upcall-adds : Adds (upcall_row T i s v)
    unfolding upcall_row
    upcall-adds = option-keeps Adds (λ (a : Ask). ask_decided T i v a u) (slice_get (row s v).asks 0) (unshown s) (λ a there. decided-adds a) (inl (omega arith))

  -- Messages.
  handled-few : (T : Setup) (i : ℕ) (s : Side) (from : ℕ) (msg : Message) → of_side k0 (handled T i s from msg) ≤ of_side k0 s + of_returned k0 msg
  handled-few T i s from msg =
      let m : ℕ = of_side k0 s + of_returned k0 msg in
      let is : Few k0 m s = omega arith in
      handled-by (Few k0 m) T i s from msg (record {
        same = is;
        asked_obtain = λ place target of. is;
        dead_obtain = λ place target of. few-ask_refused k0 m T i Dead (ObtainAsk place target) s is;
        asked_delegate = λ parent object vpe sel of. is;
        dead_delegate = λ parent object vpe sel of. few-ask_refused k0 m T i Dead (DelegateAsk parent object sel) s is;
        given = λ parent key object of. few-obtained m parent key object (parked s key.vpe) s is;
        orphaned = λ parent key object of. few-send k0 m (owner_of T parent) (Orphan parent key) s refl is;
        no_obtain = λ place code of. few-refused k0 m code place.vpe s is;
        prepared = λ parent key of.
            let sum = side-parked k0 s parent.vpe (DelegateReady parent key) in
            let same : of_returned k0 msg ≡ of_key k0 key = ap (of_returned k0) of in
            omega (arith, sum, same);
        given_up = λ parent key of.
            let sum = side-send k0 s (owner_of T key) (Ack key false) in
            let same : of_returned k0 msg ≡ of_key k0 key = ap (of_returned k0) of in
            omega (arith, sum, same);
        no_delegate = λ parent code of. few-refused k0 m code parent.vpe s is;
        acked = λ key accepted p of there. few-acknowledged m T key accepted s p is;
        unlinks = λ parent key. is;
        requests = λ key j of. few-requested k0 m T i from j key (cap s key) s is;
        dones = λ j of. few-done k0 m T i j s is;
      })

  -- Steps.

  pub call-few : (T : Setup) (i : ℕ) (s : Side) (v : ℕ) (input : Option Message) → of_side k0 (local_step T i s (Calls v) input).side ≤ of_side k0 s
  unfolding local_step
  call-few T i s v input =
      let n : ℕ = of_side k0 s in
      let is : Few k0 n s = omega arith in
      option-keeps (λ (x : Step). Few k0 n x.side) (call_row T i (call_counted v s) v) (next_call T s v) (unshown s)
      (λ c there. few-call n T i v c (call_counted v s) is) is

  pub resume-few : (T : Setup) (i : ℕ) (s : Side) (v : ℕ) (input : Option Message) → of_side k0 (local_step T i s (Resume v) input).side ≤ of_side k0 s
  unfolding local_step resume_row
  resume-few T i s v input = let taken = side-unparked k0 s v in few-resumed (of_side k0 s) T (parked s v) (unparked v s) (omega (arith, taken))

  pub kill-few : (T : Setup) (i : ℕ) (s : Side) (v : ℕ) (input : Option Message) → of_side k0 (local_step T i s (Kill v) input).side ≤ of_side k0 s
  unfolding local_step
  kill-few T i s v input = few-ended k0 (of_side k0 s) T i v s (omega arith)

  pub handle-few : (T : Setup) (i : ℕ) (s : Side) (input : Option Message) →
      of_side k0 (local_step T i s Handle input).side + of_settled k0 s.inbox ≤ of_side k0 s
  unfolding local_step
  handle-few T i s input = from s.inbox refl
    where
      from : (o : Option (ℕ × Message)) → s.inbox ≡ o →
          of_side k0 (option_map_or (λ m. handled T i (with_inbox None s) m.0 m.1) o s) + of_settled k0 o ≤ of_side k0 s
      from None none = omega arith
      from (Some m) some =
          let few = handled-few T i (with_inbox None s) m.0 m.1 in
          let out : of_side k0 (with_inbox None s) + of_inbox k0 s.inbox ≡ of_side k0 s + 0 = side-inbox k0 s None in
          let there : of_inbox k0 s.inbox ≡ of_message k0 m.1 = ap (of_inbox k0) some in
          let parts = message-parts k0 m.1 in
          omega (arith, few, out, there, parts)
