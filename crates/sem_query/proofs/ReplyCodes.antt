-- The code of a reply is the number of a code, and the VPE that makes a call has a place.
use Rattle.std.proofs.Common.{◌≡◌, ℕ, suc, ◌≤◌, ◌<◌, true, List, ◌∷◌, ◌++◌, length, take, drop, get_or, Option, Some, None, refl, sym, ap, ◌∙◌, subst, arith}
use Rattle.std.specs.Prelude.{◌==◌, nat_lt}
use Rattle.std.specs.Option.{option_map}
use Rattle.std.proofs.lemmas.Bool.{and_parts, eqb-true, ltb-true}
use Rattle.std.proofs.lemmas.List.{take-append-drop}
use Rattle.std.proofs.lemmas.Option.{same_Some, slice_get_within, get_or_from_slice_get}
use Rattle.std.proofs.Math.Seq.{drop-cons}
use Rattle.sem_key.specs.declared.limits.TheConstants.{VPES}
use Rattle.sem_key.specs.Capability.{Capability}
use Rattle.sem_msg.specs.declared.call.Call.{Call}
use Rattle.sem_msg.specs.declared.code.Code.{Code}
use Rattle.sem_msg.specs.declared.code.Code.TheVariants.{Ok as OkCode, NoVpe, Dead, NoCap, Revoking, Refused, Occupied, Numbers, BadKind, Wider, NoService}
use Rattle.sem_msg.specs.declared.code.Code.TheVariants.{Gone, Unbound, Rights, Range, SelfExchange}
use Rattle.sem_msg.specs.Codes.{code_number}
use Rattle.sem_msg.specs.declared.event.Act.{Act}
use Rattle.sem_msg.specs.declared.event.Act.TheVariants.{Call as Calls, Fetch, Handle, Upcall, Resume, Flush, Kill}
use Rattle.sem_msg.specs.declared.entry.Entry.{Entry}
use Rattle.sem_msg.specs.declared.entry.Reply.{Reply}
use Rattle.sem_msg.specs.declared.message.Message.{Message}
use Rattle.sem_msg.specs.declared.state.Parked.{Parked}
use Rattle.sem_msg.specs.declared.state.Parked.TheVariants.{ObtainWait, ObtainReady, ObtainCancelled, DelegateWait, DelegateReady, RevokeWait, Ready}
use Rattle.sem_msg.specs.Setup.{Setup, IsSetup}
use Rattle.sem_msg.specs.Lookups.{kernel_of}
use Rattle.sem_machine.specs.Sides.{Side, cap, parked, unparked, call_counted}
use Rattle.sem_machine.specs.Steps.{Step, unshown}
use Rattle.sem_machine.specs.Calls.{call_row}
use Rattle.sem_machine.specs.Resumes.{delegate_granted, delegate_resumed, resumed, resume_row}
use Rattle.sem_machine.specs.Sound.{IsSoundCall}
use Rattle.sem_machine.specs.Machine.{World, side, start, next_call, local_step, local_entry, input_of, is_enabled, is_locally_enabled, entry_of, replied_vpe}
use Rattle.sem_machine.specs.Schedules.{IsSchedule, world_after}
use Rattle.sem_machine.proofs.Folds.{option-keeps}
use Rattle.sem_sound.proofs.Named.{kernel-vpe}
use Rattle.sem_sound.proofs.Scheduling.{schedule-sound}
use Rattle.sem_safety.proofs.CarryingWorlds.{stepped}
use Rattle.sem_safety.proofs.GoingOn.{entry-enabled}
use Rattle.sem_safety.proofs.Skeleton.{call_row-by}
use Rattle.sem_query.specs.Denials.{IsAt}
use Rattle.sem_query.proofs.Replied.{upcall-silent}

-- The codes that a step may reply.

-- the code, if there is one, is the number of a code
abbrev IsSmall : Option ℕ → Type 0
IsSmall None = Unit {0}
IsSmall (Some number) = number ≤ 15

code-small : (code : Code) → code_number code ≤ 15
code-small OkCode = omega arith
code-small NoVpe = omega arith
code-small Dead = omega arith
code-small NoCap = omega arith
code-small Revoking = omega arith
code-small Refused = omega arith
code-small Occupied = omega arith
code-small Numbers = omega arith
code-small BadKind = omega arith
code-small Wider = omega arith
code-small NoService = omega arith
code-small Gone = omega arith
code-small Unbound = omega arith
code-small Rights = omega arith
code-small Range = omega arith
code-small SelfExchange = omega arith

call-small : (T : Setup) (i v : ℕ) (s : Side) (c : Call) → IsSmall (call_row T i s v c).outcome.reply
call-small T i v s c = call_row-by (λ (x : Step). IsSmall x.outcome.reply) T i v s (record {
  answered = code-small;
  child = λ src dst object p held. code-small OkCode;
  ask = λ dst target. tt;
  offer = λ src w dst p held. tt;
  revoke = λ src q held. tt;
  clear = λ src q held unmarked. tt;
  bound = λ ep src q held. code-small OkCode;
  rung = λ ep f. code-small OkCode;
  ends = code-small OkCode;
}) c

resumed-small : (T : Setup) (i v : ℕ) (o : Option Parked) (s : Side) → ((p : Parked) → o ≡ Some p → IsSoundCall T i v p) → IsSmall (resumed T o s).outcome.reply
resumed-small T i v None s sound = tt
resumed-small T i v (Some (ObtainWait number sel)) s sound = tt
resumed-small T i v (Some (ObtainReady key parent object sel)) s sound = code-small OkCode
resumed-small T i v (Some ObtainCancelled) s sound = code-small Gone
resumed-small T i v (Some (DelegateWait parent)) s sound = tt
resumed-small T i v (Some (DelegateReady parent key)) s sound = by_parent (cap s parent)
  where
    by_mark : (m : Option ℕ) → IsSmall (delegate_granted T parent key m s).outcome.reply
    by_mark None = code-small OkCode
    by_mark (Some j) = code-small Revoking

    by_parent : (o : Option Capability) → IsSmall (delegate_resumed T parent key o s).outcome.reply
    by_parent None = code-small Gone
    by_parent (Some c) = by_mark c.mark
resumed-small T i v (Some (RevokeWait j)) s sound = tt
resumed-small T i v (Some (Ready number)) s sound = sound (Ready number) refl

step-small : (T : Setup) (i : ℕ) (s : Side) (a : Act) (input : Option Message) → ((v : ℕ) (p : Parked) → parked s v ≡ Some p → IsSoundCall T i v p) →
    IsSmall (local_step T i s a input).outcome.reply
unfolding local_step resume_row
step-small T i s (Calls v) input sound = option-keeps (λ (x : Step). IsSmall x.outcome.reply) (call_row T i (call_counted v s) v) (next_call T s v) (unshown s)
    (λ c there. call-small T i v (call_counted v s) c) tt
step-small T i s (Resume v) input sound = resumed-small T i v (parked s v) (unparked v s) (sound v)
step-small T i s (Upcall v) input sound = subst IsSmall (sym (upcall-silent T i v s)) tt
step-small T i s Handle input sound = tt
step-small T i s (Fetch j) input sound = tt
step-small T i s (Flush j) input sound = tt
step-small T i s (Kill v) input sound = tt

told-small : (a : Act) (o : Option ℕ) (r : Reply) → option_map (λ code. record { vpe = replied_vpe a; code = code }) o ≡ Some r → IsSmall o → r.code ≤ 15
told-small a None r is small = absurd cc
told-small a (Some code) r is small = subst (λ n. n ≤ 15) (ap (λ (x : Reply). x.code) (same_Some (record { vpe = replied_vpe a; code = code }) r is)) small

-- An entry of a journal stands between those before it and those behind it.
parts-at : (J : List Entry) (n : ℕ) (e : Entry) → IsAt J n e → J ≡ take n J ++ e ∷ drop (suc n) J
parts-at J n e at =
    let within : n < length J = slice_get_within J n e at in
    let is : get_or J n e ≡ e = get_or_from_slice_get J n e e at in
    sym (ap (λ (xs : List Entry). take n J ++ xs) (sym (drop-cons J n e within ∙ ap (λ (x : Entry). x ∷ drop (suc n) J) is)) ∙ take-append-drop n J)

module _ (T : Setup) (valid : IsSetup T) (J : List Entry) (runs : IsSchedule T J) (n : ℕ) (e : Entry) (there : IsAt J n e) where
  abbrev W : World
  W = world_after T (take n J)

  at : IsSchedule T (take n J) × (is_enabled T W e.event ≡ true) × (e ≡ entry_of T W e.event)
  at = entry-enabled T (take n J) (start T) e (drop (suc n) J) (subst (IsSchedule T) (parts-at J n e there) runs)

  -- the first entries of a schedule are one
  pub first-runs : IsSchedule T (take n J)
  first-runs = at.0

  enabled : (nat_lt e.event.kernel T.kernels ≡ true) × (is_locally_enabled T e.event.kernel (side W e.event.kernel) e.event.act ≡ true)
  unfolding is_enabled
  enabled =
      let first = and_parts (nat_lt e.event.kernel T.kernels) _ at.1 in
      (first.0, (and_parts (is_locally_enabled T e.event.kernel (side W e.event.kernel) e.event.act) _ first.1).0)

  below : e.event.kernel < T.kernels
  below = ltb-true e.event.kernel T.kernels enabled.0

  -- the code of its reply is the number of a code
  pub reply-small : (r : Reply) → e.reply ≡ Some r → r.code ≤ 15
  unfolding entry_of local_entry
  reply-small r replies =
      let sound = (schedule-sound T valid (take n J) at.0).sides e.event.kernel below in
      told-small e.event.act (stepped T W e.event).outcome.reply r (sym (ap (λ (y : Entry). y.reply) at.2) ∙ replies)
      (step-small T e.event.kernel (side W e.event.kernel) e.event.act (input_of W e.event.kernel e.event.act) (λ v p is. (sound.calls v p is).1))

  -- the VPE that calls has a place
  pub caller-small : (v : ℕ) → e.event.act ≡ Calls v → v < VPES
  unfolding is_locally_enabled
  caller-small v act =
      let is = subst (λ a. is_locally_enabled T e.event.kernel (side W e.event.kernel) a ≡ true) act enabled.1 in
      let home : kernel_of T v ≡ e.event.kernel = eqb-true (kernel_of T v) e.event.kernel (and_parts (kernel_of T v == e.event.kernel) _ is).0 in
      kernel-vpe T valid v (omega (arith, home, below))
