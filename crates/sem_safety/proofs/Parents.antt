-- Just before a grant the kernel holds the parent, and no job has marked it.
use Rattle.std.proofs.Common.{◌≡◌, ℕ, ◌++◌, Bool, false, List, [], ◌∷◌, Option, Some, None, is_none, is_some, slice_get, refl, sym, ◌∙◌, ap, subst, inl}
use Rattle.std.specs.Prelude.{◌==◌}
use Rattle.std.specs.List.{Contains}
use Rattle.std.specs.Option.{option_and_then, IsSome}
use Rattle.std.proofs.lemmas.Bool.{cond_both}
use Rattle.std.proofs.lemmas.Option.{same_Some}
use Rattle.sem_key.specs.declared.object.Object.{Object}
use Rattle.sem_key.specs.KeyName.{KeyName, key_eq}
use Rattle.sem_key.specs.PlaceName.{PlaceName}
use Rattle.sem_key.specs.Capability.{Capability}
use Rattle.sem_msg.specs.declared.call.Call.{Call}
use Rattle.sem_msg.specs.declared.call.Call.TheVariants.{Derive, Gate, Obtain, Delegate, OpenSession, AskOffer, Revoke, Bind, Read, Write, Send as SendCall}
use Rattle.sem_msg.specs.declared.call.Call.TheVariants.{Credit, Exit, Clear}
use Rattle.sem_msg.specs.declared.event.Act.{Act}
use Rattle.sem_msg.specs.declared.event.Act.TheVariants.{Call as Calls, Fetch, Handle, Upcall, Resume, Flush, Kill}
use Rattle.sem_msg.specs.declared.event.Event.{Event}
use Rattle.sem_msg.specs.declared.entry.Entry.{Entry}
use Rattle.sem_msg.specs.declared.message.Message.{Message}
use Rattle.sem_msg.specs.declared.message.Target.{Target}
use Rattle.sem_msg.specs.declared.message.Target.TheVariants.{Sel as SelTarget, Serv as ServTarget, Offer as OfferTarget}
use Rattle.sem_msg.specs.declared.setup.Service.{Service}
use Rattle.sem_msg.specs.declared.state.Ask.{Ask}
use Rattle.sem_msg.specs.declared.state.Ask.TheVariants.{Obtain as ObtainAsk, Delegate as DelegateAsk}
use Rattle.sem_msg.specs.declared.state.Parked.{Parked}
use Rattle.sem_msg.specs.declared.state.Parked.TheVariants.{ObtainWait, ObtainReady, ObtainCancelled, DelegateWait, DelegateReady, RevokeWait, Ready}
use Rattle.sem_msg.specs.declared.state.Slot.{Slot}
use Rattle.sem_msg.specs.declared.state.Slot.TheVariants.{Free, Held, Promised}
use Rattle.sem_msg.specs.Setup.{Setup}
use Rattle.sem_msg.specs.Lookups.{kernel_of, denies, offered, service_named}
use Rattle.sem_msg.specs.declared.code.Code.{Code}
use Rattle.sem_msg.specs.declared.code.Code.TheVariants.{NoCap, NoService, BadKind}
use Rattle.sem_machine.specs.Sides.{Side, row, cap, cap_in, own, slot, endpoint, parked, is_marked, call_counted, unparked, ask_taken}
use Rattle.sem_machine.specs.Steps.{Step, unshown, answer, unless}
use Rattle.sem_machine.specs.Asks.{asker, is_unawaited}
use Rattle.sem_msg.specs.Uses.{memory_tests, send_tests, credit_tests}
use Rattle.sem_machine.specs.Calls.{own_tests, destination_tests, child_made, narrowed, derive_tests, gate_tests, ask_made, obtain_tests, open_tests}
use Rattle.sem_machine.specs.Calls.{offer_tests, delegate_tests, bind_tests, call_row}
use Rattle.sem_machine.specs.Upcalls.{source, source_tests, child_given, obtain_consent, parent_tests, delegate_consent, consented, ask_decided, upcall_row}
use Rattle.sem_machine.specs.Resumes.{delegate_granted, delegate_resumed, resumed, resume_row}
use Rattle.sem_machine.specs.Machine.{World, side, next_call, local_step, local_entry, input_of, entry_of, start}
use Rattle.sem_machine.specs.Schedules.{IsSchedule, world_after}
use Rattle.sem_machine.specs.Journals.{made}
use Rattle.sem_machine.specs.Safety.{HoldsUnmarked}
use Rattle.sem_key.proofs.Members.{found}
use Rattle.sem_key.proofs.KeyTests.{key_eq-true}
use Rattle.sem_machine.proofs.Folds.{option-keeps}
use Rattle.sem_safety.proofs.Onwards.{AnyPlace}
use Rattle.sem_safety.proofs.GoingOn.{entry-enabled}
use Rattle.sem_safety.proofs.CarryingWorlds.{used-in, world_after-in}

-- the side holds the key, and no job has marked it
abbrev pub HeldUnmarked : Side → KeyName → Type 0
HeldUnmarked s p = (c : Capability) × (cap s p ≡ Some c) × (c.mark ≡ None)

-- the grant, if there is one, is below such a key of the side s
abbrev IsBelow : Side → Option (KeyName × KeyName) → Type 0
IsBelow s grant = (p k : KeyName) → grant ≡ Some (p, k) → HeldUnmarked s p

abbrev pub GrantsBelow : Side → Step → Type 0
GrantsBelow s x = IsBelow s x.outcome.grant

-- Tests that were passed.

abbrev Passed : List (Bool × Code) → Type 0
Passed [] = Unit {0}
Passed (test ∷ tests) = (test.0 ≡ false) × Passed tests

-- what is so of each refusal, and where all tests were passed of the step that is done, is so of the row
unless-passed : (P : Step → Type 0) (tests : List (Bool × Code)) (refuse : Code → Step) (done : Step) → ((code : Code) → P (refuse code)) →
    (Passed tests → P done) → P (unless tests refuse done)
unfolding unless
unless-passed P [] refuse done each here = here tt
unless-passed P (test ∷ tests) refuse done each here = cond_both test.0 (refuse test.1) (unless tests refuse done) P (λ _. each test.1)
    (λ passed. unless-passed P tests refuse done each (λ rest. here (passed, rest)))

unmarked : (o : Option ℕ) → is_some o ≡ false → o ≡ None
unmarked None same = refl
unmarked (Some m) some = absurd cc

-- a capability that is found, and passed the test of marks
held-unmarked : (s : Side) (o : Option Capability) (p : Capability) → o ≡ Some p → cap s p.key ≡ Some p → is_marked o ≡ false → HeldUnmarked s p.key
held-unmarked s o p is held passed = (p, held, unmarked p.mark (rw is at passed))

held-itself : (s : Side) (k : KeyName) (p : Capability) → cap s k ≡ Some p → cap s p.key ≡ Some p
held-itself s k p held = subst (λ q. cap s q ≡ Some p) (sym (key_eq-true p.key k (found (λ x. key_eq x.key k) s.caps p held).1)) held

own-held : (s : Side) (v sel : ℕ) (p : Capability) → own s v sel ≡ Some p → cap s p.key ≡ Some p
own-held s v sel p held = from (slot s v sel) held
  where
    from : (x : Slot) → cap_in s x ≡ Some p → cap s p.key ≡ Some p
    from Free none = absurd cc
    from (Held k) some = held-itself s k p some
    from Promised none = absurd cc

source-held : (T : Setup) (s : Side) (v : ℕ) (target : Target) (p : Capability) → source T s v target ≡ Some p → cap s p.key ≡ Some p
source-held T s v (SelTarget w sel) p held = own-held s v sel p held
source-held T s v (ServTarget service) p held = held-itself s service p held
source-held T s v (OfferTarget service index) p held = from (offered T service index) held
  where
    from : (o : Option ℕ) → option_and_then (own s v) o ≡ Some p → cap s p.key ≡ Some p
    from None none = absurd cc
    from (Some sel) some = own-held s v sel p some

-- No grant, and one.

nothing : (s : Side) → IsBelow s None
nothing s = λ p k some. absurd cc

one : (s : Side) (q k : KeyName) → HeldUnmarked s q → IsBelow s (Some (q, k))
one s q k held = λ p k' some. subst (HeldUnmarked s) (ap (λ (g : KeyName × KeyName). g.0) (same_Some (q, k) (p, k') some)) held

-- Calls.

pub call_row-below : (T : Setup) (i : ℕ) (s : Side) (v : ℕ) (c : Call) → GrantsBelow s (call_row T i s v c)
unfolding call_row
call_row-below T i s v (Derive src dst off len rights) = unless-passed (GrantsBelow s) (derive_tests s v src dst off len rights) _ _ (λ code. nothing s)
    (λ passed. option-keeps (GrantsBelow s) (λ (p : Capability). child_made T v dst (narrowed off len rights p.object) p.key s) (own s v src) (answer NoCap s)
    (λ p held. one s p.key _ (held-unmarked s (own s v src) p held (own-held s v src p held) passed.1.0)) (nothing s))
call_row-below T i s v (Gate src dst label credits) = unless-passed (GrantsBelow s) (gate_tests s v src dst credits) _ _ (λ code. nothing s)
    (λ passed. option-keeps (GrantsBelow s) _ (own s v src) (answer NoCap s)
    (λ p held. one s p.key _ (held-unmarked s (own s v src) p held (own-held s v src p held) passed.1.0)) (nothing s))
call_row-below T i s v (Obtain dst w src) = unless-passed (GrantsBelow s) (obtain_tests T i s v dst w) _ _ (λ code. nothing s) (λ _. nothing s)
call_row-below T i s v (Delegate src w dst) = unless-passed (GrantsBelow s) (delegate_tests T i s v src w) _ _ (λ code. nothing s)
    (λ _. option-keeps (GrantsBelow s) _ (own s v src) (answer NoCap s) (λ p held. nothing s) (nothing s))
call_row-below T i s v (OpenSession dst name) = unless-passed (GrantsBelow s) (open_tests T i s v dst name) _ _ (λ code. nothing s)
    (λ _. option-keeps (GrantsBelow s) (λ (x : Service). ask_made T i v dst (ServTarget x.key) s) (service_named T name) (answer NoService s)
    (λ x there. nothing s) (nothing s))
call_row-below T i s v (AskOffer dst session index) = unless-passed (GrantsBelow s) (offer_tests T i s v dst session) _ _ (λ code. nothing s)
    (λ _. option-keeps (GrantsBelow s) (λ (k : KeyName). ask_made T i v dst (OfferTarget k index) s) _ (answer BadKind s) (λ k there. nothing s) (nothing s))
call_row-below T i s v (Revoke src) = option-keeps (GrantsBelow s) _ (own s v src) (answer NoCap s) (λ p held. nothing s) (nothing s)
call_row-below T i s v (Bind ep src) = unless-passed (GrantsBelow s) (bind_tests s v src) _ _ (λ code. nothing s)
    (λ _. option-keeps (GrantsBelow s) _ (own s v src) (answer NoCap s) (λ p held. nothing s) (nothing s))
call_row-below T i s v (Read ep off len) = unless-passed (GrantsBelow s) (memory_tests 1 off len (endpoint s v ep)) _ _ (λ code. nothing s) (λ _. nothing s)
call_row-below T i s v (Write ep off len) = unless-passed (GrantsBelow s) (memory_tests 2 off len (endpoint s v ep)) _ _ (λ code. nothing s) (λ _. nothing s)
call_row-below T i s v (SendCall ep len) = unless-passed (GrantsBelow s) (send_tests (endpoint s v ep)) _ _ (λ code. nothing s) (λ _. nothing s)
call_row-below T i s v (Credit ep) = unless-passed (GrantsBelow s) (credit_tests (endpoint s v ep)) _ _ (λ code. nothing s) (λ _. nothing s)
call_row-below T i s v Exit = nothing s
call_row-below T i s v (Clear src) = unless-passed (GrantsBelow s) (own_tests (own s v src)) _ _ (λ code. nothing s)
    (λ _. option-keeps (GrantsBelow s) _ (own s v src) (answer NoCap s) (λ p held. nothing s) (nothing s))

-- Upcalls.

obtain_consent-below : (T : Setup) (i v : ℕ) (place : PlaceName) (target : Target) (s : Side) → GrantsBelow s (obtain_consent T i v place target s)
obtain_consent-below T i v place target s = unless-passed (GrantsBelow s) (source_tests target (source T s v target)) _ _ (λ code. nothing s)
    (λ passed. option-keeps (GrantsBelow s) (child_given T i place target s) (source T s v target) (unshown s)
    (λ p held. one s p.key _ (held-unmarked s (source T s v target) p held (source-held T s v target p held) passed.1.0)) (nothing s))

-- the parent of a delegation, where the tests found it and no mark
parent-held : (s : Side) (parent : KeyName) (o : Option Capability) → cap s parent ≡ o → is_none o ≡ false → is_marked o ≡ false → HeldUnmarked s parent
parent-held s parent None there some passed = absurd cc
parent-held s parent (Some c) there some passed = (c, there, unmarked c.mark passed)

delegate_consent-below : (T : Setup) (i v : ℕ) (parent : KeyName) (object : Object) (sel : ℕ) (s : Side) →
    GrantsBelow s (delegate_consent T i v parent object sel s)
delegate_consent-below T i v parent object sel s =
    cond_both (kernel_of T parent.vpe == i) _ _ (GrantsBelow s)
    (λ _. unless-passed (GrantsBelow s) (parent_tests (cap s parent) ++ destination_tests s v sel) _ _ (λ code. nothing s)
    (λ passed. one s parent _ (parent-held s parent (cap s parent) refl passed.0 passed.1.0)))
    (λ _. unless-passed (GrantsBelow s) (destination_tests s v sel) _ _ (λ code. nothing s) (λ _. nothing s))

consented-below : (T : Setup) (i v : ℕ) (a : Ask) (s : Side) → GrantsBelow s (consented T i v a s)
consented-below T i v (ObtainAsk place target) s = obtain_consent-below T i v place target s
consented-below T i v (DelegateAsk parent object sel) s = delegate_consent-below T i v parent object sel s

ask_decided-below : (T : Setup) (i v : ℕ) (a : Ask) (s : Side) → GrantsBelow s (ask_decided T i v a s)
ask_decided-below T i v a s =
    cond_both (is_unawaited T i s a) _ _ (GrantsBelow s) (λ _. nothing s)
    (λ _. cond_both (denies T v (asker a)) _ _ (GrantsBelow s) (λ _. nothing s) (λ _. consented-below T i v a s))

pub upcall_row-below : (T : Setup) (i : ℕ) (s : Side) (v : ℕ) → GrantsBelow s (upcall_row T i s v)
unfolding upcall_row
upcall_row-below T i s v = option-keeps (GrantsBelow s) (λ (a : Ask). ask_decided T i v a (ask_taken v s)) (slice_get (row s v).asks 0) (unshown s)
    (λ a there. ask_decided-below T i v a (ask_taken v s)) (nothing s)

-- Parked calls.

granted-below : (T : Setup) (parent key : KeyName) (c : Capability) (mark : Option ℕ) (s : Side) → cap s parent ≡ Some c → c.mark ≡ mark →
    GrantsBelow s (delegate_granted T parent key mark s)
granted-below T parent key c None s held is = one s parent key (c, held, is)
granted-below T parent key c (Some j) s held is = nothing s

delegate_resumed-below : (T : Setup) (parent key : KeyName) (o : Option Capability) (s : Side) → cap s parent ≡ o →
    GrantsBelow s (delegate_resumed T parent key o s)
delegate_resumed-below T parent key None s there = nothing s
delegate_resumed-below T parent key (Some c) s there = granted-below T parent key c c.mark s there refl

resumed-below : (T : Setup) (p : Option Parked) (s : Side) → GrantsBelow s (resumed T p s)
resumed-below T (Some (Ready code)) s = nothing s
resumed-below T (Some (ObtainReady key parent object sel)) s = nothing s
resumed-below T (Some ObtainCancelled) s = nothing s
resumed-below T (Some (DelegateReady parent key)) s = delegate_resumed-below T parent key (cap s parent) s refl
resumed-below T None s = nothing s
resumed-below T (Some (ObtainWait number sel)) s = nothing s
resumed-below T (Some (DelegateWait parent)) s = nothing s
resumed-below T (Some (RevokeWait j)) s = nothing s

pub resume_row-below : (T : Setup) (s : Side) (v : ℕ) → GrantsBelow s (resume_row T s v)
unfolding resume_row
resume_row-below T s v = resumed-below T (parked s v) (unparked v s)

-- A step, and a journal.

pub local_step-below : (T : Setup) (i : ℕ) (s : Side) (a : Act) (input : Option Message) → GrantsBelow s (local_step T i s a input)
unfolding local_step
local_step-below T i s (Calls v) input = option-keeps (GrantsBelow s) (call_row T i (call_counted v s) v) (next_call T s v) (unshown s)
    (λ c there. call_row-below T i (call_counted v s) v c) (nothing s)
local_step-below T i s (Fetch from) input = nothing s
local_step-below T i s Handle input = nothing s
local_step-below T i s (Upcall v) input = upcall_row-below T i s v
local_step-below T i s (Resume v) input = resume_row-below T s v
local_step-below T i s (Flush to) input = nothing s
local_step-below T i s (Kill v) input = nothing s

pub entry-below : (T : Setup) (W : World) (e : Event) (p k : KeyName) → (entry_of T W e).grant ≡ Some (p, k) → HoldsUnmarked W e.kernel p
unfolding entry_of local_entry
entry-below T W e p k granted = local_step-below T e.kernel (side W e.kernel) e.act (input_of W e.kernel e.act) p k granted

pub journal-below : (T : Setup) (J before later : List Entry) (e : Entry) (p k : KeyName) → IsSchedule T J → J ≡ before ++ e ∷ later → e.grant ≡ Some (p, k) →
    HoldsUnmarked (world_after T before) e.event.kernel p
journal-below T J before later e p k runs parts granted =
    let made = (entry-enabled T before (start T) e later (subst (IsSchedule T) parts runs)).2 in
    entry-below T (world_after T before) e.event p k (sym (ap (λ (x : Entry). x.grant) made) ∙ granted)

pub parent-made : (T : Setup) (J before later : List Entry) (e : Entry) (p k : KeyName) → IsSchedule T J → J ≡ before ++ e ∷ later → e.grant ≡ Some (p, k) →
    Contains (made T before) p
parent-made T J before later e p k runs parts granted =
    let held = journal-below T J before later e p k runs parts granted in
    let schedule : IsSchedule T before = (entry-enabled T before (start T) e later (subst (IsSchedule T) parts runs)).0 in
    used-in (Contains (made T before)) AnyPlace (world_after T before) (world_after-in T before schedule) p
    (inl (inl (e.event.kernel, subst IsSome (sym held.1) refl)))
