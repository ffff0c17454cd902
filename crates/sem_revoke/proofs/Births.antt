-- A key that is granted is alive: held, or sent. So one that is granted within a kernel is held, and is not lost.
use Rattle.std.proofs.Common.{◌≡◌, ℕ, ◌≤◌, Bool, true, false, not, ◌&&◌, List, [], ◌∷◌, ◌++◌, get_or, Option, Some, None, slice_get, refl, sym, ap, ◌∙◌, subst}
use Rattle.std.proofs.Common.{inl, inr, arith, append_assoc}
use Rattle.std.specs.Prelude.{◌==◌}
use Rattle.std.specs.List.{Contains, filter, sum_by}
use Rattle.std.proofs.lemmas.Bool.{cond_both, cond-true}
use Rattle.std.proofs.lemmas.Option.{same_Some}
use Rattle.std.proofs.lemmas.List.Elements.{Contains-append_right}
use Rattle.std.proofs.lemmas.List.Sums.{sum_by-cons, sum_by-append}
use Rattle.sem_key.specs.declared.object.Object.{Object}
use Rattle.sem_key.specs.declared.object.Object.TheVariants.{Send as SendObject}
use Rattle.sem_key.specs.ObjectRanges.{object_kind}
use Rattle.sem_key.specs.PlaceName.{PlaceName, keyed}
use Rattle.sem_msg.specs.declared.message.Target.{Target}
use Rattle.sem_key.specs.KeyName.{KeyName, key_eq, key_lt}
use Rattle.sem_key.specs.CapList.{fresh}
use Rattle.sem_key.specs.Capability.{Capability}
use Rattle.sem_msg.specs.declared.call.Call.{Call}
use Rattle.sem_msg.specs.declared.call.Call.TheVariants.{Derive, Gate, Obtain, Delegate, OpenSession, AskOffer, Revoke, Bind, Read, Write, Send as SendCall}
use Rattle.sem_msg.specs.declared.call.Call.TheVariants.{Credit, Exit, Clear}
use Rattle.sem_msg.specs.declared.entry.Entry.{Entry}
use Rattle.sem_msg.specs.declared.event.Act.{Act}
use Rattle.sem_msg.specs.declared.event.Act.TheVariants.{Call as Calls, Fetch, Handle, Upcall, Resume, Flush, Kill}
use Rattle.sem_msg.specs.declared.message.Message.{Message}
use Rattle.sem_msg.specs.declared.message.Message.TheVariants.{ObtainOk, Ack}
use Rattle.sem_msg.specs.declared.message.Target.TheVariants.{Serv as ServTarget, Offer as OfferTarget}
use Rattle.sem_msg.specs.declared.setup.Service.{Service}
use Rattle.sem_msg.specs.declared.state.Ask.{Ask}
use Rattle.sem_msg.specs.declared.state.Ask.TheVariants.{Obtain as ObtainAsk, Delegate as DelegateAsk}
use Rattle.sem_msg.specs.declared.state.Parked.{Parked}
use Rattle.sem_msg.specs.declared.state.Parked.TheVariants.{ObtainWait, ObtainReady, ObtainCancelled, DelegateWait, DelegateReady, RevokeWait, Ready}
use Rattle.sem_msg.specs.Setup.{Setup, IsSetup}
use Rattle.sem_msg.specs.Lookups.{kernel_of, denies, owner_of, place_owner, service_named}
use Rattle.sem_msg.specs.declared.code.Code.TheVariants.{NoCap, NoService, BadKind}
use Rattle.sem_machine.specs.Sides.{Side, no_side, row, cap, own, endpoint, parked, call_counted, ask_taken, unparked, drawn, installed, linked, send}
use Rattle.sem_machine.specs.Steps.{Step, unshown, answer, cutting}
use Rattle.sem_machine.specs.Asks.{asker, is_unawaited, is_obtain_wait, ask_refused}
use Rattle.sem_msg.specs.Uses.{memory_tests, send_tests, credit_tests}
use Rattle.sem_machine.specs.Calls.{own_tests, next_key, child_made, narrowed, destination_tests, derive_tests, gate_tests, ask_made, obtain_tests, open_tests}
use Rattle.sem_machine.specs.Calls.{offer_tests, delegate_tests, bind_tests, call_row}
use Rattle.sem_machine.specs.Upcalls.{source, source_tests, parent_tests, given, given_kind, given_here, delegate_here, delegate_prepared, child_given}
use Rattle.sem_machine.specs.Upcalls.{consented, ask_decided, upcall_row}
use Rattle.sem_machine.specs.Resumes.{delegate_granted, delegate_resumed, resumed, resume_row}
use Rattle.sem_machine.specs.Revokes.{revoke_begun, clear_begun}
use Rattle.sem_machine.specs.Machine.{World, side, start, with_side, next_call, local_step, input_of, after}
use Rattle.sem_machine.specs.Schedules.{IsSchedule, world_after}
use Rattle.sem_machine.specs.Journals.{grants, forest}
use Rattle.sem_machine.specs.Living.{IsLive}
use Rattle.sem_key.proofs.KeyTests.{key_eq-same}
use Rattle.sem_key.proofs.Members.{Contains-head}
use Rattle.sem_key.proofs.Puts.{get_or-put_same}
use Rattle.sem_safety.proofs.CarryingWorlds.{among-grants, stepped}
use Rattle.sem_safety.proofs.GoingOn.{entry-enabled, run-prefix, run-append, moved-sides}
use Rattle.sem_machine.proofs.Folds.{option-keeps}
use Rattle.sem_machine.proofs.FirstCodes.{unless-keeps}
use Rattle.sem_safety.proofs.HeldOnce.{weigh-at}
use Rattle.sem_safety.proofs.Lives.{all_held, at_key, at_cap, at_side, at_message, lives-send}
use Rattle.sem_safety.proofs.LiveWorlds.{at_world}
use Rattle.sem_revoke.proofs.Alive.{weighs-live}
use Rattle.sem_revoke.proofs.Worlds.{weighs-alive}
use Rattle.sem_revoke.proofs.Events.{Par, Made}
use Rattle.sem_revoke.proofs.Readying.{schedule-fit, schedule-homes}
use Rattle.sem_revoke.proofs.Forests.{granted-at, held-not-lost}
use Rattle.sem_revoke.proofs.Revoking.{shown}

-- what a step grants is alive at its side
abbrev pub Born : Step → Type 0
Born x = (p k : KeyName) → ◌≡◌ {A = Option (KeyName × KeyName)} x.outcome.grant (Some (p, k)) → 1 ≤ at_side k all_held x.side

own-weight : (k : KeyName) → at_key k k ≡ 1
own-weight k = cond-true (key_eq k k) 1 0 (key_eq-same k)

-- what is installed is held
installed-weighs : (k : KeyName) (parent : Option KeyName) (sel : ℕ) (object : Object) (s : Side) →
    1 ≤ sum_by (at_cap k all_held) (installed k parent sel object s).caps
installed-weighs k parent sel object s =
    let c : Capability = fresh k parent sel object in
    let joined = sum_by-append (at_cap k all_held) (filter (λ x. key_lt x.key c.key) s.caps) (c ∷ filter (λ x. not (key_lt x.key c.key)) s.caps) in
    let first = sum_by-cons (at_cap k all_held) c (filter (λ x. not (key_lt x.key c.key)) s.caps) in
    let one = own-weight k in
    omega (arith, joined, first, one)

-- so is the child of a step, where its side holds it
born-of : (p0 k0 p k : KeyName) (t : Side) → 1 ≤ at_side k0 all_held t → ◌≡◌ {A = Option (KeyName × KeyName)} (Some (p0, k0)) (Some (p, k)) →
    1 ≤ at_side k all_held t
born-of p0 k0 p k t here some = subst (λ z. 1 ≤ at_side z all_held t) (ap (λ (g : KeyName × KeyName). g.1) (same_Some (p0, k0) (p, k) some)) here

by-caps : (k : KeyName) (t : Side) → 1 ≤ sum_by (at_cap k all_held) t.caps → 1 ≤ at_side k all_held t
by-caps k t weighs = omega (arith, weighs)

made-born : (T : Setup) (v dst : ℕ) (object : Object) (parent : KeyName) (s : Side) → Born (child_made T v dst object parent s)
made-born T v dst object parent s p k some =
    let k0 : KeyName = next_key T s v (object_kind object) in
    let t : Side = (child_made T v dst object parent s).side in
    born-of parent k0 p k t (by-caps k0 t (installed-weighs k0 (Some parent) dst object (linked parent k0 (drawn v s)))) some

call-born : (T : Setup) (i : ℕ) (s : Side) (v : ℕ) (c : Call) → Born (call_row T i s v c)
unfolding call_row
call-born T i s v (Derive src dst off len rights) = unless-keeps Born (derive_tests s v src dst off len rights) _ _ (λ code p k some. absurd cc)
    (option-keeps Born (λ (c : Capability). child_made T v dst (narrowed off len rights c.object) c.key s) (own s v src) (answer NoCap s)
    (λ c held. made-born T v dst (narrowed off len rights c.object) c.key s) (λ p k some. absurd cc))
call-born T i s v (Gate src dst label credits) = unless-keeps Born (gate_tests s v src dst credits) _ _ (λ code p k some. absurd cc)
    (option-keeps Born (λ (c : Capability). child_made T v dst (SendObject c.key label credits) c.key s) (own s v src) (answer NoCap s)
    (λ c held. made-born T v dst (SendObject c.key label credits) c.key s) (λ p k some. absurd cc))
call-born T i s v (Obtain dst w src) = unless-keeps Born (obtain_tests T i s v dst w) _ _ (λ code p k some. absurd cc) (λ p k some. absurd cc)
call-born T i s v (Delegate src w dst) = unless-keeps Born (delegate_tests T i s v src w) _ _ (λ code p k some. absurd cc)
    (option-keeps Born _ (own s v src) (answer NoCap s) (λ c held p k some. absurd cc) (λ p k some. absurd cc))
call-born T i s v (OpenSession dst name) = unless-keeps Born (open_tests T i s v dst name) _ _ (λ code p k some. absurd cc)
    (option-keeps Born (λ (x : Service). ask_made T i v dst (ServTarget x.key) s) (service_named T name) (answer NoService s) (λ x there p k some. absurd cc)
    (λ p k some. absurd cc))
call-born T i s v (AskOffer dst session index) = unless-keeps Born (offer_tests T i s v dst session) _ _ (λ code p k some. absurd cc)
    (option-keeps Born (λ (q : KeyName). ask_made T i v dst (OfferTarget q index) s) _ (answer BadKind s) (λ q there p k some. absurd cc)
    (λ p k some. absurd cc))
call-born T i s v (Revoke src) = option-keeps Born (λ (c : Capability). cutting c.key (unshown (revoke_begun T i v c.key c.mark s))) (own s v src)
    (answer NoCap s) (λ c held p k some. absurd cc) (λ p k some. absurd cc)
call-born T i s v (Bind ep src) = unless-keeps Born (bind_tests s v src) _ _ (λ code p k some. absurd cc)
    (option-keeps Born _ (own s v src) (answer NoCap s) (λ c held p k some. absurd cc) (λ p k some. absurd cc))
call-born T i s v (Read ep off len) = unless-keeps Born (memory_tests 1 off len (endpoint s v ep)) _ _ (λ code p k some. absurd cc) (λ p k some. absurd cc)
call-born T i s v (Write ep off len) = unless-keeps Born (memory_tests 2 off len (endpoint s v ep)) _ _ (λ code p k some. absurd cc) (λ p k some. absurd cc)
call-born T i s v (SendCall ep len) = unless-keeps Born (send_tests (endpoint s v ep)) _ _ (λ code p k some. absurd cc) (λ p k some. absurd cc)
call-born T i s v (Credit ep) = unless-keeps Born (credit_tests (endpoint s v ep)) _ _ (λ code p k some. absurd cc) (λ p k some. absurd cc)
call-born T i s v Exit = λ p k some. absurd cc
call-born T i s v (Clear src) = unless-keeps Born (own_tests (own s v src)) _ _ (λ code p k some. absurd cc)
    (option-keeps Born (λ (c : Capability). cutting c.key (unshown (clear_begun T i v c.key s))) (own s v src) (answer NoCap s) (λ c held p k some. absurd cc)
    (λ p k some. absurd cc))

-- a call that waits gets what it waits for
given-weighs : (k p : KeyName) (object : Object) (number : ℕ) (state : Option Parked) (s : Side) → is_obtain_wait number state ≡ true →
    1 ≤ sum_by (at_cap k all_held) (given_here k p object state s).caps
given-weighs k p object number None s waits = absurd cc
given-weighs k p object number (Some (ObtainWait n sel)) s waits = installed-weighs k (Some p) sel object s
given-weighs k p object number (Some (ObtainReady key parent object' sel)) s waits = absurd cc
given-weighs k p object number (Some ObtainCancelled) s waits = absurd cc
given-weighs k p object number (Some (DelegateWait parent)) s waits = absurd cc
given-weighs k p object number (Some (DelegateReady parent key)) s waits = absurd cc
given-weighs k p object number (Some (RevokeWait j)) s waits = absurd cc
given-weighs k p object number (Some (Ready code)) s waits = absurd cc

sent-weighs : (k : KeyName) (j : ℕ) (m : Message) (s : Side) → at_message k m ≡ 1 → 1 ≤ at_side k all_held (send j m s)
sent-weighs k j m s one = let sum = lives-send k all_held s j m in omega (arith, sum, one)

second-true : (a b : Bool) → (a && not b) ≡ false → a ≡ true → b ≡ true
second-true true true no' is = refl
second-true true false no' is = absurd cc
second-true false b no' is = absurd cc

child-born : (T : Setup) (i : ℕ) (place : PlaceName) (target : Target) (u : Side) (c : Capability) → is_unawaited T i u (ObtainAsk place target) ≡ false →
    Born (child_given T i place target u c)
child-born T i place target u c awaited p k some =
    let k0 : KeyName = keyed place (given_kind target c) in
    let object : Object = given target place.vpe c in
    let linking : Side = linked c.key k0 u in
    let here : Side = given_here k0 c.key object (parked linking place.vpe) linking in
    let away : Side = send (place_owner T place) (ObtainOk c.key k0 object) linking in
    born-of c.key k0 p k (child_given T i place target u c).side
    (cond_both (kernel_of T place.vpe == i) here away (λ (t : Side). 1 ≤ at_side k0 all_held t)
    (λ local. by-caps k0 here (given-weighs k0 c.key object place.number (parked linking place.vpe) linking
    (second-true (kernel_of T place.vpe == i) (is_obtain_wait place.number (parked u place.vpe)) awaited local)))
    (λ _. sent-weighs k0 (place_owner T place) (ObtainOk c.key k0 object) linking (own-weight k0)))
    some

here-born : (T : Setup) (v : ℕ) (parent : KeyName) (object : Object) (sel : ℕ) (s : Side) → Born (delegate_here T v parent object sel s)
here-born T v parent object sel s p k some =
    let k0 : KeyName = next_key T s v parent.kind in
    let t : Side = (delegate_here T v parent object sel s).side in
    born-of parent k0 p k t (by-caps k0 t (installed-weighs k0 (Some parent) sel object (linked parent k0 (drawn v s)))) some

upcall-born : (T : Setup) (i : ℕ) (s : Side) (v : ℕ) → Born (upcall_row T i s v)
unfolding upcall_row
upcall-born T i s v = option-keeps Born (λ a. ask_decided T i v a (ask_taken v s)) (slice_get (row s v).asks 0) (unshown s)
    (λ a there. cond_both (is_unawaited T i (ask_taken v s) a) _ _ Born (λ _ p k some. absurd cc)
    (λ awaited. cond_both (denies T v (asker a)) _ _ Born (λ _ p k some. absurd cc) (λ _. consent a (ask_taken v s) awaited))) (λ p k some. absurd cc)
  where
    consent : (a : Ask) (u : Side) → is_unawaited T i u a ≡ false → Born (consented T i v a u)
    consent (ObtainAsk place target) u awaited = unless-keeps Born (source_tests target (source T u v target)) _ _ (λ code p k some. absurd cc)
        (option-keeps Born (child_given T i place target u) (source T u v target) (unshown u) (λ c there. child-born T i place target u c awaited)
        (λ p k some. absurd cc))
    consent (DelegateAsk parent object sel) u awaited = cond_both (kernel_of T parent.vpe == i) _ _ Born
        (λ _. unless-keeps Born (parent_tests (cap u parent) ++ destination_tests u v sel)
        (λ code. unshown (ask_refused T i code (DelegateAsk parent object sel) u)) (delegate_here T v parent object sel u) (λ code p k some. absurd cc)
        (here-born T v parent object sel u))
        (λ _. unless-keeps Born (destination_tests u v sel) (λ code. unshown (ask_refused T i code (DelegateAsk parent object sel) u))
        (delegate_prepared T v parent object sel u) (λ code p k some. absurd cc) (λ p k some. absurd cc))

resume-born : (T : Setup) (s : Side) (v : ℕ) → Born (resume_row T s v)
unfolding resume_row
resume-born T s v = by (parked s v)
  where
    granted : (parent key : KeyName) (m : Option ℕ) → Born (delegate_granted T parent key m (unparked v s))
    granted parent key None = λ p k some. born-of parent key p k (delegate_granted T parent key None (unparked v s)).side
        (sent-weighs key (owner_of T key) (Ack key true) (linked parent key (unparked v s)) (own-weight key)) some
    granted parent key (Some j) = λ p k some. absurd cc

    answered : (parent key : KeyName) (o : Option Capability) → Born (delegate_resumed T parent key o (unparked v s))
    answered parent key None = λ p k some. absurd cc
    answered parent key (Some c) = granted parent key c.mark

    by : (q : Option Parked) → Born (resumed T q (unparked v s))
    by None = λ p k some. absurd cc
    by (Some (ObtainWait number sel)) = λ p k some. absurd cc
    by (Some (ObtainReady key parent object sel)) = λ p k some. absurd cc
    by (Some ObtainCancelled) = λ p k some. absurd cc
    by (Some (DelegateWait parent)) = λ p k some. absurd cc
    by (Some (DelegateReady parent key)) = answered parent key (cap (unparked v s) parent)
    by (Some (RevokeWait j)) = λ p k some. absurd cc
    by (Some (Ready code)) = λ p k some. absurd cc

act-born : (T : Setup) (i : ℕ) (s : Side) (a : Act) (input : Option Message) → Born (local_step T i s a input)
unfolding local_step
act-born T i s (Calls v) input = option-keeps Born (call_row T i (call_counted v s) v) (next_call T s v) (unshown s)
    (λ c there. call-born T i (call_counted v s) v c) (λ p k some. absurd cc)
act-born T i s (Fetch j) input = λ p k some. absurd cc
act-born T i s Handle input = λ p k some. absurd cc
act-born T i s (Upcall v) input = upcall-born T i s v
act-born T i s (Resume v) input = resume-born T s v
act-born T i s (Flush j) input = λ p k some. absurd cc
act-born T i s (Kill v) input = λ p k some. absurd cc

module _ (T : Setup) (valid : IsSetup T) (J : List Entry) (runs : IsSchedule T J) where
  -- a world after an entry has the side of its step
  stepped-weighs : (W : World) (e : Entry) (k : KeyName) → at_side k all_held (stepped T W e.event).side ≤ at_world k all_held (after T W e.event)
  unfolding after
  stepped-weighs W e k =
      let i : ℕ = e.event.kernel in
      let x : Step = stepped T W e.event in
      let V : World = with_side i x.side W in
      let sides : (after T W e.event).sides ≡ V.sides = moved-sides i (side W i) e.event.act V in
      let at : side V i ≡ x.side = get_or-put_same no_side W.sides i x.side in
      let one = weigh-at (at_side k all_held) no_side refl V.sides i in
      let here : at_side k all_held (get_or V.sides i no_side) ≡ at_side k all_held x.side = ap (at_side k all_held) at in
      let same : sum_by (at_side k all_held) (after T W e.event).sides ≡ sum_by (at_side k all_held) V.sides = ap (sum_by (at_side k all_held)) sides in
      omega (arith, one, here, same)

  -- what an entry grants is alive after it
  pub born-alive : (before later : List Entry) (e : Entry) (p k : KeyName) → J ≡ before ++ e ∷ later → e.grant ≡ Some (p, k) →
      1 ≤ at_world k all_held (world_after T (before ++ e ∷ []))
  born-alive before later e p k parts granted =
      let W : World = world_after T before in
      let at = entry-enabled T before (start T) e later (subst (IsSchedule T) parts runs) in
      let born = act-born T e.event.kernel (side W e.event.kernel) e.event.act (input_of W e.event.kernel e.event.act) p k (sym (shown T W e at.2) ∙ granted) in
      let world = stepped-weighs W e k in
      let same : at_world k all_held (after T W e.event) ≡ at_world k all_held (world_after T (before ++ e ∷ [])) =
      ap (at_world k all_held) (sym (run-append T before (e ∷ []) (start T))) in
      omega (arith, born, world, same)

  pub born-live : (before later : List Entry) (e : Entry) (p k : KeyName) → J ≡ before ++ e ∷ later → e.grant ≡ Some (p, k) →
      IsLive (world_after T (before ++ e ∷ [])) k
  born-live before later e p k parts granted = weighs-live k (world_after T (before ++ e ∷ [])) (born-alive before later e p k parts granted)

  -- granted within a kernel, and in the forest: held
  pub near-not-lost : (before later : List Entry) (e : Entry) (p k : KeyName) → J ≡ before ++ e ∷ later → e.grant ≡ Some (p, k) → owner_of T p ≡ owner_of T k →
      Contains (forest T J) k → IsLive (world_after T J) k
  near-not-lost before later e p k parts granted near in_forest =
      let K : List Entry = before ++ e ∷ [] in
      let prefix : IsSchedule T K = run-prefix T before later e (start T) (subst (IsSchedule T) parts runs) in
      let fit = schedule-fit T valid K prefix in
      let among : Contains (grants K) (p, k) = among-grants K e (p, k) (Contains-append_right before (e ∷ []) e (Contains-head e [])) granted in
      let alive = weighs-alive T (world_after T K) k (Par (grants K)) (Made T (grants K)) (λ i c held. schedule-homes T valid K prefix i k c held)
      (born-alive before later e p k parts granted) in
      elim alive [
        | inl held ↦ inl (
          owner_of T k,
          held-not-lost T valid J runs K later (parts
              ∙ sym (append_assoc before (e ∷ []) later)) (owner_of T k) k held.0 held.1 in_forest,
        )
        | inr more ↦ let none = fit.near p k among near in absurd (omega (arith, none, more))
      ]

  pub near-lasts : (p k : KeyName) → Contains (grants J) (p, k) → owner_of T p ≡ owner_of T k → Contains (forest T J) k → IsLive (world_after T J) k
  near-lasts p k granted near in_forest = let at = granted-at (λ (e : Entry). e.grant) J (p, k) granted in
      near-not-lost at.0 at.2 at.1 p k at.3 at.4 near in_forest
