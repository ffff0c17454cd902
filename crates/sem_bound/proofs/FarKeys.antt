-- What is held with a parent of another kernel is not near: the places in which a near key is live with such a
-- parent, or from which it could be installed with one, are none.
use Rattle.std.proofs.Common.{◌≡◌, ◌≢◌, ℕ, ◌<◌, ◌≤◌, ◌++◌, Bool, true, false, not, List, [], ◌∷◌, Option, Some, None}
use Rattle.std.proofs.Common.{slice_get, refl, sym, ◌∙◌, ap, subst, inl, inr, arith, eq-eqb, append-nil, append_assoc}
use Rattle.std.specs.Prelude.{◌==◌, nat_lt}
use Rattle.std.specs.List.{Contains}
use Rattle.std.proofs.lemmas.Bool.{cases_Bool, cond_both, cond-true, cond-false, and_parts, ltb-true}
use Rattle.std.proofs.lemmas.Bool.{false_from_ne_true}
use Rattle.std.proofs.lemmas.Option.{same_Some}
use Rattle.std.proofs.lemmas.List.Elements.{Contains-append_left, Contains-append_right, filter_map-append}
use Rattle.sem_key.specs.declared.object.Object.{Object}
use Rattle.sem_key.specs.ObjectRanges.{object_kind}
use Rattle.sem_key.specs.KeyName.{KeyName, key_eq}
use Rattle.sem_key.specs.PlaceName.{PlaceName, keyed}
use Rattle.sem_key.specs.Capability.{Capability}
use Rattle.sem_key.specs.CapList.{fresh}
use Rattle.sem_msg.specs.declared.message.Message.{Message}
use Rattle.sem_msg.specs.declared.message.Message.TheVariants.{ObtainOk}
use Rattle.sem_msg.specs.declared.message.Target.{Target}
use Rattle.sem_msg.specs.declared.call.Call.{Call}
use Rattle.sem_msg.specs.declared.event.Act.{Act}
use Rattle.sem_msg.specs.declared.event.Act.TheVariants.{Call as Calls, Fetch, Handle, Upcall, Resume, Flush, Kill}
use Rattle.sem_msg.specs.declared.event.Event.{Event}
use Rattle.sem_msg.specs.declared.entry.Entry.{Entry}
use Rattle.sem_msg.specs.declared.state.Ask.{Ask}
use Rattle.sem_msg.specs.declared.state.Parked.{Parked}
use Rattle.sem_msg.specs.declared.state.Parked.TheVariants.{ObtainWait, ObtainReady, ObtainCancelled, DelegateWait}
use Rattle.sem_msg.specs.declared.state.Parked.TheVariants.{DelegateReady, RevokeWait, Ready}
use Rattle.sem_msg.specs.declared.state.Slot.TheVariants.{Held}
use Rattle.sem_msg.specs.declared.code.Code.TheVariants.{Ok as OkCode}
use Rattle.sem_msg.specs.Codes.{code_number}
use Rattle.sem_msg.specs.Setup.{Setup, IsSetup}
use Rattle.sem_msg.specs.Lookups.{kernel_of, owner_of, place_owner}
use Rattle.sem_machine.specs.Sides.{Side, no_side, row, cap, parked, call_counted, drawn, linked, installed}
use Rattle.sem_machine.specs.Sides.{cap_added, unparked, ask_taken, send}
use Rattle.sem_machine.specs.Steps.{Step, unshown}
use Rattle.sem_machine.specs.Calls.{next_key, call_row}
use Rattle.sem_machine.specs.Upcalls.{given, given_kind, given_here, child_given, ask_decided, upcall_row}
use Rattle.sem_machine.specs.Resumes.{delegate_granted, delegate_resumed, resumed, resume_row}
use Rattle.sem_machine.specs.Machine.{World, side, start, next_call, local_step, local_entry, input_of, entry_of}
use Rattle.sem_machine.specs.Machine.{after, event, is_enabled}
use Rattle.sem_machine.specs.Schedules.{IsSchedule, world_after}
use Rattle.sem_machine.specs.Journals.{grants, root_keys}
use Rattle.sem_key.proofs.KeyTests.{key_eq-same, key_eq-true}
use Rattle.sem_key.proofs.Members.{Contains-head, found}
use Rattle.sem_machine.proofs.Folds.{option-keeps}
use Rattle.sem_machine.proofs.Weighing.{weigh-among, weigh-none}
use Rattle.sem_safety.proofs.CarryingWorlds.{stepped, among-grants}
use Rattle.sem_safety.proofs.GoingOn.{run-append, entry-enabled}
use Rattle.sem_safety.proofs.KeptRevokes.{ready-in}
use Rattle.sem_safety.proofs.Layers.{IsKept}
use Rattle.sem_safety.proofs.Lives.{at_key, at_cap, at_side, at_grant, OtherKeys, lives, lives-added}
use Rattle.sem_safety.proofs.LiveWorlds.{at_world, at_root, world-side, after-lives, start-lives}
use Rattle.sem_safety.proofs.Parents.{local_step-below}
use Rattle.sem_safety.proofs.Skeleton.{CallLeaves, ConsentLeaves, call_row-by, decided-by}
use Rattle.sem_bound.proofs.Homes.{IsAddressed, IsAtHome, held-home}
use Rattle.sem_bound.proofs.Layering.{IsFarTold}
use Rattle.sem_bound.proofs.Nearby.{near, near-grant}

module _ (T : Setup) (k0 : KeyName) where
  -- a parent of another kernel than the key
  abbrev pub is_far : Option KeyName → Bool
  is_far None = false
  is_far (Some p) = not (owner_of T p == owner_of T k0)

  abbrev Few : ℕ → Side → Type 0
  Few m s = at_side k0 is_far s ≤ m

  abbrev L : (m : ℕ) → IsKept (OtherKeys k0) (Few m)
  L m = lives k0 is_far m

  -- what is installed with a parent of the kernel
  installed-few : (m : ℕ) (s : Side) → Few m s → (k p : KeyName) (sel : ℕ) (object : Object) →
      owner_of T p ≡ owner_of T k0 → Few m (installed k (Some p) sel object s)
  installed-few m s is k p sel object same =
      let c : Capability = fresh k (Some p) sel object in
      let added = lives-added k0 is_far s c in
      let none : at_cap k0 is_far c ≡ 0 =
      cond-false (is_far (Some p)) (at_key k0 k) 0 (ap not (eq-eqb (owner_of T p) (owner_of T k0) same)) in
      (L m).keeps_slot (cap_added c s) (omega (arith, added, is, none)) k.vpe sel (Held k) refl

  given_here-few : (m : ℕ) (k p : KeyName) (object : Object) → owner_of T p ≡ owner_of T k0 →
      (state : Option Parked) (s : Side) → Few m s → Few m (given_here k p object state s)
  given_here-few m k p object same (Some (ObtainWait number sel)) s is =
      ready-in (OtherKeys k0) (Few m) (L m) (installed k (Some p) sel object s)
      (installed-few m s is k p sel object same) (code_number OkCode) k.vpe
  given_here-few m k p object same None s is = is
  given_here-few m k p object same (Some (ObtainReady key parent object' sel)) s is = is
  given_here-few m k p object same (Some ObtainCancelled) s is = is
  given_here-few m k p object same (Some (DelegateWait parent)) s is = is
  given_here-few m k p object same (Some (DelegateReady parent key)) s is = is
  given_here-few m k p object same (Some (RevokeWait j)) s is = is
  given_here-few m k p object same (Some (Ready code)) s is = is

  -- A step of the kernel of the key that grants it below a key of that kernel.
  module _ (i : ℕ) (own' : owner_of T k0 ≡ i) (m : ℕ) where
    abbrev Grants : Step → Type 0
    Grants x = (q : KeyName) → x.outcome.grant ≡ Some (q, k0) → owner_of T q ≡ owner_of T k0 → Few m x.side

    -- the parent and the child of the grant
    abbrev IsGrant : KeyName → KeyName → KeyName → Type 0
    IsGrant p k q = ◌≡◌ {A = Option (KeyName × KeyName)} (Some (p, k)) (Some (q, k0))

    parent-same : (p k q : KeyName) → IsGrant p k q → owner_of T q ≡ owner_of T k0 → owner_of T p ≡ owner_of T k0
    parent-same p k q some same = ap (λ (g : KeyName × KeyName). owner_of T g.0) (same_Some (p, k) (q, k0) some)
        ∙ same

    child-own : (p k q : KeyName) → IsGrant p k q → owner_of T k ≡ i
    child-own p k q some = ap (λ (g : KeyName × KeyName). owner_of T g.1) (same_Some (p, k) (q, k0) some) ∙ own'

    call_row-grants : (v : ℕ) (c : Call) (s : Side) → Few m s → Grants (call_row T i s v c)
    call_row-grants v c s is = call_row-by Grants T i v s leaves c
      where
        leaves : CallLeaves Grants T i v s
        leaves = record {
          answered = λ code q some same. absurd cc;
          child = λ src dst object p held q some same.
              let k : KeyName = next_key T s v (object_kind object) in
              installed-few m (linked p.key k (drawn v s))
              ((L m).keeps_linked (drawn v s) ((L m).keeps_drawn s is v) p.key k tt) k p.key dst object
              (parent-same p.key k q some same);
          ask = λ dst target q some same. absurd cc;
          offer = λ src w dst p held q some same. absurd cc;
          revoke = λ src c held q some same. absurd cc;
          clear = λ src c held unmarked q some same. absurd cc;
          bound = λ ep src c held q some same. absurd cc;
          rung = λ ep f q some same. absurd cc;
          ends = λ q some same. absurd cc;
        }

    child_given-grants : (place : PlaceName) (target : Target) (s : Side) (p : Capability) →
        place_owner T place ≡ kernel_of T place.vpe → Few m s → Grants (child_given T i place target s p)
    child_given-grants place target s p addressed is q some same =
        let k : KeyName = keyed place (given_kind target p) in
        let object : Object = given target place.vpe p in
        let linking : Side = linked p.key k s in
        let kept : Few m linking = (L m).keeps_linked s is p.key k tt in
        cond_both (kernel_of T place.vpe == i) (given_here k p.key object (parked linking place.vpe) linking)
        (send (place_owner T place) (ObtainOk p.key k object) linking) (Few m)
        (λ _. given_here-few m k p.key object (parent-same p.key k q some same)
        (parked linking place.vpe) linking kept)
        (λ remote.
        let here : (kernel_of T place.vpe == i) ≡ true =
        eq-eqb (kernel_of T place.vpe) i (sym addressed ∙ child-own p.key k q some) in
        absurd (cc (here, remote)))

    upcall-grants : (v : ℕ) (a : Ask) (s : Side) → IsAddressed T a → Few m s → Grants (ask_decided T i v a s)
    upcall-grants v a s addressed is =
        decided-by Grants (λ asker x here. here) (λ asker x here. here) (λ asker x here. here) T i v a s leaves
      where
        leaves : ConsentLeaves Grants T i v a s
        leaves = record {
          nothing = λ q some same. absurd cc;
          refused = λ code q some same. absurd cc;
          given = λ place target p at. child_given-grants place target s p (subst (IsAddressed T) at addressed) is;
          here = λ parent object sel at q some same.
              let k : KeyName = next_key T s v parent.kind in
              let linking : Side = linked parent k (drawn v s) in
              ready-in (OtherKeys k0) (Few m) (L m) (installed k (Some parent) sel object linking)
              (installed-few m linking
              ((L m).keeps_linked (drawn v s) ((L m).keeps_drawn s is v) parent k tt) k parent sel object
              (parent-same parent k q some same)) (code_number OkCode) parent.vpe;
          prepared = λ parent object sel at q some same. absurd cc;
        }

    -- what is granted to another kernel is no key of this one
    resumed-grants : (o : Option Parked) (s : Side) →
        ((parent key : KeyName) → o ≡ Some (DelegateReady parent key) → owner_of T key ≢ i) → Grants (resumed T o s)
    resumed-grants (Some (DelegateReady parent key)) s away q some same = from (cap s parent) q some same
      where
        by_mark : (mark : Option ℕ) → Grants (delegate_granted T parent key mark s)
        by_mark None q some same = absurd (away parent key refl (child-own parent key q some))
        by_mark (Some j) q some same = absurd cc

        from : (o : Option Capability) → Grants (delegate_resumed T parent key o s)
        from None q some same = absurd cc
        from (Some c) q some same = by_mark c.mark q some same
    resumed-grants None s away q some same = absurd cc
    resumed-grants (Some (ObtainWait number sel)) s away q some same = absurd cc
    resumed-grants (Some (ObtainReady key parent object sel)) s away q some same = absurd cc
    resumed-grants (Some ObtainCancelled) s away q some same = absurd cc
    resumed-grants (Some (DelegateWait parent)) s away q some same = absurd cc
    resumed-grants (Some (RevokeWait j)) s away q some same = absurd cc
    resumed-grants (Some (Ready code)) s away q some same = absurd cc

    step-grants : (s : Side) (a : Act) (input : Option Message) → IsAtHome T i s → Few m s →
        Grants (local_step T i s a input)
    unfolding local_step upcall_row resume_row
    step-grants s (Calls v) input home is =
        option-keeps Grants (call_row T i (call_counted v s) v) (next_call T s v) (unshown s)
        (λ c there. call_row-grants v c (call_counted v s) is) (λ q some same. absurd cc)
    step-grants s (Upcall v) input home is =
        option-keeps Grants (λ (a : Ask). ask_decided T i v a (ask_taken v s)) (slice_get (row s v).asks 0) (unshown s)
        (λ a there. upcall-grants v a (ask_taken v s) (home.asks v a there) is) (λ q some same. absurd cc)
    step-grants s (Resume v) input home is =
        resumed-grants (parked s v) (unparked v s) (λ parent key at. (home.offers v parent key at).1)
    step-grants s (Fetch j) input home is = λ q some same. absurd cc
    step-grants s (Flush j) input home is = λ q some same. absurd cc
    step-grants s Handle input home is = λ q some same. absurd cc
    step-grants s (Kill v) input home is = λ q some same. absurd cc

  -- Worlds.

  -- what a step grants is a key of the step's kernel, if its parent is one of the key's kernel
  parent-own : (W : World) (i : ℕ) (a : Act) (q : KeyName) → IsAtHome T i (side W i) →
      (stepped T W (event i a)).outcome.grant ≡ Some (q, k0) → owner_of T q ≡ i
  parent-own W i a q home some =
      let held = local_step-below T i (side W i) a (input_of W i a) q k0 some in
      let c : Capability = held.0 in
      ap (owner_of T) (sym
      (key_eq-true c.key q (found (λ (x : Capability). key_eq x.key q) (side W i).caps c held.1).1))
      ∙ (held-home T i (side W i) home.held q c held.1).0

  -- the world after such a step
  granted-few : (W : World) (i : ℕ) (a : Act) (q : KeyName) → IsAtHome T i (side W i) →
      (stepped T W (event i a)).outcome.grant ≡ Some (q, k0) → owner_of T q ≡ owner_of T k0 →
      at_world k0 is_far (after T W (event i a)) ≤ at_world k0 is_far W
  unfolding after local_step
  granted-few W i (Calls v) q home some same =
      let few = step-grants i (sym same ∙ parent-own W i (Calls v) q home some) (at_side k0 is_far (side W i))
      (side W i) (Calls v) None home (omega arith) q some same in
      let new = world-side k0 is_far W i (local_step T i (side W i) (Calls v) None).side in
      omega (arith, few, new)
  granted-few W i (Upcall v) q home some same =
      let few = step-grants i (sym same ∙ parent-own W i (Upcall v) q home some) (at_side k0 is_far (side W i))
      (side W i) (Upcall v) None home (omega arith) q some same in
      let new = world-side k0 is_far W i (local_step T i (side W i) (Upcall v) None).side in
      omega (arith, few, new)
  granted-few W i (Resume v) q home some same =
      let few = step-grants i (sym same ∙ parent-own W i (Resume v) q home some) (at_side k0 is_far (side W i))
      (side W i) (Resume v) None home (omega arith) q some same in
      let new = world-side k0 is_far W i (local_step T i (side W i) (Resume v) None).side in
      omega (arith, few, new)
  granted-few W i (Kill v) q home some same = absurd cc
  granted-few W i Handle q home some same = absurd cc
  granted-few W i (Fetch j) q home some same = absurd cc
  granted-few W i (Flush j) q home some same = absurd cc

  -- and after any step that does not grant the key below one of another kernel
  event-few : (W : World) (i : ℕ) (a : Act) → IsAtHome T i (side W i) →
      ((q : KeyName) → (stepped T W (event i a)).outcome.grant ≡ Some (q, k0) → owner_of T q ≡ owner_of T k0) →
      at_world k0 is_far (after T W (event i a)) ≤ at_world k0 is_far W
  event-few W i a home below = from (stepped T W (event i a)).outcome.grant refl
    where
      lives-on : (o : Option (KeyName × KeyName)) → (stepped T W (event i a)).outcome.grant ≡ o → at_grant k0 o ≡ 0 →
          at_world k0 is_far (after T W (event i a)) ≤ at_world k0 is_far W
      lives-on o is none =
          let next = after-lives k0 is_far T W i a in
          let grant = ap (at_grant k0) is in
          omega (arith, next, grant, none)

      from : (o : Option (KeyName × KeyName)) → (stepped T W (event i a)).outcome.grant ≡ o →
          at_world k0 is_far (after T W (event i a)) ≤ at_world k0 is_far W
      from None is = lives-on None is refl
      from (Some (q, k)) is = elim (cases_Bool (key_eq k k0)) [
        | inl same ↦ let some = is ∙ ap (λ r. Some (q, r)) (key_eq-true k k0 same) in
            granted-few W i a q home some (below q some)
        | inr other ↦ lives-on (Some (q, k)) is (cond-false (key_eq k k0) 1 0 other)
      ]

  -- A schedule in which the key is granted below keys of its kernel alone.
  module _ (J : List Entry) (homes : (before later : List Entry) → J ≡ before ++ later → (i : ℕ) → i < T.kernels →
      IsAtHome T i (side (world_after T before) i)) (below : (q : KeyName) → Contains (grants J) (q, k0) →
      owner_of T q ≡ owner_of T k0) where
    kernel-within : (W : World) (e : Event) → is_enabled T W e ≡ true → e.kernel < T.kernels
    unfolding is_enabled
    kernel-within W e enabled = ltb-true e.kernel T.kernels (and_parts (nat_lt e.kernel T.kernels) _ enabled).0

    shown : (W : World) (e : Entry) → e ≡ entry_of T W e.event → e.grant ≡ (stepped T W e.event).outcome.grant
    unfolding entry_of local_entry
    shown W e made' = ap (λ (x : Entry). x.grant) made'

    pub none-far : IsSchedule T J → at_world k0 is_far (world_after T J) ≡ 0
    none-far runs = from [] J refl (let first = start-lives k0 is_far T in
        let none = weigh-none (at_root k0 is_far) (root_keys T) (λ k root. refl) in omega (arith, first, none))
      where
        from : (before later : List Entry) → J ≡ before ++ later → at_world k0 is_far (world_after T before) ≡ 0 →
            at_world k0 is_far (world_after T J) ≡ 0
        from before [] parts is =
            subst (λ K. at_world k0 is_far (world_after T K) ≡ 0) (sym (parts ∙ append-nil before)) is
        from before (e ∷ es) parts is =
            let W : World = world_after T before in
            let at = entry-enabled T before (start T) e es (subst (IsSchedule T) parts runs) in
            let among : Contains J e =
            subst (λ K. Contains K e) (sym parts)
            (Contains-append_right before (e ∷ es) e (Contains-head e es)) in
            let next = event-few W e.event.kernel e.event.act
            (homes before (e ∷ es) parts e.event.kernel (kernel-within W e.event at.1))
            (λ q some. below q (among-grants J e (q, k0) among (shown W e at.2 ∙ some))) in
            let world : at_world k0 is_far (after T W e.event)
            ≡ at_world k0 is_far (world_after T (before ++ e ∷ [])) =
            ap (at_world k0 is_far) (sym (run-append T before (e ∷ []) (start T))) in
            from (before ++ e ∷ []) es (parts ∙ sym (append_assoc before (e ∷ []) es))
            (omega (arith, is, next, world))

-- What is held after a part of a schedule with a parent of another kernel is not near.
pub held-far : (T : Setup) → IsSetup T → (J : List Entry) → IsSchedule T J → (before later : List Entry) →
    J ≡ before ++ later → IsSchedule T before →
    ((K : List Entry) → IsSchedule T K → (i : ℕ) → i < T.kernels → IsAtHome T i (side (world_after T K) i)) →
    (i : ℕ) → i < T.kernels → IsFarTold T (near T J) i (side (world_after T before) i)
held-far T valid J runs before later parts runs' homes i within =
    λ c among p parent remote. false_from_ne_true (near T J c.key) (λ is.
    let W : World = world_after T before in
    let k : KeyName = c.key in
    let own' : owner_of T k ≡ i = ((homes before runs' i within).held c among).0 in
    let apart : (owner_of T p == owner_of T k) ≡ false = ap (λ j. owner_of T p == j) own' ∙ remote in
    let far : is_far T k c.parent ≡ true = ap (is_far T k) parent ∙ ap not apart in
    let one : at_cap k (is_far T k) c ≡ 1 =
    cond-true (is_far T k c.parent) (at_key k k) 0 far ∙ cond-true (key_eq k k) 1 0 (key_eq-same k) in
    let none = none-far T k before (λ K later' parts' j few. homes K (earlier K later' parts') j few)
    (λ q granted. near-grant T valid J runs q k is (more q k granted)) runs' in
    let weighs = weigh-among (at_cap k (is_far T k)) (side W i).caps c among in
    let part = world-side k (is_far T k) W i no_side in
    omega (arith, none, one, weighs, part))
  where
    more : (q k : KeyName) → Contains (grants before) (q, k) → Contains (grants J) (q, k)
    more q k granted = subst
        (λ gs. Contains gs (q, k)) (sym (ap grants parts ∙ filter_map-append (λ (x : Entry). x.grant) before later))
        (Contains-append_left (grants before) (grants later) (q, k) granted)

    earlier : (K later' : List Entry) → before ≡ K ++ later' → IsSchedule T K
    earlier K [] parts' = subst (IsSchedule T) (parts' ∙ append-nil K) runs'
    earlier K (e ∷ es) parts' = (entry-enabled T K (start T) e es (subst (IsSchedule T) parts' runs')).0
