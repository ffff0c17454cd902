-- Upcalls, messages and parked calls that go on: each is paid by the ask, the message or the parked state that it
-- takes, with one for its entry.
use Rattle.std.proofs.Common.{◌≡◌, ℕ, ◌+◌, ◌≤◌, ◌++◌, Bool, true, false, Option, Some, None, is_none, refl, sym, ◌∙◌}
use Rattle.std.proofs.Common.{ap, arith}
use Rattle.std.specs.Prelude.{◌==◌}
use Rattle.std.proofs.lemmas.Bool.{cond_both, cond-true, cond-false, eqb-true}
use Rattle.sem_key.specs.declared.object.Object.{Object}
use Rattle.sem_key.specs.KeyName.{KeyName, key_eq}
use Rattle.sem_key.specs.PlaceName.{PlaceName, keyed}
use Rattle.sem_key.specs.Capability.{Capability}
use Rattle.sem_msg.specs.declared.message.Message.{Message}
use Rattle.sem_msg.specs.declared.message.Message.TheVariants.{ObtainReq, ObtainOk, ObtainNo, DelegateReq}
use Rattle.sem_msg.specs.declared.message.Message.TheVariants.{DelegatePrepared, DelegateNo, Ack, Orphan, RevokeReq}
use Rattle.sem_msg.specs.declared.message.Message.TheVariants.{RevokeDone, Unlink}
use Rattle.sem_msg.specs.declared.message.Target.{Target}
use Rattle.sem_msg.specs.declared.state.Ask.{Ask}
use Rattle.sem_msg.specs.declared.state.Ask.TheVariants.{Obtain as ObtainAsk, Delegate as DelegateAsk}
use Rattle.sem_msg.specs.declared.state.Parked.{Parked}
use Rattle.sem_msg.specs.declared.state.Parked.TheVariants.{ObtainWait, ObtainReady, ObtainCancelled, DelegateWait}
use Rattle.sem_msg.specs.declared.state.Parked.TheVariants.{DelegateReady, RevokeWait, Ready}
use Rattle.sem_msg.specs.declared.state.Pending.{Pending}
use Rattle.sem_msg.specs.declared.state.Slot.TheVariants.{Free, Promised}
use Rattle.sem_msg.specs.Setup.{Setup}
use Rattle.sem_msg.specs.Lookups.{kernel_of, owner_of, pe_owner, pe_of, place_owner, denies}
use Rattle.sem_msg.specs.Codes.{code_number}
use Rattle.sem_msg.specs.declared.code.Code.{Code}
use Rattle.sem_msg.specs.declared.code.Code.TheVariants.{Ok as OkCode, Dead, Refused}
use Rattle.sem_machine.specs.Sides.{Side, cap, parked, pending, is_alive, drawn, promised, ready, parked_as, asked}
use Rattle.sem_machine.specs.Sides.{linked, installed, pending_added, pending_removed, send}
use Rattle.sem_machine.specs.Steps.{Step, unshown}
use Rattle.sem_machine.specs.Asks.{target_vpe, asker, is_unawaited, ask_refused, call_refused}
use Rattle.sem_machine.specs.Calls.{destination_tests, next_key}
use Rattle.sem_machine.specs.Upcalls.{source, source_tests, given, given_kind, given_here, child_given}
use Rattle.sem_machine.specs.Upcalls.{obtain_consent, parent_tests, delegate_here, delegate_prepared}
use Rattle.sem_machine.specs.Upcalls.{delegate_consent, consented, ask_decided}
use Rattle.sem_machine.specs.Handles.{is_stray, obtain_ready, acknowledged, handle_row, handled}
use Rattle.sem_machine.specs.Resumes.{can_resume, delegate_granted, delegate_resumed, resumed}
use Rattle.sem_safety.specs.Observations.{AreDistinct}
use Rattle.sem_machine.proofs.Folds.{option-keeps}
use Rattle.sem_machine.proofs.FirstCodes.{unless-keeps, unless-passed}
use Rattle.sem_key.proofs.KeyTests.{key_eq-true}
use Rattle.sem_key.proofs.Members.{found}
use Rattle.sem_safety.proofs.JobIds.{IdsRise}
use Rattle.sem_bound.proofs.Weights.{besides, of_parked, of_far_ask, of_ask, of_key, of_side, key-most, ask-most}
use Rattle.sem_bound.proofs.Weights.{link-most, side-drawn, side-slot, side-parked, side-asked, side-send}
use Rattle.sem_bound.proofs.Weights.{side-linked, side-unlinked}
use Rattle.sem_bound.proofs.Layering.{IsNearGrant, IsCalm}
use Rattle.sem_bound.proofs.Beginning.{requested-costs, done-lighter}
use Rattle.sem_bound.proofs.Ending.{call_refused-costs, refusal-paid, ask_refused-costs}
use Rattle.sem_bound.proofs.Homes.{IsAddressed}
use Rattle.sem_bound.proofs.Calling.{Few, installed-costs, near-key, source-held}

module _ (T : Setup) (near : KeyName → Bool) (i : ℕ) where
  ready-costs : (code v : ℕ) (s : Side) → of_side T near i (ready code v s) ≤ of_side T near i s + 1
  ready-costs code v s = side-parked T near i s v (Ready code)

  -- Upcalls.
  given_here-costs : (k p : KeyName) (object : Object) (state : Option Parked) (s : Side) →
      of_side T near i (given_here k p object state s) ≤ of_side T near i s + (of_key T near i k + 1)
  given_here-costs k p object (Some (ObtainWait number sel)) s =
      let installs = installed-costs T near i s k (Some p) sel object in
      let readies = ready-costs (code_number OkCode) k.vpe (installed k (Some p) sel object s) in
      omega (arith, installs, readies)
  given_here-costs k p object None s = omega arith
  given_here-costs k p object (Some (ObtainReady key parent object' sel)) s = omega arith
  given_here-costs k p object (Some ObtainCancelled) s = omega arith
  given_here-costs k p object (Some (DelegateWait parent)) s = omega arith
  given_here-costs k p object (Some (DelegateReady parent key)) s = omega arith
  given_here-costs k p object (Some (RevokeWait j)) s = omega arith
  given_here-costs k p object (Some (Ready code)) s = omega arith

  module _ (s : Side) (distinct : AreDistinct s.caps) where
    -- with the entry no more than n
    abbrev Paid : ℕ → Step → Type 0
    Paid n x = IsNearGrant T near x.outcome.grant → of_side T near i x.side + 1 ≤ of_side T near i s + n

    refused-paid : (code : Code) (a : Ask) → Paid (of_ask T near i a) (unshown (ask_refused T i code a s))
    refused-paid code a _ =
        let more = ask_refused-costs T near i code a s in
        let paid = refusal-paid T near i a in
        omega (arith, more, paid)

    ask-least : (a : Ask) → 1 ≤ of_ask T near i a
    ask-least a = let paid = refusal-paid T near i a in omega (arith, paid)

    -- what an ask weighs by where it is from
    near-obtain : (place : PlaceName) (target : Target) → (kernel_of T place.vpe == i) ≡ true →
        of_ask T near i (ObtainAsk place target) ≡ 2
    near-obtain place target here = cond-true (kernel_of T place.vpe == i) 2 14 here

    far-obtain : (place : PlaceName) (target : Target) → (kernel_of T place.vpe == i) ≡ false →
        of_ask T near i (ObtainAsk place target) ≡ 14
    far-obtain place target remote = cond-false (kernel_of T place.vpe == i) 2 14 remote

    near-offer : (parent : KeyName) (object : Object) (sel : ℕ) → (kernel_of T parent.vpe == i) ≡ true →
        of_ask T near i (DelegateAsk parent object sel) ≡ 2
    near-offer parent object sel here = cond-true (kernel_of T parent.vpe == i) 2 17 here

    far-offer : (parent : KeyName) (object : Object) (sel : ℕ) → (kernel_of T parent.vpe == i) ≡ false →
        of_ask T near i (DelegateAsk parent object sel) ≡ 17
    far-offer parent object sel remote = cond-false (kernel_of T parent.vpe == i) 2 17 remote

    child_given-paid : (place : PlaceName) (target : Target) (p : Capability) → owner_of T p.key ≡ i →
        place_owner T place ≡ kernel_of T place.vpe →
        Paid (of_ask T near i (ObtainAsk place target)) (child_given T i place target s p)
    child_given-paid place target p own' addressed granted =
        let k : KeyName = keyed place (given_kind target p) in
        let object : Object = given target place.vpe p in
        let linking : Side = linked p.key k s in
        let links = side-linked T near i s p.key k distinct in
        cond_both (kernel_of T place.vpe == i) (given_here k p.key object (parked linking place.vpe) linking)
        (send (place_owner T place) (ObtainOk p.key k object) linking)
        (λ t. of_side T near i t + 1 ≤ of_side T near i s + of_ask T near i (ObtainAsk place target))
        (λ here.
        let free = near-key T near i p.key k granted own' (addressed ∙ eqb-true (kernel_of T place.vpe) i here) in
        let key = free.0 in
        let link = free.1 in
        let gives = given_here-costs k p.key object (parked linking place.vpe) linking in
        let two = near-obtain place target here in
        omega (arith, links, gives, key, link, two))
        (λ remote.
        let most = link-most T near i k in
        let more : of_side T near i (send (place_owner T place) (ObtainOk p.key k object) linking)
        ≡ of_side T near i linking + 7 =
        side-send T near i linking (place_owner T place) (ObtainOk p.key k object) in
        let far = far-obtain place target remote in
        omega (arith, links, more, most, far))

    delegate_here-paid : (v : ℕ) (parent : KeyName) (object : Object) (sel : ℕ) → owner_of T parent ≡ i →
        pe_owner T (pe_of T v) ≡ i → (kernel_of T parent.vpe == i) ≡ true →
        Paid (of_ask T near i (DelegateAsk parent object sel)) (delegate_here T v parent object sel s)
    delegate_here-paid v parent object sel own' pe here granted =
        let k : KeyName = next_key T s v parent.kind in
        let free = near-key T near i parent k granted own' pe in
        let key = free.0 in
        let link = free.1 in
        let linking : Side = linked parent k (drawn v s) in
        let draws = side-drawn T near i s v in
        let links = side-linked T near i (drawn v s) parent k distinct in
        let installs = installed-costs T near i linking k (Some parent) sel object in
        let readies = ready-costs (code_number OkCode) parent.vpe (installed k (Some parent) sel object linking) in
        let two = near-offer parent object sel here in
        omega (arith, draws, links, installs, readies, key, link, two)

    delegate_prepared-paid : (v : ℕ) (parent : KeyName) (object : Object) (sel : ℕ) →
        (kernel_of T parent.vpe == i) ≡ false →
        Paid (of_ask T near i (DelegateAsk parent object sel)) (delegate_prepared T v parent object sel s)
    delegate_prepared-paid v parent object sel remote _ =
        let k : KeyName = next_key T s v parent.kind in
        let p : Pending = record { key = k; parent = parent; object = object; sel = sel } in
        let preparing : Side = pending_added p (promised v sel (drawn v s)) in
        let draws = side-drawn T near i s v in
        let slot' = side-slot T near i (drawn v s) v sel Promised in
        let more : of_side T near i (send (owner_of T parent) (DelegatePrepared parent k) preparing)
        ≡ of_side T near i preparing + 16 =
        side-send T near i preparing (owner_of T parent) (DelegatePrepared parent k) in
        let same : of_side T near i preparing ≡ of_side T near i (promised v sel (drawn v s)) = refl in
        let far = far-offer parent object sel remote in
        omega (arith, draws, slot', more, same, far)

    module _ (held : (k : KeyName) (c : Capability) → cap s k ≡ Some c →
        owner_of T c.key ≡ i) (v : ℕ) (pe : pe_owner T (pe_of T v) ≡ i) where
      source-home : (target : Target) (p : Capability) → source T s v target ≡ Some p → owner_of T p.key ≡ i
      source-home target p there = held p.key p (source-held T s v target p there)

      obtain_consent-paid : (place : PlaceName) (target : Target) → place_owner T place ≡ kernel_of T place.vpe →
          Paid (of_ask T near i (ObtainAsk place target)) (obtain_consent T i v place target s)
      obtain_consent-paid place target addressed =
          let n : ℕ = of_ask T near i (ObtainAsk place target) in
          let least = ask-least (ObtainAsk place target) in
          unless-keeps (Paid n) (source_tests target (source T s v target)) _ _
          (λ code. refused-paid code (ObtainAsk place target))
          (option-keeps (Paid n) (child_given T i place target s) (source T s v target) (unshown s)
          (λ p there. child_given-paid place target p (source-home target p there) addressed)
          (λ _. omega (arith, least)))

      -- the parent of a delegation that the tests found
      parent-home : (parent : KeyName) (o : Option Capability) → cap s parent ≡ o → is_none o ≡ false →
          owner_of T parent ≡ i
      parent-home parent None there some = absurd cc
      parent-home parent (Some c) there some =
          ap (owner_of T) (sym
          (key_eq-true c.key parent (found (λ (x : Capability). key_eq x.key parent) s.caps c there).1))
          ∙ held parent c there

      delegate_consent-paid : (parent : KeyName) (object : Object) (sel : ℕ) →
          Paid (of_ask T near i (DelegateAsk parent object sel)) (delegate_consent T i v parent object sel s)
      delegate_consent-paid parent object sel =
          let n : ℕ = of_ask T near i (DelegateAsk parent object sel) in
          cond_both (kernel_of T parent.vpe == i) _ _ (Paid n)
          (λ here. unless-passed (Paid n) (parent_tests (cap s parent) ++ destination_tests s v sel) _ _
          (λ code. refused-paid code (DelegateAsk parent object sel))
          (λ passed. delegate_here-paid v parent object sel
          (parent-home parent (cap s parent) refl passed.0) pe here))
          (λ remote. unless-keeps (Paid n) (destination_tests s v sel) _ _
          (λ code. refused-paid code (DelegateAsk parent object sel))
          (delegate_prepared-paid v parent object sel remote))

      consented-paid : (a : Ask) → IsAddressed T a → Paid (of_ask T near i a) (consented T i v a s)
      consented-paid (ObtainAsk place target) addressed = obtain_consent-paid place target addressed
      consented-paid (DelegateAsk parent object sel) addressed = delegate_consent-paid parent object sel

      pub decided-paid : (a : Ask) → IsAddressed T a → IsNearGrant T near (ask_decided T i v a s).outcome.grant →
          of_side T near i (ask_decided T i v a s).side + 1 ≤ of_side T near i s + of_ask T near i a
      decided-paid a addressed =
          let least = ask-least a in
          cond_both (is_unawaited T i s a) _ _ (Paid (of_ask T near i a)) (λ _. λ _. omega (arith, least))
          (λ _. cond_both (denies T v (asker a)) _ _ (Paid (of_ask T near i a)) (λ _. refused-paid Refused a)
          (λ _. consented-paid a addressed))

    -- Parked calls.
    granted-costs : (parent key : KeyName) (mark : Option ℕ) →
        Few T near i (of_side T near i s + 12) (delegate_granted T parent key mark s)
    granted-costs parent key None =
        let links = side-linked T near i s parent key distinct in
        let most = link-most T near i key in
        let more : of_side T near i (send (owner_of T key) (Ack key true) (linked parent key s))
        ≡ of_side T near i (linked parent key s) + 6 =
        side-send T near i (linked parent key s) (owner_of T key) (Ack key true) in
        omega (arith, links, more, most)
    granted-costs parent key (Some j) =
        let more : of_side T near i (send (owner_of T key) (Ack key false) s) ≡ of_side T near i s + 3 =
        side-send T near i s (owner_of T key) (Ack key false) in omega (arith, more)

    delegate_resumed-costs : (parent key : KeyName) (o : Option Capability) →
        Few T near i (of_side T near i s + 12) (delegate_resumed T parent key o s)
    delegate_resumed-costs parent key None =
        let more : of_side T near i (send (owner_of T key) (Ack key false) s) ≡ of_side T near i s + 3 =
        side-send T near i s (owner_of T key) (Ack key false) in omega (arith, more)
    delegate_resumed-costs parent key (Some c) = granted-costs parent key c.mark

    pub resumed-paid : (p : Option Parked) → can_resume p ≡ true →
        of_side T near i (resumed T p s).side + 1 ≤ of_side T near i s + of_parked p
    resumed-paid (Some (Ready code)) can = omega arith
    resumed-paid (Some (ObtainReady key parent object sel)) can = let installs =
        installed-costs T near i s key (Some parent) sel object in let most = key-most T near i key in
        omega (arith, installs, most)
    resumed-paid (Some ObtainCancelled) can = omega arith
    resumed-paid (Some (DelegateReady parent key)) can = let costs =
        delegate_resumed-costs parent key (cap s parent) in omega (arith, costs)
    resumed-paid None can = absurd cc
    resumed-paid (Some (ObtainWait number sel)) can = absurd cc
    resumed-paid (Some (DelegateWait parent)) can = absurd cc
    resumed-paid (Some (RevokeWait j)) can = absurd cc

  -- Messages.
  obtain_ready-costs : (parent key : KeyName) (object : Object) (state : Option Parked) (s : Side) →
      of_side T near i (obtain_ready parent key object state s) ≤ of_side T near i s + 4
  obtain_ready-costs parent key object (Some (ObtainWait number sel)) s =
      side-parked T near i s key.vpe (ObtainReady key parent object sel)
  obtain_ready-costs parent key object None s = omega arith
  obtain_ready-costs parent key object (Some (ObtainReady key' parent' object' sel)) s = omega arith
  obtain_ready-costs parent key object (Some ObtainCancelled) s = omega arith
  obtain_ready-costs parent key object (Some (DelegateWait parent')) s = omega arith
  obtain_ready-costs parent key object (Some (DelegateReady parent' key')) s = omega arith
  obtain_ready-costs parent key object (Some (RevokeWait j)) s = omega arith
  obtain_ready-costs parent key object (Some (Ready code)) s = omega arith

  acknowledged-costs : (key : KeyName) (accepted : Bool) (s : Side) (p : Pending) →
      of_side T near i (acknowledged T key accepted s p) ≤ of_side T near i s + besides (Ack key accepted)
  acknowledged-costs key true s p =
      let t : Side = pending_removed key s in
      cond_both (is_alive s key.vpe) (installed key (Some p.parent) p.sel p.object t)
      (send (owner_of T p.parent) (Orphan p.parent key) t) (λ u. of_side T near i u ≤ of_side T near i s + 3)
      (λ _. let installs = installed-costs T near i t key (Some p.parent) p.sel p.object in
      let most = key-most T near i key in omega (arith, installs, most))
      (λ _.
      let more : of_side T near i (send (owner_of T p.parent) (Orphan p.parent key) t) ≡ of_side T near i s + 3 =
      side-send T near i t (owner_of T p.parent) (Orphan p.parent key) in
      omega (arith, more))
  acknowledged-costs key false s p = let less = side-slot T near i (pending_removed key s) key.vpe p.sel Free in
      omega (arith, less)

  asked-costs : (v : ℕ) (a : Ask) (s : Side) → of_side T near i (asked v a s) ≤ of_side T near i s + of_far_ask a
  asked-costs v a s = let more = side-asked T near i s v a in let most = ask-most T near i a in
      omega (arith, more, most)

  refused-costs : (a : Ask) (s : Side) →
      of_side T near i (ask_refused T i Dead a s) ≤ of_side T near i s + of_far_ask a
  refused-costs a s =
      let more = ask_refused-costs T near i Dead a s in
      let paid = refusal-paid T near i a in
      let most = ask-most T near i a in
      omega (arith, more, paid, most)

  handle_row-costs : (s : Side) (from : ℕ) (m : Message) → IsCalm T near i s → IdsRise s.jobs →
      of_side T near i (handle_row T i s from m) ≤ of_side T near i s + besides m
  unfolding handle_row
  handle_row-costs s from (ObtainReq place target) calm' rise =
      cond_both (is_alive s (target_vpe target)) (asked (target_vpe target) (ObtainAsk place target) s)
      (ask_refused T i Dead (ObtainAsk place target) s) (λ u. of_side T near i u ≤ of_side T near i s + 14)
      (λ _. asked-costs (target_vpe target) (ObtainAsk place target) s)
      (λ _. refused-costs (ObtainAsk place target) s)
  handle_row-costs s from (ObtainOk parent key object) calm' rise =
      cond_both (is_alive s key.vpe) (obtain_ready parent key object (parked s key.vpe) s)
      (send (owner_of T parent) (Orphan parent key) s) (λ u. of_side T near i u ≤ of_side T near i s + 4)
      (λ _. obtain_ready-costs parent key object (parked s key.vpe) s)
      (λ _.
      let more : of_side T near i (send (owner_of T parent) (Orphan parent key) s) ≡ of_side T near i s + 3 =
      side-send T near i s (owner_of T parent) (Orphan parent key) in
      omega (arith, more))
  handle_row-costs s from (ObtainNo place code) calm' rise =
      cond_both (is_alive s place.vpe) (call_refused code place.vpe s) s
      (λ u. of_side T near i u ≤ of_side T near i s + 1) (λ _. call_refused-costs T near i code place.vpe s)
      (λ _. omega arith)
  handle_row-costs s from (DelegateReq parent object vpe sel) calm' rise =
      cond_both (is_alive s vpe) (asked vpe (DelegateAsk parent object sel) s)
      (ask_refused T i Dead (DelegateAsk parent object sel) s) (λ u. of_side T near i u ≤ of_side T near i s + 17)
      (λ _. asked-costs vpe (DelegateAsk parent object sel) s)
      (λ _. refused-costs (DelegateAsk parent object sel) s)
  handle_row-costs s from (DelegatePrepared parent key) calm' rise =
      cond_both (is_alive s parent.vpe) (parked_as parent.vpe (DelegateReady parent key) s)
      (send (owner_of T key) (Ack key false) s) (λ u. of_side T near i u ≤ of_side T near i s + 13)
      (λ _. side-parked T near i s parent.vpe (DelegateReady parent key))
      (λ _.
      let more : of_side T near i (send (owner_of T key) (Ack key false) s) ≡ of_side T near i s + 3 =
      side-send T near i s (owner_of T key) (Ack key false) in
      omega (arith, more))
  handle_row-costs s from (DelegateNo parent code) calm' rise =
      cond_both (is_alive s parent.vpe) (call_refused code parent.vpe s) s
      (λ u. of_side T near i u ≤ of_side T near i s + 1) (λ _. call_refused-costs T near i code parent.vpe s)
      (λ _. omega arith)
  handle_row-costs s from (Ack key accepted) calm' rise =
      option-keeps (λ u. of_side T near i u ≤ of_side T near i s + besides (Ack key accepted))
      (acknowledged T key accepted s) (pending s key) s (λ p there. acknowledged-costs key accepted s p)
      (omega arith)
  handle_row-costs s from (Orphan parent key) calm' rise = let less = side-unlinked T near i s parent key in
      omega (arith, less)
  handle_row-costs s from (RevokeReq key j) calm' rise =
      requested-costs T near i from j key (cap s key) s refl calm' rise
  handle_row-costs s from (RevokeDone j) calm' rise = let less = done-lighter T near i j s calm' in
      omega (arith, less)
  handle_row-costs s from (Unlink parent key) calm' rise = let less = side-unlinked T near i s parent key in
      omega (arith, less)

  pub handled-costs : (s : Side) (from : ℕ) (m : Message) → IsCalm T near i s → IdsRise s.jobs →
      of_side T near i (handled T i s from m) ≤ of_side T near i s + besides m
  handled-costs s from m calm' rise =
      cond_both (is_stray T i s m) s (handle_row T i s from m)
      (λ u. of_side T near i u ≤ of_side T near i s + besides m) (λ _. omega arith)
      (λ _. handle_row-costs s from m calm' rise)
