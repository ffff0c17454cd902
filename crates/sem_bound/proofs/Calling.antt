-- A call makes a side heavier by no more than the most entries that it can bring, without its own.
use Rattle.std.proofs.Common.{◌≡◌, ℕ, ◌+◌, ◌≤◌, ◌++◌, drop, Bool, [], ◌∷◌, Option, Some, None, refl, sym, ◌∙◌}
use Rattle.std.proofs.Common.{subst, arith, eq-eqb}
use Rattle.std.specs.Prelude.{◌==◌}
use Rattle.std.specs.List.{Contains}
use Rattle.std.specs.Option.{option_map_or, option_and_then}
use Rattle.std.proofs.lemmas.Bool.{cond_both, cond-true, cond-false}
use Rattle.sem_key.specs.declared.object.Object.{Object}
use Rattle.sem_key.specs.declared.object.Object.TheVariants.{Send as SendGate}
use Rattle.sem_key.specs.ObjectRanges.{object_kind}
use Rattle.sem_key.specs.KeyName.{KeyName, key_eq}
use Rattle.sem_key.specs.PlaceName.{PlaceName}
use Rattle.sem_key.specs.Capability.{Capability}
use Rattle.sem_key.specs.CapList.{fresh}
use Rattle.sem_msg.specs.declared.call.Call.{Call}
use Rattle.sem_msg.specs.declared.call.Call.TheVariants.{Derive, Gate, Obtain, Delegate, OpenSession, AskOffer}
use Rattle.sem_msg.specs.declared.call.Call.TheVariants.{Revoke, Bind, Read, Write, Send, Credit, Exit, Clear}
use Rattle.sem_msg.specs.declared.code.Code.{Code}
use Rattle.sem_msg.specs.declared.code.Code.TheVariants.{Ok as OkCode, NoCap, NoService, BadKind}
use Rattle.sem_msg.specs.declared.message.Message.TheVariants.{ObtainReq, DelegateReq}
use Rattle.sem_msg.specs.declared.message.Target.{Target}
use Rattle.sem_msg.specs.declared.message.Target.TheVariants.{Sel as SelTarget, Serv as ServTarget}
use Rattle.sem_msg.specs.declared.message.Target.TheVariants.{Offer as OfferTarget}
use Rattle.sem_msg.specs.declared.setup.Service.{Service}
use Rattle.sem_msg.specs.declared.state.Ask.{Ask}
use Rattle.sem_msg.specs.declared.state.Ask.TheVariants.{Obtain as ObtainAsk, Delegate as DelegateAsk}
use Rattle.sem_msg.specs.declared.state.Parked.TheVariants.{ObtainWait, DelegateWait}
use Rattle.sem_msg.specs.declared.state.Slot.{Slot}
use Rattle.sem_msg.specs.declared.state.Slot.TheVariants.{Free, Held, Promised}
use Rattle.sem_msg.specs.Setup.{Setup}
use Rattle.sem_msg.specs.Lookups.{kernel_of, owner_of, pe_owner, pe_of, service_named, offered}
use Rattle.sem_msg.specs.Uses.{memory_tests, send_tests, credit_tests}
use Rattle.sem_machine.specs.Sides.{Side, cap, cap_in, own, slot, endpoint, drawn, promised, parked_as, asked, linked}
use Rattle.sem_machine.specs.Sides.{installed, cap_added, send}
use Rattle.sem_machine.specs.Steps.{Step, answer}
use Rattle.sem_machine.specs.Asks.{target_vpe, asker}
use Rattle.sem_machine.specs.Calls.{next_key, next_place, child_made, narrowed, with_held, ask_made, offer_made}
use Rattle.sem_machine.specs.Calls.{own_tests, derive_tests, gate_tests, obtain_tests, open_tests, offer_tests}
use Rattle.sem_machine.specs.Calls.{delegate_tests, bind_tests, call_row}
use Rattle.sem_machine.specs.Upcalls.{source}
use Rattle.sem_key.proofs.KeyTests.{key_eq-true}
use Rattle.sem_key.proofs.Members.{found}
use Rattle.sem_machine.proofs.Folds.{option-keeps}
use Rattle.sem_machine.proofs.FirstCodes.{unless-keeps, unless-passed, unmarked-own}
use Rattle.sem_safety.proofs.JobIds.{IdsRise}
use Rattle.sem_bound.specs.Costs.{exchange_entries, most_entries}
use Rattle.sem_bound.proofs.Weights.{of_ask, of_far_ask, of_key, of_link, of_side, link-local, side-drawn, side-slot}
use Rattle.sem_bound.proofs.Weights.{side-endpoint, side-rung, side-parked, side-asked, side-send, side-added}
use Rattle.sem_bound.proofs.Weights.{side-linked}
use Rattle.sem_bound.proofs.Layering.{IsNearGrant, IsCalm}
use Rattle.sem_bound.proofs.CostRanges.{exchange-most, entries-within}
use Rattle.sem_bound.proofs.Beginning.{begun-costs, cleared-costs}
use Rattle.sem_bound.proofs.Ending.{ended-lighter}
use Rattle.sem_bound.proofs.Homes.{IsOfKernel, held-home}

-- What stands at a selector, or is asked for, is what is held under its key.

held-itself : (s : Side) (k : KeyName) (c : Capability) → cap s k ≡ Some c → cap s c.key ≡ Some c
held-itself s k c some =
    let there = found (λ (x : Capability). key_eq x.key k) s.caps c some in
    subst (λ q. cap s q ≡ Some c) (sym (key_eq-true c.key k there.1)) some

own-held : (s : Side) (v sel : ℕ) (c : Capability) → own s v sel ≡ Some c → cap s c.key ≡ Some c
own-held s v sel c held = from (slot s v sel) held
  where
    from : (x : Slot) → cap_in s x ≡ Some c → cap s c.key ≡ Some c
    from Free none = absurd cc
    from Promised none = absurd cc
    from (Held k) some = held-itself s k c some

pub source-held : (T : Setup) (s : Side) (v : ℕ) (target : Target) (p : Capability) → source T s v target ≡ Some p →
    cap s p.key ≡ Some p
source-held T s v (SelTarget w sel) p held = own-held s v sel p held
source-held T s v (ServTarget service) p held = held-itself s service p held
source-held T s v (OfferTarget service index) p held = from (offered T service index) held
  where
    from : (o : Option ℕ) → option_and_then (own s v) o ≡ Some p → cap s p.key ≡ Some p
    from None none = absurd cc
    from (Some sel) some = own-held s v sel p some

module _ (T : Setup) (near : KeyName → Bool) (i : ℕ) where
  -- a new capability costs what its key weighs
  pub installed-costs : (s : Side) (k : KeyName) (parent : Option KeyName) (sel : ℕ) (object : Object) →
      of_side T near i (installed k parent sel object s) ≤ of_side T near i s + of_key T near i k
  installed-costs s k parent sel object =
      let t : Side = cap_added (fresh k parent sel object) s in
      let more = side-added T near i s (fresh k parent sel object) in
      let slot' = side-slot T near i t k.vpe sel (Held k) in
      omega (arith, more, slot')

  -- a child that is granted within the kernel costs nothing
  pub near-key : (p k : KeyName) → IsNearGrant T near (Some (p, k)) → owner_of T p ≡ i → owner_of T k ≡ i →
      (of_key T near i k ≡ 0) × (of_link T near i k ≡ 0)
  near-key p k granted parent child = (
    cond-true (near k) 0 3 (granted p k refl (parent ∙ sym child)),
    link-local T near i k (eq-eqb (owner_of T k) i child),
  )

  -- no heavier than m
  abbrev pub Few : ℕ → Step → Type 0
  Few m x = of_side T near i x.side ≤ m

  -- an ask of the same kernel
  near-ask : (a : Ask) → kernel_of T (asker a) ≡ i → of_ask T near i a ≡ 2
  near-ask a here = cond-true (kernel_of T (asker a) == i) 2 (of_far_ask a) (eq-eqb (kernel_of T (asker a)) i here)

  module _ (s : Side) (calm' : IsCalm T near i s) (rise : IdsRise s.jobs) (home : (c : Capability) →
      Contains s.caps c → IsOfKernel T i c.key) (v : ℕ) (here : kernel_of T v ≡ i)
      (pe : pe_owner T (pe_of T v) ≡ i) where
    -- with its own entry at most n
    abbrev Costs : ℕ → Step → Type 0
    Costs n x = IsNearGrant T near x.outcome.grant → of_side T near i x.side + 1 ≤ of_side T near i s + n

    same : (n : ℕ) → 1 ≤ n → (code : Code) → Costs n (answer code s)
    same n more code = λ _. omega (arith, more)

    own-home : (src : ℕ) (p : Capability) → own s v src ≡ Some p → IsOfKernel T i p.key
    own-home src p held = held-home T i s home p.key p (own-held s v src p held)

    child_made-costs : (src dst : ℕ) (object : Object) (p : Capability) → own s v src ≡ Some p →
        Costs 1 (child_made T v dst object p.key s)
    child_made-costs src dst object p held granted =
        let k : KeyName = next_key T s v (object_kind object) in
        let free = near-key p.key k granted (own-home src p held).0 pe in
        let draws = side-drawn T near i s v in
        let links = side-linked T near i (drawn v s) p.key k calm'.1 in
        let installs = installed-costs (linked p.key k (drawn v s)) k (Some p.key) dst object in
        let key = free.0 in
        let link = free.1 in
        omega (arith, draws, links, installs, key, link)

    ask_made-costs : (dst : ℕ) (target : Target) →
        Costs (exchange_entries T i (target_vpe target) 18) (ask_made T i v dst target s)
    ask_made-costs dst target _ =
        let place : PlaceName = next_place T s v in
        let w : ℕ = target_vpe target in
        let promising : Side = promised v dst (drawn v s) in
        let waiting : Side = parked_as v (ObtainWait place.number dst) promising in
        let draws = side-drawn T near i s v in
        let slot' = side-slot T near i (drawn v s) v dst Promised in
        let parks : of_side T near i waiting ≤ of_side T near i promising + 0 =
        side-parked T near i promising v (ObtainWait place.number dst) in
        cond_both (kernel_of T w == i) (asked w (ObtainAsk place target) waiting)
        (send (kernel_of T w) (ObtainReq place target) waiting)
        (λ t. of_side T near i t + 1 ≤ of_side T near i s + exchange_entries T i w 18)
        (λ within.
        let more = side-asked T near i waiting w (ObtainAsk place target) in
        let two = near-ask (ObtainAsk place target) here in
        let three : exchange_entries T i w 18 ≡ 3 = cond-true (kernel_of T w == i) 3 18 within in
        omega (arith, draws, slot', parks, more, two, three))
        (λ across.
        let more : of_side T near i (send (kernel_of T w) (ObtainReq place target) waiting)
        ≡ of_side T near i waiting + 17 =
        side-send T near i waiting (kernel_of T w) (ObtainReq place target) in
        let far : exchange_entries T i w 18 ≡ 18 = cond-false (kernel_of T w == i) 3 18 across in
        omega (arith, draws, slot', parks, more, far))

    offer_made-costs : (src w dst : ℕ) (p : Capability) → own s v src ≡ Some p →
        Costs (exchange_entries T i w 21) (offer_made T i v w dst p s)
    offer_made-costs src w dst p held _ =
        let waiting : Side = parked_as v (DelegateWait p.key) s in
        let parks : of_side T near i waiting ≤ of_side T near i s + 0 =
        side-parked T near i s v (DelegateWait p.key) in
        cond_both (kernel_of T w == i) (asked w (DelegateAsk p.key p.object dst) waiting)
        (send (kernel_of T w) (DelegateReq p.key p.object w dst) waiting)
        (λ t. of_side T near i t + 1 ≤ of_side T near i s + exchange_entries T i w 21)
        (λ within.
        let more = side-asked T near i waiting w (DelegateAsk p.key p.object dst) in
        let two = near-ask (DelegateAsk p.key p.object dst) (own-home src p held).1 in
        let three : exchange_entries T i w 21 ≡ 3 = cond-true (kernel_of T w == i) 3 21 within in
        omega (arith, parks, more, two, three))
        (λ across.
        let more : of_side T near i (send (kernel_of T w) (DelegateReq p.key p.object w dst) waiting)
        ≡ of_side T near i waiting + 20 =
        side-send T near i waiting (kernel_of T w) (DelegateReq p.key p.object w dst) in
        let far : exchange_entries T i w 21 ≡ 21 = cond-false (kernel_of T w == i) 3 21 across in
        omega (arith, parks, more, far))

    -- whatever service is asked
    any_ask-costs : (dst : ℕ) (target : Target) → Costs 18 (ask_made T i v dst target s)
    any_ask-costs dst target granted =
        let most = exchange-most T i (target_vpe target) 18 (omega arith) in
        let costs = ask_made-costs dst target granted in
        omega (arith, most, costs)

    open-costs : (dst : ℕ) (o : Option Service) →
        Costs (option_map_or (λ (x : Service). exchange_entries T i x.key.vpe 18) o 1)
        (option_map_or (λ (x : Service). ask_made T i v dst (ServTarget x.key) s) o (answer NoService s))
    open-costs dst None = same 1 (omega arith) NoService
    open-costs dst (Some x) = ask_made-costs dst (ServTarget x.key)

    held-by : (n : ℕ) → 1 ≤ n → (o : Option Capability) (f : Capability → Step) →
        ((c : Capability) → o ≡ Some c → Costs n (f c)) → Costs n (with_held o f s)
    held-by n more o f each = option-keeps (Costs n) f o (answer NoCap s) each (same n more NoCap)

    pub call_row-costs : (c : Call) → Costs (most_entries T i c) (call_row T i s v c)
    unfolding call_row
    call_row-costs (Derive src dst off len rights) =
        unless-keeps (Costs 1) (derive_tests s v src dst off len rights) _ _ (same 1 (omega arith))
        (held-by 1 (omega arith) (own s v src) _
        (λ p held. child_made-costs src dst (narrowed off len rights p.object) p held))
    call_row-costs (Gate src dst label credits) =
        unless-keeps (Costs 1) (gate_tests s v src dst credits) _ _ (same 1 (omega arith))
        (held-by 1 (omega arith) (own s v src) _
        (λ p held. child_made-costs src dst (SendGate p.key label credits) p held))
    call_row-costs (Obtain dst w src) = let n : ℕ = exchange_entries T i w 18 in
        unless-keeps (Costs n) (obtain_tests T i s v dst w) _ _ (same n (entries-within T i (Obtain dst w src)).0)
        (ask_made-costs dst (SelTarget w src))
    call_row-costs (Delegate src w dst) =
        let n : ℕ = exchange_entries T i w 21 in
        let least : 1 ≤ n = (entries-within T i (Delegate src w dst)).0 in
        unless-keeps (Costs n) (delegate_tests T i s v src w) _ _ (same n least)
        (held-by n least (own s v src) _ (λ p held. offer_made-costs src w dst p held))
    call_row-costs (OpenSession dst name) =
        let n : ℕ = most_entries T i (OpenSession dst name) in
        unless-keeps (Costs n) (open_tests T i s v dst name) _ _
        (same n (entries-within T i (OpenSession dst name)).0) (open-costs dst (service_named T name))
    call_row-costs (AskOffer dst session index) =
        unless-keeps (Costs 18) (offer_tests T i s v dst session) _ _ (same 18 (omega arith))
        (option-keeps (Costs 18) (λ (k : KeyName). ask_made T i v dst (OfferTarget k index) s) _
        (answer BadKind s) (λ k there. any_ask-costs dst (OfferTarget k index))
        (same 18 (omega arith) BadKind))
    call_row-costs (Revoke src) =
        held-by 2 (omega arith) (own s v src) _
        (λ x held _. let more = begun-costs T near i v x.key x.mark s x
        (own-held s v src x held) refl calm' rise in omega (arith, more))
    call_row-costs (Bind ep src) =
        unless-keeps (Costs 1) (bind_tests s v src) _ _ (same 1 (omega arith))
        (held-by 1 (omega arith) (own s v src) _
        (λ x held _. let less = side-endpoint T near i s v ep
        (Some (record { key = x.key; object = x.object; ring = [] })) in omega (arith, less)))
    call_row-costs (Read ep off len) =
        unless-keeps (Costs 1) (memory_tests 1 off len (endpoint s v ep)) _ _ (same 1 (omega arith))
        (same 1 (omega arith) OkCode)
    call_row-costs (Write ep off len) =
        unless-keeps (Costs 1) (memory_tests 2 off len (endpoint s v ep)) _ _ (same 1 (omega arith))
        (same 1 (omega arith) OkCode)
    call_row-costs (Send ep len) = unless-keeps (Costs 1) (send_tests (endpoint s v ep)) _ _ (same 1 (omega arith))
        (λ _. let less = side-rung T near i s v ep (λ ring. ring ++ len ∷ []) in omega (arith, less))
    call_row-costs (Credit ep) = unless-keeps (Costs 1) (credit_tests (endpoint s v ep)) _ _ (same 1 (omega arith))
        (λ _. let less = side-rung T near i s v ep (λ ring. drop 1 ring) in omega (arith, less))
    call_row-costs (Clear src) = unless-passed (Costs 2) (own_tests (own s v src)) _ _ (same 2 (omega arith))
        (λ passed. held-by 2 (omega arith) (own s v src) _
        (λ x held _. let more = cleared-costs T near i v x.key s x (own-held s v src x held)
        (unmarked-own (own s v src) x held passed.1.0) calm' in omega (arith, more)))
    call_row-costs Exit = λ _. let less = ended-lighter T near i v s calm' in omega (arith, less)
