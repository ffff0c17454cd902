-- What is granted is live from then on, or doomed: a call holds it at once, and the Ack of a delegation finds it pending. So nothing is lost.
use Rattle.std.proofs.Common.{◌≡◌, ◌⊎◌, ℕ, ◌++◌, true, false, not, List, [], ◌∷◌, map, Option, Some, None, is_none, append-nil, append_assoc, refl, sym, ap}
use Rattle.std.proofs.Common.{◌∙◌, subst, inl, inr, arith, eq-eqb}
use Rattle.std.specs.List.{Contains}
use Rattle.std.specs.Option.{option_map_or, IsSome}
use Rattle.std.specs.Prelude.{if◌then◌else◌}
use Rattle.std.proofs.lemmas.Bool.{cases_Bool, cond-true, cond-false}
use Rattle.std.proofs.lemmas.Option.{same_Some}
use Rattle.std.proofs.lemmas.List.Elements.{Contains-append_left, Contains-append_right, Contains-append_cases, filter_map-append}
use Rattle.sem_key.specs.declared.object.Object.{Object}
use Rattle.sem_key.specs.KeyName.{KeyName, key_eq}
use Rattle.sem_key.specs.Capability.{Capability}
use Rattle.sem_key.specs.CapList.{fresh}
use Rattle.sem_key.specs.ObjectRanges.{object_kind}
use Rattle.sem_key.proofs.KeyTests.{key_eq-same}
use Rattle.sem_key.proofs.Members.{Contains-head, Contains-from_map}
use Rattle.sem_key.proofs.Puts.{get_or-put_same}
use Rattle.sem_msg.specs.declared.call.Call.{Call}
use Rattle.sem_msg.specs.declared.entry.Entry.{Entry}
use Rattle.sem_msg.specs.declared.event.Act.{Act}
use Rattle.sem_msg.specs.declared.event.Act.TheVariants.{Call as Calls, Fetch, Handle, Upcall, Resume, Flush, Kill}
use Rattle.sem_msg.specs.declared.message.Message.{Message}
use Rattle.sem_msg.specs.declared.message.Message.TheVariants.{Ack, Orphan}
use Rattle.sem_msg.specs.declared.state.Parked.{Parked}
use Rattle.sem_msg.specs.declared.state.Parked.TheVariants.{ObtainWait, ObtainReady, ObtainCancelled, DelegateWait, DelegateReady, RevokeWait, Ready}
use Rattle.sem_msg.specs.declared.state.Pending.{Pending}
use Rattle.sem_msg.specs.Setup.{Setup, IsSetup}
use Rattle.sem_msg.specs.Lookups.{owner_of, kernel_of}
use Rattle.sem_machine.specs.Sides.{Side, no_side, cap, outbox, parked, pending, is_alive, call_counted, drawn, installed, linked, unparked, pending_removed}
use Rattle.sem_machine.specs.Sides.{send, with_inbox}
use Rattle.sem_machine.specs.Steps.{Step, unshown}
use Rattle.sem_machine.specs.Calls.{next_key, child_made, call_row}
use Rattle.sem_machine.specs.Handles.{is_key_declared, is_here, is_stray, acknowledged, handle_row, handled}
use Rattle.sem_machine.specs.Resumes.{delegate_granted, delegate_resumed, resumed, resume_row}
use Rattle.sem_machine.specs.Machine.{World, side, link, next_call, local_step, input_of}
use Rattle.sem_machine.specs.Schedules.{IsSchedule, world_after}
use Rattle.sem_machine.specs.Journals.{grants, root_keys}
use Rattle.sem_machine.specs.Living.{way, fetched_from, InFlight, IsLive}
use Rattle.sem_machine.specs.Safety.{nothing_lost}
use Rattle.sem_machine.proofs.Folds.{option-keeps}
use Rattle.sem_machine.proofs.Weighing.{weigh-among}
use Rattle.sem_safety.proofs.CarryingWorlds.{among-grants}
use Rattle.sem_safety.proofs.HeldOnce.{weigh-at}
use Rattle.sem_safety.proofs.Lives.{at_message}
use Rattle.sem_safety.proofs.Skeleton.{call_row-by}
use Rattle.sem_revoke.specs.Delegations.{of_key, of_inbox, of_side}
use Rattle.sem_revoke.specs.Revocation.{IsDoomed}
use Rattle.sem_revoke.proofs.Arriving.{schedule-revokes}
use Rattle.sem_revoke.proofs.Consents.{given-lasts}
use Rattle.sem_revoke.proofs.DelegationWorlds.{schedule-one}
use Rattle.sem_revoke.proofs.Forests.{granted-at, root-not-lost, forest-spared}
use Rattle.sem_revoke.proofs.Lasting.{all-caused, at, side-here, held-lasts}
use Rattle.sem_revoke.proofs.Obtained.{or-false, kernel-owner, dead-doomed}
use Rattle.sem_revoke.proofs.ReadyCalls.{installed-held}
use Rattle.sem_revoke.proofs.Readying.{schedule-tidy}
use Rattle.sem_revoke.proofs.Revoking.{shown}
use Rattle.sem_revoke.proofs.Ways.{goes}

-- the side holds the key
abbrev Held : Side → KeyName → Type 0
Held t k = (c : Capability) × (cap t k ≡ Some c)

-- Calls.

-- what a call grants is held
abbrev Holds : Step → Type 0
Holds x = (p k : KeyName) → ◌≡◌ {A = Option (KeyName × KeyName)} x.outcome.grant (Some (p, k)) → Held x.side k

child-holds : (T : Setup) (v dst : ℕ) (object : Object) (parent : KeyName) (s : Side) → Holds (child_made T v dst object parent s)
child-holds T v dst object parent s p k some =
    let k0 : KeyName = next_key T s v (object_kind object) in
    subst (λ (g : KeyName × KeyName). Held (child_made T v dst object parent s).side g.1) (same_Some (parent, k0) (p, k) some)
    (fresh k0 (Some parent) dst object, installed-held k0 (Some parent) dst object (linked parent k0 (drawn v s)))

pub call-holds : (T : Setup) (i v : ℕ) (s : Side) (c : Call) → Holds (call_row T i s v c)
call-holds T i v s c = call_row-by Holds T i v s (record {
  answered = λ code p k some. absurd cc;
  child = λ src dst object q held. child-holds T v dst object q.key s;
  ask = λ dst target p k some. absurd cc;
  offer = λ src w dst q held p k some. absurd cc;
  revoke = λ src q held p k some. absurd cc;
  clear = λ src q held unmarked p k some. absurd cc;
  bound = λ ep src q held p k some. absurd cc;
  rung = λ ep f p k some. absurd cc;
  ends = λ p k some. absurd cc;
}) c

-- Parked calls.

-- what a parked call grants is acknowledged
abbrev Acks : Setup → Step → Type 0
Acks T x = (p k : KeyName) → ◌≡◌ {A = Option (KeyName × KeyName)} x.outcome.grant (Some (p, k)) → Contains (outbox x.side (owner_of T k)) (Ack k true)

pub resume-acks : (T : Setup) (s : Side) (v : ℕ) → Acks T (resume_row T s v)
unfolding resume_row
resume-acks T s v = by (parked s v)
  where
    t : Side
    t = unparked v s

    granted : (parent key : KeyName) (m : Option ℕ) → Acks T (delegate_granted T parent key m t)
    granted parent key None = λ p k some.
        let j : ℕ = owner_of T key in
        let old : List Message = outbox t j in
        subst (λ (g : KeyName × KeyName). Contains (outbox (delegate_granted T parent key None t).side (owner_of T g.1)) (Ack g.1 true))
        (same_Some (parent, key) (p, k) some)
        (subst (λ xs. Contains xs (Ack key true)) (sym (get_or-put_same [] t.outs j (old ++ Ack key true ∷ [])))
        (Contains-append_right old (Ack key true ∷ []) (Ack key true) (Contains-head (Ack key true) [])))
    granted parent key (Some j) = λ p k some. absurd cc

    answered : (parent key : KeyName) (o : Option Capability) → Acks T (delegate_resumed T parent key o t)
    answered parent key None = λ p k some. absurd cc
    answered parent key (Some c) = granted parent key c.mark

    by : (q : Option Parked) → Acks T (resumed T q t)
    by None = λ p k some. absurd cc
    by (Some (ObtainWait number sel)) = λ p k some. absurd cc
    by (Some (ObtainReady key parent object sel)) = λ p k some. absurd cc
    by (Some ObtainCancelled) = λ p k some. absurd cc
    by (Some (DelegateWait parent)) = λ p k some. absurd cc
    by (Some (DelegateReady parent key)) = answered parent key (cap t parent)
    by (Some (RevokeWait j)) = λ p k some. absurd cc
    by (Some (Ready code)) = λ p k some. absurd cc

-- An event.
module _ (T : Setup) (valid : IsSetup T) (J : List Entry) (runs : IsSchedule T J) (before : List Entry) (e : Entry) (later : List Entry) (parts : J ≡ before
    ++ e ∷ later) where
  abbrev W : World
  W = world_after T before

  abbrev V : World
  V = world_after T (before ++ e ∷ [])

  abbrev i : ℕ
  i = e.event.kernel

  abbrev s : Side
  s = side W i

  begun : IsSchedule T before
  begun = (at T valid J runs before e later parts).0

  next : J ≡ (before ++ e ∷ []) ++ later
  next = parts ∙ sym (append_assoc before (e ∷ []) later)

  -- its step, whichever act it is
  abbrev step-of : Act → Step
  step-of a = local_step T i s a (input_of W i a)

  now : (a : Act) → e.event.act ≡ a → side V i ≡ (step-of a).side
  now a act = side-here T valid J runs before e later parts (all-caused T valid J runs before (e ∷ later) parts) i refl ∙ ap (λ n. (step-of n).side) act

  shows : (a : Act) → e.event.act ≡ a → ◌≡◌ {A = Option (KeyName × KeyName)} (step-of a).outcome.grant e.grant
  shows a act = ap (λ n. (step-of n).outcome.grant) (sym act) ∙ sym (shown T W e (at T valid J runs before e later parts).2)

  -- the Ack stands in the inbox: the key is installed, or its VPE is dead, and an orphan is sent
  pub ack-handled : (p k : KeyName) (a : ℕ) → Contains (grants before) (p, k) → s.inbox ≡ Some (a, Ack k true) → e.event.act ≡ Handle →
      Contains (way W a i) (Ack k true)
      → ((c : Capability) × (cap (side V i) k ≡ Some c)) ⊎ ((is_key_declared T k ≡ true) × (owner_of T k ≡ i) × (is_alive s k.vpe ≡ false) × (q : Pending)
      × (pending s k ≡ Some q) × (side V i ≡ send (owner_of T q.parent) (Orphan q.parent k) (pending_removed k (with_inbox None s))))
  unfolding local_step handle_row
  ack-handled p k a granted full act among =
      let m : Message = Ack k true in
      let weighs = weigh-among (at_message k) (way W a i) m among in
      let one : at_message k m ≡ 1 = cond-true (key_eq k k) 1 0 (key_eq-same k) in
      let place = (schedule-revokes T valid before begun).1.place p k a i granted (omega (arith, weighs, one)) in
      let declared = (schedule-tidy T valid before begun p k granted).0 in
      let home : kernel_of T k.vpe ≡ i = kernel-owner T k declared ∙ place.1 in
      let inbox : of_inbox k s.inbox ≡ of_key k k = ap (of_inbox k) full in
      let token : of_key k k ≡ 1 = one in
      let part = weigh-at (of_side k) no_side refl W.sides i in
      let pends = (schedule-one k T valid before begun).pends (omega (arith, inbox, token, part)) in
      let there : pending s k ≡ Some pends.0 = ap (λ n. pending (side W n) k) (sym place.1) ∙ pends.1 in
      elim (cases_Bool (is_alive s k.vpe)) [
        | inr dead ↦ inr (
          declared,
          place.1,
          dead,
          pends.0,
          there,
          step-is declared home pends.0 there
              ∙ cond-false (is_alive u k.vpe) (held pends.0) (send (owner_of T pends.0.parent) (Orphan pends.0.parent k) (pending_removed k u)) dead,
        )
        | inl alive ↦
            let now' = step-is declared home pends.0 there
            ∙ cond-true (is_alive u k.vpe) (held pends.0) (send (owner_of T pends.0.parent) (Orphan pends.0.parent k) (pending_removed k u)) alive in
            inl (
              fresh k (Some pends.0.parent) pends.0.sel pends.0.object,
              ap (λ (x : Side). cap x k) now'
                  ∙ installed-held k (Some pends.0.parent) pends.0.sel pends.0.object (pending_removed k u),
            )
      ]
    where
      u : Side
      u = with_inbox None s

      held : Pending → Side
      held q = installed k (Some q.parent) q.sel q.object (pending_removed k u)

      -- it is no stray
      step-is : is_key_declared T k ≡ true → kernel_of T k.vpe ≡ i → (q : Pending) → pending s k ≡ Some q
          → side V i ≡ (if is_alive u k.vpe then held q else send (owner_of T q.parent) (Orphan q.parent k) (pending_removed k u))
      step-is declared home q pends =
          let m : Message = Ack k true in
          let stray : is_stray T i u m ≡ false =
          or-false (not (is_key_declared T k)) _ (ap not declared) (or-false (not (is_here T i k.vpe)) _ (ap not (eq-eqb (kernel_of T k.vpe) i home))
          (ap is_none pends)) in
          now Handle act
          ∙ (ap (λ x. option_map_or (λ y. handled T i (with_inbox None s) y.0 y.1) x s) full
          ∙ (cond-false (is_stray T i u m) u (handle_row T i u a m) stray ∙ ap (λ o. option_map_or (acknowledged T k true u) o u) pends))

  handled-ack : (p k : KeyName) (a : ℕ) → Contains (grants before) (p, k) → s.inbox ≡ Some (a, Ack k true) → e.event.act ≡ Handle →
      Contains (way W a i) (Ack k true)
      → Held (side V i) k ⊎ IsDoomed J k
  handled-ack p k a granted full act among = elim (ack-handled p k a granted full act among) [
    | inl held ↦ inl held
    | inr (declared, home, dead, q, there, gone) ↦ inr (dead-doomed T valid J runs before (e ∷ later) parts begun k i declared home dead)
  ]

  held-live : (j : ℕ) (k : KeyName) → Held (side V j) k → IsLive (world_after T J) k ⊎ IsDoomed J k
  held-live j k (c, held) = elim (held-lasts T valid J runs (before ++ e ∷ []) later j k c next held) [
    | inl (d, holds) ↦ inl (inl (j, subst IsSome (sym holds) refl))
    | inr doomed ↦ inr doomed
  ]

-- An Ack along the journal.
acked-lasts : (T : Setup) → IsSetup T → (J : List Entry) → IsSchedule T J → (before later : List Entry) (p k : KeyName) → J ≡ before ++ later →
    Contains (grants before) (p, k) → InFlight (world_after T before) (Ack k true) → IsLive (world_after T J) k ⊎ IsDoomed J k
acked-lasts T valid J runs before [] p k parts granted flight =
    inl (inr (inr (inl (subst (λ K. InFlight (world_after T K) (Ack k true)) (sym (parts ∙ append-nil before)) flight))))
acked-lasts T valid J runs before (e ∷ later) p k parts granted (a, b, among) = elim (goes T valid J runs before e later parts a b (Ack k true) among) [
  | inl still ↦ acked-lasts T valid J runs (before ++ e ∷ []) later p k (parts ∙ sym (append_assoc before (e ∷ []) later))
      (subst (λ gs. Contains gs (p, k)) (sym (filter_map-append (λ (x : Entry). x.grant) before (e ∷ [])))
      (Contains-append_left (grants before) (grants (e ∷ [])) (p, k) granted))
      (a, b, still)
  | inr (
    here,
    full,
    act,
  ) ↦ elim (handled-ack T valid J runs before e later parts p k a granted full act
      (subst (λ n. Contains (way (world_after T before) a n) (Ack k true)) here among)) [
        | inl held ↦ held-live T valid J runs before e later parts e.event.kernel k held
        | inr doomed ↦ inr doomed
      ]
]

module _ (T : Setup) (valid : IsSetup T) (J : List Entry) (runs : IsSchedule T J) where
  -- what an entry grants
  pub granted-lasts : (before : List Entry) (e : Entry) (later : List Entry) (p k : KeyName) → J ≡ before ++ e ∷ later → e.grant ≡ Some (p, k) →
      IsLive (world_after T J) k ⊎ IsDoomed J k
  unfolding local_step
  granted-lasts before e later p k parts granted = by e.event.act refl
    where
      grants' : (a : Act) → e.event.act ≡ a → ◌≡◌ {A = Option (KeyName × KeyName)} (step-of T valid J runs before e later parts a).outcome.grant (Some (p, k))
      grants' a act = shows T valid J runs before e later parts a act ∙ granted

      none : ◌≡◌ {A = Option (KeyName × KeyName)} None (Some (p, k)) → IsLive (world_after T J) k ⊎ IsDoomed J k
      none is = absurd cc

      by : (a : Act) → e.event.act ≡ a → IsLive (world_after T J) k ⊎ IsDoomed J k
      by (Calls v) act =
          let i : ℕ = e.event.kernel in
          let s : Side = side (world_after T before) i in
          let held = option-keeps Holds (call_row T i (call_counted v s) v) (next_call T s v) (unshown s) (λ c there. call-holds T i v (call_counted v s) c)
          (λ p' k' some. absurd cc) p k (grants' (Calls v) act) in
          held-live T valid J runs before e later parts i k (
            held.0,
            ap (λ (x : Side). cap x k) (now T valid J runs before e later parts (Calls v) act)
                ∙ held.1,
          )
      by (Upcall u) act = given-lasts T valid J runs before e later u p k parts act granted
      by (Resume v) act =
          let V : World = world_after T (before ++ e ∷ []) in
          let i : ℕ = e.event.kernel in
          let j : ℕ = owner_of T k in
          let out = resume-acks T (side (world_after T before) i) v p k (grants' (Resume v) act) in
          let there : Contains (way V i j) (Ack k true) = Contains-append_right (fetched_from i (side V j).inbox ++ link V i j) (outbox (side V i) j)
          (Ack k true)
          (subst (λ (x : Side). Contains (outbox x j) (Ack k true)) (sym (now T valid J runs before e later parts (Resume v) act)) out) in
          acked-lasts T valid J runs (before ++ e ∷ []) later p k (next T valid J runs before e later parts)
          (among-grants (before ++ e ∷ []) e (p, k) (Contains-append_right before (e ∷ []) e (Contains-head e [])) granted) (i, j, there)
      by (Fetch j) act = none (grants' (Fetch j) act)
      by Handle act = none (grants' Handle act)
      by (Flush j) act = none (grants' (Flush j) act)
      by (Kill v) act = none (grants' (Kill v) act)

  -- a key that was granted, and is not doomed
  granted-live : (p k : KeyName) → Contains (grants J) (p, k) → (IsDoomed J k → ⊥) → IsLive (world_after T J) k
  granted-live p k granted spared =
      let at' = granted-at (λ (e : Entry). e.grant) J (p, k) granted in
      elim (granted-lasts at'.0 at'.1 at'.2 p k at'.3 at'.4) [ inl live ↦ live | inr doomed ↦ absurd (spared doomed) ]

  pub nothing-lost : nothing_lost T J
  nothing-lost k in_forest =
      let spared = forest-spared T valid J runs k in_forest in
      elim (Contains-append_cases (root_keys T) (map (λ (g : KeyName × KeyName). g.1) (grants J)) k spared.0) [
        | inl root ↦ root-not-lost T valid J runs k root in_forest
        | inr child ↦
            let from = Contains-from_map (λ (g : KeyName × KeyName). g.1) (grants J) k child in
            subst (IsLive (world_after T J)) from.2 (granted-live from.0.0 from.0.1 from.1 (λ doomed. spared.1 (subst (IsDoomed J) from.2 doomed)))
      ]
