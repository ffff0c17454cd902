-- After every schedule the link of an unmarked capability leads to a live key, or its kernel will be told that the key is gone.
use Rattle.std.proofs.Common.{◌≡◌, ◌⊎◌, ℕ, ◌++◌, true, List, [], ◌∷◌, Option, Some, None, append-nil, append_assoc, refl, sym, ap, ◌∙◌, subst, inl, inr, arith}
use Rattle.std.specs.List.{Contains, All}
use Rattle.std.specs.Option.{option_map_or, IsSome}
use Rattle.std.proofs.lemmas.Bool.{cases_eq, true≢false}
use Rattle.std.proofs.lemmas.Option.{same_Some}
use Rattle.std.proofs.lemmas.List.Elements.{Contains-append_right, All-contains, All-nil}
use Rattle.sem_key.specs.KeyName.{KeyName, key_eq}
use Rattle.sem_key.specs.Region.{has_key}
use Rattle.sem_key.specs.Capability.{Capability}
use Rattle.sem_key.proofs.KeyTests.{key_eq-true, key_eq-from, Contains-from_has_key, has_key-from_Contains}
use Rattle.sem_key.proofs.Members.{Contains-nil, found, not_found}
use Rattle.sem_msg.specs.declared.entry.Entry.{Entry}
use Rattle.sem_msg.specs.declared.event.Act.{Act}
use Rattle.sem_msg.specs.declared.event.Act.TheVariants.{Call as Calls, Fetch, Handle, Upcall, Resume, Flush, Kill}
use Rattle.sem_msg.specs.declared.message.Message.{Message}
use Rattle.sem_msg.specs.declared.message.Message.TheVariants.{ObtainOk, Ack, Orphan, Unlink}
use Rattle.sem_msg.specs.Setup.{Setup, IsSetup}
use Rattle.sem_msg.specs.Lookups.{owner_of, place_owner}
use Rattle.sem_machine.specs.Sides.{Side, row, cap, outbox, unlinked, call_counted, with_inbox}
use Rattle.sem_machine.specs.Steps.{Step, unshown}
use Rattle.sem_machine.specs.Calls.{call_row}
use Rattle.sem_machine.specs.Handles.{handle_row, handled}
use Rattle.sem_machine.specs.Machine.{World, side, link, start, next_call, local_step, input_of, event}
use Rattle.sem_machine.specs.Schedules.{IsSchedule, world_after}
use Rattle.sem_machine.specs.Journals.{grants, root_keys}
use Rattle.sem_machine.specs.Living.{way, fetched_from, InFlight, HoldsCap, IsLive}
use Rattle.sem_machine.proofs.Folds.{option-keeps}
use Rattle.sem_safety.proofs.CarryingWorlds.{stepped}
use Rattle.sem_safety.proofs.FirstCaps.{IsFirst, first-bare}
use Rattle.sem_safety.proofs.GoingOn.{run-prefix}
use Rattle.sem_safety.proofs.GrownLines.{child-grown}
use Rattle.sem_revoke.specs.Rest.{links_lead}
use Rattle.sem_revoke.proofs.Asking.{Waits, waits-on, all-awaited, asks-awaited}
use Rattle.sem_revoke.proofs.Consents.{upcall-gives}
use Rattle.sem_revoke.proofs.Events.{Par, Made, IsReady, Holds}
use Rattle.sem_revoke.proofs.Granted.{call-holds, resume-acks}
use Rattle.sem_revoke.proofs.Lasting.{all-caused, at, side-here, side-other, R, H, told}
use Rattle.sem_revoke.proofs.Leading.{Has, Linking, Below, linking-steady, linking-kept, linking-cut}
use Rattle.sem_revoke.proofs.LeadingEvents.{C, Led, revokings}
use Rattle.sem_revoke.proofs.LeadingJobs.{NoGrant, leads-kept, only-one}
use Rattle.sem_revoke.proofs.LeadingRows.{step-led, steady-revokings}
use Rattle.sem_revoke.proofs.LeadingWays.{IsThere, IsNoticed, IsLed, ok-next, ack-next, ready-next}
use Rattle.sem_revoke.proofs.LeadingWays.IsThere.{by_cap, by_ok, by_ack, by_ready}
use Rattle.sem_revoke.proofs.Moving.{Moves}
use Rattle.sem_revoke.proofs.Obtained.{flight-about}
use Rattle.sem_revoke.proofs.Parents.{parent-held}
use Rattle.sem_revoke.proofs.ReadyCalls.{here-one}
use Rattle.sem_revoke.proofs.Readying.{schedule-fit, schedule-homes, last-granted}
use Rattle.sem_revoke.proofs.Revoking.{more-grants, shown, start-each}
use Rattle.sem_revoke.proofs.Viewing.{Scene, rises_distinct}
use Rattle.sem_revoke.proofs.Ways.{goes}

-- the link of each unmarked capability leads to what is there, or a notice is on its way
abbrev AllLed : Setup → List Entry → Type 0
AllLed T K = (j : ℕ) (p k : KeyName) (c : Capability) → HoldsCap (world_after T K) j p c → c.mark ≡ None → Contains c.children k → IsLed T (world_after T K) p k

-- messages move, or a kernel acts
moves-or : (a : Act) → Moves a ⊎ (Moves a → ⊥)
moves-or (Calls v) = inr (λ no'. no')
moves-or (Upcall v) = inr (λ no'. no')
moves-or (Resume v) = inr (λ no'. no')
moves-or (Kill v) = inr (λ no'. no')
moves-or Handle = inr (λ no'. no')
moves-or (Fetch j) = inl tt
moves-or (Flush j) = inl tt

-- what moves messages leaves what is held
moved-caps : (T : Setup) (W : World) (i : ℕ) (a : Act) → Moves a → (stepped T W (event i a)).side.caps ≡ (side W i).caps
unfolding local_step
moved-caps T W i (Fetch j) moves = refl
moved-caps T W i (Flush j) moves = refl
moved-caps T W i (Calls v) moves = absurd moves
moved-caps T W i (Upcall v) moves = absurd moves
moved-caps T W i (Resume v) moves = absurd moves
moved-caps T W i (Kill v) moves = absurd moves
moved-caps T W i Handle moves = absurd moves

-- a notice is no stray
orphan-row : (T : Setup) (i : ℕ) (u : Side) (from : ℕ) (p k : KeyName) → handled T i u from (Orphan p k) ≡ unlinked p k u
unfolding handle_row
orphan-row T i u from p k = refl

unlink-row : (T : Setup) (i : ℕ) (u : Side) (from : ℕ) (p k : KeyName) → handled T i u from (Unlink p k) ≡ unlinked p k u
unfolding handle_row
unlink-row T i u from p k = refl

-- what stands among capabilities is held
has-held : (k : KeyName) (t : Side) → Has k t → (c : Capability) × (cap t k ≡ Some c)
has-held k t (c, among, key) = from (cap t k) refl
  where
    from : (o : Option Capability) → cap t k ≡ o → (d : Capability) × (cap t k ≡ Some d)
    from (Some d) is = (d, is)
    from None is = absurd (true≢false (sym (key_eq-from c.key k key) ∙ not_found (λ (x : Capability). key_eq x.key k) t.caps c is among))

-- An entry.
module _ (T : Setup) (valid : IsSetup T) (J : List Entry) (runs : IsSchedule T J) (before : List Entry) (e : Entry) (later : List Entry) (parts : J ≡ before
    ++ e ∷ later) where
  abbrev W : World
  W = world_after T before

  abbrev now' : List Entry
  now' = before ++ e ∷ []

  abbrev V : World
  V = world_after T now'

  abbrev i : ℕ
  i = e.event.kernel

  abbrev s : Side
  s = side W i

  abbrev t : Side
  t = (stepped T W e.event).side

  abbrev gs : List (KeyName × KeyName)
  gs = grants before

  abbrev o : Option (KeyName × KeyName)
  o = (stepped T W e.event).outcome.grant

  begun : IsSchedule T before
  begun = (at T valid J runs before e later parts).0

  prefix : IsSchedule T now'
  prefix = run-prefix T before later e (start T) (subst (IsSchedule T) parts runs)

  at-i : side V i ≡ t
  at-i = side-here T valid J runs before e later parts (all-caused T valid J runs before (e ∷ later) parts) i refl

  not-at : (j : ℕ) → (j ≡ i → ⊥) → side V j ≡ side W j
  not-at j away = side-other T valid J runs before e later parts (all-caused T valid J runs before (e ∷ later) parts) j away

  -- its step, whichever act it is
  abbrev step-of : Act → Step
  step-of a = local_step T i s a (input_of W i a)

  sent-on : (a : Act) → e.event.act ≡ a → (b : ℕ) (m : Message) → Contains (outbox (step-of a).side b) m → Contains (way V i b) m
  sent-on a act b m among = Contains-append_right (fetched_from i (side V b).inbox ++ link V i b) (outbox (side V i) b) m
      (subst (λ (x : Side). Contains (outbox x b) m) (sym (at-i ∙ ap (λ n. (step-of n).side) act)) among)

  -- what a step grants is held
  abbrev HoldsNew : Step → Type 0
  HoldsNew x = (p k : KeyName) → ◌≡◌ {A = Option (KeyName × KeyName)} x.outcome.grant (Some (p, k)) → (c : Capability) × (cap x.side k ≡ Some c)

  -- What is granted is there.
  born : (p k : KeyName) → ◌≡◌ {A = Option (KeyName × KeyName)} o (Some (p, k)) → IsThere T V p k
  unfolding local_step
  born p k granted = by e.event.act refl
    where
      grants' : (a : Act) → e.event.act ≡ a → ◌≡◌ {A = Option (KeyName × KeyName)} (step-of a).outcome.grant (Some (p, k))
      grants' a act = ap (λ n. (step-of n).outcome.grant) (sym act) ∙ granted

      none : ◌≡◌ {A = Option (KeyName × KeyName)} None (Some (p, k)) → IsThere T V p k
      none is = absurd cc

      holds : (a : Act) → e.event.act ≡ a → (c : Capability) × (cap (step-of a).side k ≡ Some c) → IsThere T V p k
      holds a act (c, held) = by_cap i c (ap (λ (x : Side). cap x k) (at-i ∙ ap (λ n. (step-of n).side) act) ∙ held)

      by : (a : Act) → e.event.act ≡ a → IsThere T V p k
      by (Calls v) act =
          let t' : Side = call_counted v s in
          holds (Calls v) act (option-keeps HoldsNew (call_row T i t' v) (next_call T s v) (unshown s) (λ c there. call-holds T i v t' c)
          (λ p' k' some. absurd cc) p k (grants' (Calls v) act))
      by (Upcall u) act = elim (upcall-gives T i s u p k (grants' (Upcall u) act)) [
        | inl held ↦ holds (Upcall u) act held
        | inr (a, among, (place, target, object, is, vpe, number, out)) ↦
            let b : ℕ = place_owner T place in
            let there : Contains (way V i b) (ObtainOk p k object) = sent-on (Upcall u) act b (ObtainOk p k object) out in
            let asked : Waits T W place.vpe place.number = asks-awaited T valid before begun i u place target (subst (Contains (row s u).asks) is among) in
            let q : Waits T W k.vpe k.number = subst (λ n. Waits T W k.vpe n) (sym number) (subst (λ v. Waits T W v place.number) (sym vpe) asked) in
            let one = here-one k.vpe in
            let about' = flight-about V k.vpe i b (ObtainOk p k object) there (omega (arith, one)) in
            by_ok object (i, b, there) (waits-on T valid J runs before e later parts (all-awaited T valid before begun) k.vpe k.number about' q)
      ]
      by (Resume v) act = by_ack (i, owner_of T k, sent-on (Resume v) act (owner_of T k) (Ack k true) (resume-acks T s v p k (grants' (Resume v) act)))
      by (Fetch j) act = none (grants' (Fetch j) act)
      by Handle act = none (grants' Handle act)
      by (Flush j) act = none (grants' (Flush j) act)
      by (Kill v) act = none (grants' (Kill v) act)

  -- A link of an unmarked capability now, from a grant before.
  module _ (p k : KeyName) (c : Capability) (held : HoldsCap V (owner_of T p) p c) (unmarked : c.mark ≡ None) (child : Contains c.children k)
      (granted : Par gs p k) where
    -- no grant of this entry is its own
    apart : (q r : KeyName) → ◌≡◌ {A = Option (KeyName × KeyName)} o (Some (q, r)) → q ≡ p → r ≡ k → ⊥
    apart q r is same_p same_k =
        (told T valid J runs before e later parts).new q r is (subst (Made T gs) (sym same_k) (child-grown (root_keys T) gs p k granted))

    abbrev Was : Type 0
    Was = (d : Capability) × HoldsCap W (owner_of T p) p d × (d.mark ≡ None) × Contains d.children k

    distinct : (j : ℕ) (q : KeyName) (d : Capability) → Contains (side W j).caps d → d.key ≡ q → cap (side W j) q ≡ Some d
    distinct j q d among key = only-one q (side W j).caps (rises_distinct (side W j).caps ((R T valid J runs before e later parts).rises j)) d among key

    -- the kernel that acts owns p
    linking : owner_of T p ≡ i → Linking p k Was t
    linking here = elim (moves-or e.event.act) [
      | inl moves ↦ subst (λ cs. (d : Capability) → Contains cs d → d.key ≡ p → d.mark ≡ None → has_key d.children k ≡ true →
          Was) (sym (moved-caps T W i e.event.act moves)) at-first
      | inr still ↦ let K = linking-kept p k Was (λ q r. q ≡ p → r ≡ k → ⊥) (λ q r no'. no') in
          step-led T i (λ q r. q ≡ p → r ≡ k → ⊥) (Linking p k Was) K s e.event.act (input_of W i e.event.act) still at-first
          (steady-revokings T i (Linking p k Was) K.other K.sends (linking-steady p k Was) s at-first) apart
    ]
      where
        at-first : Linking p k Was s
        at-first d among key none has = (d, ap (λ j. cap (side W j) p) here ∙ distinct i p d among key, none, Contains-from_has_key d.children k has)

    -- so the link was there before
    was : Was
    was = elim (cases_eq (owner_of T p) i) [
      | inr away ↦ (c, ap (λ (x : Side). cap x p) (sym (not-at (owner_of T p) away)) ∙ held, unmarked, child)
      | inl here ↦
          let there = found (λ (x : Capability). key_eq x.key p) t.caps c (ap (λ (x : Side). cap x p) (sym at-i)
          ∙ (ap (λ j. cap (side V j) p) (sym here) ∙ held)) in
          linking here c there.0 (key_eq-true c.key p there.1) unmarked (has_key-from_Contains c.children k child)
    ]

    -- p has the link still
    linked-on : owner_of T p ≡ i → Linking p k ⊥ t → ⊥
    linked-on here cut =
        let there = found (λ (x : Capability). key_eq x.key p) t.caps c (ap (λ (x : Side). cap x p) (sym at-i)
        ∙ (ap (λ j. cap (side V j) p) (sym here) ∙ held)) in
        cut c there.0 (key_eq-true c.key p there.1) unmarked (has_key-from_Contains c.children k child)

    -- A key that is held.

    below : Below p k s
    below d among key = parent-held T valid before begun i p k d (distinct i k d among key) granted

    abbrev R' : IsReady T gs W
    R' = R T valid J runs before e later parts

    abbrev H' : Holds T gs W
    H' = H T valid J runs before e later parts

    abbrev S : Scene
    S = C T gs W R' H' i p k granted below

    led-step : Has k s → Led T gs W R' H' i p k granted below t
    led-step has = elim (moves-or e.event.act) [
      | inl moves ↦ inl (subst (λ cs. (d : Capability) × Contains cs d × (d.key ≡ k)) (sym (moved-caps T W i e.event.act moves)) has)
      | inr still ↦ step-led T i (NoGrant S p k granted) (Led T gs W R' H' i p k granted below) (leads-kept S p k granted) s e.event.act
          (input_of W i e.event.act) still (inl has)
          (revokings T gs W R' H' i p k granted below (inl has)) apart
    ]

    held-next : (j : ℕ) (d : Capability) → HoldsCap W j k d → IsLed T V p k
    held-next j d holds = elim (cases_eq j i) [
      | inr away ↦ inl (by_cap j d (ap (λ (x : Side). cap x k) (not-at j away) ∙ holds))
      | inl here ↦
          let there = found (λ (x : Capability). key_eq x.key k) s.caps d (ap (λ n. cap (side W n) k) (sym here) ∙ holds) in
          elim (led-step (d, there.0, key_eq-true d.key k there.1)) [
            | inl has ↦ (let f = has-held k t has in inl (by_cap i f.0 (ap (λ (x : Side). cap x k) at-i ∙ f.1)))
            | inr (inl sent) ↦ inr (i, inr (sent-on e.event.act refl (owner_of T p) (Unlink p k) sent))
            | inr (inr (inl (near, cut))) ↦ absurd (linked-on near cut)
            | inr (inr (inr (away, f, holds', m, marked))) ↦ (let w = was in let same : f ≡ w.0 = same_Some f w.0 (sym holds' ∙ w.1) in
                let no' : None ≡ Some m = sym w.2 ∙ (ap (λ (x : Capability). x.mark) (sym same) ∙ marked) in absurd cc)
          ]
    ]

    -- A notice.

    -- a notice that is taken unlinks
    taken : (a : ℕ) (m : Message) → (m ≡ Orphan p k) ⊎ (m ≡ Unlink p k) → s.inbox ≡ Some (a, m) → e.event.act ≡ Handle → t ≡ unlinked p k (with_inbox None s)
    unfolding local_step
    taken a m is full act =
        ap (λ n. (local_step T i s n (input_of W i n)).side) act
        ∙ (ap (λ x. option_map_or (λ y. handled T i (with_inbox None s) y.0 y.1) x s) full
        ∙ elim is [
          | inl one ↦ ap (handled T i (with_inbox None s) a) one ∙ orphan-row T i (with_inbox None s) a p k
          | inr two ↦ ap (handled T i (with_inbox None s) a) two ∙ unlink-row T i (with_inbox None s) a p k
        ])

    noticed-next : (a : ℕ) (m : Message) → (m ≡ Orphan p k) ⊎ (m ≡ Unlink p k) → Contains (way W a (owner_of T p)) m → IsNoticed T V p k
    noticed-next a m is among = elim (goes T valid J runs before e later parts a (owner_of T p) m among) [
      | inl still ↦ (
        a,
        elim is [
          | inl one ↦ inl (subst (Contains (way V a (owner_of T p))) one still)
          | inr two ↦ inr (subst (Contains (way V a (owner_of T p))) two still)
        ],
      )
      | inr (
        here,
        full,
        act,
      ) ↦ absurd (linked-on here (subst (λ (x : Side). Linking p k ⊥ x) (sym (taken a m is full act)) (linking-cut p k ⊥ (with_inbox None s))))
    ]

    next : IsLed T W p k → IsLed T V p k
    next (inr (a, inl one)) = inr (noticed-next a (Orphan p k) (inl refl) one)
    next (inr (a, inr two)) = inr (noticed-next a (Unlink p k) (inr refl) two)
    next (inl (by_cap j d holds)) = held-next j d holds
    next (inl (by_ok object (a, b, among) waits)) = ok-next T valid J runs before e later parts p k granted was.0 was.1 was.2 object a b among waits
    next (inl (by_ack (a, b, among))) = ack-next T valid J runs before e later parts p k granted was.0 was.1 was.2 a b among
    next (inl (by_ready j v sel object there)) = ready-next T valid J runs before e later parts p k granted was.0 was.1 was.2 j v sel object there

  next-led : AllLed T before → AllLed T now'
  next-led L j p k c held unmarked child =
      let home : owner_of T p ≡ j = schedule-homes T valid now' prefix j p c held in
      let there : HoldsCap V (owner_of T p) p c = ap (λ n. cap (side V n) p) home ∙ held in
      let granted : Par (grants now') p k = (schedule-fit T valid now' prefix).links p k (c, there, has_key-from_Contains c.children k child) in
      elim (last-granted T valid gs o p k (subst (λ xs. Contains xs (p, k)) (more-grants before e o (shown T W e (at T valid J runs before e later parts).2))
      granted)) [
        | inr new ↦ inl (born p k new)
        | inl old ↦ let w = was p k c there unmarked child old in next p k c there unmarked child old (L (owner_of T p) p k w.0 w.1 w.2 w.3)
      ]

-- Along every schedule of every setup.
all-led : (T : Setup) → IsSetup T → (J : List Entry) → IsSchedule T J → AllLed T J
all-led T valid J runs = from [] J refl at-first
  where
    -- at the start no capability leads anywhere
    at-first : AllLed T []
    at-first j p k c held unmarked child =
        let there = found (λ (x : Capability). key_eq x.key p) (side (start T) j).caps c held in
        let first = All-contains IsFirst (side (start T) j).caps c (start-each T (λ (x : Side). All IsFirst x.caps) (All-nil IsFirst) (λ n. first-bare T n) j)
        there.0 in
        absurd (Contains-nil k (subst (λ ks. Contains ks k) first.childless child))

    from : (before later : List Entry) → J ≡ before ++ later → AllLed T before → AllLed T J
    from before [] parts L = subst (AllLed T) (sym (parts ∙ append-nil before)) L
    from before (e ∷ later) parts L = from (before ++ e ∷ []) later (parts
        ∙ sym (append_assoc before (e ∷ []) later)) (next-led T valid J runs before e later parts L)

-- a link of an unmarked capability leads to a live key, or a notice is on its way
pub links-lead : (T : Setup) → IsSetup T → (J : List Entry) → IsSchedule T J → links_lead T J
links-lead T valid J runs j p k c held unmarked child = by (all-led T valid J runs j p k c held unmarked child)
  where
    W : World
    W = world_after T J

    by : IsLed T W p k → IsLive W k ⊎ (InFlight W (Orphan p k) ⊎ InFlight W (Unlink p k))
    by (inl (by_cap n d holds)) = inl (inl (n, subst IsSome (sym holds) refl))
    by (inl (by_ok object flight waits)) = inl (inr (inl (record { parent = p; object = object; arriving = flight })))
    by (inl (by_ack flight)) = inl (inr (inr (inl flight)))
    by (inl (by_ready n v sel object there)) =
        inl (inr (inr (inr (record { kernel = n; vpe = v; selector = sel; parent = p; object = object; ready = there }))))
    by (inr (a, inl one)) = inr (inl (a, owner_of T p, one))
    by (inr (a, inr two)) = inr (inr (a, owner_of T p, two))
