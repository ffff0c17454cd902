-- What the layers say of live keys: the parent of a live key is held and leads to it, notices are of the dead, and gifts come before requests.
use Rattle.std.proofs.Common.{IsSome, ◌≡◌, ℕ, ◌+◌, ◌≤◌, ◌++◌, true, ◌&&◌, List, [], ◌∷◌, Some, None, refl, sym, ap, ◌∙◌, inl, inr, arith, eq-eqb, Option}
use Rattle.std.specs.Prelude.{◌==◌}
use Rattle.std.specs.List.{Contains}
use Rattle.std.proofs.lemmas.Bool.{cases_eq, cond-true, and_from}
use Rattle.std.proofs.lemmas.Option.{same_Some}
use Rattle.std.proofs.lemmas.List.Sums.{sum_by-append}
use Rattle.sem_key.specs.declared.object.Object.{Object}
use Rattle.sem_key.specs.KeyName.{KeyName, key_eq}
use Rattle.sem_key.specs.Capability.{Capability}
use Rattle.sem_msg.specs.declared.entry.Entry.{Entry}
use Rattle.sem_msg.specs.declared.message.Message.{Message}
use Rattle.sem_msg.specs.declared.message.Message.TheVariants.{ObtainOk, Ack, Orphan, RevokeReq, Unlink}
use Rattle.sem_msg.specs.Setup.{Setup, IsSetup}
use Rattle.sem_msg.specs.Lookups.{owner_of}
use Rattle.sem_machine.specs.Sides.{no_side, cap, parked, outbox}
use Rattle.sem_machine.specs.Machine.{World, side, link}
use Rattle.sem_machine.specs.Living.{fetched_from, way, InFlight, HoldsCap, IsLive}
use Rattle.sem_machine.specs.Schedules.{IsSchedule, world_after}
use Rattle.sem_machine.specs.Journals.{grants}
use Rattle.sem_key.proofs.KeyTests.{key_eq-same, Contains-from_has_key}
use Rattle.sem_machine.proofs.Weighing.{weigh-among}
use Rattle.sem_safety.proofs.HeldOnce.{weigh-at}
use Rattle.sem_safety.proofs.Lives.{at_key, at_message, at_messages, at_parked, at_side}
use Rattle.sem_safety.proofs.LiveWorlds.{at_world}
use Rattle.sem_revoke.specs.Views.{Alive}
use Rattle.sem_revoke.specs.Scales.{Scale, of_world, noticing, requesting}
use Rattle.sem_revoke.proofs.Keeping.{not-gone}
use Rattle.sem_revoke.proofs.Viewing.{on_its_way, one-true}
use Rattle.sem_revoke.proofs.Worlds.{whole}
use Rattle.sem_revoke.proofs.Events.{Par, Made, one-parent, Holds}
use Rattle.sem_revoke.proofs.Readying.{schedule-homes}
use Rattle.sem_revoke.proofs.Ordering.{late, late-rest, way-gifts, inbox-part, outs-part, link-part, fetched-le}
use Rattle.sem_revoke.proofs.Arriving.{schedule-revokes}
use Rattle.sem_safety.proofs.OneLife.{all-grown}

some-cap : (o : Option Capability) → IsSome o → (x : Capability) × (o ≡ Some x)
some-cap None some = absurd cc
some-cap (Some x) some = (x, refl)

-- a gift in flight is on its way
flight-coming : (k : KeyName) (W : World) (m : Message) → InFlight W m → at_message k m ≡ 1 → 1 ≤ at_world k on_its_way W
flight-coming k W m (a, b, among) one = elim (cases_eq (at_world k on_its_way W) 0) [
  | inl none ↦ let zero' = way-gifts k W a b none in let weighs = weigh-among (at_message k) (way W a b) m among in absurd (omega (arith, zero', weighs, one))
  | inr some ↦ omega (arith, some)
]

-- what is live is alive
pub live-alive : (T : Setup) (valid : IsSetup T) (J : List Entry) → IsSchedule T J → (G : KeyName → KeyName → Type 0) (M : KeyName → Type 0) (k : KeyName) →
    IsLive (world_after T J) k → Alive (owner_of T) G M (whole T (world_after T J)) k
live-alive T valid J runs G M k (inl (i, some)) =
    let c = some-cap (cap (side (world_after T J) i) k) some in
    let home = schedule-homes T valid J runs i k c.0 c.1 in
    inl (c.0, ap (λ a. cap (side (world_after T J) a) k) home ∙ c.1)
live-alive T valid J runs G M k (inr (inl granted)) =
    inr (flight-coming k (world_after T J) (ObtainOk granted.parent k granted.object) granted.arriving (cond-true (key_eq k k) 1 0 (key_eq-same k)))
live-alive T valid J runs G M k (inr (inr (inl flight))) =
    inr (flight-coming k (world_after T J) (Ack k true) flight (cond-true (key_eq k k) 1 0 (key_eq-same k)))
live-alive T valid J runs G M k (inr (inr (inr ready))) =
    let W : World = world_after T J in
    let calls = weigh-at (at_parked k) None refl (side W ready.kernel).parks ready.vpe in
    let weight : at_parked k (parked (side W ready.kernel) ready.vpe) ≡ 1 = ap (at_parked k) ready.ready ∙ cond-true (key_eq k k) 1 0 (key_eq-same k) in
    let sides = weigh-at (at_side k on_its_way) no_side refl W.sides ready.kernel in
    inr (omega (arith, calls, weight, sides))

module _ (T : Setup) (valid : IsSetup T) (J : List Entry) (runs : IsSchedule T J) where
  abbrev W : World
  W = world_after T J

  pub holds : Holds T (grants J) W
  holds = (schedule-revokes T valid J runs).0

  -- the parent of a live key is held and leads to it
  pub all-linked : (p k : KeyName) → IsLive W k → Contains (grants J) (p, k) → (c : Capability) × HoldsCap W (owner_of T p) p c × Contains c.children k
  all-linked p k live granted =
      let leads = holds.linked p k granted (live-alive T valid J runs (Par (grants J)) (Made T (grants J)) k live) in
      (leads.0, leads.1, Contains-from_has_key leads.0.children k leads.2)

  -- a message on a way weighs in the world
  pub way-weighs : (S : Scale) (a b : ℕ) (m : Message) → Contains (way W a b) m → S.message a b m ≤ of_world S W + (of_world S W + of_world S W)
  way-weighs S a b m among =
      let weighs = weigh-among (S.message a b) (way W a b) m among in
      let one = sum_by-append (S.message a b) (fetched_from a (side W b).inbox ++ link W a b) (outbox (side W a) b) in
      let two = sum_by-append (S.message a b) (fetched_from a (side W b).inbox) (link W a b) in
      let inbox = inbox-part S W b in
      let fetched = fetched-le S a b (side W b).inbox in
      let linked = link-part S W a b in
      let out = outs-part S W a b in
      omega (arith, weighs, one, two, inbox, fetched, linked, out)

  -- what a notice names is dead
  noticed-dead : (k : KeyName) (m : Message) → ((a b : ℕ) → (noticing k).message a b m ≡ 1) → InFlight W m → IsLive W k → ⊥
  noticed-dead k m one (a, b, among) live =
      let weighs = way-weighs (noticing k) a b m among in
      let is = one a b in
      let gone = (holds.noticed k (omega (arith, weighs, is))).0 in
      not-gone (owner_of T) (Par (grants J)) (one-parent T (grants J) (all-grown T valid J runs)) (Made T (grants J)) (whole T W) k gone
      (live-alive T valid J runs (Par (grants J)) (Made T (grants J)) k live)

  pub orphans-dead : (p k : KeyName) → InFlight W (Orphan p k) → IsLive W k → ⊥
  orphans-dead p k flight live = noticed-dead k (Orphan p k) (λ a b. one-true (key_eq k k) (key_eq-same k)) flight live

  pub unlinked-dead : (p k : KeyName) → InFlight W (Unlink p k) → IsLive W k → ⊥
  unlinked-dead p k flight live = noticed-dead k (Unlink p k) (λ a b. one-true (key_eq k k) (key_eq-same k)) flight live

  -- what is asked for is below a mark of the job that asks
  pub asked-below : (k : KeyName) (a b j : ℕ) → Contains (way W a b) (RevokeReq k j) → (p : KeyName) (c : Capability) → Contains (grants J) (p, k) →
      HoldsCap W (owner_of T p) p c → (owner_of T p ≡ a) × (c.mark ≡ Some j)
  asked-below k a b j among p c granted held =
      let weighs = way-weighs (requesting k a j) a b (RevokeReq k j) among in
      let one = one-true ((key_eq k k) && ((a == a) && (j == j)))
      (and_from (key_eq k k) ((a == a) && (j == j)) (key_eq-same k) (and_from (a == a) (j == j) (eq-eqb a a refl) (eq-eqb j j refl))) in
      let u = holds.asking k a j (omega (arith, weighs, one)) in
      let same : u.0 ≡ p = one-parent T (grants J) (all-grown T valid J runs) u.0 p k u.1 granted in
      let cap' : u.3.0 ≡ c = same_Some u.3.0 c (sym u.3.1 ∙ (ap (λ q. cap (side W (owner_of T q)) q) same ∙ held)) in
      (ap (owner_of T) (sym same) ∙ u.2, ap (λ (x : Capability). x.mark) (sym cap') ∙ u.3.2)

  -- a gift never stands behind a request for its key
  late-apart : (k : KeyName) (before after : List Message) (j : ℕ) → late k (before ++ RevokeReq k j ∷ after) ≡ 0 → at_messages k after ≡ 0
  late-apart k [] after j none = sym (cond-true (key_eq k k) (at_messages k after) (late k after) (key_eq-same k)) ∙ none
  late-apart k (m ∷ before) after j none = late-apart k before after j (late-rest k m (before ++ RevokeReq k j ∷ after) none)

  pub first-capability : (k : KeyName) (a b j : ℕ) (before after : List Message) → way W a b ≡ before ++ RevokeReq k j ∷ after →
      ((p : KeyName) (o : Object) → Contains after (ObtainOk p k o) → ⊥) × (Contains after (Ack k true) → ⊥)
  first-capability k a b j before after parts =
      let none = late-apart k before after j (ap (late k) (sym parts) ∙ (schedule-revokes T valid J runs).1.order k a b) in
      let one : at_key k k ≡ 1 = cond-true (key_eq k k) 1 0 (key_eq-same k) in (
        λ p o among. let weighs = weigh-among (at_message k) after (ObtainOk p k o) among in
            omega (arith, none, weighs, one),
        λ among. let weighs = weigh-among (at_message k) after (Ack k true) among in omega (arith, none, weighs, one),
      )
