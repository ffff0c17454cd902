-- A live key has an object: what an Ack brings is pending.
use Rattle.std.proofs.Common.{◌≡◌, ℕ, ◌≤◌, true, List, Option, Some, None, IsSome, refl, inl, inr, arith}
use Rattle.std.specs.List.{Contains}
use Rattle.std.proofs.lemmas.Bool.{cond-true}
use Rattle.sem_key.specs.declared.object.Object.{Object}
use Rattle.sem_key.specs.KeyName.{KeyName, key_eq}
use Rattle.sem_key.specs.Capability.{Capability}
use Rattle.sem_key.proofs.KeyTests.{key_eq-same}
use Rattle.sem_msg.specs.declared.entry.Entry.{Entry}
use Rattle.sem_msg.specs.declared.message.Message.{Message}
use Rattle.sem_msg.specs.declared.message.Message.TheVariants.{Ack}
use Rattle.sem_msg.specs.Setup.{Setup, IsSetup}
use Rattle.sem_msg.specs.Lookups.{owner_of}
use Rattle.sem_machine.specs.Sides.{cap}
use Rattle.sem_machine.specs.Machine.{World, side}
use Rattle.sem_machine.specs.Schedules.{IsSchedule, world_after}
use Rattle.sem_machine.specs.Living.{way, HasObject, as_held, as_granted, as_ready, as_pending, IsLive}
use Rattle.sem_revoke.specs.Delegations.{of_key, of_message, of_inbox, of_side, of_world}
use Rattle.sem_revoke.proofs.DelegationWorlds.{each-pends}
use Rattle.sem_revoke.proofs.Flights.{flight-weighs}

-- a token in flight is among the tokens of the world
flight-counts : (k : KeyName) (W : World) (a b : ℕ) (m : Message) → Contains (way W a b) m → 1 ≤ of_message k m → 1 ≤ of_world k W
flight-counts k W = flight-weighs (of_message k) (of_inbox k) (of_side k) refl (λ x. omega arith) (λ s. omega arith) W

pub live-object : (T : Setup) → IsSetup T → (J : List Entry) → IsSchedule T J → (k : KeyName) → IsLive (world_after T J) k →
    (object : Object) × HasObject (world_after T J) k object
live-object T valid J runs k (inl held) = of_cap (cap (side (world_after T J) held.0) k) refl held.1
  where
    of_cap : (o : Option Capability) → cap (side (world_after T J) held.0) k ≡ o → IsSome (cap (side (world_after T J) held.0) k) →
        (object : Object) × HasObject (world_after T J) k object
    of_cap None none some = absurd (cc)
    of_cap (Some c) here some = (c.object, as_held held.0 c here refl)
live-object T valid J runs k (inr (inl granted)) = (granted.object, as_granted granted.parent granted.arriving)
live-object T valid J runs k (inr (inr (inl flight))) =
    let unit : of_key k k ≡ 1 = cond-true (key_eq k k) 1 0 (key_eq-same k) in
    let p = each-pends T valid J runs k (flight-counts k (world_after T J) flight.0 flight.1 (Ack k true) flight.2 (omega (arith, unit))) in
    (p.0.object, as_pending (owner_of T k) p.0 flight p.1 refl)
live-object T valid J runs k (inr (inr (inr ready))) = (ready.object, as_ready ready.kernel ready.vpe ready.selector ready.parent ready.ready)
