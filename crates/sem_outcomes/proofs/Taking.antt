-- The message that an enabled event takes in.
use Rattle.std.proofs.Common.{◌≡◌, ℕ, ◌<◌, ◌&&◌, true, List, slice_get, Option, refl, sym, ◌∙◌, ap}
use Rattle.std.specs.Prelude.{nat_lt}
use Rattle.std.proofs.lemmas.Bool.{and_parts, ltb-true}
use Rattle.sem_msg.specs.declared.message.Message.{Message}
use Rattle.sem_msg.specs.declared.event.Act.{Act}
use Rattle.sem_msg.specs.declared.event.Act.TheVariants.{Call as Calls, Fetch, Handle, Upcall, Resume, Flush, Kill}
use Rattle.sem_msg.specs.declared.event.Event.{Event}
use Rattle.sem_msg.specs.declared.entry.Entry.{Entry}
use Rattle.sem_msg.specs.Setup.{Setup}
use Rattle.sem_msg.specs.Fabric.{FabricValue, link_in}
use Rattle.sem_machine.specs.Machine.{World, side, is_enabled, is_locally_enabled, is_allowed, entry_of, local_entry, input_of}
use Rattle.sem_machine.specs.Schedules.{carried_in, world_after}
use Rattle.sem_machine.proofs.Pushing.{entry_of-event}
use Rattle.sem_kernel.specs.Worlds.{taken, NamesPeer}
use Rattle.sem_kernel.proofs.Peers.{enabled-peer}
use Rattle.sem_parts.specs.Parts.{IsHanded}
use Rattle.sem_parts.proofs.LocalRuns.{entry-input}
use Rattle.sem_numbering.specs.Nodes.{IsMadeBy}
use Rattle.sem_outcomes.specs.Met.{HasLinks}

module _ (T : Setup) (W : World) (e : Event) (enabled : is_enabled T W e ≡ true) where
  pub enabled-here : e.kernel < T.kernels
  unfolding is_enabled
  enabled-here = ltb-true e.kernel T.kernels (and_parts (nat_lt e.kernel T.kernels)
      (is_locally_enabled T e.kernel (side W e.kernel) e.act && is_allowed T W e.kernel e.act) enabled).0

  both : (is_locally_enabled T e.kernel (side W e.kernel) e.act ≡ true) × (is_allowed T W e.kernel e.act ≡ true)
  unfolding is_enabled
  both = and_parts (is_locally_enabled T e.kernel (side W e.kernel) e.act) (is_allowed T W e.kernel e.act)
      (and_parts (nat_lt e.kernel T.kernels) (is_locally_enabled T e.kernel (side W e.kernel) e.act && is_allowed T W e.kernel e.act) enabled).1

  pub enabled-names : NamesPeer T.kernels e.kernel e.act
  enabled-names = enabled-peer T e.kernel (side W e.kernel) e.act both.0

  handed : (a : Act) → is_allowed T W e.kernel a ≡ true → IsHanded a (input_of W e.kernel a)
  handed (Fetch from) allowed = allowed
  handed (Calls v) allowed = refl
  handed Handle allowed = refl
  handed (Upcall v) allowed = refl
  handed (Resume v) allowed = refl
  handed (Flush to) allowed = refl
  handed (Kill v) allowed = refl

  pub made-input : carried_in (entry_of T W e).event.act (entry_of T W e).detail ≡ input_of W e.kernel e.act
  unfolding entry_of local_entry
  made-input = entry-input T e.kernel (side W e.kernel) e.act (input_of W e.kernel e.act) (handed e.act both.1)

taken-input : (f : FabricValue) (W : World) → f.links ≡ W.links → (i : ℕ) (a : Act) → taken f i a ≡ input_of W i a
taken-input f W same i (Fetch j) = ap (λ ls. slice_get (link_in ls j i) 0) same
taken-input f W same i (Calls v) = refl
taken-input f W same i Handle = refl
taken-input f W same i (Upcall v) = refl
taken-input f W same i (Resume v) = refl
taken-input f W same i (Flush to) = refl
taken-input f W same i (Kill v) = refl

pub made-by : (T : Setup) (J : List Entry) (e : Event) (f : FabricValue) → is_enabled T (world_after T J) e ≡ true → HasLinks T f J → (input : Option Message)
    → input ≡ taken f e.kernel e.act
    → IsMadeBy e input (entry_of T (world_after T J) e)
made-by T J e f enabled has input is = record {
  event = entry_of-event T (world_after T J) e;
  message = made-input T (world_after T J) e enabled ∙ sym (is ∙ taken-input f (world_after T J) has.links e.kernel e.act);
}
