-- What is known of an act that a kernel can do with a fabric.
use Rattle.std.proofs.Common.{◌≡◌, ◌≢◌, ℕ, ◌<◌, true, not, Some, is_none, is_some, slice_get, sym, subst, arith}
use Rattle.std.specs.Prelude.{◌==◌, nat_lt}
use Rattle.std.proofs.lemmas.Bool.{and_parts, eqb-false, ltb-true, not-true}
use Rattle.std.proofs.lemmas.Option.{slice_get_within, get_or_from_slice_get}
use Rattle.sem_msg.specs.declared.event.Act.{Act}
use Rattle.sem_msg.specs.declared.event.Act.TheVariants.{Call as Calls, Fetch, Handle, Upcall, Resume, Flush, Kill}
use Rattle.sem_msg.specs.declared.message.Message.{Message}
use Rattle.sem_msg.specs.Message.{Fits}
use Rattle.sem_msg.specs.Setup.{Setup}
use Rattle.sem_msg.specs.Fabric.{FabricValue}
use Rattle.sem_machine.specs.Sides.{Side, outbox}
use Rattle.sem_machine.specs.Machine.{is_locally_enabled, is_other_kernel}
use Rattle.sem_kernel.specs.KernelValue.{KernelValue}
use Rattle.sem_kernel.specs.Worlds.{NamesPeer, CanAct}

-- an enabled fetch or flush names another kernel
pub enabled-peer : (T : Setup) (i : ℕ) (s : Side) (act : Act) → is_locally_enabled T i s act ≡ true → NamesPeer T.kernels i act
unfolding is_locally_enabled
enabled-peer T i s (Calls v) enabled = tt
enabled-peer T i s (Resume v) enabled = tt
enabled-peer T i s (Upcall v) enabled = tt
enabled-peer T i s Handle enabled = tt
enabled-peer T i s (Fetch j) enabled =
    let other = and_parts (nat_lt j T.kernels) (not (j == i)) (and_parts (is_other_kernel T i j) (is_none s.inbox) enabled).0 in
    (ltb-true j T.kernels other.0, eqb-false j i (not-true (j == i) other.1))
enabled-peer T i s (Flush j) enabled =
    let other = and_parts (nat_lt j T.kernels) (not (j == i)) (and_parts (is_other_kernel T i j) (is_some (slice_get (outbox s j) 0)) enabled).0 in
    (ltb-true j T.kernels other.0, eqb-false j i (not-true (j == i) other.1))
enabled-peer T i s (Kill v) enabled = tt

-- a message waits for an enabled flush
flush-waits : (T : Setup) (i : ℕ) (s : Side) (j : ℕ) → is_locally_enabled T i s (Flush j) ≡ true → is_some (slice_get (outbox s j) 0) ≡ true
unfolding is_locally_enabled
flush-waits T i s j enabled = (and_parts (is_other_kernel T i j) (is_some (slice_get (outbox s j) 0)) enabled).1

-- an act that can be done or tried names another kernel
pub able-peer : (k : KernelValue) (f : FabricValue) (act : Act) → CanAct k f act → NamesPeer f.kernels k.id act
able-peer k f act can =
    subst (λ n. NamesPeer n k.id act) (sym can.fabric.kernels) (enabled-peer k.setup k.id k.side act can.enabled)

-- its kernel is one of the fabric
pub able-below : (k : KernelValue) (f : FabricValue) (act : Act) → CanAct k f act → k.id < f.kernels
able-below k f act can = let own = can.few in let same = can.fabric.kernels in omega (arith, own, same)

module _ (k : KernelValue) (f : FabricValue) (j : ℕ) where
  -- a fetch and a flush go between kernels of the fabric
  pub fetch-peer : CanAct k f (Fetch j) → ((j < f.kernels) × (k.id < f.kernels)) × (j ≢ k.id)
  fetch-peer can = let peer = able-peer k f (Fetch j) can in ((peer.0, able-below k f (Fetch j) can), peer.1)

  pub flush-peer : CanAct k f (Flush j) → (j < k.setup.kernels) × (j ≢ k.id)
  flush-peer can = enabled-peer k.setup k.id k.side (Flush j) can.enabled

  pub flush-some : CanAct k f (Flush j) → is_some (slice_get (outbox k.side j) 0) ≡ true
  flush-some can = flush-waits k.setup k.id k.side j can.enabled

  -- what waits fits
  pub flush-fits : CanAct k f (Flush j) → (m : Message) → slice_get (outbox k.side j) 0 ≡ Some m → Fits m
  flush-fits can m at = (can.sound.outs j m (0, slice_get_within (outbox k.side j) 0 m at, get_or_from_slice_get (outbox k.side j) 0 m m at)).0
