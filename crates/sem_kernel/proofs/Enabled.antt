-- What is known of an act that is enabled.
use Rattle.std.proofs.Common.{◌≡◌, ℕ, ◌<◌, ◌&&◌, true, not, is_none, is_some, slice_get, subst}
use Rattle.std.specs.Prelude.{◌==◌, nat_lt}
use Rattle.std.proofs.lemmas.Bool.{and_parts, eqb-true, ltb-true}
use Rattle.sem_msg.specs.declared.event.Act.{Act}
use Rattle.sem_msg.specs.declared.event.Act.TheVariants.{Call as Calls, Handle, Upcall, Resume, Flush, Kill}
use Rattle.sem_msg.specs.Setup.{Setup}
use Rattle.sem_msg.specs.Lookups.{kernel_of}
use Rattle.sem_machine.specs.Sides.{Side, row, parked, is_alive, outbox}
use Rattle.sem_machine.specs.Resumes.{can_resume}
use Rattle.sem_machine.specs.Machine.{next_call, is_locally_enabled, is_other_kernel}
use Rattle.sem_kernel.specs.declared.stores.Stores.{Stores}
use Rattle.sem_kernel.specs.KernelStores.{side_of, AreSound}
use Rattle.sem_kernel.specs.Rooms.{IsReady}
use Rattle.sem_kernel.specs.Acting.{StoresCanAct}

module _ (T : Setup) (i : ℕ) (s : Side) (v : ℕ) where
  -- the VPE is one of the kernel
  pub call-here : is_locally_enabled T i s (Calls v) ≡ true → kernel_of T v ≡ i
  unfolding is_locally_enabled
  call-here enabled = eqb-true (kernel_of T v) i (and_parts (kernel_of T v == i) _ enabled).0

  pub upcall-here : is_locally_enabled T i s (Upcall v) ≡ true → kernel_of T v ≡ i
  unfolding is_locally_enabled
  upcall-here enabled = eqb-true (kernel_of T v) i (and_parts (kernel_of T v == i) _ enabled).0

  pub resume-here : is_locally_enabled T i s (Resume v) ≡ true → kernel_of T v ≡ i
  unfolding is_locally_enabled
  resume-here enabled = eqb-true (kernel_of T v) i (and_parts (kernel_of T v == i) _ enabled).0

  pub kill-here : is_locally_enabled T i s (Kill v) ≡ true → kernel_of T v ≡ i
  unfolding is_locally_enabled
  kill-here enabled = eqb-true (kernel_of T v) i (and_parts (kernel_of T v == i) _ enabled).0

  -- its call is not parked, and it has a next one
  pub call-idle : is_locally_enabled T i s (Calls v) ≡ true → (is_none (parked s v) ≡ true) × (is_some (next_call T s v) ≡ true)
  unfolding is_locally_enabled
  call-idle enabled =
      let one = and_parts (kernel_of T v == i) (is_alive s v && (is_none (parked s v) && is_some (next_call T s v))) enabled in
      let two = and_parts (is_alive s v) (is_none (parked s v) && is_some (next_call T s v)) one.1 in
      and_parts (is_none (parked s v)) (is_some (next_call T s v)) two.1

  -- it is asked
  pub upcall-asked : is_locally_enabled T i s (Upcall v) ≡ true → is_some (slice_get (row s v).asks 0) ≡ true
  unfolding is_locally_enabled
  upcall-asked enabled =
      (and_parts (is_alive s v) (is_some (slice_get (row s v).asks 0))
      (and_parts (kernel_of T v == i) (is_alive s v && is_some (slice_get (row s v).asks 0)) enabled).1).1

  -- its waiting call can go on
  pub resume-can : is_locally_enabled T i s (Resume v) ≡ true → can_resume (parked s v) ≡ true
  unfolding is_locally_enabled
  resume-can enabled = (and_parts (kernel_of T v == i) (can_resume (parked s v)) enabled).1

-- a message is handled where there is one
pub handle-some : (T : Setup) (i : ℕ) (s : Side) → is_locally_enabled T i s Handle ≡ true → is_some s.inbox ≡ true
unfolding is_locally_enabled
handle-some T i s enabled = enabled

-- a flush goes to a kernel of the setup
pub flush-to : (T : Setup) (i : ℕ) (s : Side) (to : ℕ) → is_locally_enabled T i s (Flush to) ≡ true → to < T.kernels
unfolding is_locally_enabled
flush-to T i s to enabled =
    ltb-true to T.kernels
    (and_parts (nat_lt to T.kernels) (not (to == i)) (and_parts (is_other_kernel T i to) (is_some (slice_get (outbox s to) 0)) enabled).0).0

-- an act that is enabled and has its room can be done, also under another name of it
pub can-act : (T : Setup) (i : ℕ) (x : Stores) (act other : Act) → act ≡ other → AreSound T i x → is_locally_enabled T i (side_of x) act ≡ true →
    IsReady T act x → StoresCanAct T i other x
can-act T i x act other same are enabled ready = record {
  are = are;
  enabled = subst (λ (a : Act). is_locally_enabled T i (side_of x) a ≡ true) same enabled;
  ready = subst (λ (a : Act). IsReady T a x) same ready;
}
