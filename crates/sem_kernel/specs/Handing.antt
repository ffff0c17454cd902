-- What the private functions of this crate say of a call and of a message on the stores of a kernel.
use Rattle.std.specs.Prelude.{◌≡◌, ℕ, false}
use Rattle.sem_machine.specs.Prelude.{Message, Setup, kernel_of}
use Rattle.sem_msg.specs.declared.entry.Outcome.{Outcome}
use Rattle.sem_machine.specs.Steps.{Step, step_of}
use Rattle.sem_machine.specs.Handles.{handle_row, is_stray}
use Rattle.sem_kernel.specs.declared.stores.Stores.{Stores}
use Rattle.sem_kernel.specs.KernelStores.{side_of, AreStoresOf, AreSound}

-- the stores x of kernel i are sound, and VPE v is one of that kernel
pub record CanCall (T : Setup) (i v : ℕ) (x : Stores) : Type 0 where
  pub are : AreSound T i x
  pub here : kernel_of T v ≡ i

-- the stores y of kernel i and the outcome are those of the step
pub record HasCalled (T : Setup) (i : ℕ) (y : Stores) (o : Outcome) (step : Step) : Type 0 where
  pub row : step_of o (side_of y) ≡ step
  pub stores : AreStoresOf T i y

-- the stores x of kernel i are sound, and the message is no stray there
pub record CanHandle (T : Setup) (i : ℕ) (x : Stores) (m : Message) : Type 0 where
  pub are : AreSound T i x
  pub expected : is_stray T i (side_of x) m ≡ false

-- kernel i handled the message of kernel `from`, which turned its stores x into y
pub record HasHandled (T : Setup) (i from : ℕ) (x y : Stores) (m : Message) : Type 0 where
  pub row : side_of y ≡ handle_row T i (side_of x) from m
  pub stores : AreStoresOf T i y
