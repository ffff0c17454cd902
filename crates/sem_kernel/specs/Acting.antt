-- What a step needs of the stores of a kernel, and what it does to them.
use Rattle.std.specs.Prelude.{◌≡◌, ℕ, true, Option}
use Rattle.sem_machine.specs.Prelude.{Act, Message, Detail, Setup, local_step, is_locally_enabled}
use Rattle.sem_msg.specs.declared.entry.Outcome.{Outcome}
use Rattle.sem_machine.specs.Steps.{Step}
use Rattle.sem_machine.specs.Machine.{detail_of}
use Rattle.sem_kernel.specs.declared.stores.Stores.{Stores}
use Rattle.sem_kernel.specs.KernelStores.{side_of, AreStoresOf, AreSound}
use Rattle.sem_kernel.specs.Rooms.{IsReady}

-- the stores x of kernel i are sound, and the act is enabled there and has its room
pub record StoresCanAct (T : Setup) (i : ℕ) (act : Act) (x : Stores) : Type 0 where
  pub are : AreSound T i x
  pub enabled : is_locally_enabled T i (side_of x) act ≡ true
  pub ready : IsReady T act x

-- the act of kernel i turned the stores x into y, and its entry has this detail and outcome
pub record DoesAct (T : Setup) (i : ℕ) (x : Stores) (act : Act) (input : Option Message) (y : Stores)
    (detail : Detail) (o : Outcome) : Type 0 where
  pub step : ◌≡◌ {A = Step} (record { side = side_of y; outcome = o }) (local_step T i (side_of x) act input)
  pub detail_is : detail ≡ detail_of T (side_of x) act input o
  pub stores : AreStoresOf T i y
