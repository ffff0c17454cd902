-- A kernel as contracts see it.
use Rattle.std.specs.Prelude.{◌≡◌, ℕ, Bool, true, List, Option, Some, None, IfSome}
use Rattle.sem_machine.specs.Prelude.{Act, Calls, Fetch, Handle, Upcall, Resume, Flush, Kill, Message, Setup, Side}
use Rattle.sem_machine.specs.Prelude.{is_locally_enabled}
use Rattle.sem_msg.specs.Message.{Fits}
use Rattle.sem_msg.specs.Fabric.{is_due}
use Rattle.sem_kernel.specs.declared.own.OwnVpe.{OwnVpe}
use Rattle.sem_kernel.specs.declared.stores.Stores.{Stores}
use Rattle.sem_kernel.specs.KernelStores.{side_of, AreSound}
use Rattle.sem_kernel.specs.Owning.{own_rows}
use Rattle.sem_kernel.specs.Rooms.{IsReady}

pub record KernelValue : Type 0 where
  pub setup : Setup
  -- its number
  pub id : ℕ
  pub side : Side
  -- the act that has its room, if one has
  pub ready : Option Act

-- whether an act comes in time: a kill waits for its number of replies
abbrev pub is_timely : Setup → ℕ → Act → Bool
is_timely T replies (Calls v) = true
is_timely T replies (Fetch from) = true
is_timely T replies Handle = true
is_timely T replies (Upcall v) = true
is_timely T replies (Resume v) = true
is_timely T replies (Flush to) = true
is_timely T replies (Kill v) = is_due T replies v

-- what an act gets: a fetch a fitting message, which it takes out of the link, and every other act
-- nothing
abbrev pub IsInput : Act → Option Message → Type 0
IsInput (Fetch from) None = ⊥
IsInput (Fetch from) (Some m) = Fits m
IsInput act None = Unit {0}
IsInput act (Some m) = ⊥

-- what always holds of a kernel: its stores are sound, a ready act has its room if it is enabled,
-- and the kernel knows its VPEs
pub record IsKernel (T : Setup) (i : ℕ) (x : Stores) (ready : Option Act) (own : List OwnVpe) : Type 0 where
  pub are : AreSound T i x
  pub room : IfSome ready (λ act. is_locally_enabled T i (side_of x) act ≡ true → IsReady T act x)
  pub known : own ≡ own_rows T i
