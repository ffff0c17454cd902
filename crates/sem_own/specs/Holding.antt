-- What the calls need from the stores.
use Rattle.std.specs.Prelude.{◌≡◌, ℕ, ◌<◌, true, Some}
use Rattle.sem_machine.specs.Prelude.{Setup, Slot, Free, Held, Promised}
use Rattle.sem_msg.specs.Lookups.{is_declared}
use Rattle.sem_msg.specs.VpeRows.{slot}
use Rattle.sem_caps.specs.CapStore.{CapStore, held_key}
use Rattle.sem_vpe.specs.VpeTable.{VpeTable, IsOurs}
use Rattle.sem_machine.specs.Stores.{IsNextFree}

-- there is room for one more child of the capability in the slot
abbrev pub HasRoomForChild : CapStore → Slot → Type 0
HasRoomForChild caps Free = Unit {0}
HasRoomForChild caps (Held k) = caps.child_room ≡ held_key caps.caps (Some k)
HasRoomForChild caps Promised = Unit {0}

-- what VPE v holds at the selector can get a child of VPE v: v is declared and its kernel's, no
-- capability has the number that it draws next, and there is room for the child and for the link
pub record CanHaveChild (T : Setup) (v sel : ℕ) (caps : CapStore) (vpes : VpeTable) : Type 0 where
  pub declared : is_declared T v ≡ true
  pub ours : IsOurs vpes v
  pub free : IsNextFree T caps.caps vpes.rows v
  pub child_room : HasRoomForChild caps (slot vpes.rows v sel)
  pub spare : 0 < caps.spare
