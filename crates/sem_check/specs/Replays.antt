-- Replaying journals: the entry that an event makes, the world after a schedule, the first entry
-- that differs, the longest schedule ("Checks" in docs/machine.md).
use Rattle.std.specs.Prelude.{◌≡◌, ◌≢◌, ℕ, ◌≤◌, List, length, take, slice_get, Option, Some, None, if◌then◌else◌}
use Rattle.std.specs.Option.{option_map}
use Rattle.sem_machine.specs.Prelude.{Event, Entry, Setup, World, enabled, is_enabled, entry_of, IsSchedule}
use Rattle.sem_machine.specs.Prelude.{world_after}
use Rattle.sem_kernel.specs.Worlds.{WorldValue, stepped_value}

-- the entry that an event makes, if it is enabled
abbrev pub entry_made : Setup → World → Event → Option Entry
entry_made T W e = if is_enabled T W e then Some (entry_of T W e) else None

-- the entry that the first of the enabled events makes, if one is enabled
abbrev pub next_made : Setup → World → Option Entry
next_made T W = option_map (entry_of T W) (slice_get (enabled T W) 0)

-- the world after the journal, with its setup
abbrev pub world_value : Setup → List Entry → WorldValue
world_value T J = record { setup = T; world = world_after T J }

-- the entry is the one that its event makes, and this is the world after it
pub record IsStep (w : WorldValue) (e : Entry) (v : WorldValue) : Type 0 where
  pub made : entry_made w.setup w.world e.event ≡ Some e
  pub world : v ≡ stepped_value w e.event

-- the event of the entry makes another one, or is not enabled
pub record IsOther (w : WorldValue) (e : Entry) (replayed : Option Entry) : Type 0 where
  pub made : replayed ≡ entry_made w.setup w.world e.event
  pub other : replayed ≢ Some e

-- the journal is a schedule, and this is the world after it
pub record IsWorldAfter (T : Setup) (J : List Entry) (w : WorldValue) : Type 0 where
  pub schedule : IsSchedule T J
  pub world : w ≡ world_value T J

-- Entry n, counted from 0, is the first that its event does not make. The entries before it are a
-- schedule; after them its event makes another entry, or is not enabled.
pub record DiffersAt (T : Setup) (J : List Entry) (n : ℕ) (entered : Entry) (replayed : Option Entry) : Type 0 where
  pub there : slice_get J n ≡ Some entered
  pub before : IsSchedule T (take n J)
  pub made : replayed ≡ entry_made T (world_after T (take n J)) entered.event
  pub other : replayed ≢ Some entered

-- the first n entries are a schedule, and no more of them are
pub record IsLongestSchedule (T : Setup) (J : List Entry) (n : ℕ) : Type 0 where
  pub within : n ≤ length J
  pub schedule : IsSchedule T (take n J)
  pub longest : (m : ℕ) → m ≤ length J → IsSchedule T (take m J) → m ≤ n

-- P is the longest prefix of the journal that is a schedule
pub record IsLongestPrefix (T : Setup) (J P : List Entry) : Type 0 where
  pub count : ℕ
  pub longest : IsLongestSchedule T J count
  pub prefix : P ≡ take count J
