-- Given events, one after another.
use Rattle.std.specs.Prelude.{◌≡◌, ℕ, false, List, length, map, slice_get, Some}
use Rattle.sem_machine.specs.Prelude.{Event, Entry, Setup, is_enabled, world_after}

-- the events of a journal
abbrev pub events_of : List Entry → List Event
events_of J = map (λ e. e.event) J

-- the event at that place comes next, and is not enabled
pub record IsNotEnabledAt (T : Setup) (events : List Event) (J : List Entry) (at : ℕ) : Type 0 where
  pub next : at ≡ length J
  pub event : Event
  pub there : slice_get events at ≡ Some event
  pub disabled : is_enabled T (world_after T J) event ≡ false
