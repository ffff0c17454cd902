-- A search for a closed set of schedules, while it is under way.
use Rattle.std.specs.Prelude.{◌≡◌, ℕ, ◌<◌, ◌≤◌, true, List, [], take, length, Contains, All, AllPairs}
use Rattle.sem_machine.specs.Prelude.{Entry, Event, Setup, is_enabled, IsSchedule, world_after}
use Rattle.sem_histories.specs.Outcomes.{and_then}
use Rattle.sem_histories.specs.Closed.{Sameness, Represents}

-- schedules of the setup; none counts as an earlier one
pub record AreApart (Same : Sameness) (T : Setup) (V : List (List Entry)) : Type 0 where
  pub schedules : All (IsSchedule T) V
  pub apart : AllPairs (λ J K. Same K J → ⊥) V

-- the setup has more than n schedules, no two of which count as one
pub record HasMoreThan (Same : Sameness) (T : Setup) (n : ℕ) : Type 0 where
  pub found : List (List Entry)
  pub apart : AreApart Same T found
  pub many : n < length found

-- The search has gone on from the first n schedules of the list by each event: the list represents
-- the results.
pub record IsSearched (Same : Sameness) (T : Setup) (V : List (List Entry)) (n : ℕ) : Type 0 where
  pub apart : AreApart Same T V
  pub start : Represents Same V []
  pub within : n ≤ length V
  pub onward : (J : List Entry) (e : Event) → Contains (take n V) J → is_enabled T (world_after T J) e ≡ true
      → Represents Same V (and_then T J e)

-- the search has gone on from the schedule by each of these events
abbrev pub HasGoneOn : Sameness → Setup → List (List Entry) → List Entry → List Event → Type 0
HasGoneOn Same T V J es = All (λ e. Represents Same V (and_then T J e)) es
