-- Sets of schedules that no event leads out of.
use Rattle.std.specs.Prelude.{◌≡◌, true, List, [], Contains, All}
use Rattle.sem_machine.specs.Prelude.{Entry, Event, Setup, is_enabled, IsSchedule, world_after, IsComplete}
use Rattle.sem_histories.specs.Outcomes.{HasSameParts, HasSameState, RunOutcome, outcome, and_then}

-- which journals count as one, as a relation
abbrev pub Sameness : Type 1
Sameness = List Entry → List Entry → Type 0

-- How schedules are told apart: by the parts of the kernels, or by the states that they lead to.
pub data Telling : Type 0 where
  ByParts : Telling
  ByStates : Telling

abbrev pub CountsAs : Telling → Setup → Sameness
CountsAs ByParts T = HasSameParts T
CountsAs ByStates T = HasSameState T

-- some journal of the list counts as this one
abbrev pub Represents : Sameness → List (List Entry) → List Entry → Type 0
Represents Same V J = (K : List Entry) × Contains V K × Same J K

-- The list has only schedules. The empty journal is represented, and so is each of the list with
-- one more event.
pub record IsClosed (Same : Sameness) (T : Setup) (V : List (List Entry)) : Type 0 where
  pub schedules : All (IsSchedule T) V
  pub start : Represents Same V []
  pub onward : (J : List Entry) (e : Event) → Contains V J → is_enabled T (world_after T J) e ≡ true →
      Represents Same V (and_then T J e)

-- some complete schedule of the list has the outcome
abbrev pub IsOutcomeAmong : Setup → List (List Entry) → RunOutcome → Type 0
IsOutcomeAmong T V o = (J : List Entry) × Contains V J × IsComplete T J × (outcome T J ≡ o)
