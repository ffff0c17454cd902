-- Why a journal is no complete schedule, and how that is told ("Checks" in docs/machine.md).
use Rattle.std.specs.Prelude.{◌≡◌, ℕ, List, length, Option, Some, Result, IsErrOf}
use Rattle.sem_machine.specs.Prelude.{Entry, Setup, IsSchedule, world_after}
use Rattle.sem_check.specs.Replays.{next_made, DiffersAt}
use Rattle.sem_check.specs.declared.faults.CheckError.{CheckError}
use Rattle.sem_check.specs.declared.faults.CheckError.TheVariants.{Differs, Incomplete}

-- the journal is a schedule of n entries, an event is enabled after it, and the first of the
-- enabled events makes that entry
pub record GoesOn (T : Setup) (J : List Entry) (n : ℕ) (next : Entry) : Type 0 where
  pub schedule : IsSchedule T J
  pub counted : n ≡ length J
  pub next_entry : next_made T (world_after T J) ≡ Some next

-- an error of the kind `Differs` tells the first entry that differs
abbrev pub TellsDifference : {X : Type 0} → Setup → List Entry → Result X CheckError → Type 0
TellsDifference T J r = (n : ℕ) (entered : Entry) (replayed : Option Entry) → IsErrOf r (Differs n entered replayed) →
    DiffersAt T J n entered replayed

-- an error of the kind `Incomplete` tells how the schedule goes on
abbrev pub TellsNext : {X : Type 0} → Setup → List Entry → Result X CheckError → Type 0
TellsNext T J r = (n : ℕ) (next : Entry) → IsErrOf r (Incomplete n next) → GoesOn T J n next
