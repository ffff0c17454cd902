-- What a law holds for, if not every schedule of every setup.
use Rattle.std.specs.Prelude.{◌≡◌, List}
use Rattle.sem_machine.specs.Prelude.{Entry, Setup, IsSetup, IsSchedule}

-- for every journal, whether or not it is a schedule
abbrev pub ForEveryJournal : (Setup → List Entry → Type 0) → Type 0
ForEveryJournal P = (T : Setup) (J : List Entry) → P T J

-- for every schedule, whatever is declared
abbrev pub ForEverySchedule : (Setup → List Entry → Type 0) → Type 0
ForEverySchedule P = ForEveryJournal (λ T J. IsSchedule T J → P T J)

-- for every setup of version 1
abbrev pub ForEveryFirstVersion : (Setup → Type 0) → Type 0
ForEveryFirstVersion P = (T : Setup) → IsSetup T → T.version ≡ 1 → P T
