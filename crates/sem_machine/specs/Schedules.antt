-- Schedules: which journals the machine can make, and the runs of one kernel alone ("Schedules" in
-- docs/machine.md).
use Rattle.std.specs.Prelude.{◌≡◌, ℕ, true, List, [], ◌∷◌, fold, Option, Some, None}
use Rattle.sem_msg.specs.declared.message.Message.{Message}
use Rattle.sem_msg.specs.declared.event.Act.{Act}
use Rattle.sem_msg.specs.declared.event.Act.TheVariants.{Fetch}
use Rattle.sem_msg.specs.declared.entry.Detail.{Detail}
use Rattle.sem_msg.specs.declared.entry.Detail.TheVariants.{Carried}
use Rattle.sem_msg.specs.declared.entry.Entry.{Entry}
use Rattle.sem_msg.specs.Setup.{Setup, IsSetup}
use Rattle.sem_machine.specs.Sides.{Side}
use Rattle.sem_machine.specs.Machine.{World, start, start_side, after, entry_of, is_enabled, is_locally_enabled}
use Rattle.sem_machine.specs.Machine.{local_step, local_entry}

-- from the world W on, each event is enabled in its turn and makes the entry that stands there
unfoldable pub IsRun : Setup → World → List Entry → Type 0
IsRun T W [] = Unit {0}
IsRun T W (e ∷ es) = (is_enabled T W e.event ≡ true) × (e ≡ entry_of T W e.event) × IsRun T (after T W e.event) es

-- a journal that the machine can make from the start
abbrev pub IsSchedule : Setup → List Entry → Type 0
IsSchedule T J = IsRun T (start T) J

-- the statement holds of every setup and each of its schedules
abbrev pub Always : (Setup → List Entry → Type 0) → Type 0
Always P = (T : Setup) → IsSetup T → (J : List Entry) → IsSchedule T J → P T J

-- the world after the events of the entries
abbrev pub run : Setup → World → List Entry → World
run T W J = fold (λ V e. after T V e.event) W J

-- the world after a journal
abbrev pub world_after : Setup → List Entry → World
world_after T J = run T (start T) J

-- Runs of one kernel.

-- the message that an entry brings to a kernel: the one that a fetch carries
abbrev pub carried_in : Act → Detail → Option Message
carried_in (Fetch from) (Carried peer message) = Some message
carried_in act detail = None

-- the side of kernel i after the acts of the entries; each fetch takes in the message of its entry
abbrev pub local_run_from : Setup → ℕ → Side → List Entry → Side
local_run_from T i s L = fold (λ t e. (local_step T i t e.event.act (carried_in e.event.act e.detail)).side) s L

abbrev pub local_run : Setup → ℕ → List Entry → Side
local_run T i L = local_run_from T i (start_side T i) L

-- a fetch carries a message
abbrev pub BringsMessage : Act → Option Message → Type 0
BringsMessage (Fetch from) None = ⊥
BringsMessage act input = Unit {0}

-- from the side s on, each act is locally enabled in its turn and makes the entry that stands there
unfoldable pub IsLocalRunFrom : Setup → ℕ → Side → List Entry → Type 0
IsLocalRunFrom T i s [] = Unit {0}
IsLocalRunFrom T i s (e ∷ es) =
    (is_locally_enabled T i s e.event.act ≡ true)
    × BringsMessage e.event.act (carried_in e.event.act e.detail)
    × (e ≡ local_entry T i s e.event.act (carried_in e.event.act e.detail))
    × IsLocalRunFrom T i (local_step T i s e.event.act (carried_in e.event.act e.detail)).side es

-- the entries are a run of kernel i alone, from its start
abbrev pub IsLocalRun : Setup → ℕ → List Entry → Type 0
IsLocalRun T i L = IsLocalRunFrom T i (start_side T i) L
