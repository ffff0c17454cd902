-- Only for private functions: what the top call leaves in memory.
use Rattle.std.specs.Prelude.{◌≡◌, ◌≢◌, ◌⊎◌, ℕ, List, [], Option, Some}
use Rattle.sem_machine.specs.Prelude.{Entry}
use Rattle.sem_cli.specs.declared.forms.Command.{Command}
use Rattle.sem_cli.specs.declared.statuses.Status.{Status}
use Rattle.sem_cli.specs.declared.statuses.Status.TheVariants.{WriteFault, Memory}
use Rattle.sem_run.specs.Inputs.{Given}
use Rattle.sem_run.specs.Ends.{Output}
use Rattle.sem_run.specs.Serves.{Serves}

-- an input in memory that never fails
abbrev pub from_memory : Option Command → List ℕ → Option (List ℕ) → Given
from_memory asked input rest = record {
  asked = asked;
  before = Some input;
  after = rest;
  faults_before = 0;
  faults_after = 0;
}

-- an output in memory with these written bytes
abbrev pub to_memory : Status → List Entry → List ℕ → ℕ → Output
to_memory status journal text faults = record {
  status = status;
  journal = journal;
  before = Some [];
  after = Some text;
  faults_before = 0;
  faults_after = faults;
}

-- The program serves the words with that status and text, and no write failed.
pub record ServesWords
    (asked : Option Command) (input : List ℕ)
    (status : Status) (text : List ℕ) : Type 0 where
  pub rest : Option (List ℕ)
  pub journal : List Entry
  pub faults : ℕ
  pub whole : status ≢ WriteFault
  pub serves : Serves (from_memory asked input rest) (to_memory status journal text faults)

-- the program serves so, or memory was refused and there is no text
abbrev pub IsServedOrLacks : Option Command → List ℕ → Status → List ℕ → Type 0
IsServedOrLacks asked input status text =
    ServesWords asked input status text ⊎ ((status ≡ Memory) × (text ≡ []))
