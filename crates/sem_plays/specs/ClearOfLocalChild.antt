-- A clear with only local children ends in its own step.
use Rattle.std.specs.Prelude.{◌≡◌, true, Some, None, List, [], ◌∷◌}
use Rattle.sem_machine.specs.Prelude.{MemKind, Mem, Derive, Clear, Calls, Resume, Event, Called, Nothing, Entry}
use Rattle.sem_machine.specs.Prelude.{Setup, event}
use Rattle.sem_plays.specs.Words.{key, grant, reply, entry, owners, root, vpe}
use Rattle.sem_plays.specs.Played.{Played, played, enabled_after}

unfoldable pub trace : Setup
trace = record {
  version = 1;
  window = 4;
  kernels = 1;
  owners = owners 1 (Some 0 ∷ []);
  vpes =
      vpe 0 0 (root 0 (Mem 0 4096 7) ∷ []) (Derive 0 1 0 1024 1 ∷ Clear 0 ∷ [])
      ∷ [];
  services = [];
  offers = [];
  denies = [];
  kills = [];
}

-- the events before the test of what is enabled
unfoldable pub first_events : List Event
first_events =
    event 0 (Calls 0)
    ∷ event 0 (Calls 0)
    ∷ []

unfoldable pub events : List Event
events =
    event 0 (Calls 0)
    ∷ event 0 (Calls 0)
    ∷ event 0 (Resume 0)
    ∷ []

unfoldable pub journal : List Entry
journal =
    entry 0 (Calls 0) (Called 0 (Derive 0 1 0 1024 1)) (grant (key 0 0 MemKind 0) (key 0 0 MemKind 1)) None
    (reply 0 0)
    ∷ entry 0 (Calls 0) (Called 1 (Clear 0)) None (Some (key 0 0 MemKind 0)) None
    ∷ entry 0 (Resume 0) Nothing None None (reply 0 0)
    ∷ []

unfoldable pub outcome : Played
outcome = record {
  entries = journal;
  all_enabled = true;
  left = [];
  made = 2;
  cut = 1;
  held = (key 0 0 MemKind 0, 0) ∷ [];
  is_forest = true;
  is_linked = true;
  is_clean = true;
}

abbrev pub clear_of_local_child : Type 0
clear_of_local_child = played trace events ≡ outcome

unfoldable pub waiting : List Event
waiting =
    event 0 (Resume 0)
    ∷ []

-- then exactly these are enabled
abbrev pub waits : Type 0
waits = enabled_after trace first_events ≡ waiting
