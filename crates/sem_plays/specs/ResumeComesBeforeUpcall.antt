-- For one VPE the resume is listed before the upcall.
use Rattle.std.specs.Prelude.{◌≡◌, true, Some, None, List, [], ◌∷◌}
use Rattle.sem_machine.specs.Prelude.{MemKind, Mem, Obtain, Revoke, Calls, Upcall, Resume, Event, Yes, Called, Asked}
use Rattle.sem_machine.specs.Prelude.{Nothing, Entry, Setup, event}
use Rattle.sem_plays.specs.Words.{key, reply, entry, owners, root, vpe}
use Rattle.sem_plays.specs.Played.{Played, played, enabled_after}

unfoldable pub trace : Setup
trace = record {
  version = 1;
  window = 4;
  kernels = 1;
  owners = owners 1 (Some 0 ∷ Some 0 ∷ []);
  vpes =
      vpe 0 0 (root 0 (Mem 0 4096 7) ∷ []) (Revoke 0 ∷ [])
      ∷ vpe 1 1 [] (Obtain 1 0 0 ∷ [])
      ∷ [];
  services = [];
  offers = [];
  denies = [];
  kills = [];
}

-- the events before the test of what is enabled
unfoldable pub first_events : List Event
first_events =
    event 0 (Calls 1)
    ∷ event 0 (Calls 0)
    ∷ []

unfoldable pub events : List Event
events =
    event 0 (Calls 1)
    ∷ event 0 (Calls 0)
    ∷ event 0 (Resume 0)
    ∷ event 0 (Upcall 0)
    ∷ event 0 (Resume 1)
    ∷ []

unfoldable pub journal : List Entry
journal =
    entry 0 (Calls 1) (Called 0 (Obtain 1 0 0)) None None None
    ∷ entry 0 (Calls 0) (Called 0 (Revoke 0)) None (Some (key 0 0 MemKind 0)) None
    ∷ entry 0 (Resume 0) Nothing None None (reply 0 0)
    ∷ entry 0 (Upcall 0) (Asked 1 Yes) None None None
    ∷ entry 0 (Resume 1) Nothing None None (reply 1 3)
    ∷ []

unfoldable pub outcome : Played
outcome = record {
  entries = journal;
  all_enabled = true;
  left = [];
  made = 1;
  cut = 1;
  held = [];
  is_forest = true;
  is_linked = true;
  is_clean = true;
}

abbrev pub resume_comes_before_upcall : Type 0
resume_comes_before_upcall = played trace events ≡ outcome

unfoldable pub waiting : List Event
waiting =
    event 0 (Resume 0)
    ∷ event 0 (Upcall 0)
    ∷ []

-- then exactly these are enabled
abbrev pub waits : Type 0
waits = enabled_after trace first_events ≡ waiting
