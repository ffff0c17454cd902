-- Each link and each direction has its own window.
use Rattle.std.specs.Prelude.{◌≡◌, true, Some, None, List, [], ◌∷◌}
use Rattle.sem_machine.specs.Prelude.{MemKind, Mem, SelTarget, ObtainReq, ObtainOk, Obtain, Calls, Fetch, Handle}
use Rattle.sem_machine.specs.Prelude.{Upcall, Resume, Flush, Event, Yes, Called, Carried, Asked, Nothing, Entry}
use Rattle.sem_machine.specs.Prelude.{Setup, event}
use Rattle.sem_plays.specs.Words.{key, place, grant, reply, entry, owners, root, vpe}
use Rattle.sem_plays.specs.Played.{Played, played, enabled_after}

unfoldable pub trace : Setup
trace = record {
  version = 2;
  window = 1;
  kernels = 3;
  owners = owners 3 (Some 0 ∷ Some 1 ∷ Some 1 ∷ Some 2 ∷ []);
  vpes =
      vpe 0 0 (root 0 (Mem 0 4096 7) ∷ []) (Obtain 1 1 0 ∷ [])
      ∷ vpe 1 1 (root 0 (Mem 0 1 1) ∷ []) (Obtain 1 0 0 ∷ [])
      ∷ vpe 2 2 [] (Obtain 1 3 0 ∷ [])
      ∷ vpe 3 3 (root 0 (Mem 0 1 1) ∷ []) []
      ∷ [];
  services = [];
  offers = [];
  denies = [];
  kills = [];
}

-- the events before the test of what is enabled
unfoldable pub first_events : List Event
first_events =
    event 0 (Calls 0)
    ∷ event 1 (Calls 1)
    ∷ event 1 (Calls 2)
    ∷ event 0 (Flush 1)
    ∷ event 1 (Flush 0)
    ∷ event 1 (Flush 2)
    ∷ []

unfoldable pub events : List Event
events =
    event 0 (Calls 0)
    ∷ event 1 (Calls 1)
    ∷ event 1 (Calls 2)
    ∷ event 0 (Flush 1)
    ∷ event 1 (Flush 0)
    ∷ event 1 (Flush 2)
    ∷ event 0 (Fetch 1)
    ∷ event 0 Handle
    ∷ event 0 (Upcall 0)
    ∷ event 1 (Fetch 0)
    ∷ event 0 (Flush 1)
    ∷ event 1 Handle
    ∷ event 1 (Upcall 1)
    ∷ event 1 (Fetch 0)
    ∷ event 1 Handle
    ∷ event 1 (Resume 1)
    ∷ event 1 (Flush 0)
    ∷ event 0 (Fetch 1)
    ∷ event 0 Handle
    ∷ event 0 (Resume 0)
    ∷ event 2 (Fetch 1)
    ∷ event 2 Handle
    ∷ event 2 (Upcall 3)
    ∷ event 2 (Flush 1)
    ∷ event 1 (Fetch 2)
    ∷ event 1 Handle
    ∷ event 1 (Resume 2)
    ∷ []

unfoldable pub journal : List Entry
journal =
    entry 0 (Calls 0) (Called 0 (Obtain 1 1 0)) None None None
    ∷ entry 1 (Calls 1) (Called 0 (Obtain 1 0 0)) None None None
    ∷ entry 1 (Calls 2) (Called 0 (Obtain 1 3 0)) None None None
    ∷ entry 0 (Flush 1) (Carried 1 (ObtainReq (place 0 0 1) (SelTarget 1 0))) None None None
    ∷ entry 1 (Flush 0) (Carried 0 (ObtainReq (place 1 1 1) (SelTarget 0 0))) None None None
    ∷ entry 1 (Flush 2) (Carried 2 (ObtainReq (place 2 2 0) (SelTarget 3 0))) None None None
    ∷ entry 0 (Fetch 1) (Carried 1 (ObtainReq (place 1 1 1) (SelTarget 0 0))) None None None
    ∷ entry 0 Handle (Carried 1 (ObtainReq (place 1 1 1) (SelTarget 0 0))) None None None
    ∷ entry 0 (Upcall 0) (Asked 1 Yes) (grant (key 0 0 MemKind 0) (key 1 1 MemKind 1)) None None
    ∷ entry 1 (Fetch 0) (Carried 0 (ObtainReq (place 0 0 1) (SelTarget 1 0))) None None None
    ∷ entry 0 (Flush 1) (Carried 1 (ObtainOk (key 0 0 MemKind 0) (key 1 1 MemKind 1) (Mem 0 4096 7))) None None None
    ∷ entry 1 Handle (Carried 0 (ObtainReq (place 0 0 1) (SelTarget 1 0))) None None None
    ∷ entry 1 (Upcall 1) (Asked 0 Yes) (grant (key 1 1 MemKind 0) (key 0 0 MemKind 1)) None None
    ∷ entry 1 (Fetch 0) (Carried 0 (ObtainOk (key 0 0 MemKind 0) (key 1 1 MemKind 1) (Mem 0 4096 7))) None None None
    ∷ entry 1 Handle (Carried 0 (ObtainOk (key 0 0 MemKind 0) (key 1 1 MemKind 1) (Mem 0 4096 7))) None None None
    ∷ entry 1 (Resume 1) Nothing None None (reply 1 0)
    ∷ entry 1 (Flush 0) (Carried 0 (ObtainOk (key 1 1 MemKind 0) (key 0 0 MemKind 1) (Mem 0 1 1))) None None None
    ∷ entry 0 (Fetch 1) (Carried 1 (ObtainOk (key 1 1 MemKind 0) (key 0 0 MemKind 1) (Mem 0 1 1))) None None None
    ∷ entry 0 Handle (Carried 1 (ObtainOk (key 1 1 MemKind 0) (key 0 0 MemKind 1) (Mem 0 1 1))) None None None
    ∷ entry 0 (Resume 0) Nothing None None (reply 0 0)
    ∷ entry 2 (Fetch 1) (Carried 1 (ObtainReq (place 2 2 0) (SelTarget 3 0))) None None None
    ∷ entry 2 Handle (Carried 1 (ObtainReq (place 2 2 0) (SelTarget 3 0))) None None None
    ∷ entry 2 (Upcall 3) (Asked 2 Yes) (grant (key 3 3 MemKind 0) (key 2 2 MemKind 0)) None None
    ∷ entry 2 (Flush 1) (Carried 1 (ObtainOk (key 3 3 MemKind 0) (key 2 2 MemKind 0) (Mem 0 1 1))) None None None
    ∷ entry 1 (Fetch 2) (Carried 2 (ObtainOk (key 3 3 MemKind 0) (key 2 2 MemKind 0) (Mem 0 1 1))) None None None
    ∷ entry 1 Handle (Carried 2 (ObtainOk (key 3 3 MemKind 0) (key 2 2 MemKind 0) (Mem 0 1 1))) None None None
    ∷ entry 1 (Resume 2) Nothing None None (reply 2 0)
    ∷ []

unfoldable pub outcome : Played
outcome = record {
  entries = journal;
  all_enabled = true;
  left = [];
  made = 6;
  cut = 0;
  held = (key 0 0 MemKind 0, 0) ∷ (key 0 0 MemKind 1, 1) ∷ (key 1 1 MemKind 0, 0) ∷ (key 1 1 MemKind 1, 1)
      ∷ (key 2 2 MemKind 0, 1) ∷ (key 3 3 MemKind 0, 0) ∷ [];
  is_forest = true;
  is_linked = true;
  is_clean = true;
}

abbrev pub window_of_each_link : Type 0
window_of_each_link = played trace events ≡ outcome

unfoldable pub waiting : List Event
waiting =
    event 0 (Fetch 1)
    ∷ event 1 (Fetch 0)
    ∷ event 2 (Fetch 1)
    ∷ []

-- then exactly these are enabled
abbrev pub waits : Type 0
waits = enabled_after trace first_events ≡ waiting
