-- With a window of 4 a link holds four messages, as in version 1.
use Rattle.std.specs.Prelude.{◌≡◌, true, Some, None, List, [], ◌∷◌, replicate}
use Rattle.sem_machine.specs.Prelude.{MemKind, Mem, SelTarget, ObtainReq, ObtainOk, Obtain, Calls, Fetch, Handle}
use Rattle.sem_machine.specs.Prelude.{Upcall, Resume, Flush, Event, Yes, Called, Carried, Asked, Nothing, Entry}
use Rattle.sem_machine.specs.Prelude.{Setup, event}
use Rattle.sem_plays.specs.Words.{key, place, grant, reply, entry, owners, root, vpe}
use Rattle.sem_plays.specs.Played.{Played, played, enabled_after}

unfoldable pub trace : Setup
trace = record {
  version = 2;
  window = 4;
  kernels = 2;
  owners = owners 2 (Some 0 ∷ replicate 5 (Some 1));
  vpes =
      vpe 0 0 (root 0 (Mem 0 4096 7) ∷ []) []
      ∷ vpe 1 1 [] (Obtain 1 0 0 ∷ [])
      ∷ vpe 2 2 [] (Obtain 1 0 0 ∷ [])
      ∷ vpe 3 3 [] (Obtain 1 0 0 ∷ [])
      ∷ vpe 4 4 [] (Obtain 1 0 0 ∷ [])
      ∷ vpe 5 5 [] (Obtain 1 0 0 ∷ [])
      ∷ [];
  services = [];
  offers = [];
  denies = [];
  kills = [];
}

-- the events before the test of what is enabled
unfoldable pub first_events : List Event
first_events =
    event 1 (Calls 1)
    ∷ event 1 (Calls 2)
    ∷ event 1 (Calls 3)
    ∷ event 1 (Calls 4)
    ∷ event 1 (Calls 5)
    ∷ event 1 (Flush 0)
    ∷ event 1 (Flush 0)
    ∷ event 1 (Flush 0)
    ∷ event 1 (Flush 0)
    ∷ []

unfoldable pub events : List Event
events =
    event 1 (Calls 1)
    ∷ event 1 (Calls 2)
    ∷ event 1 (Calls 3)
    ∷ event 1 (Calls 4)
    ∷ event 1 (Calls 5)
    ∷ event 1 (Flush 0)
    ∷ event 1 (Flush 0)
    ∷ event 1 (Flush 0)
    ∷ event 1 (Flush 0)
    ∷ event 0 (Fetch 1)
    ∷ event 0 Handle
    ∷ event 0 (Upcall 0)
    ∷ event 0 (Fetch 1)
    ∷ event 0 Handle
    ∷ event 0 (Upcall 0)
    ∷ event 0 (Fetch 1)
    ∷ event 0 Handle
    ∷ event 0 (Upcall 0)
    ∷ event 0 (Fetch 1)
    ∷ event 0 Handle
    ∷ event 0 (Upcall 0)
    ∷ event 0 (Flush 1)
    ∷ event 0 (Flush 1)
    ∷ event 0 (Flush 1)
    ∷ event 0 (Flush 1)
    ∷ event 1 (Fetch 0)
    ∷ event 1 Handle
    ∷ event 1 (Resume 1)
    ∷ event 1 (Fetch 0)
    ∷ event 1 Handle
    ∷ event 1 (Resume 2)
    ∷ event 1 (Fetch 0)
    ∷ event 1 Handle
    ∷ event 1 (Resume 3)
    ∷ event 1 (Fetch 0)
    ∷ event 1 Handle
    ∷ event 1 (Resume 4)
    ∷ event 1 (Flush 0)
    ∷ event 0 (Fetch 1)
    ∷ event 0 Handle
    ∷ event 0 (Upcall 0)
    ∷ event 0 (Flush 1)
    ∷ event 1 (Fetch 0)
    ∷ event 1 Handle
    ∷ event 1 (Resume 5)
    ∷ []

unfoldable pub journal : List Entry
journal =
    entry 1 (Calls 1) (Called 0 (Obtain 1 0 0)) None None None
    ∷ entry 1 (Calls 2) (Called 0 (Obtain 1 0 0)) None None None
    ∷ entry 1 (Calls 3) (Called 0 (Obtain 1 0 0)) None None None
    ∷ entry 1 (Calls 4) (Called 0 (Obtain 1 0 0)) None None None
    ∷ entry 1 (Calls 5) (Called 0 (Obtain 1 0 0)) None None None
    ∷ entry 1 (Flush 0) (Carried 0 (ObtainReq (place 1 1 0) (SelTarget 0 0))) None None None
    ∷ entry 1 (Flush 0) (Carried 0 (ObtainReq (place 2 2 0) (SelTarget 0 0))) None None None
    ∷ entry 1 (Flush 0) (Carried 0 (ObtainReq (place 3 3 0) (SelTarget 0 0))) None None None
    ∷ entry 1 (Flush 0) (Carried 0 (ObtainReq (place 4 4 0) (SelTarget 0 0))) None None None
    ∷ entry 0 (Fetch 1) (Carried 1 (ObtainReq (place 1 1 0) (SelTarget 0 0))) None None None
    ∷ entry 0 Handle (Carried 1 (ObtainReq (place 1 1 0) (SelTarget 0 0))) None None None
    ∷ entry 0 (Upcall 0) (Asked 1 Yes) (grant (key 0 0 MemKind 0) (key 1 1 MemKind 0)) None None
    ∷ entry 0 (Fetch 1) (Carried 1 (ObtainReq (place 2 2 0) (SelTarget 0 0))) None None None
    ∷ entry 0 Handle (Carried 1 (ObtainReq (place 2 2 0) (SelTarget 0 0))) None None None
    ∷ entry 0 (Upcall 0) (Asked 2 Yes) (grant (key 0 0 MemKind 0) (key 2 2 MemKind 0)) None None
    ∷ entry 0 (Fetch 1) (Carried 1 (ObtainReq (place 3 3 0) (SelTarget 0 0))) None None None
    ∷ entry 0 Handle (Carried 1 (ObtainReq (place 3 3 0) (SelTarget 0 0))) None None None
    ∷ entry 0 (Upcall 0) (Asked 3 Yes) (grant (key 0 0 MemKind 0) (key 3 3 MemKind 0)) None None
    ∷ entry 0 (Fetch 1) (Carried 1 (ObtainReq (place 4 4 0) (SelTarget 0 0))) None None None
    ∷ entry 0 Handle (Carried 1 (ObtainReq (place 4 4 0) (SelTarget 0 0))) None None None
    ∷ entry 0 (Upcall 0) (Asked 4 Yes) (grant (key 0 0 MemKind 0) (key 4 4 MemKind 0)) None None
    ∷ entry 0 (Flush 1) (Carried 1 (ObtainOk (key 0 0 MemKind 0) (key 1 1 MemKind 0) (Mem 0 4096 7))) None None None
    ∷ entry 0 (Flush 1) (Carried 1 (ObtainOk (key 0 0 MemKind 0) (key 2 2 MemKind 0) (Mem 0 4096 7))) None None None
    ∷ entry 0 (Flush 1) (Carried 1 (ObtainOk (key 0 0 MemKind 0) (key 3 3 MemKind 0) (Mem 0 4096 7))) None None None
    ∷ entry 0 (Flush 1) (Carried 1 (ObtainOk (key 0 0 MemKind 0) (key 4 4 MemKind 0) (Mem 0 4096 7))) None None None
    ∷ entry 1 (Fetch 0) (Carried 0 (ObtainOk (key 0 0 MemKind 0) (key 1 1 MemKind 0) (Mem 0 4096 7))) None None None
    ∷ entry 1 Handle (Carried 0 (ObtainOk (key 0 0 MemKind 0) (key 1 1 MemKind 0) (Mem 0 4096 7))) None None None
    ∷ entry 1 (Resume 1) Nothing None None (reply 1 0)
    ∷ entry 1 (Fetch 0) (Carried 0 (ObtainOk (key 0 0 MemKind 0) (key 2 2 MemKind 0) (Mem 0 4096 7))) None None None
    ∷ entry 1 Handle (Carried 0 (ObtainOk (key 0 0 MemKind 0) (key 2 2 MemKind 0) (Mem 0 4096 7))) None None None
    ∷ entry 1 (Resume 2) Nothing None None (reply 2 0)
    ∷ entry 1 (Fetch 0) (Carried 0 (ObtainOk (key 0 0 MemKind 0) (key 3 3 MemKind 0) (Mem 0 4096 7))) None None None
    ∷ entry 1 Handle (Carried 0 (ObtainOk (key 0 0 MemKind 0) (key 3 3 MemKind 0) (Mem 0 4096 7))) None None None
    ∷ entry 1 (Resume 3) Nothing None None (reply 3 0)
    ∷ entry 1 (Fetch 0) (Carried 0 (ObtainOk (key 0 0 MemKind 0) (key 4 4 MemKind 0) (Mem 0 4096 7))) None None None
    ∷ entry 1 Handle (Carried 0 (ObtainOk (key 0 0 MemKind 0) (key 4 4 MemKind 0) (Mem 0 4096 7))) None None None
    ∷ entry 1 (Resume 4) Nothing None None (reply 4 0)
    ∷ entry 1 (Flush 0) (Carried 0 (ObtainReq (place 5 5 0) (SelTarget 0 0))) None None None
    ∷ entry 0 (Fetch 1) (Carried 1 (ObtainReq (place 5 5 0) (SelTarget 0 0))) None None None
    ∷ entry 0 Handle (Carried 1 (ObtainReq (place 5 5 0) (SelTarget 0 0))) None None None
    ∷ entry 0 (Upcall 0) (Asked 5 Yes) (grant (key 0 0 MemKind 0) (key 5 5 MemKind 0)) None None
    ∷ entry 0 (Flush 1) (Carried 1 (ObtainOk (key 0 0 MemKind 0) (key 5 5 MemKind 0) (Mem 0 4096 7))) None None None
    ∷ entry 1 (Fetch 0) (Carried 0 (ObtainOk (key 0 0 MemKind 0) (key 5 5 MemKind 0) (Mem 0 4096 7))) None None None
    ∷ entry 1 Handle (Carried 0 (ObtainOk (key 0 0 MemKind 0) (key 5 5 MemKind 0) (Mem 0 4096 7))) None None None
    ∷ entry 1 (Resume 5) Nothing None None (reply 5 0)
    ∷ []

unfoldable pub outcome : Played
outcome = record {
  entries = journal;
  all_enabled = true;
  left = [];
  made = 6;
  cut = 0;
  held = (key 0 0 MemKind 0, 0) ∷ (key 1 1 MemKind 0, 1) ∷ (key 2 2 MemKind 0, 1) ∷ (key 3 3 MemKind 0, 1)
      ∷ (key 4 4 MemKind 0, 1) ∷ (key 5 5 MemKind 0, 1) ∷ [];
  is_forest = true;
  is_linked = true;
  is_clean = true;
}

abbrev pub window_of_four : Type 0
window_of_four = played trace events ≡ outcome

unfoldable pub waiting : List Event
waiting =
    event 0 (Fetch 1)
    ∷ []

-- then exactly these are enabled
abbrev pub waits : Type 0
waits = enabled_after trace first_events ≡ waiting
