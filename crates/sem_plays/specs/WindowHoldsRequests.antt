-- With a window of 1 the requests of a clear go out one by one, and so do the answers on their own
-- link.
use Rattle.std.specs.Prelude.{◌≡◌, true, Some, None, List, [], ◌∷◌, ◌++◌, replicate}
use Rattle.sem_machine.specs.Prelude.{MemKind, Mem, SelTarget, ObtainReq, ObtainOk, RevokeReq, RevokeDone, Obtain}
use Rattle.sem_machine.specs.Prelude.{Clear, Calls, Fetch, Handle, Upcall, Resume, Flush, Event, Yes, No, Called}
use Rattle.sem_machine.specs.Prelude.{Carried, Asked, Nothing, Entry, Setup, event}
use Rattle.sem_plays.specs.Words.{key, place, grant, reply, entry, owners, root, vpe}
use Rattle.sem_plays.specs.Played.{Played, played, enabled_after}

unfoldable pub trace : Setup
trace = record {
  version = 2;
  window = 1;
  kernels = 2;
  owners = owners 2 (Some 0 ∷ replicate 125 None ++ Some 1 ∷ Some 1 ∷ []);
  vpes =
      vpe 0 0 (root 0 (Mem 0 4096 7) ∷ []) (Clear 0 ∷ [])
      ∷ vpe 126 126 [] (Obtain 1 0 0 ∷ Obtain 2 127 1 ∷ [])
      ∷ vpe 127 127 [] (Obtain 1 0 0 ∷ [])
      ∷ [];
  services = [];
  offers = [];
  denies = (127, 126) ∷ [];
  kills = [];
}

-- the events before the test of what is enabled
unfoldable pub first_events : List Event
first_events =
    event 1 (Calls 126)
    ∷ event 1 (Flush 0)
    ∷ event 0 (Fetch 1)
    ∷ event 0 Handle
    ∷ event 0 (Upcall 0)
    ∷ event 0 (Flush 1)
    ∷ event 1 (Fetch 0)
    ∷ event 1 Handle
    ∷ event 1 (Resume 126)
    ∷ event 1 (Calls 127)
    ∷ event 1 (Flush 0)
    ∷ event 0 (Fetch 1)
    ∷ event 0 Handle
    ∷ event 0 (Upcall 0)
    ∷ event 0 (Flush 1)
    ∷ event 1 (Fetch 0)
    ∷ event 1 Handle
    ∷ event 1 (Resume 127)
    ∷ event 0 (Calls 0)
    ∷ event 0 (Flush 1)
    ∷ event 1 (Fetch 0)
    ∷ event 0 (Flush 1)
    ∷ event 1 Handle
    ∷ event 1 (Fetch 0)
    ∷ event 1 Handle
    ∷ event 1 (Flush 0)
    ∷ []

unfoldable pub events : List Event
events =
    event 1 (Calls 126)
    ∷ event 1 (Flush 0)
    ∷ event 0 (Fetch 1)
    ∷ event 0 Handle
    ∷ event 0 (Upcall 0)
    ∷ event 0 (Flush 1)
    ∷ event 1 (Fetch 0)
    ∷ event 1 Handle
    ∷ event 1 (Resume 126)
    ∷ event 1 (Calls 127)
    ∷ event 1 (Flush 0)
    ∷ event 0 (Fetch 1)
    ∷ event 0 Handle
    ∷ event 0 (Upcall 0)
    ∷ event 0 (Flush 1)
    ∷ event 1 (Fetch 0)
    ∷ event 1 Handle
    ∷ event 1 (Resume 127)
    ∷ event 0 (Calls 0)
    ∷ event 0 (Flush 1)
    ∷ event 1 (Fetch 0)
    ∷ event 0 (Flush 1)
    ∷ event 1 Handle
    ∷ event 1 (Fetch 0)
    ∷ event 1 Handle
    ∷ event 1 (Flush 0)
    ∷ event 0 (Fetch 1)
    ∷ event 0 Handle
    ∷ event 1 (Calls 126)
    ∷ event 1 (Upcall 127)
    ∷ event 1 (Resume 126)
    ∷ event 1 (Flush 0)
    ∷ event 0 (Fetch 1)
    ∷ event 0 Handle
    ∷ event 0 (Resume 0)
    ∷ []

unfoldable pub journal : List Entry
journal =
    entry 1 (Calls 126) (Called 0 (Obtain 1 0 0)) None None None
    ∷ entry 1 (Flush 0) (Carried 0 (ObtainReq (place 126 126 0) (SelTarget 0 0))) None None None
    ∷ entry 0 (Fetch 1) (Carried 1 (ObtainReq (place 126 126 0) (SelTarget 0 0))) None None None
    ∷ entry 0 Handle (Carried 1 (ObtainReq (place 126 126 0) (SelTarget 0 0))) None None None
    ∷ entry 0 (Upcall 0) (Asked 126 Yes) (grant (key 0 0 MemKind 0) (key 126 126 MemKind 0)) None None
    ∷ entry 0 (Flush 1) (Carried 1 (ObtainOk (key 0 0 MemKind 0) (key 126 126 MemKind 0) (Mem 0 4096 7))) None None
    None
    ∷ entry 1 (Fetch 0) (Carried 0 (ObtainOk (key 0 0 MemKind 0) (key 126 126 MemKind 0) (Mem 0 4096 7))) None None
    None
    ∷ entry 1 Handle (Carried 0 (ObtainOk (key 0 0 MemKind 0) (key 126 126 MemKind 0) (Mem 0 4096 7))) None None None
    ∷ entry 1 (Resume 126) Nothing None None (reply 126 0)
    ∷ entry 1 (Calls 127) (Called 0 (Obtain 1 0 0)) None None None
    ∷ entry 1 (Flush 0) (Carried 0 (ObtainReq (place 127 127 0) (SelTarget 0 0))) None None None
    ∷ entry 0 (Fetch 1) (Carried 1 (ObtainReq (place 127 127 0) (SelTarget 0 0))) None None None
    ∷ entry 0 Handle (Carried 1 (ObtainReq (place 127 127 0) (SelTarget 0 0))) None None None
    ∷ entry 0 (Upcall 0) (Asked 127 Yes) (grant (key 0 0 MemKind 0) (key 127 127 MemKind 0)) None None
    ∷ entry 0 (Flush 1) (Carried 1 (ObtainOk (key 0 0 MemKind 0) (key 127 127 MemKind 0) (Mem 0 4096 7))) None None
    None
    ∷ entry 1 (Fetch 0) (Carried 0 (ObtainOk (key 0 0 MemKind 0) (key 127 127 MemKind 0) (Mem 0 4096 7))) None None
    None
    ∷ entry 1 Handle (Carried 0 (ObtainOk (key 0 0 MemKind 0) (key 127 127 MemKind 0) (Mem 0 4096 7))) None None None
    ∷ entry 1 (Resume 127) Nothing None None (reply 127 0)
    ∷ entry 0 (Calls 0) (Called 0 (Clear 0)) None (Some (key 0 0 MemKind 0)) None
    ∷ entry 0 (Flush 1) (Carried 1 (RevokeReq (key 126 126 MemKind 0) 0)) None None None
    ∷ entry 1 (Fetch 0) (Carried 0 (RevokeReq (key 126 126 MemKind 0) 0)) None None None
    ∷ entry 0 (Flush 1) (Carried 1 (RevokeReq (key 127 127 MemKind 0) 0)) None None None
    ∷ entry 1 Handle (Carried 0 (RevokeReq (key 126 126 MemKind 0) 0)) None None None
    ∷ entry 1 (Fetch 0) (Carried 0 (RevokeReq (key 127 127 MemKind 0) 0)) None None None
    ∷ entry 1 Handle (Carried 0 (RevokeReq (key 127 127 MemKind 0) 0)) None None None
    ∷ entry 1 (Flush 0) (Carried 0 (RevokeDone 0)) None None None
    ∷ entry 0 (Fetch 1) (Carried 1 (RevokeDone 0)) None None None
    ∷ entry 0 Handle (Carried 1 (RevokeDone 0)) None None None
    ∷ entry 1 (Calls 126) (Called 1 (Obtain 2 127 1)) None None None
    ∷ entry 1 (Upcall 127) (Asked 126 No) None None None
    ∷ entry 1 (Resume 126) Nothing None None (reply 126 5)
    ∷ entry 1 (Flush 0) (Carried 0 (RevokeDone 0)) None None None
    ∷ entry 0 (Fetch 1) (Carried 1 (RevokeDone 0)) None None None
    ∷ entry 0 Handle (Carried 1 (RevokeDone 0)) None None None
    ∷ entry 0 (Resume 0) Nothing None None (reply 0 0)
    ∷ []

unfoldable pub outcome : Played
outcome = record {
  entries = journal;
  all_enabled = true;
  left = [];
  made = 3;
  cut = 2;
  held = (key 0 0 MemKind 0, 0) ∷ [];
  is_forest = true;
  is_linked = true;
  is_clean = true;
}

abbrev pub window_holds_requests : Type 0
window_holds_requests = played trace events ≡ outcome

unfoldable pub waiting : List Event
waiting =
    event 0 (Fetch 1)
    ∷ event 1 (Calls 126)
    ∷ []

-- then exactly these are enabled
abbrev pub waits : Type 0
waits = enabled_after trace first_events ≡ waiting
