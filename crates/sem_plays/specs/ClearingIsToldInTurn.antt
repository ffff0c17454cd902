-- A capability that a clear is taking is not used, and its own holder cannot clear it; a call that
-- revokes it waits for the clear. All waiting calls are answered at its end.
use Rattle.std.specs.Prelude.{◌≡◌, true, Some, None, List, [], ◌∷◌}
use Rattle.sem_machine.specs.Prelude.{MemKind, Mem, SelTarget, ObtainReq, ObtainOk, RevokeReq, RevokeDone, Derive}
use Rattle.sem_machine.specs.Prelude.{Obtain, Delegate, Revoke, Bind, Clear, Calls, Fetch, Handle, Upcall, Resume}
use Rattle.sem_machine.specs.Prelude.{Flush, Event, Yes, Called, Carried, Asked, Nothing, Entry, Setup, event}
use Rattle.sem_plays.specs.Words.{key, place, grant, reply, entry, owners, root, vpe}
use Rattle.sem_plays.specs.Played.{Played, played, enabled_after}

unfoldable pub trace : Setup
trace = record {
  version = 1;
  window = 4;
  kernels = 2;
  owners = owners 2 (Some 0 ∷ Some 1 ∷ Some 0 ∷ None ∷ Some 0 ∷ []);
  vpes =
      vpe 0 0 (root 0 (Mem 0 4096 7) ∷ []) (Clear 0 ∷ Clear 0 ∷ [])
      ∷ vpe 1 1 [] (Obtain 1 0 0 ∷ [])
      ∷ vpe 2 2 [] (Obtain 1 0 0 ∷ Clear 1 ∷ Derive 1 2 0 1 1 ∷ Delegate 1 1 9 ∷ Bind 0 1 ∷ Revoke 1 ∷ Clear 1 ∷ [])
      ∷ vpe 4 4 [] (Obtain 3 2 1 ∷ [])
      ∷ [];
  services = [];
  offers = [];
  denies = [];
  kills = [];
}

-- the events before the test of what is enabled
unfoldable pub first_events : List Event
first_events =
    event 0 (Calls 2)
    ∷ event 0 (Upcall 0)
    ∷ event 0 (Resume 2)
    ∷ event 1 (Calls 1)
    ∷ event 1 (Flush 0)
    ∷ event 0 (Fetch 1)
    ∷ event 0 Handle
    ∷ event 0 (Upcall 0)
    ∷ event 0 (Flush 1)
    ∷ event 1 (Fetch 0)
    ∷ event 1 Handle
    ∷ event 1 (Resume 1)
    ∷ event 0 (Calls 0)
    ∷ event 0 (Calls 4)
    ∷ event 0 (Upcall 2)
    ∷ event 0 (Resume 4)
    ∷ event 0 (Calls 2)
    ∷ event 0 (Calls 2)
    ∷ event 0 (Calls 2)
    ∷ event 0 (Calls 2)
    ∷ event 0 (Calls 2)
    ∷ event 0 (Flush 1)
    ∷ event 1 (Fetch 0)
    ∷ event 1 Handle
    ∷ event 1 (Flush 0)
    ∷ event 0 (Fetch 1)
    ∷ event 0 Handle
    ∷ []

unfoldable pub events : List Event
events =
    event 0 (Calls 2)
    ∷ event 0 (Upcall 0)
    ∷ event 0 (Resume 2)
    ∷ event 1 (Calls 1)
    ∷ event 1 (Flush 0)
    ∷ event 0 (Fetch 1)
    ∷ event 0 Handle
    ∷ event 0 (Upcall 0)
    ∷ event 0 (Flush 1)
    ∷ event 1 (Fetch 0)
    ∷ event 1 Handle
    ∷ event 1 (Resume 1)
    ∷ event 0 (Calls 0)
    ∷ event 0 (Calls 4)
    ∷ event 0 (Upcall 2)
    ∷ event 0 (Resume 4)
    ∷ event 0 (Calls 2)
    ∷ event 0 (Calls 2)
    ∷ event 0 (Calls 2)
    ∷ event 0 (Calls 2)
    ∷ event 0 (Calls 2)
    ∷ event 0 (Flush 1)
    ∷ event 1 (Fetch 0)
    ∷ event 1 Handle
    ∷ event 1 (Flush 0)
    ∷ event 0 (Fetch 1)
    ∷ event 0 Handle
    ∷ event 0 (Resume 2)
    ∷ event 0 (Resume 0)
    ∷ event 0 (Calls 0)
    ∷ event 0 (Calls 2)
    ∷ event 0 (Resume 0)
    ∷ []

unfoldable pub journal : List Entry
journal =
    entry 0 (Calls 2) (Called 0 (Obtain 1 0 0)) None None None
    ∷ entry 0 (Upcall 0) (Asked 2 Yes) (grant (key 0 0 MemKind 0) (key 2 2 MemKind 0)) None None
    ∷ entry 0 (Resume 2) Nothing None None (reply 2 0)
    ∷ entry 1 (Calls 1) (Called 0 (Obtain 1 0 0)) None None None
    ∷ entry 1 (Flush 0) (Carried 0 (ObtainReq (place 1 1 0) (SelTarget 0 0))) None None None
    ∷ entry 0 (Fetch 1) (Carried 1 (ObtainReq (place 1 1 0) (SelTarget 0 0))) None None None
    ∷ entry 0 Handle (Carried 1 (ObtainReq (place 1 1 0) (SelTarget 0 0))) None None None
    ∷ entry 0 (Upcall 0) (Asked 1 Yes) (grant (key 0 0 MemKind 0) (key 1 1 MemKind 0)) None None
    ∷ entry 0 (Flush 1) (Carried 1 (ObtainOk (key 0 0 MemKind 0) (key 1 1 MemKind 0) (Mem 0 4096 7))) None None None
    ∷ entry 1 (Fetch 0) (Carried 0 (ObtainOk (key 0 0 MemKind 0) (key 1 1 MemKind 0) (Mem 0 4096 7))) None None None
    ∷ entry 1 Handle (Carried 0 (ObtainOk (key 0 0 MemKind 0) (key 1 1 MemKind 0) (Mem 0 4096 7))) None None None
    ∷ entry 1 (Resume 1) Nothing None None (reply 1 0)
    ∷ entry 0 (Calls 0) (Called 0 (Clear 0)) None (Some (key 0 0 MemKind 0)) None
    ∷ entry 0 (Calls 4) (Called 0 (Obtain 3 2 1)) None None None
    ∷ entry 0 (Upcall 2) (Asked 4 Yes) None None None
    ∷ entry 0 (Resume 4) Nothing None None (reply 4 4)
    ∷ entry 0 (Calls 2) (Called 1 (Clear 1)) None None (reply 2 4)
    ∷ entry 0 (Calls 2) (Called 2 (Derive 1 2 0 1 1)) None None (reply 2 4)
    ∷ entry 0 (Calls 2) (Called 3 (Delegate 1 1 9)) None None (reply 2 4)
    ∷ entry 0 (Calls 2) (Called 4 (Bind 0 1)) None None (reply 2 4)
    ∷ entry 0 (Calls 2) (Called 5 (Revoke 1)) None (Some (key 2 2 MemKind 0)) None
    ∷ entry 0 (Flush 1) (Carried 1 (RevokeReq (key 1 1 MemKind 0) 0)) None None None
    ∷ entry 1 (Fetch 0) (Carried 0 (RevokeReq (key 1 1 MemKind 0) 0)) None None None
    ∷ entry 1 Handle (Carried 0 (RevokeReq (key 1 1 MemKind 0) 0)) None None None
    ∷ entry 1 (Flush 0) (Carried 0 (RevokeDone 0)) None None None
    ∷ entry 0 (Fetch 1) (Carried 1 (RevokeDone 0)) None None None
    ∷ entry 0 Handle (Carried 1 (RevokeDone 0)) None None None
    ∷ entry 0 (Resume 2) Nothing None None (reply 2 0)
    ∷ entry 0 (Resume 0) Nothing None None (reply 0 0)
    ∷ entry 0 (Calls 0) (Called 1 (Clear 0)) None (Some (key 0 0 MemKind 0)) None
    ∷ entry 0 (Calls 2) (Called 6 (Clear 1)) None None (reply 2 3)
    ∷ entry 0 (Resume 0) Nothing None None (reply 0 0)
    ∷ []

unfoldable pub outcome : Played
outcome = record {
  entries = journal;
  all_enabled = true;
  left = [];
  made = 3;
  cut = 2;
  held = (key 0 0 MemKind 0, 0) ∷ [];
  is_forest = true;
  is_linked = true;
  is_clean = true;
}

abbrev pub clearing_is_told_in_turn : Type 0
clearing_is_told_in_turn = played trace events ≡ outcome

unfoldable pub waiting : List Event
waiting =
    event 0 (Resume 0)
    ∷ event 0 (Resume 2)
    ∷ []

-- then exactly these are enabled
abbrev pub waits : Type 0
waits = enabled_after trace first_events ≡ waiting
