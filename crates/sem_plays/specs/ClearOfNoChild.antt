-- A clear of a capability without children ends in its step; one of a free or promised selector is
-- refused with NoCap.
use Rattle.std.specs.Prelude.{◌≡◌, true, Some, None, List, [], ◌∷◌}
use Rattle.sem_machine.specs.Prelude.{MemKind, Mem, DelegateReq, DelegatePrepared, Ack, Derive, Delegate, Clear}
use Rattle.sem_machine.specs.Prelude.{Calls, Fetch, Handle, Upcall, Resume, Flush, Event, Yes, Called, Carried, Asked}
use Rattle.sem_machine.specs.Prelude.{Nothing, Entry, Setup, event}
use Rattle.sem_plays.specs.Words.{key, grant, reply, entry, owners, root, vpe}
use Rattle.sem_plays.specs.Played.{Played, played, enabled_after}

unfoldable pub trace : Setup
trace = record {
  version = 1;
  window = 4;
  kernels = 2;
  owners = owners 2 (Some 0 ∷ Some 1 ∷ []);
  vpes =
      vpe 0 0 (root 0 (Mem 0 4096 7) ∷ []) (Delegate 0 1 4 ∷ [])
      ∷ vpe 1 1 (root 0 (Mem 0 1 1) ∷ []) (Clear 5 ∷ Clear 0 ∷ Clear 4 ∷ Clear 4 ∷ Derive 4 5 0 1 1 ∷ [])
      ∷ [];
  services = [];
  offers = [];
  denies = [];
  kills = [];
}

-- the events before the test of what is enabled
unfoldable pub first_events : List Event
first_events =
    event 0 (Calls 0)
    ∷ event 0 (Flush 1)
    ∷ event 1 (Fetch 0)
    ∷ event 1 Handle
    ∷ event 1 (Upcall 1)
    ∷ event 1 (Calls 1)
    ∷ event 1 (Calls 1)
    ∷ []

unfoldable pub events : List Event
events =
    event 0 (Calls 0)
    ∷ event 0 (Flush 1)
    ∷ event 1 (Fetch 0)
    ∷ event 1 Handle
    ∷ event 1 (Upcall 1)
    ∷ event 1 (Calls 1)
    ∷ event 1 (Calls 1)
    ∷ event 1 (Resume 1)
    ∷ event 1 (Calls 1)
    ∷ event 1 (Flush 0)
    ∷ event 0 (Fetch 1)
    ∷ event 0 Handle
    ∷ event 0 (Resume 0)
    ∷ event 0 (Flush 1)
    ∷ event 1 (Fetch 0)
    ∷ event 1 Handle
    ∷ event 1 (Calls 1)
    ∷ event 1 (Resume 1)
    ∷ event 1 (Calls 1)
    ∷ []

unfoldable pub journal : List Entry
journal =
    entry 0 (Calls 0) (Called 0 (Delegate 0 1 4)) None None None
    ∷ entry 0 (Flush 1) (Carried 1 (DelegateReq (key 0 0 MemKind 0) (Mem 0 4096 7) 1 4)) None None None
    ∷ entry 1 (Fetch 0) (Carried 0 (DelegateReq (key 0 0 MemKind 0) (Mem 0 4096 7) 1 4)) None None None
    ∷ entry 1 Handle (Carried 0 (DelegateReq (key 0 0 MemKind 0) (Mem 0 4096 7) 1 4)) None None None
    ∷ entry 1 (Upcall 1) (Asked 0 Yes) None None None
    ∷ entry 1 (Calls 1) (Called 0 (Clear 5)) None None (reply 1 3)
    ∷ entry 1 (Calls 1) (Called 1 (Clear 0)) None (Some (key 1 1 MemKind 0)) None
    ∷ entry 1 (Resume 1) Nothing None None (reply 1 0)
    ∷ entry 1 (Calls 1) (Called 2 (Clear 4)) None None (reply 1 3)
    ∷ entry 1 (Flush 0) (Carried 0 (DelegatePrepared (key 0 0 MemKind 0) (key 1 1 MemKind 1))) None None None
    ∷ entry 0 (Fetch 1) (Carried 1 (DelegatePrepared (key 0 0 MemKind 0) (key 1 1 MemKind 1))) None None None
    ∷ entry 0 Handle (Carried 1 (DelegatePrepared (key 0 0 MemKind 0) (key 1 1 MemKind 1))) None None None
    ∷ entry 0 (Resume 0) Nothing (grant (key 0 0 MemKind 0) (key 1 1 MemKind 1)) None (reply 0 0)
    ∷ entry 0 (Flush 1) (Carried 1 (Ack (key 1 1 MemKind 1) true)) None None None
    ∷ entry 1 (Fetch 0) (Carried 0 (Ack (key 1 1 MemKind 1) true)) None None None
    ∷ entry 1 Handle (Carried 0 (Ack (key 1 1 MemKind 1) true)) None None None
    ∷ entry 1 (Calls 1) (Called 3 (Clear 4)) None (Some (key 1 1 MemKind 1)) None
    ∷ entry 1 (Resume 1) Nothing None None (reply 1 0)
    ∷ entry 1 (Calls 1) (Called 4 (Derive 4 5 0 1 1)) (grant (key 1 1 MemKind 1) (key 1 1 MemKind 2)) None (reply 1 0)
    ∷ []

unfoldable pub outcome : Played
outcome = record {
  entries = journal;
  all_enabled = true;
  left = [];
  made = 4;
  cut = 0;
  held = (key 0 0 MemKind 0, 0) ∷ (key 1 1 MemKind 0, 0) ∷ (key 1 1 MemKind 1, 4) ∷ (key 1 1 MemKind 2, 5) ∷ [];
  is_forest = true;
  is_linked = true;
  is_clean = true;
}

abbrev pub clear_of_no_child : Type 0
clear_of_no_child = played trace events ≡ outcome

unfoldable pub waiting : List Event
waiting =
    event 1 (Resume 1)
    ∷ event 1 (Flush 0)
    ∷ []

-- then exactly these are enabled
abbrev pub waits : Type 0
waits = enabled_after trace first_events ≡ waiting
