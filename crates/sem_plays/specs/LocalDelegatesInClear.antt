-- Two delegates within one kernel of capabilities that a clear takes: one during it, one after its
-- end.
use Rattle.std.specs.Prelude.{◌≡◌, true, Some, None, List, [], ◌∷◌}
use Rattle.sem_machine.specs.Prelude.{MemKind, Mem, SelTarget, ObtainReq, ObtainOk, RevokeReq, RevokeDone, Obtain}
use Rattle.sem_machine.specs.Prelude.{Delegate, Clear, Calls, Fetch, Handle, Upcall, Resume, Flush, Event, Yes}
use Rattle.sem_machine.specs.Prelude.{Called, Carried, Asked, Nothing, Entry, Setup, event}
use Rattle.sem_plays.specs.Words.{key, place, grant, reply, entry, owners, root, vpe}
use Rattle.sem_plays.specs.Played.{Played, played}

unfoldable pub trace : Setup
trace = record {
  version = 1;
  window = 4;
  kernels = 2;
  owners = owners 2 (Some 0 ∷ Some 1 ∷ Some 0 ∷ None ∷ Some 0 ∷ Some 0 ∷ []);
  vpes =
      vpe 0 0 (root 0 (Mem 0 4096 7) ∷ []) (Clear 0 ∷ Delegate 0 5 1 ∷ [])
      ∷ vpe 1 1 [] (Obtain 1 0 0 ∷ [])
      ∷ vpe 2 2 [] (Obtain 1 0 0 ∷ Delegate 1 5 1 ∷ [])
      ∷ vpe 4 4 [] (Obtain 1 0 0 ∷ Delegate 1 5 1 ∷ [])
      ∷ vpe 5 5 [] []
      ∷ [];
  services = [];
  offers = [];
  denies = [];
  kills = [];
}

unfoldable pub events : List Event
events =
    event 1 (Calls 1)
    ∷ event 1 (Flush 0)
    ∷ event 0 (Fetch 1)
    ∷ event 0 Handle
    ∷ event 0 (Upcall 0)
    ∷ event 0 (Flush 1)
    ∷ event 1 (Fetch 0)
    ∷ event 1 Handle
    ∷ event 1 (Resume 1)
    ∷ event 0 (Calls 2)
    ∷ event 0 (Upcall 0)
    ∷ event 0 (Resume 2)
    ∷ event 0 (Calls 4)
    ∷ event 0 (Upcall 0)
    ∷ event 0 (Resume 4)
    ∷ event 0 (Calls 2)
    ∷ event 0 (Calls 4)
    ∷ event 0 (Calls 0)
    ∷ event 0 (Upcall 5)
    ∷ event 0 (Resume 2)
    ∷ event 0 (Flush 1)
    ∷ event 1 (Fetch 0)
    ∷ event 1 Handle
    ∷ event 1 (Flush 0)
    ∷ event 0 (Fetch 1)
    ∷ event 0 Handle
    ∷ event 0 (Resume 0)
    ∷ event 0 (Calls 0)
    ∷ event 0 (Upcall 5)
    ∷ event 0 (Resume 4)
    ∷ event 0 (Upcall 5)
    ∷ event 0 (Resume 0)
    ∷ []

unfoldable pub journal : List Entry
journal =
    entry 1 (Calls 1) (Called 0 (Obtain 1 0 0)) None None None
    ∷ entry 1 (Flush 0) (Carried 0 (ObtainReq (place 1 1 0) (SelTarget 0 0))) None None None
    ∷ entry 0 (Fetch 1) (Carried 1 (ObtainReq (place 1 1 0) (SelTarget 0 0))) None None None
    ∷ entry 0 Handle (Carried 1 (ObtainReq (place 1 1 0) (SelTarget 0 0))) None None None
    ∷ entry 0 (Upcall 0) (Asked 1 Yes) (grant (key 0 0 MemKind 0) (key 1 1 MemKind 0)) None None
    ∷ entry 0 (Flush 1) (Carried 1 (ObtainOk (key 0 0 MemKind 0) (key 1 1 MemKind 0) (Mem 0 4096 7))) None None None
    ∷ entry 1 (Fetch 0) (Carried 0 (ObtainOk (key 0 0 MemKind 0) (key 1 1 MemKind 0) (Mem 0 4096 7))) None None None
    ∷ entry 1 Handle (Carried 0 (ObtainOk (key 0 0 MemKind 0) (key 1 1 MemKind 0) (Mem 0 4096 7))) None None None
    ∷ entry 1 (Resume 1) Nothing None None (reply 1 0)
    ∷ entry 0 (Calls 2) (Called 0 (Obtain 1 0 0)) None None None
    ∷ entry 0 (Upcall 0) (Asked 2 Yes) (grant (key 0 0 MemKind 0) (key 2 2 MemKind 0)) None None
    ∷ entry 0 (Resume 2) Nothing None None (reply 2 0)
    ∷ entry 0 (Calls 4) (Called 0 (Obtain 1 0 0)) None None None
    ∷ entry 0 (Upcall 0) (Asked 4 Yes) (grant (key 0 0 MemKind 0) (key 4 4 MemKind 0)) None None
    ∷ entry 0 (Resume 4) Nothing None None (reply 4 0)
    ∷ entry 0 (Calls 2) (Called 1 (Delegate 1 5 1)) None None None
    ∷ entry 0 (Calls 4) (Called 1 (Delegate 1 5 1)) None None None
    ∷ entry 0 (Calls 0) (Called 0 (Clear 0)) None (Some (key 0 0 MemKind 0)) None
    ∷ entry 0 (Upcall 5) (Asked 2 Yes) None None None
    ∷ entry 0 (Resume 2) Nothing None None (reply 2 4)
    ∷ entry 0 (Flush 1) (Carried 1 (RevokeReq (key 1 1 MemKind 0) 0)) None None None
    ∷ entry 1 (Fetch 0) (Carried 0 (RevokeReq (key 1 1 MemKind 0) 0)) None None None
    ∷ entry 1 Handle (Carried 0 (RevokeReq (key 1 1 MemKind 0) 0)) None None None
    ∷ entry 1 (Flush 0) (Carried 0 (RevokeDone 0)) None None None
    ∷ entry 0 (Fetch 1) (Carried 1 (RevokeDone 0)) None None None
    ∷ entry 0 Handle (Carried 1 (RevokeDone 0)) None None None
    ∷ entry 0 (Resume 0) Nothing None None (reply 0 0)
    ∷ entry 0 (Calls 0) (Called 1 (Delegate 0 5 1)) None None None
    ∷ entry 0 (Upcall 5) (Asked 4 Yes) None None None
    ∷ entry 0 (Resume 4) Nothing None None (reply 4 11)
    ∷ entry 0 (Upcall 5) (Asked 0 Yes) (grant (key 0 0 MemKind 0) (key 5 5 MemKind 0)) None None
    ∷ entry 0 (Resume 0) Nothing None None (reply 0 0)
    ∷ []

unfoldable pub outcome : Played
outcome = record {
  entries = journal;
  all_enabled = true;
  left = [];
  made = 5;
  cut = 3;
  held = (key 0 0 MemKind 0, 0) ∷ (key 5 5 MemKind 0, 1) ∷ [];
  is_forest = true;
  is_linked = true;
  is_clean = true;
}

abbrev pub local_delegates_in_clear : Type 0
local_delegates_in_clear = played trace events ≡ outcome
