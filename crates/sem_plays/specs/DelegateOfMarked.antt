-- A delegate whose parent is being revoked ends with Revoking.
use Rattle.std.specs.Prelude.{◌≡◌, true, false, Some, None, List, [], ◌∷◌}
use Rattle.sem_machine.specs.Prelude.{MemKind, Mem, DelegateReq, DelegatePrepared, Ack, RevokeReq, RevokeDone, Obtain}
use Rattle.sem_machine.specs.Prelude.{Delegate, Revoke, Calls, Fetch, Handle, Upcall, Resume, Flush, Event, Yes}
use Rattle.sem_machine.specs.Prelude.{Called, Carried, Asked, Nothing, Entry, Setup, event}
use Rattle.sem_plays.specs.Words.{key, grant, reply, entry, owners, root, vpe}
use Rattle.sem_plays.specs.Played.{Played, played}

unfoldable pub trace : Setup
trace = record {
  version = 1;
  window = 4;
  kernels = 2;
  owners = owners 2 (Some 0 ∷ Some 1 ∷ Some 0 ∷ []);
  vpes =
      vpe 0 0 [] (Obtain 1 2 0 ∷ Delegate 1 1 4 ∷ Delegate 1 1 5 ∷ [])
      ∷ vpe 1 1 [] []
      ∷ vpe 2 2 (root 0 (Mem 0 4096 7) ∷ []) (Revoke 0 ∷ [])
      ∷ [];
  services = [];
  offers = [];
  denies = [];
  kills = [];
}

unfoldable pub events : List Event
events =
    event 0 (Calls 0)
    ∷ event 0 (Upcall 2)
    ∷ event 0 (Resume 0)
    ∷ event 0 (Calls 0)
    ∷ event 0 (Flush 1)
    ∷ event 1 (Fetch 0)
    ∷ event 1 Handle
    ∷ event 1 (Upcall 1)
    ∷ event 1 (Flush 0)
    ∷ event 0 (Fetch 1)
    ∷ event 0 Handle
    ∷ event 0 (Resume 0)
    ∷ event 0 (Flush 1)
    ∷ event 1 (Fetch 0)
    ∷ event 1 Handle
    ∷ event 0 (Calls 0)
    ∷ event 0 (Flush 1)
    ∷ event 1 (Fetch 0)
    ∷ event 1 Handle
    ∷ event 1 (Upcall 1)
    ∷ event 1 (Flush 0)
    ∷ event 0 (Calls 2)
    ∷ event 0 (Fetch 1)
    ∷ event 0 Handle
    ∷ event 0 (Resume 0)
    ∷ event 0 (Flush 1)
    ∷ event 0 (Flush 1)
    ∷ event 1 (Fetch 0)
    ∷ event 1 Handle
    ∷ event 1 (Fetch 0)
    ∷ event 1 Handle
    ∷ event 1 (Flush 0)
    ∷ event 0 (Fetch 1)
    ∷ event 0 Handle
    ∷ event 0 (Resume 2)
    ∷ []

unfoldable pub journal : List Entry
journal =
    entry 0 (Calls 0) (Called 0 (Obtain 1 2 0)) None None None
    ∷ entry 0 (Upcall 2) (Asked 0 Yes) (grant (key 2 2 MemKind 0) (key 0 0 MemKind 0)) None None
    ∷ entry 0 (Resume 0) Nothing None None (reply 0 0)
    ∷ entry 0 (Calls 0) (Called 1 (Delegate 1 1 4)) None None None
    ∷ entry 0 (Flush 1) (Carried 1 (DelegateReq (key 0 0 MemKind 0) (Mem 0 4096 7) 1 4)) None None None
    ∷ entry 1 (Fetch 0) (Carried 0 (DelegateReq (key 0 0 MemKind 0) (Mem 0 4096 7) 1 4)) None None None
    ∷ entry 1 Handle (Carried 0 (DelegateReq (key 0 0 MemKind 0) (Mem 0 4096 7) 1 4)) None None None
    ∷ entry 1 (Upcall 1) (Asked 0 Yes) None None None
    ∷ entry 1 (Flush 0) (Carried 0 (DelegatePrepared (key 0 0 MemKind 0) (key 1 1 MemKind 0))) None None None
    ∷ entry 0 (Fetch 1) (Carried 1 (DelegatePrepared (key 0 0 MemKind 0) (key 1 1 MemKind 0))) None None None
    ∷ entry 0 Handle (Carried 1 (DelegatePrepared (key 0 0 MemKind 0) (key 1 1 MemKind 0))) None None None
    ∷ entry 0 (Resume 0) Nothing (grant (key 0 0 MemKind 0) (key 1 1 MemKind 0)) None (reply 0 0)
    ∷ entry 0 (Flush 1) (Carried 1 (Ack (key 1 1 MemKind 0) true)) None None None
    ∷ entry 1 (Fetch 0) (Carried 0 (Ack (key 1 1 MemKind 0) true)) None None None
    ∷ entry 1 Handle (Carried 0 (Ack (key 1 1 MemKind 0) true)) None None None
    ∷ entry 0 (Calls 0) (Called 2 (Delegate 1 1 5)) None None None
    ∷ entry 0 (Flush 1) (Carried 1 (DelegateReq (key 0 0 MemKind 0) (Mem 0 4096 7) 1 5)) None None None
    ∷ entry 1 (Fetch 0) (Carried 0 (DelegateReq (key 0 0 MemKind 0) (Mem 0 4096 7) 1 5)) None None None
    ∷ entry 1 Handle (Carried 0 (DelegateReq (key 0 0 MemKind 0) (Mem 0 4096 7) 1 5)) None None None
    ∷ entry 1 (Upcall 1) (Asked 0 Yes) None None None
    ∷ entry 1 (Flush 0) (Carried 0 (DelegatePrepared (key 0 0 MemKind 0) (key 1 1 MemKind 1))) None None None
    ∷ entry 0 (Calls 2) (Called 0 (Revoke 0)) None (Some (key 2 2 MemKind 0)) None
    ∷ entry 0 (Fetch 1) (Carried 1 (DelegatePrepared (key 0 0 MemKind 0) (key 1 1 MemKind 1))) None None None
    ∷ entry 0 Handle (Carried 1 (DelegatePrepared (key 0 0 MemKind 0) (key 1 1 MemKind 1))) None None None
    ∷ entry 0 (Resume 0) Nothing None None (reply 0 4)
    ∷ entry 0 (Flush 1) (Carried 1 (RevokeReq (key 1 1 MemKind 0) 0)) None None None
    ∷ entry 0 (Flush 1) (Carried 1 (Ack (key 1 1 MemKind 1) false)) None None None
    ∷ entry 1 (Fetch 0) (Carried 0 (RevokeReq (key 1 1 MemKind 0) 0)) None None None
    ∷ entry 1 Handle (Carried 0 (RevokeReq (key 1 1 MemKind 0) 0)) None None None
    ∷ entry 1 (Fetch 0) (Carried 0 (Ack (key 1 1 MemKind 1) false)) None None None
    ∷ entry 1 Handle (Carried 0 (Ack (key 1 1 MemKind 1) false)) None None None
    ∷ entry 1 (Flush 0) (Carried 0 (RevokeDone 0)) None None None
    ∷ entry 0 (Fetch 1) (Carried 1 (RevokeDone 0)) None None None
    ∷ entry 0 Handle (Carried 1 (RevokeDone 0)) None None None
    ∷ entry 0 (Resume 2) Nothing None None (reply 2 0)
    ∷ []

unfoldable pub outcome : Played
outcome = record {
  entries = journal;
  all_enabled = true;
  left = [];
  made = 3;
  cut = 1;
  held = [];
  is_forest = true;
  is_linked = true;
  is_clean = true;
}

abbrev pub delegate_of_marked : Type 0
delegate_of_marked = played trace events ≡ outcome
