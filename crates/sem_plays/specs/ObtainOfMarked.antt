-- A capability that is being revoked is not given.
use Rattle.std.specs.Prelude.{◌≡◌, true, Some, None, List, [], ◌∷◌}
use Rattle.sem_machine.specs.Prelude.{MemKind, Mem, SelTarget, ObtainReq, ObtainOk, ObtainNo, RevokeReq, RevokeDone}
use Rattle.sem_machine.specs.Prelude.{Obtain, Revoke, Calls, Fetch, Handle, Upcall, Resume, Flush, Event, Yes, Called}
use Rattle.sem_machine.specs.Prelude.{Carried, Asked, Nothing, Entry, Setup, event}
use Rattle.sem_plays.specs.Words.{key, place, grant, reply, entry, owners, root, vpe}
use Rattle.sem_plays.specs.Played.{Played, played}

unfoldable pub trace : Setup
trace = record {
  version = 1;
  window = 4;
  kernels = 2;
  owners = owners 2 (Some 0 ∷ Some 1 ∷ Some 0 ∷ Some 1 ∷ []);
  vpes =
      vpe 0 0 (root 0 (Mem 0 4096 7) ∷ []) (Revoke 0 ∷ [])
      ∷ vpe 1 1 [] (Obtain 1 0 0 ∷ [])
      ∷ vpe 2 2 [] (Obtain 1 0 0 ∷ [])
      ∷ vpe 3 3 [] (Obtain 1 0 0 ∷ [])
      ∷ [];
  services = [];
  offers = [];
  denies = [];
  kills = [];
}

unfoldable pub events : List Event
events =
    event 1 (Calls 1)
    ∷ event 1 (Flush 0)
    ∷ event 0 (Fetch 1)
    ∷ event 0 Handle
    ∷ event 0 (Upcall 0)
    ∷ event 0 (Flush 1)
    ∷ event 1 (Fetch 0)
    ∷ event 1 Handle
    ∷ event 1 (Resume 1)
    ∷ event 0 (Calls 0)
    ∷ event 0 (Calls 2)
    ∷ event 0 (Upcall 0)
    ∷ event 0 (Resume 2)
    ∷ event 1 (Calls 3)
    ∷ event 1 (Flush 0)
    ∷ event 0 (Fetch 1)
    ∷ event 0 Handle
    ∷ event 0 (Upcall 0)
    ∷ event 0 (Flush 1)
    ∷ event 1 (Fetch 0)
    ∷ event 0 (Flush 1)
    ∷ event 1 Handle
    ∷ event 1 (Fetch 0)
    ∷ event 1 Handle
    ∷ event 1 (Resume 3)
    ∷ event 1 (Flush 0)
    ∷ event 0 (Fetch 1)
    ∷ event 0 Handle
    ∷ event 0 (Resume 0)
    ∷ []

unfoldable pub journal : List Entry
journal =
    entry 1 (Calls 1) (Called 0 (Obtain 1 0 0)) None None None
    ∷ entry 1 (Flush 0) (Carried 0 (ObtainReq (place 1 1 0) (SelTarget 0 0))) None None None
    ∷ entry 0 (Fetch 1) (Carried 1 (ObtainReq (place 1 1 0) (SelTarget 0 0))) None None None
    ∷ entry 0 Handle (Carried 1 (ObtainReq (place 1 1 0) (SelTarget 0 0))) None None None
    ∷ entry 0 (Upcall 0) (Asked 1 Yes) (grant (key 0 0 MemKind 0) (key 1 1 MemKind 0)) None None
    ∷ entry 0 (Flush 1) (Carried 1 (ObtainOk (key 0 0 MemKind 0) (key 1 1 MemKind 0) (Mem 0 4096 7))) None None None
    ∷ entry 1 (Fetch 0) (Carried 0 (ObtainOk (key 0 0 MemKind 0) (key 1 1 MemKind 0) (Mem 0 4096 7))) None None None
    ∷ entry 1 Handle (Carried 0 (ObtainOk (key 0 0 MemKind 0) (key 1 1 MemKind 0) (Mem 0 4096 7))) None None None
    ∷ entry 1 (Resume 1) Nothing None None (reply 1 0)
    ∷ entry 0 (Calls 0) (Called 0 (Revoke 0)) None (Some (key 0 0 MemKind 0)) None
    ∷ entry 0 (Calls 2) (Called 0 (Obtain 1 0 0)) None None None
    ∷ entry 0 (Upcall 0) (Asked 2 Yes) None None None
    ∷ entry 0 (Resume 2) Nothing None None (reply 2 4)
    ∷ entry 1 (Calls 3) (Called 0 (Obtain 1 0 0)) None None None
    ∷ entry 1 (Flush 0) (Carried 0 (ObtainReq (place 3 3 0) (SelTarget 0 0))) None None None
    ∷ entry 0 (Fetch 1) (Carried 1 (ObtainReq (place 3 3 0) (SelTarget 0 0))) None None None
    ∷ entry 0 Handle (Carried 1 (ObtainReq (place 3 3 0) (SelTarget 0 0))) None None None
    ∷ entry 0 (Upcall 0) (Asked 3 Yes) None None None
    ∷ entry 0 (Flush 1) (Carried 1 (RevokeReq (key 1 1 MemKind 0) 0)) None None None
    ∷ entry 1 (Fetch 0) (Carried 0 (RevokeReq (key 1 1 MemKind 0) 0)) None None None
    ∷ entry 0 (Flush 1) (Carried 1 (ObtainNo (place 3 3 0) 4)) None None None
    ∷ entry 1 Handle (Carried 0 (RevokeReq (key 1 1 MemKind 0) 0)) None None None
    ∷ entry 1 (Fetch 0) (Carried 0 (ObtainNo (place 3 3 0) 4)) None None None
    ∷ entry 1 Handle (Carried 0 (ObtainNo (place 3 3 0) 4)) None None None
    ∷ entry 1 (Resume 3) Nothing None None (reply 3 4)
    ∷ entry 1 (Flush 0) (Carried 0 (RevokeDone 0)) None None None
    ∷ entry 0 (Fetch 1) (Carried 1 (RevokeDone 0)) None None None
    ∷ entry 0 Handle (Carried 1 (RevokeDone 0)) None None None
    ∷ entry 0 (Resume 0) Nothing None None (reply 0 0)
    ∷ []

unfoldable pub outcome : Played
outcome = record {
  entries = journal;
  all_enabled = true;
  left = [];
  made = 2;
  cut = 1;
  held = [];
  is_forest = true;
  is_linked = true;
  is_clean = true;
}

abbrev pub obtain_of_marked : Type 0
obtain_of_marked = played trace events ≡ outcome
