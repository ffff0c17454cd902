-- A clear unbinds the endpoints of its root and of what goes, and no others.
use Rattle.std.specs.Prelude.{◌≡◌, true, Some, None, List, [], ◌∷◌}
use Rattle.sem_machine.specs.Prelude.{MemKind, Mem, SelTarget, ObtainReq, ObtainOk, RevokeReq, RevokeDone, Obtain}
use Rattle.sem_machine.specs.Prelude.{Bind, Write, Clear, Calls, Fetch, Handle, Upcall, Resume, Flush, Event, Yes}
use Rattle.sem_machine.specs.Prelude.{Called, Carried, Asked, Nothing, Entry, Setup, event}
use Rattle.sem_plays.specs.Words.{key, place, grant, reply, entry, owners, root, vpe}
use Rattle.sem_plays.specs.Played.{Played, played}

unfoldable pub trace : Setup
trace = record {
  version = 1;
  window = 4;
  kernels = 2;
  owners = owners 2 (Some 0 ∷ Some 0 ∷ Some 0 ∷ Some 1 ∷ []);
  vpes =
      vpe 0 0 (root 0 (Mem 0 4096 7) ∷ root 3 (Mem 4096 16 7) ∷ []) (Bind 0 0 ∷ Bind 1 3 ∷ Write 0 0 16 ∷ Clear 0
      ∷ Write 0 0 16 ∷ Write 1 0 16 ∷ Bind 0 0 ∷ Write 0 0 16 ∷ [])
      ∷ vpe 1 1 [] []
      ∷ vpe 2 2 [] (Obtain 1 0 0 ∷ Bind 0 1 ∷ Write 0 0 16 ∷ Write 0 0 16 ∷ Bind 1 1 ∷ Bind 1 1 ∷ [])
      ∷ vpe 3 3 [] (Obtain 1 0 0 ∷ [])
      ∷ [];
  services = [];
  offers = [];
  denies = [];
  kills = [];
}

unfoldable pub events : List Event
events =
    event 0 (Calls 2)
    ∷ event 0 (Upcall 0)
    ∷ event 0 (Resume 2)
    ∷ event 1 (Calls 3)
    ∷ event 1 (Flush 0)
    ∷ event 0 (Fetch 1)
    ∷ event 0 Handle
    ∷ event 0 (Upcall 0)
    ∷ event 0 (Flush 1)
    ∷ event 1 (Fetch 0)
    ∷ event 1 Handle
    ∷ event 1 (Resume 3)
    ∷ event 0 (Calls 0)
    ∷ event 0 (Calls 0)
    ∷ event 0 (Calls 0)
    ∷ event 0 (Calls 2)
    ∷ event 0 (Calls 2)
    ∷ event 0 (Calls 0)
    ∷ event 0 (Calls 2)
    ∷ event 0 (Calls 2)
    ∷ event 0 (Flush 1)
    ∷ event 1 (Fetch 0)
    ∷ event 1 Handle
    ∷ event 1 (Flush 0)
    ∷ event 0 (Fetch 1)
    ∷ event 0 Handle
    ∷ event 0 (Resume 0)
    ∷ event 0 (Calls 0)
    ∷ event 0 (Calls 0)
    ∷ event 0 (Calls 0)
    ∷ event 0 (Calls 0)
    ∷ event 0 (Calls 2)
    ∷ []

unfoldable pub journal : List Entry
journal =
    entry 0 (Calls 2) (Called 0 (Obtain 1 0 0)) None None None
    ∷ entry 0 (Upcall 0) (Asked 2 Yes) (grant (key 0 0 MemKind 0) (key 2 2 MemKind 0)) None None
    ∷ entry 0 (Resume 2) Nothing None None (reply 2 0)
    ∷ entry 1 (Calls 3) (Called 0 (Obtain 1 0 0)) None None None
    ∷ entry 1 (Flush 0) (Carried 0 (ObtainReq (place 3 3 0) (SelTarget 0 0))) None None None
    ∷ entry 0 (Fetch 1) (Carried 1 (ObtainReq (place 3 3 0) (SelTarget 0 0))) None None None
    ∷ entry 0 Handle (Carried 1 (ObtainReq (place 3 3 0) (SelTarget 0 0))) None None None
    ∷ entry 0 (Upcall 0) (Asked 3 Yes) (grant (key 0 0 MemKind 0) (key 3 3 MemKind 0)) None None
    ∷ entry 0 (Flush 1) (Carried 1 (ObtainOk (key 0 0 MemKind 0) (key 3 3 MemKind 0) (Mem 0 4096 7))) None None None
    ∷ entry 1 (Fetch 0) (Carried 0 (ObtainOk (key 0 0 MemKind 0) (key 3 3 MemKind 0) (Mem 0 4096 7))) None None None
    ∷ entry 1 Handle (Carried 0 (ObtainOk (key 0 0 MemKind 0) (key 3 3 MemKind 0) (Mem 0 4096 7))) None None None
    ∷ entry 1 (Resume 3) Nothing None None (reply 3 0)
    ∷ entry 0 (Calls 0) (Called 0 (Bind 0 0)) None None (reply 0 0)
    ∷ entry 0 (Calls 0) (Called 1 (Bind 1 3)) None None (reply 0 0)
    ∷ entry 0 (Calls 0) (Called 2 (Write 0 0 16)) None None (reply 0 0)
    ∷ entry 0 (Calls 2) (Called 1 (Bind 0 1)) None None (reply 2 0)
    ∷ entry 0 (Calls 2) (Called 2 (Write 0 0 16)) None None (reply 2 0)
    ∷ entry 0 (Calls 0) (Called 3 (Clear 0)) None (Some (key 0 0 MemKind 0)) None
    ∷ entry 0 (Calls 2) (Called 3 (Write 0 0 16)) None None (reply 2 12)
    ∷ entry 0 (Calls 2) (Called 4 (Bind 1 1)) None None (reply 2 4)
    ∷ entry 0 (Flush 1) (Carried 1 (RevokeReq (key 3 3 MemKind 0) 0)) None None None
    ∷ entry 1 (Fetch 0) (Carried 0 (RevokeReq (key 3 3 MemKind 0) 0)) None None None
    ∷ entry 1 Handle (Carried 0 (RevokeReq (key 3 3 MemKind 0) 0)) None None None
    ∷ entry 1 (Flush 0) (Carried 0 (RevokeDone 0)) None None None
    ∷ entry 0 (Fetch 1) (Carried 1 (RevokeDone 0)) None None None
    ∷ entry 0 Handle (Carried 1 (RevokeDone 0)) None None None
    ∷ entry 0 (Resume 0) Nothing None None (reply 0 0)
    ∷ entry 0 (Calls 0) (Called 4 (Write 0 0 16)) None None (reply 0 12)
    ∷ entry 0 (Calls 0) (Called 5 (Write 1 0 16)) None None (reply 0 0)
    ∷ entry 0 (Calls 0) (Called 6 (Bind 0 0)) None None (reply 0 0)
    ∷ entry 0 (Calls 0) (Called 7 (Write 0 0 16)) None None (reply 0 0)
    ∷ entry 0 (Calls 2) (Called 5 (Bind 1 1)) None None (reply 2 3)
    ∷ []

unfoldable pub outcome : Played
outcome = record {
  entries = journal;
  all_enabled = true;
  left = [];
  made = 4;
  cut = 2;
  held = (key 0 0 MemKind 0, 0) ∷ (key 0 0 MemKind 1, 3) ∷ [];
  is_forest = true;
  is_linked = true;
  is_clean = true;
}

abbrev pub clear_unbinds : Type 0
clear_unbinds = played trace events ≡ outcome
