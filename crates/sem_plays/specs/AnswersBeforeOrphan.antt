-- An ended VPE answers its asks before its parked call sends its orphan.
use Rattle.std.specs.Prelude.{◌≡◌, true, Some, None, List, [], ◌∷◌}
use Rattle.sem_machine.specs.Prelude.{MemKind, Mem, SelTarget, ObtainReq, ObtainOk, ObtainNo, Orphan, Obtain, Calls}
use Rattle.sem_machine.specs.Prelude.{Fetch, Handle, Upcall, Resume, Flush, Kill, Event, Yes, Called, Carried, Asked}
use Rattle.sem_machine.specs.Prelude.{Nothing, Entry, Setup, event}
use Rattle.sem_plays.specs.Words.{key, place, grant, reply, entry, owners, root, vpe}
use Rattle.sem_plays.specs.Played.{Played, played}

unfoldable pub trace : Setup
trace = record {
  version = 1;
  window = 4;
  kernels = 2;
  owners = owners 2 (Some 0 ∷ Some 1 ∷ Some 0 ∷ []);
  vpes =
      vpe 0 0 [] (Obtain 0 1 0 ∷ [])
      ∷ vpe 1 1 (root 0 (Mem 0 4096 7) ∷ []) (Obtain 1 0 0 ∷ [])
      ∷ vpe 2 2 [] []
      ∷ [];
  services = [];
  offers = [];
  denies = [];
  kills = (0, 0) ∷ [];
}

unfoldable pub events : List Event
events =
    event 0 (Calls 0)
    ∷ event 1 (Calls 1)
    ∷ event 0 (Flush 1)
    ∷ event 1 (Fetch 0)
    ∷ event 1 Handle
    ∷ event 1 (Upcall 1)
    ∷ event 1 (Flush 0)
    ∷ event 1 (Flush 0)
    ∷ event 0 (Fetch 1)
    ∷ event 0 Handle
    ∷ event 0 (Fetch 1)
    ∷ event 0 Handle
    ∷ event 0 (Kill 0)
    ∷ event 0 (Flush 1)
    ∷ event 0 (Flush 1)
    ∷ event 1 (Fetch 0)
    ∷ event 1 Handle
    ∷ event 1 (Resume 1)
    ∷ event 1 (Fetch 0)
    ∷ event 1 Handle
    ∷ []

unfoldable pub journal : List Entry
journal =
    entry 0 (Calls 0) (Called 0 (Obtain 0 1 0)) None None None
    ∷ entry 1 (Calls 1) (Called 0 (Obtain 1 0 0)) None None None
    ∷ entry 0 (Flush 1) (Carried 1 (ObtainReq (place 0 0 0) (SelTarget 1 0))) None None None
    ∷ entry 1 (Fetch 0) (Carried 0 (ObtainReq (place 0 0 0) (SelTarget 1 0))) None None None
    ∷ entry 1 Handle (Carried 0 (ObtainReq (place 0 0 0) (SelTarget 1 0))) None None None
    ∷ entry 1 (Upcall 1) (Asked 0 Yes) (grant (key 1 1 MemKind 0) (key 0 0 MemKind 0)) None None
    ∷ entry 1 (Flush 0) (Carried 0 (ObtainReq (place 1 1 1) (SelTarget 0 0))) None None None
    ∷ entry 1 (Flush 0) (Carried 0 (ObtainOk (key 1 1 MemKind 0) (key 0 0 MemKind 0) (Mem 0 4096 7))) None None None
    ∷ entry 0 (Fetch 1) (Carried 1 (ObtainReq (place 1 1 1) (SelTarget 0 0))) None None None
    ∷ entry 0 Handle (Carried 1 (ObtainReq (place 1 1 1) (SelTarget 0 0))) None None None
    ∷ entry 0 (Fetch 1) (Carried 1 (ObtainOk (key 1 1 MemKind 0) (key 0 0 MemKind 0) (Mem 0 4096 7))) None None None
    ∷ entry 0 Handle (Carried 1 (ObtainOk (key 1 1 MemKind 0) (key 0 0 MemKind 0) (Mem 0 4096 7))) None None None
    ∷ entry 0 (Kill 0) Nothing None None None
    ∷ entry 0 (Flush 1) (Carried 1 (ObtainNo (place 1 1 1) 2)) None None None
    ∷ entry 0 (Flush 1) (Carried 1 (Orphan (key 1 1 MemKind 0) (key 0 0 MemKind 0))) None None None
    ∷ entry 1 (Fetch 0) (Carried 0 (ObtainNo (place 1 1 1) 2)) None None None
    ∷ entry 1 Handle (Carried 0 (ObtainNo (place 1 1 1) 2)) None None None
    ∷ entry 1 (Resume 1) Nothing None None (reply 1 2)
    ∷ entry 1 (Fetch 0) (Carried 0 (Orphan (key 1 1 MemKind 0) (key 0 0 MemKind 0))) None None None
    ∷ entry 1 Handle (Carried 0 (Orphan (key 1 1 MemKind 0) (key 0 0 MemKind 0))) None None None
    ∷ []

unfoldable pub outcome : Played
outcome = record {
  entries = journal;
  all_enabled = true;
  left = [];
  made = 2;
  cut = 1;
  held = (key 1 1 MemKind 0, 0) ∷ [];
  is_forest = true;
  is_linked = true;
  is_clean = true;
}

abbrev pub answers_before_orphan : Type 0
answers_before_orphan = played trace events ≡ outcome
