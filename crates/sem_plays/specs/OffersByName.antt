-- An offer belongs to the service that is asked.
use Rattle.std.specs.Prelude.{◌≡◌, true, Some, None, List, [], ◌∷◌}
use Rattle.sem_machine.specs.Prelude.{MemKind, ServKind, SessKind, Mem, Serv, OpenSession, AskOffer, Calls, Upcall}
use Rattle.sem_machine.specs.Prelude.{Resume, Event, Yes, Called, Asked, Nothing, Entry, Setup, event}
use Rattle.sem_plays.specs.Words.{key, grant, reply, entry, owners, root, vpe, service, offer}
use Rattle.sem_plays.specs.Played.{Played, played}

unfoldable pub trace : Setup
trace = record {
  version = 1;
  window = 4;
  kernels = 1;
  owners = owners 1 (Some 0 ∷ Some 0 ∷ Some 0 ∷ []);
  vpes =
      vpe 0 0 (root 0 (Serv 1) ∷ root 1 (Mem 0 1 7) ∷ []) []
      ∷ vpe 1 1 (root 0 (Serv 2) ∷ root 1 (Mem 1 1 7) ∷ root 3 (Mem 3 1 7) ∷ []) []
      ∷ vpe 2 2 [] (OpenSession 0 2 ∷ AskOffer 1 0 0 ∷ [])
      ∷ [];
  services = service 1 (key 0 0 ServKind 0) ∷ service 2 (key 1 1 ServKind 0) ∷ [];
  offers = offer 1 0 1 ∷ offer 2 0 3 ∷ [];
  denies = [];
  kills = [];
}

unfoldable pub events : List Event
events =
    event 0 (Calls 2)
    ∷ event 0 (Upcall 1)
    ∷ event 0 (Resume 2)
    ∷ event 0 (Calls 2)
    ∷ event 0 (Upcall 1)
    ∷ event 0 (Resume 2)
    ∷ []

unfoldable pub journal : List Entry
journal =
    entry 0 (Calls 2) (Called 0 (OpenSession 0 2)) None None None
    ∷ entry 0 (Upcall 1) (Asked 2 Yes) (grant (key 1 1 ServKind 0) (key 2 2 SessKind 0)) None None
    ∷ entry 0 (Resume 2) Nothing None None (reply 2 0)
    ∷ entry 0 (Calls 2) (Called 1 (AskOffer 1 0 0)) None None None
    ∷ entry 0 (Upcall 1) (Asked 2 Yes) (grant (key 1 1 MemKind 2) (key 2 2 MemKind 1)) None None
    ∷ entry 0 (Resume 2) Nothing None None (reply 2 0)
    ∷ []

unfoldable pub outcome : Played
outcome = record {
  entries = journal;
  all_enabled = true;
  left = [];
  made = 7;
  cut = 0;
  held = (key 0 0 MemKind 1, 1) ∷ (key 0 0 ServKind 0, 0) ∷ (key 1 1 MemKind 1, 1) ∷ (key 1 1 MemKind 2, 3)
      ∷ (key 1 1 ServKind 0, 0) ∷ (key 2 2 MemKind 1, 1) ∷ (key 2 2 SessKind 0, 0) ∷ [];
  is_forest = true;
  is_linked = true;
  is_clean = true;
}

abbrev pub offers_by_name : Type 0
offers_by_name = played trace events ≡ outcome
