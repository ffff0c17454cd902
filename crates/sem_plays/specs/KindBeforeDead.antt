-- A delegate tests the kind before the dead VPE.
use Rattle.std.specs.Prelude.{◌≡◌, true, Some, None, List, [], ◌∷◌}
use Rattle.sem_machine.specs.Prelude.{ServKind, SessKind, Serv, Delegate, OpenSession, Calls, Upcall, Resume, Kill}
use Rattle.sem_machine.specs.Prelude.{Event, Yes, Called, Asked, Nothing, Entry, Setup, event}
use Rattle.sem_plays.specs.Words.{key, grant, reply, entry, owners, root, vpe, service}
use Rattle.sem_plays.specs.Played.{Played, played}

unfoldable pub trace : Setup
trace = record {
  version = 1;
  window = 4;
  kernels = 1;
  owners = owners 1 (Some 0 ∷ Some 0 ∷ Some 0 ∷ []);
  vpes =
      vpe 0 0 [] (OpenSession 0 1 ∷ Delegate 0 2 0 ∷ [])
      ∷ vpe 1 1 (root 0 (Serv 1) ∷ []) []
      ∷ vpe 2 2 [] []
      ∷ [];
  services = service 1 (key 1 1 ServKind 0) ∷ [];
  offers = [];
  denies = [];
  kills = (2, 0) ∷ [];
}

unfoldable pub events : List Event
events =
    event 0 (Kill 2)
    ∷ event 0 (Calls 0)
    ∷ event 0 (Upcall 1)
    ∷ event 0 (Resume 0)
    ∷ event 0 (Calls 0)
    ∷ []

unfoldable pub journal : List Entry
journal =
    entry 0 (Kill 2) Nothing None None None
    ∷ entry 0 (Calls 0) (Called 0 (OpenSession 0 1)) None None None
    ∷ entry 0 (Upcall 1) (Asked 0 Yes) (grant (key 1 1 ServKind 0) (key 0 0 SessKind 0)) None None
    ∷ entry 0 (Resume 0) Nothing None None (reply 0 0)
    ∷ entry 0 (Calls 0) (Called 1 (Delegate 0 2 0)) None None (reply 0 8)
    ∷ []

unfoldable pub outcome : Played
outcome = record {
  entries = journal;
  all_enabled = true;
  left = [];
  made = 2;
  cut = 0;
  held = (key 0 0 SessKind 0, 0) ∷ (key 1 1 ServKind 0, 0) ∷ [];
  is_forest = true;
  is_linked = true;
  is_clean = true;
}

abbrev pub kind_before_dead : Type 0
kind_before_dead = played trace events ≡ outcome
