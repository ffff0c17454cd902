-- A call learns of a dead VPE of the same kernel only after the tests for itself and for an
-- undeclared VPE.
use Rattle.std.specs.Prelude.{◌≡◌, true, Some, None, List, [], ◌∷◌}
use Rattle.sem_machine.specs.Prelude.{MemKind, ServKind, Mem, Serv, Obtain, Delegate, OpenSession, Calls, Kill, Event}
use Rattle.sem_machine.specs.Prelude.{Called, Nothing, Entry, Setup, event}
use Rattle.sem_plays.specs.Words.{key, reply, entry, owners, root, vpe, service}
use Rattle.sem_plays.specs.Played.{Played, played}

unfoldable pub trace : Setup
trace = record {
  version = 1;
  window = 4;
  kernels = 1;
  owners = owners 1 (Some 0 ∷ Some 0 ∷ []);
  vpes =
      vpe 0 0 (root 0 (Mem 0 4096 7) ∷ []) (Obtain 0 1 0 ∷ OpenSession 0 1 ∷ Delegate 0 1 3 ∷ Obtain 0 0 0
      ∷ Delegate 9 0 0 ∷ Delegate 9 9 0 ∷ [])
      ∷ vpe 1 1 (root 0 (Serv 1) ∷ []) []
      ∷ [];
  services = service 1 (key 1 1 ServKind 0) ∷ [];
  offers = [];
  denies = [];
  kills = (1, 0) ∷ [];
}

unfoldable pub events : List Event
events =
    event 0 (Kill 1)
    ∷ event 0 (Calls 0)
    ∷ event 0 (Calls 0)
    ∷ event 0 (Calls 0)
    ∷ event 0 (Calls 0)
    ∷ event 0 (Calls 0)
    ∷ event 0 (Calls 0)
    ∷ []

unfoldable pub journal : List Entry
journal =
    entry 0 (Kill 1) Nothing None None None
    ∷ entry 0 (Calls 0) (Called 0 (Obtain 0 1 0)) None None (reply 0 2)
    ∷ entry 0 (Calls 0) (Called 1 (OpenSession 0 1)) None None (reply 0 2)
    ∷ entry 0 (Calls 0) (Called 2 (Delegate 0 1 3)) None None (reply 0 2)
    ∷ entry 0 (Calls 0) (Called 3 (Obtain 0 0 0)) None None (reply 0 15)
    ∷ entry 0 (Calls 0) (Called 4 (Delegate 9 0 0)) None None (reply 0 15)
    ∷ entry 0 (Calls 0) (Called 5 (Delegate 9 9 0)) None None (reply 0 1)
    ∷ []

unfoldable pub outcome : Played
outcome = record {
  entries = journal;
  all_enabled = true;
  left = [];
  made = 2;
  cut = 1;
  held = (key 0 0 MemKind 0, 0) ∷ [];
  is_forest = true;
  is_linked = true;
  is_clean = true;
}

abbrev pub dead_is_told : Type 0
dead_is_told = played trace events ≡ outcome
