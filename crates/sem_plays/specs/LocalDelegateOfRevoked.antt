-- A delegate within one kernel whose parent is gone, and one to an occupied selector.
use Rattle.std.specs.Prelude.{◌≡◌, true, Some, None, List, [], ◌∷◌}
use Rattle.sem_machine.specs.Prelude.{MemKind, Mem, Obtain, Delegate, Revoke, Calls, Upcall, Resume, Event, Yes}
use Rattle.sem_machine.specs.Prelude.{Called, Asked, Nothing, Entry, Setup, event}
use Rattle.sem_plays.specs.Words.{key, grant, reply, entry, owners, root, vpe}
use Rattle.sem_plays.specs.Played.{Played, played}

unfoldable pub trace : Setup
trace = record {
  version = 1;
  window = 4;
  kernels = 2;
  owners = owners 2 (Some 0 ∷ Some 0 ∷ Some 0 ∷ Some 1 ∷ []);
  vpes =
      vpe 0 0 (root 0 (Mem 0 1 1) ∷ []) (Obtain 1 2 0 ∷ Delegate 1 1 4 ∷ Delegate 0 1 4 ∷ Delegate 0 1 5 ∷ [])
      ∷ vpe 1 1 (root 4 (Mem 0 1 1) ∷ []) []
      ∷ vpe 2 2 (root 0 (Mem 0 4096 7) ∷ []) (Revoke 0 ∷ [])
      ∷ vpe 3 3 [] []
      ∷ [];
  services = [];
  offers = [];
  denies = [];
  kills = [];
}

unfoldable pub events : List Event
events =
    event 0 (Calls 0)
    ∷ event 0 (Upcall 2)
    ∷ event 0 (Resume 0)
    ∷ event 0 (Calls 0)
    ∷ event 0 (Calls 2)
    ∷ event 0 (Resume 2)
    ∷ event 0 (Upcall 1)
    ∷ event 0 (Resume 0)
    ∷ event 0 (Calls 0)
    ∷ event 0 (Upcall 1)
    ∷ event 0 (Resume 0)
    ∷ event 0 (Calls 0)
    ∷ event 0 (Upcall 1)
    ∷ event 0 (Resume 0)
    ∷ []

unfoldable pub journal : List Entry
journal =
    entry 0 (Calls 0) (Called 0 (Obtain 1 2 0)) None None None
    ∷ entry 0 (Upcall 2) (Asked 0 Yes) (grant (key 2 2 MemKind 0) (key 0 0 MemKind 1)) None None
    ∷ entry 0 (Resume 0) Nothing None None (reply 0 0)
    ∷ entry 0 (Calls 0) (Called 1 (Delegate 1 1 4)) None None None
    ∷ entry 0 (Calls 2) (Called 0 (Revoke 0)) None (Some (key 2 2 MemKind 0)) None
    ∷ entry 0 (Resume 2) Nothing None None (reply 2 0)
    ∷ entry 0 (Upcall 1) (Asked 0 Yes) None None None
    ∷ entry 0 (Resume 0) Nothing None None (reply 0 11)
    ∷ entry 0 (Calls 0) (Called 2 (Delegate 0 1 4)) None None None
    ∷ entry 0 (Upcall 1) (Asked 0 Yes) None None None
    ∷ entry 0 (Resume 0) Nothing None None (reply 0 6)
    ∷ entry 0 (Calls 0) (Called 3 (Delegate 0 1 5)) None None None
    ∷ entry 0 (Upcall 1) (Asked 0 Yes) (grant (key 0 0 MemKind 0) (key 1 1 MemKind 1)) None None
    ∷ entry 0 (Resume 0) Nothing None None (reply 0 0)
    ∷ []

unfoldable pub outcome : Played
outcome = record {
  entries = journal;
  all_enabled = true;
  left = [];
  made = 5;
  cut = 1;
  held = (key 0 0 MemKind 0, 0) ∷ (key 1 1 MemKind 0, 4) ∷ (key 1 1 MemKind 1, 5) ∷ [];
  is_forest = true;
  is_linked = true;
  is_clean = true;
}

abbrev pub local_delegate_of_revoked : Type 0
local_delegate_of_revoked = played trace events ≡ outcome
