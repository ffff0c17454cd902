-- A clear takes a line of local descendants. Their selectors are free, and the root is used as
-- before.
use Rattle.std.specs.Prelude.{◌≡◌, true, Some, None, List, [], ◌∷◌}
use Rattle.sem_machine.specs.Prelude.{MemKind, Mem, Derive, Obtain, Clear, Calls, Upcall, Resume, Event, Yes, Called}
use Rattle.sem_machine.specs.Prelude.{Asked, Nothing, Entry, Setup, event}
use Rattle.sem_plays.specs.Words.{key, grant, reply, entry, owners, root, vpe}
use Rattle.sem_plays.specs.Played.{Played, played}

unfoldable pub trace : Setup
trace = record {
  version = 1;
  window = 4;
  kernels = 1;
  owners = owners 1 (Some 0 ∷ None ∷ Some 0 ∷ []);
  vpes =
      vpe 0 0 (root 0 (Mem 0 4096 7) ∷ []) (Derive 0 1 0 1024 7 ∷ Derive 0 2 0 8 1 ∷ Clear 0 ∷ Derive 1 3 0 1 1
      ∷ Derive 0 1 0 1 1 ∷ Derive 0 0 0 1 1 ∷ [])
      ∷ vpe 2 2 [] (Obtain 5 0 1 ∷ Derive 5 6 0 16 1 ∷ Derive 5 7 0 1 1 ∷ Obtain 6 0 0 ∷ [])
      ∷ [];
  services = [];
  offers = [];
  denies = [];
  kills = [];
}

unfoldable pub events : List Event
events =
    event 0 (Calls 0)
    ∷ event 0 (Calls 2)
    ∷ event 0 (Upcall 0)
    ∷ event 0 (Resume 2)
    ∷ event 0 (Calls 2)
    ∷ event 0 (Calls 0)
    ∷ event 0 (Calls 0)
    ∷ event 0 (Resume 0)
    ∷ event 0 (Calls 0)
    ∷ event 0 (Calls 0)
    ∷ event 0 (Calls 0)
    ∷ event 0 (Calls 2)
    ∷ event 0 (Calls 2)
    ∷ event 0 (Upcall 0)
    ∷ event 0 (Resume 2)
    ∷ []

unfoldable pub journal : List Entry
journal =
    entry 0 (Calls 0) (Called 0 (Derive 0 1 0 1024 7)) (grant (key 0 0 MemKind 0) (key 0 0 MemKind 1)) None
    (reply 0 0)
    ∷ entry 0 (Calls 2) (Called 0 (Obtain 5 0 1)) None None None
    ∷ entry 0 (Upcall 0) (Asked 2 Yes) (grant (key 0 0 MemKind 1) (key 2 2 MemKind 0)) None None
    ∷ entry 0 (Resume 2) Nothing None None (reply 2 0)
    ∷ entry 0 (Calls 2) (Called 1 (Derive 5 6 0 16 1)) (grant (key 2 2 MemKind 0) (key 2 2 MemKind 1)) None
    (reply 2 0)
    ∷ entry 0 (Calls 0) (Called 1 (Derive 0 2 0 8 1)) (grant (key 0 0 MemKind 0) (key 0 0 MemKind 2)) None (reply 0 0)
    ∷ entry 0 (Calls 0) (Called 2 (Clear 0)) None (Some (key 0 0 MemKind 0)) None
    ∷ entry 0 (Resume 0) Nothing None None (reply 0 0)
    ∷ entry 0 (Calls 0) (Called 3 (Derive 1 3 0 1 1)) None None (reply 0 3)
    ∷ entry 0 (Calls 0) (Called 4 (Derive 0 1 0 1 1)) (grant (key 0 0 MemKind 0) (key 0 0 MemKind 3)) None (reply 0 0)
    ∷ entry 0 (Calls 0) (Called 5 (Derive 0 0 0 1 1)) None None (reply 0 6)
    ∷ entry 0 (Calls 2) (Called 2 (Derive 5 7 0 1 1)) None None (reply 2 3)
    ∷ entry 0 (Calls 2) (Called 3 (Obtain 6 0 0)) None None None
    ∷ entry 0 (Upcall 0) (Asked 2 Yes) (grant (key 0 0 MemKind 0) (key 2 2 MemKind 2)) None None
    ∷ entry 0 (Resume 2) Nothing None None (reply 2 0)
    ∷ []

unfoldable pub outcome : Played
outcome = record {
  entries = journal;
  all_enabled = true;
  left = [];
  made = 7;
  cut = 2;
  held = (key 0 0 MemKind 0, 0) ∷ (key 0 0 MemKind 3, 1) ∷ (key 2 2 MemKind 2, 6) ∷ [];
  is_forest = true;
  is_linked = true;
  is_clean = true;
}

abbrev pub cleared_locally : Type 0
cleared_locally = played trace events ≡ outcome
