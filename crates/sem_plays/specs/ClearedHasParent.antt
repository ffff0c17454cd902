-- A cleared capability is still below its parent, and goes with it.
use Rattle.std.specs.Prelude.{◌≡◌, true, Some, None, List, [], ◌∷◌}
use Rattle.sem_machine.specs.Prelude.{MemKind, Mem, Derive, Revoke, Clear, Calls, Resume, Event, Called, Nothing}
use Rattle.sem_machine.specs.Prelude.{Entry, Setup, event}
use Rattle.sem_plays.specs.Words.{key, grant, reply, entry, owners, root, vpe}
use Rattle.sem_plays.specs.Played.{Played, played}

unfoldable pub trace : Setup
trace = record {
  version = 1;
  window = 4;
  kernels = 1;
  owners = owners 1 (Some 0 ∷ []);
  vpes =
      vpe 0 0 (root 0 (Mem 0 4096 7) ∷ []) (Derive 0 1 0 1024 7 ∷ Derive 1 2 0 1 1 ∷ Clear 1 ∷ Derive 1 2 0 1 1
      ∷ Revoke 0 ∷ Derive 1 3 0 1 1 ∷ [])
      ∷ [];
  services = [];
  offers = [];
  denies = [];
  kills = [];
}

unfoldable pub events : List Event
events =
    event 0 (Calls 0)
    ∷ event 0 (Calls 0)
    ∷ event 0 (Calls 0)
    ∷ event 0 (Resume 0)
    ∷ event 0 (Calls 0)
    ∷ event 0 (Calls 0)
    ∷ event 0 (Resume 0)
    ∷ event 0 (Calls 0)
    ∷ []

unfoldable pub journal : List Entry
journal =
    entry 0 (Calls 0) (Called 0 (Derive 0 1 0 1024 7)) (grant (key 0 0 MemKind 0) (key 0 0 MemKind 1)) None
    (reply 0 0)
    ∷ entry 0 (Calls 0) (Called 1 (Derive 1 2 0 1 1)) (grant (key 0 0 MemKind 1) (key 0 0 MemKind 2)) None (reply 0 0)
    ∷ entry 0 (Calls 0) (Called 2 (Clear 1)) None (Some (key 0 0 MemKind 1)) None
    ∷ entry 0 (Resume 0) Nothing None None (reply 0 0)
    ∷ entry 0 (Calls 0) (Called 3 (Derive 1 2 0 1 1)) (grant (key 0 0 MemKind 1) (key 0 0 MemKind 3)) None (reply 0 0)
    ∷ entry 0 (Calls 0) (Called 4 (Revoke 0)) None (Some (key 0 0 MemKind 0)) None
    ∷ entry 0 (Resume 0) Nothing None None (reply 0 0)
    ∷ entry 0 (Calls 0) (Called 5 (Derive 1 3 0 1 1)) None None (reply 0 3)
    ∷ []

unfoldable pub outcome : Played
outcome = record {
  entries = journal;
  all_enabled = true;
  left = [];
  made = 4;
  cut = 2;
  held = [];
  is_forest = true;
  is_linked = true;
  is_clean = true;
}

abbrev pub cleared_has_parent : Type 0
cleared_has_parent = played trace events ≡ outcome
