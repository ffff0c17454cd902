-- The kernel answers a delegate for a dead VPE.
use Rattle.std.specs.Prelude.{◌≡◌, true, Some, None, List, [], ◌∷◌}
use Rattle.sem_machine.specs.Prelude.{MemKind, Mem, DelegateReq, DelegateNo, Delegate, Calls, Fetch, Handle, Resume}
use Rattle.sem_machine.specs.Prelude.{Flush, Kill, Event, Called, Carried, Nothing, Entry, Setup, event}
use Rattle.sem_plays.specs.Words.{key, reply, entry, owners, root, vpe}
use Rattle.sem_plays.specs.Played.{Played, played}

unfoldable pub trace : Setup
trace = record {
  version = 1;
  window = 4;
  kernels = 2;
  owners = owners 2 (Some 0 ∷ Some 1 ∷ []);
  vpes =
      vpe 0 0 (root 0 (Mem 0 4096 7) ∷ []) (Delegate 0 1 4 ∷ [])
      ∷ vpe 1 1 [] []
      ∷ [];
  services = [];
  offers = [];
  denies = [];
  kills = (1, 0) ∷ [];
}

unfoldable pub events : List Event
events =
    event 1 (Kill 1)
    ∷ event 0 (Calls 0)
    ∷ event 0 (Flush 1)
    ∷ event 1 (Fetch 0)
    ∷ event 1 Handle
    ∷ event 1 (Flush 0)
    ∷ event 0 (Fetch 1)
    ∷ event 0 Handle
    ∷ event 0 (Resume 0)
    ∷ []

unfoldable pub journal : List Entry
journal =
    entry 1 (Kill 1) Nothing None None None
    ∷ entry 0 (Calls 0) (Called 0 (Delegate 0 1 4)) None None None
    ∷ entry 0 (Flush 1) (Carried 1 (DelegateReq (key 0 0 MemKind 0) (Mem 0 4096 7) 1 4)) None None None
    ∷ entry 1 (Fetch 0) (Carried 0 (DelegateReq (key 0 0 MemKind 0) (Mem 0 4096 7) 1 4)) None None None
    ∷ entry 1 Handle (Carried 0 (DelegateReq (key 0 0 MemKind 0) (Mem 0 4096 7) 1 4)) None None None
    ∷ entry 1 (Flush 0) (Carried 0 (DelegateNo (key 0 0 MemKind 0) 2)) None None None
    ∷ entry 0 (Fetch 1) (Carried 1 (DelegateNo (key 0 0 MemKind 0) 2)) None None None
    ∷ entry 0 Handle (Carried 1 (DelegateNo (key 0 0 MemKind 0) 2)) None None None
    ∷ entry 0 (Resume 0) Nothing None None (reply 0 2)
    ∷ []

unfoldable pub outcome : Played
outcome = record {
  entries = journal;
  all_enabled = true;
  left = [];
  made = 1;
  cut = 0;
  held = (key 0 0 MemKind 0, 0) ∷ [];
  is_forest = true;
  is_linked = true;
  is_clean = true;
}

abbrev pub delegate_to_the_dead : Type 0
delegate_to_the_dead = played trace events ≡ outcome
