-- The asks of an ended VPE are answered with Dead, whatever it denies, or dropped.
use Rattle.std.specs.Prelude.{◌≡◌, true, Some, None, List, [], ◌∷◌}
use Rattle.sem_machine.specs.Prelude.{MemKind, Mem, SelTarget, ObtainReq, ObtainNo, Obtain, Delegate, Calls, Fetch}
use Rattle.sem_machine.specs.Prelude.{Handle, Resume, Flush, Kill, Event, Called, Carried, Nothing, Entry, Setup}
use Rattle.sem_machine.specs.Prelude.{event}
use Rattle.sem_plays.specs.Words.{key, place, reply, entry, owners, root, vpe}
use Rattle.sem_plays.specs.Played.{Played, played}

unfoldable pub trace : Setup
trace = record {
  version = 1;
  window = 4;
  kernels = 2;
  owners = owners 2 (Some 0 ∷ Some 1 ∷ Some 0 ∷ Some 0 ∷ []);
  vpes =
      vpe 0 0 (root 0 (Mem 0 4096 7) ∷ []) []
      ∷ vpe 1 1 [] (Obtain 1 0 0 ∷ [])
      ∷ vpe 2 2 [] (Obtain 1 0 0 ∷ [])
      ∷ vpe 3 3 (root 0 (Mem 0 1 1) ∷ []) (Delegate 0 0 5 ∷ [])
      ∷ [];
  services = [];
  offers = [];
  denies = (0, 3) ∷ [];
  kills = (0, 0) ∷ (2, 0) ∷ [];
}

unfoldable pub events : List Event
events =
    event 0 (Calls 2)
    ∷ event 0 (Calls 3)
    ∷ event 1 (Calls 1)
    ∷ event 1 (Flush 0)
    ∷ event 0 (Fetch 1)
    ∷ event 0 Handle
    ∷ event 0 (Kill 2)
    ∷ event 0 (Kill 0)
    ∷ event 0 (Resume 3)
    ∷ event 0 (Flush 1)
    ∷ event 1 (Fetch 0)
    ∷ event 1 Handle
    ∷ event 1 (Resume 1)
    ∷ []

unfoldable pub journal : List Entry
journal =
    entry 0 (Calls 2) (Called 0 (Obtain 1 0 0)) None None None
    ∷ entry 0 (Calls 3) (Called 0 (Delegate 0 0 5)) None None None
    ∷ entry 1 (Calls 1) (Called 0 (Obtain 1 0 0)) None None None
    ∷ entry 1 (Flush 0) (Carried 0 (ObtainReq (place 1 1 0) (SelTarget 0 0))) None None None
    ∷ entry 0 (Fetch 1) (Carried 1 (ObtainReq (place 1 1 0) (SelTarget 0 0))) None None None
    ∷ entry 0 Handle (Carried 1 (ObtainReq (place 1 1 0) (SelTarget 0 0))) None None None
    ∷ entry 0 (Kill 2) Nothing None None None
    ∷ entry 0 (Kill 0) Nothing None None None
    ∷ entry 0 (Resume 3) Nothing None None (reply 3 2)
    ∷ entry 0 (Flush 1) (Carried 1 (ObtainNo (place 1 1 0) 2)) None None None
    ∷ entry 1 (Fetch 0) (Carried 0 (ObtainNo (place 1 1 0) 2)) None None None
    ∷ entry 1 Handle (Carried 0 (ObtainNo (place 1 1 0) 2)) None None None
    ∷ entry 1 (Resume 1) Nothing None None (reply 1 2)
    ∷ []

unfoldable pub outcome : Played
outcome = record {
  entries = journal;
  all_enabled = true;
  left = [];
  made = 2;
  cut = 1;
  held = (key 3 3 MemKind 0, 0) ∷ [];
  is_forest = true;
  is_linked = true;
  is_clean = true;
}

abbrev pub asks_of_the_ended : Type 0
asks_of_the_ended = played trace events ≡ outcome
