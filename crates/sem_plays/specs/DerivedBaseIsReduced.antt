-- A derive refuses in order, and its base is taken modulo 2 to the 32.
use Rattle.std.specs.Prelude.{◌≡◌, true, Some, None, List, [], ◌∷◌}
use Rattle.sem_machine.specs.Prelude.{MemKind, Mem, SelTarget, ObtainReq, ObtainOk, Derive, Obtain, Calls, Fetch}
use Rattle.sem_machine.specs.Prelude.{Handle, Upcall, Resume, Flush, Event, Yes, Called, Carried, Asked, Nothing}
use Rattle.sem_machine.specs.Prelude.{Entry, Setup, event}
use Rattle.sem_plays.specs.Words.{key, place, grant, reply, entry, owners, root, vpe}
use Rattle.sem_plays.specs.Played.{Played, played}

unfoldable pub trace : Setup
trace = record {
  version = 1;
  window = 4;
  kernels = 2;
  owners = owners 2 (Some 0 ∷ Some 1 ∷ []);
  vpes =
      vpe 0 0 (root 0 (Mem 4294967295 1 7) ∷ []) (Derive 0 0 1 1 7 ∷ Derive 0 0 0 1 7 ∷ Derive 0 1 1 0 7 ∷ [])
      ∷ vpe 1 1 [] (Obtain 0 0 1 ∷ [])
      ∷ [];
  services = [];
  offers = [];
  denies = [];
  kills = [];
}

unfoldable pub events : List Event
events =
    event 0 (Calls 0)
    ∷ event 0 (Calls 0)
    ∷ event 0 (Calls 0)
    ∷ event 1 (Calls 1)
    ∷ event 1 (Flush 0)
    ∷ event 0 (Fetch 1)
    ∷ event 0 Handle
    ∷ event 0 (Upcall 0)
    ∷ event 0 (Flush 1)
    ∷ event 1 (Fetch 0)
    ∷ event 1 Handle
    ∷ event 1 (Resume 1)
    ∷ []

unfoldable pub journal : List Entry
journal =
    entry 0 (Calls 0) (Called 0 (Derive 0 0 1 1 7)) None None (reply 0 9)
    ∷ entry 0 (Calls 0) (Called 1 (Derive 0 0 0 1 7)) None None (reply 0 6)
    ∷ entry 0 (Calls 0) (Called 2 (Derive 0 1 1 0 7)) (grant (key 0 0 MemKind 0) (key 0 0 MemKind 1)) None (reply 0 0)
    ∷ entry 1 (Calls 1) (Called 0 (Obtain 0 0 1)) None None None
    ∷ entry 1 (Flush 0) (Carried 0 (ObtainReq (place 1 1 0) (SelTarget 0 1))) None None None
    ∷ entry 0 (Fetch 1) (Carried 1 (ObtainReq (place 1 1 0) (SelTarget 0 1))) None None None
    ∷ entry 0 Handle (Carried 1 (ObtainReq (place 1 1 0) (SelTarget 0 1))) None None None
    ∷ entry 0 (Upcall 0) (Asked 1 Yes) (grant (key 0 0 MemKind 1) (key 1 1 MemKind 0)) None None
    ∷ entry 0 (Flush 1) (Carried 1 (ObtainOk (key 0 0 MemKind 1) (key 1 1 MemKind 0) (Mem 0 0 7))) None None None
    ∷ entry 1 (Fetch 0) (Carried 0 (ObtainOk (key 0 0 MemKind 1) (key 1 1 MemKind 0) (Mem 0 0 7))) None None None
    ∷ entry 1 Handle (Carried 0 (ObtainOk (key 0 0 MemKind 1) (key 1 1 MemKind 0) (Mem 0 0 7))) None None None
    ∷ entry 1 (Resume 1) Nothing None None (reply 1 0)
    ∷ []

unfoldable pub outcome : Played
outcome = record {
  entries = journal;
  all_enabled = true;
  left = [];
  made = 3;
  cut = 0;
  held = (key 0 0 MemKind 0, 0) ∷ (key 0 0 MemKind 1, 1) ∷ (key 1 1 MemKind 0, 0) ∷ [];
  is_forest = true;
  is_linked = true;
  is_clean = true;
}

abbrev pub derived_base_is_reduced : Type 0
derived_base_is_reduced = played trace events ≡ outcome
