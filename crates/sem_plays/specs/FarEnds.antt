-- An obtain of the last VPE at the last kernel.
use Rattle.std.specs.Prelude.{◌≡◌, true, Some, None, List, [], ◌∷◌, ◌++◌, replicate}
use Rattle.sem_machine.specs.Prelude.{MemKind, Mem, SelTarget, ObtainReq, ObtainOk, Obtain, Calls, Fetch, Handle}
use Rattle.sem_machine.specs.Prelude.{Upcall, Resume, Flush, Event, Yes, Called, Carried, Asked, Nothing, Entry}
use Rattle.sem_machine.specs.Prelude.{Setup, event}
use Rattle.sem_plays.specs.Words.{key, place, grant, reply, entry, owners, root, vpe}
use Rattle.sem_plays.specs.Played.{Played, played}

unfoldable pub trace : Setup
trace = record {
  version = 2;
  window = 32;
  kernels = 32;
  owners = owners 32 (Some 0 ∷ replicate 126 None ++ Some 31 ∷ []);
  vpes =
      vpe 0 0 (root 0 (Mem 0 4096 7) ∷ []) []
      ∷ vpe 127 127 [] (Obtain 5 0 0 ∷ [])
      ∷ [];
  services = [];
  offers = [];
  denies = [];
  kills = [];
}

unfoldable pub events : List Event
events =
    event 31 (Calls 127)
    ∷ event 31 (Flush 0)
    ∷ event 0 (Fetch 31)
    ∷ event 0 Handle
    ∷ event 0 (Upcall 0)
    ∷ event 0 (Flush 31)
    ∷ event 31 (Fetch 0)
    ∷ event 31 Handle
    ∷ event 31 (Resume 127)
    ∷ []

unfoldable pub journal : List Entry
journal =
    entry 31 (Calls 127) (Called 0 (Obtain 5 0 0)) None None None
    ∷ entry 31 (Flush 0) (Carried 0 (ObtainReq (place 127 127 0) (SelTarget 0 0))) None None None
    ∷ entry 0 (Fetch 31) (Carried 31 (ObtainReq (place 127 127 0) (SelTarget 0 0))) None None None
    ∷ entry 0 Handle (Carried 31 (ObtainReq (place 127 127 0) (SelTarget 0 0))) None None None
    ∷ entry 0 (Upcall 0) (Asked 127 Yes) (grant (key 0 0 MemKind 0) (key 127 127 MemKind 0)) None None
    ∷ entry 0 (Flush 31) (Carried 31 (ObtainOk (key 0 0 MemKind 0) (key 127 127 MemKind 0) (Mem 0 4096 7))) None None
    None
    ∷ entry 31 (Fetch 0) (Carried 0 (ObtainOk (key 0 0 MemKind 0) (key 127 127 MemKind 0) (Mem 0 4096 7))) None None
    None
    ∷ entry 31 Handle (Carried 0 (ObtainOk (key 0 0 MemKind 0) (key 127 127 MemKind 0) (Mem 0 4096 7))) None None None
    ∷ entry 31 (Resume 127) Nothing None None (reply 127 0)
    ∷ []

unfoldable pub outcome : Played
outcome = record {
  entries = journal;
  all_enabled = true;
  left = [];
  made = 2;
  cut = 0;
  held = (key 0 0 MemKind 0, 0) ∷ (key 127 127 MemKind 0, 5) ∷ [];
  is_forest = true;
  is_linked = true;
  is_clean = true;
}

abbrev pub far_ends : Type 0
far_ends = played trace events ≡ outcome
