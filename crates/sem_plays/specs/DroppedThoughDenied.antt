-- The asks of a dead VPE of the same kernel are dropped, even if they are denied.
use Rattle.std.specs.Prelude.{◌≡◌, true, Some, None, List, [], ◌∷◌}
use Rattle.sem_machine.specs.Prelude.{MemKind, Mem, Obtain, Calls, Upcall, Kill, Event, Called, Asked, Nothing, Entry}
use Rattle.sem_machine.specs.Prelude.{Setup, event}
use Rattle.sem_msg.specs.declared.entry.Consent.TheVariants.{Dropped}
use Rattle.sem_plays.specs.Words.{key, entry, owners, root, vpe}
use Rattle.sem_plays.specs.Played.{Played, played}

unfoldable pub trace : Setup
trace = record {
  version = 1;
  window = 4;
  kernels = 1;
  owners = owners 1 (Some 0 ∷ Some 0 ∷ []);
  vpes =
      vpe 0 0 (root 0 (Mem 0 4096 7) ∷ []) []
      ∷ vpe 1 1 [] (Obtain 1 0 0 ∷ [])
      ∷ [];
  services = [];
  offers = [];
  denies = (0, 1) ∷ [];
  kills = (1, 0) ∷ [];
}

unfoldable pub events : List Event
events =
    event 0 (Calls 1)
    ∷ event 0 (Kill 1)
    ∷ event 0 (Upcall 0)
    ∷ []

unfoldable pub journal : List Entry
journal =
    entry 0 (Calls 1) (Called 0 (Obtain 1 0 0)) None None None
    ∷ entry 0 (Kill 1) Nothing None None None
    ∷ entry 0 (Upcall 0) (Asked 1 Dropped) None None None
    ∷ []

unfoldable pub outcome : Played
outcome = record {
  entries = journal;
  all_enabled = true;
  left = [];
  made = 1;
  cut = 0;
  held = (key 0 0 MemKind 0, 0) ∷ [];
  is_forest = true;
  is_linked = true;
  is_clean = true;
}

abbrev pub dropped_though_denied : Type 0
dropped_though_denied = played trace events ≡ outcome
