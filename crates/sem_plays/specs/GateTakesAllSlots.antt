-- A gate may have as many credits as there are slots; too many credits are refused before the
-- destination is tested.
use Rattle.std.specs.Prelude.{◌≡◌, true, Some, None, List, [], ◌∷◌}
use Rattle.sem_machine.specs.Prelude.{MemKind, RecvKind, SendKind, Mem, Recv, Gate, Calls, Event, Called, Entry}
use Rattle.sem_machine.specs.Prelude.{Setup, event}
use Rattle.sem_plays.specs.Words.{key, grant, reply, entry, owners, root, vpe}
use Rattle.sem_plays.specs.Played.{Played, played}

unfoldable pub trace : Setup
trace = record {
  version = 1;
  window = 4;
  kernels = 1;
  owners = owners 1 (Some 0 ∷ []);
  vpes =
      vpe 0 0 (root 0 (Recv 2) ∷ root 1 (Mem 0 4096 7) ∷ []) (Gate 0 2 5 2 ∷ Gate 0 3 5 3 ∷ Gate 1 3 5 64
      ∷ Gate 1 3 5 1 ∷ [])
      ∷ [];
  services = [];
  offers = [];
  denies = [];
  kills = [];
}

unfoldable pub events : List Event
events =
    event 0 (Calls 0)
    ∷ event 0 (Calls 0)
    ∷ event 0 (Calls 0)
    ∷ event 0 (Calls 0)
    ∷ []

unfoldable pub journal : List Entry
journal =
    entry 0 (Calls 0) (Called 0 (Gate 0 2 5 2)) (grant (key 0 0 RecvKind 0) (key 0 0 SendKind 2)) None (reply 0 0)
    ∷ entry 0 (Calls 0) (Called 1 (Gate 0 3 5 3)) None None (reply 0 9)
    ∷ entry 0 (Calls 0) (Called 2 (Gate 1 3 5 64)) None None (reply 0 8)
    ∷ entry 0 (Calls 0) (Called 3 (Gate 1 3 5 1)) None None (reply 0 8)
    ∷ []

unfoldable pub outcome : Played
outcome = record {
  entries = journal;
  all_enabled = true;
  left = [];
  made = 3;
  cut = 0;
  held = (key 0 0 MemKind 1, 1) ∷ (key 0 0 RecvKind 0, 0) ∷ (key 0 0 SendKind 2, 2) ∷ [];
  is_forest = true;
  is_linked = true;
  is_clean = true;
}

abbrev pub gate_takes_all_slots : Type 0
gate_takes_all_slots = played trace events ≡ outcome
