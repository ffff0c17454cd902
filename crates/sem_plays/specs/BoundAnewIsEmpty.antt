-- An endpoint that is bound anew has an empty ring.
use Rattle.std.specs.Prelude.{◌≡◌, true, Some, None, List, [], ◌∷◌}
use Rattle.sem_machine.specs.Prelude.{RecvKind, SendKind, Recv, Gate, Bind, SendCall, Credit, Calls, Event, Called}
use Rattle.sem_machine.specs.Prelude.{Entry, Setup, event}
use Rattle.sem_plays.specs.Words.{key, grant, reply, entry, owners, root, vpe}
use Rattle.sem_plays.specs.Played.{Played, played}

unfoldable pub trace : Setup
trace = record {
  version = 1;
  window = 4;
  kernels = 1;
  owners = owners 1 (Some 0 ∷ []);
  vpes =
      vpe 0 0 (root 0 (Recv 2) ∷ []) (Gate 0 1 5 1 ∷ Bind 3 1 ∷ SendCall 3 8 ∷ SendCall 3 8 ∷ Bind 3 1 ∷ Credit 3
      ∷ SendCall 3 9 ∷ Credit 3 ∷ [])
      ∷ [];
  services = [];
  offers = [];
  denies = [];
  kills = [];
}

unfoldable pub events : List Event
events =
    event 0 (Calls 0)
    ∷ event 0 (Calls 0)
    ∷ event 0 (Calls 0)
    ∷ event 0 (Calls 0)
    ∷ event 0 (Calls 0)
    ∷ event 0 (Calls 0)
    ∷ event 0 (Calls 0)
    ∷ event 0 (Calls 0)
    ∷ []

unfoldable pub journal : List Entry
journal =
    entry 0 (Calls 0) (Called 0 (Gate 0 1 5 1)) (grant (key 0 0 RecvKind 0) (key 0 0 SendKind 1)) None (reply 0 0)
    ∷ entry 0 (Calls 0) (Called 1 (Bind 3 1)) None None (reply 0 0)
    ∷ entry 0 (Calls 0) (Called 2 (SendCall 3 8)) None None (reply 0 0)
    ∷ entry 0 (Calls 0) (Called 3 (SendCall 3 8)) None None (reply 0 14)
    ∷ entry 0 (Calls 0) (Called 4 (Bind 3 1)) None None (reply 0 0)
    ∷ entry 0 (Calls 0) (Called 5 (Credit 3)) None None (reply 0 14)
    ∷ entry 0 (Calls 0) (Called 6 (SendCall 3 9)) None None (reply 0 0)
    ∷ entry 0 (Calls 0) (Called 7 (Credit 3)) None None (reply 0 0)
    ∷ []

unfoldable pub outcome : Played
outcome = record {
  entries = journal;
  all_enabled = true;
  left = [];
  made = 2;
  cut = 0;
  held = (key 0 0 RecvKind 0, 0) ∷ (key 0 0 SendKind 1, 1) ∷ [];
  is_forest = true;
  is_linked = true;
  is_clean = true;
}

abbrev pub bound_anew_is_empty : Type 0
bound_anew_is_empty = played trace events ≡ outcome
