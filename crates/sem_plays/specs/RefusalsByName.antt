-- Refusals by name.
use Rattle.std.specs.Prelude.{◌≡◌, true, Some, None, List, [], ◌∷◌}
use Rattle.sem_machine.specs.Prelude.{MemKind, RecvKind, SendKind, Mem, Recv, Derive, Gate, Obtain, OpenSession, Bind}
use Rattle.sem_machine.specs.Prelude.{Read, Write, SendCall, Credit, Exit, Calls, Upcall, Resume, Event, No, Called}
use Rattle.sem_machine.specs.Prelude.{Asked, Nothing, Entry, Setup, event}
use Rattle.sem_plays.specs.Words.{key, grant, reply, entry, owners, root, vpe}
use Rattle.sem_plays.specs.Played.{Played, played}

unfoldable pub trace : Setup
trace = record {
  version = 1;
  window = 4;
  kernels = 1;
  owners = owners 1 (Some 0 ∷ Some 0 ∷ []);
  vpes =
      vpe 0 0 (root 0 (Mem 0 100 1) ∷ root 1 (Recv 2) ∷ []) (Obtain 5 9 0 ∷ Obtain 5 1 0 ∷ Derive 0 5 50 51 1
      ∷ Derive 0 5 0 100 3 ∷ Derive 1 5 0 1 1 ∷ OpenSession 5 3 ∷ Bind 0 0 ∷ Write 0 0 1 ∷ Read 0 100 0
      ∷ Read 0 100 1 ∷ Read 1 0 1 ∷ Gate 1 5 7 3 ∷ Gate 1 5 7 1 ∷ Bind 1 5 ∷ SendCall 1 8 ∷ SendCall 1 8
      ∷ Credit 1 ∷ Credit 1 ∷ Derive 9 5 0 1 1 ∷ Obtain 5 1 0 ∷ Exit ∷ [])
      ∷ vpe 1 1 (root 0 (Mem 100 100 7) ∷ []) []
      ∷ [];
  services = [];
  offers = [];
  denies = (1, 0) ∷ [];
  kills = [];
}

unfoldable pub events : List Event
events =
    event 0 (Calls 0)
    ∷ event 0 (Calls 0)
    ∷ event 0 (Upcall 1)
    ∷ event 0 (Resume 0)
    ∷ event 0 (Calls 0)
    ∷ event 0 (Calls 0)
    ∷ event 0 (Calls 0)
    ∷ event 0 (Calls 0)
    ∷ event 0 (Calls 0)
    ∷ event 0 (Calls 0)
    ∷ event 0 (Calls 0)
    ∷ event 0 (Calls 0)
    ∷ event 0 (Calls 0)
    ∷ event 0 (Calls 0)
    ∷ event 0 (Calls 0)
    ∷ event 0 (Calls 0)
    ∷ event 0 (Calls 0)
    ∷ event 0 (Calls 0)
    ∷ event 0 (Calls 0)
    ∷ event 0 (Calls 0)
    ∷ event 0 (Calls 0)
    ∷ event 0 (Calls 0)
    ∷ event 0 (Calls 0)
    ∷ []

unfoldable pub journal : List Entry
journal =
    entry 0 (Calls 0) (Called 0 (Obtain 5 9 0)) None None (reply 0 1)
    ∷ entry 0 (Calls 0) (Called 1 (Obtain 5 1 0)) None None None
    ∷ entry 0 (Upcall 1) (Asked 0 No) None None None
    ∷ entry 0 (Resume 0) Nothing None None (reply 0 5)
    ∷ entry 0 (Calls 0) (Called 2 (Derive 0 5 50 51 1)) None None (reply 0 9)
    ∷ entry 0 (Calls 0) (Called 3 (Derive 0 5 0 100 3)) None None (reply 0 9)
    ∷ entry 0 (Calls 0) (Called 4 (Derive 1 5 0 1 1)) None None (reply 0 8)
    ∷ entry 0 (Calls 0) (Called 5 (OpenSession 5 3)) None None (reply 0 10)
    ∷ entry 0 (Calls 0) (Called 6 (Bind 0 0)) None None (reply 0 0)
    ∷ entry 0 (Calls 0) (Called 7 (Write 0 0 1)) None None (reply 0 13)
    ∷ entry 0 (Calls 0) (Called 8 (Read 0 100 0)) None None (reply 0 0)
    ∷ entry 0 (Calls 0) (Called 9 (Read 0 100 1)) None None (reply 0 14)
    ∷ entry 0 (Calls 0) (Called 10 (Read 1 0 1)) None None (reply 0 12)
    ∷ entry 0 (Calls 0) (Called 11 (Gate 1 5 7 3)) None None (reply 0 9)
    ∷ entry 0 (Calls 0) (Called 12 (Gate 1 5 7 1)) (grant (key 0 0 RecvKind 1) (key 0 0 SendKind 3)) None (reply 0 0)
    ∷ entry 0 (Calls 0) (Called 13 (Bind 1 5)) None None (reply 0 0)
    ∷ entry 0 (Calls 0) (Called 14 (SendCall 1 8)) None None (reply 0 0)
    ∷ entry 0 (Calls 0) (Called 15 (SendCall 1 8)) None None (reply 0 14)
    ∷ entry 0 (Calls 0) (Called 16 (Credit 1)) None None (reply 0 0)
    ∷ entry 0 (Calls 0) (Called 17 (Credit 1)) None None (reply 0 14)
    ∷ entry 0 (Calls 0) (Called 18 (Derive 9 5 0 1 1)) None None (reply 0 3)
    ∷ entry 0 (Calls 0) (Called 19 (Obtain 5 1 0)) None None (reply 0 6)
    ∷ entry 0 (Calls 0) (Called 20 Exit) None None (reply 0 0)
    ∷ []

unfoldable pub outcome : Played
outcome = record {
  entries = journal;
  all_enabled = true;
  left = [];
  made = 4;
  cut = 3;
  held = (key 1 1 MemKind 0, 0) ∷ [];
  is_forest = true;
  is_linked = true;
  is_clean = true;
}

abbrev pub refusals_by_name : Type 0
refusals_by_name = played trace events ≡ outcome
