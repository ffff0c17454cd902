-- A clear of a send gate keeps the gate, and one of its receive gate takes it.
use Rattle.std.specs.Prelude.{◌≡◌, true, Some, None, List, [], ◌∷◌}
use Rattle.sem_machine.specs.Prelude.{RecvKind, SendKind, Recv, Send, SelTarget, ObtainReq, ObtainOk, RevokeReq}
use Rattle.sem_machine.specs.Prelude.{RevokeDone, Gate, Obtain, Bind, SendCall, Credit, Clear, Calls, Fetch, Handle}
use Rattle.sem_machine.specs.Prelude.{Upcall, Resume, Flush, Event, Yes, Called, Carried, Asked, Nothing, Entry}
use Rattle.sem_machine.specs.Prelude.{Setup, event}
use Rattle.sem_plays.specs.Words.{key, place, grant, reply, entry, owners, root, vpe}
use Rattle.sem_plays.specs.Played.{Played, played}

unfoldable pub trace : Setup
trace = record {
  version = 1;
  window = 4;
  kernels = 2;
  owners = owners 2 (Some 0 ∷ Some 1 ∷ Some 0 ∷ []);
  vpes =
      vpe 0 0 (root 0 (Recv 8) ∷ []) (Gate 0 1 77 2 ∷ Bind 0 1 ∷ Bind 1 0 ∷ SendCall 0 5 ∷ Clear 1 ∷ SendCall 0 5
      ∷ Bind 0 1 ∷ SendCall 0 5 ∷ SendCall 0 6 ∷ Clear 0 ∷ Credit 0 ∷ Bind 1 1 ∷ Bind 1 0 ∷ [])
      ∷ vpe 1 1 [] (Obtain 2 0 1 ∷ [])
      ∷ vpe 2 2 [] (Obtain 2 0 1 ∷ Bind 0 2 ∷ SendCall 0 16 ∷ SendCall 0 16 ∷ [])
      ∷ [];
  services = [];
  offers = [];
  denies = [];
  kills = [];
}

unfoldable pub events : List Event
events =
    event 0 (Calls 0)
    ∷ event 0 (Calls 2)
    ∷ event 0 (Upcall 0)
    ∷ event 0 (Resume 2)
    ∷ event 1 (Calls 1)
    ∷ event 1 (Flush 0)
    ∷ event 0 (Fetch 1)
    ∷ event 0 Handle
    ∷ event 0 (Upcall 0)
    ∷ event 0 (Flush 1)
    ∷ event 1 (Fetch 0)
    ∷ event 1 Handle
    ∷ event 1 (Resume 1)
    ∷ event 0 (Calls 2)
    ∷ event 0 (Calls 2)
    ∷ event 0 (Calls 0)
    ∷ event 0 (Calls 0)
    ∷ event 0 (Calls 0)
    ∷ event 0 (Calls 0)
    ∷ event 0 (Calls 2)
    ∷ event 0 (Flush 1)
    ∷ event 1 (Fetch 0)
    ∷ event 1 Handle
    ∷ event 1 (Flush 0)
    ∷ event 0 (Fetch 1)
    ∷ event 0 Handle
    ∷ event 0 (Resume 0)
    ∷ event 0 (Calls 0)
    ∷ event 0 (Calls 0)
    ∷ event 0 (Calls 0)
    ∷ event 0 (Calls 0)
    ∷ event 0 (Calls 0)
    ∷ event 0 (Resume 0)
    ∷ event 0 (Calls 0)
    ∷ event 0 (Calls 0)
    ∷ event 0 (Calls 0)
    ∷ []

unfoldable pub journal : List Entry
journal =
    entry 0 (Calls 0) (Called 0 (Gate 0 1 77 2)) (grant (key 0 0 RecvKind 0) (key 0 0 SendKind 1)) None (reply 0 0)
    ∷ entry 0 (Calls 2) (Called 0 (Obtain 2 0 1)) None None None
    ∷ entry 0 (Upcall 0) (Asked 2 Yes) (grant (key 0 0 SendKind 1) (key 2 2 SendKind 0)) None None
    ∷ entry 0 (Resume 2) Nothing None None (reply 2 0)
    ∷ entry 1 (Calls 1) (Called 0 (Obtain 2 0 1)) None None None
    ∷ entry 1 (Flush 0) (Carried 0 (ObtainReq (place 1 1 0) (SelTarget 0 1))) None None None
    ∷ entry 0 (Fetch 1) (Carried 1 (ObtainReq (place 1 1 0) (SelTarget 0 1))) None None None
    ∷ entry 0 Handle (Carried 1 (ObtainReq (place 1 1 0) (SelTarget 0 1))) None None None
    ∷ entry 0 (Upcall 0) (Asked 1 Yes) (grant (key 0 0 SendKind 1) (key 1 1 SendKind 0)) None None
    ∷ entry 0 (Flush 1)
    (Carried 1 (ObtainOk (key 0 0 SendKind 1) (key 1 1 SendKind 0) (Send (key 0 0 RecvKind 0) 77 2))) None None
    None
    ∷ entry 1 (Fetch 0)
    (Carried 0 (ObtainOk (key 0 0 SendKind 1) (key 1 1 SendKind 0) (Send (key 0 0 RecvKind 0) 77 2))) None None
    None
    ∷ entry 1 Handle (Carried 0 (ObtainOk (key 0 0 SendKind 1) (key 1 1 SendKind 0) (Send (key 0 0 RecvKind 0) 77 2)))
    None None None
    ∷ entry 1 (Resume 1) Nothing None None (reply 1 0)
    ∷ entry 0 (Calls 2) (Called 1 (Bind 0 2)) None None (reply 2 0)
    ∷ entry 0 (Calls 2) (Called 2 (SendCall 0 16)) None None (reply 2 0)
    ∷ entry 0 (Calls 0) (Called 1 (Bind 0 1)) None None (reply 0 0)
    ∷ entry 0 (Calls 0) (Called 2 (Bind 1 0)) None None (reply 0 0)
    ∷ entry 0 (Calls 0) (Called 3 (SendCall 0 5)) None None (reply 0 0)
    ∷ entry 0 (Calls 0) (Called 4 (Clear 1)) None (Some (key 0 0 SendKind 1)) None
    ∷ entry 0 (Calls 2) (Called 3 (SendCall 0 16)) None None (reply 2 12)
    ∷ entry 0 (Flush 1) (Carried 1 (RevokeReq (key 1 1 SendKind 0) 0)) None None None
    ∷ entry 1 (Fetch 0) (Carried 0 (RevokeReq (key 1 1 SendKind 0) 0)) None None None
    ∷ entry 1 Handle (Carried 0 (RevokeReq (key 1 1 SendKind 0) 0)) None None None
    ∷ entry 1 (Flush 0) (Carried 0 (RevokeDone 0)) None None None
    ∷ entry 0 (Fetch 1) (Carried 1 (RevokeDone 0)) None None None
    ∷ entry 0 Handle (Carried 1 (RevokeDone 0)) None None None
    ∷ entry 0 (Resume 0) Nothing None None (reply 0 0)
    ∷ entry 0 (Calls 0) (Called 5 (SendCall 0 5)) None None (reply 0 12)
    ∷ entry 0 (Calls 0) (Called 6 (Bind 0 1)) None None (reply 0 0)
    ∷ entry 0 (Calls 0) (Called 7 (SendCall 0 5)) None None (reply 0 0)
    ∷ entry 0 (Calls 0) (Called 8 (SendCall 0 6)) None None (reply 0 0)
    ∷ entry 0 (Calls 0) (Called 9 (Clear 0)) None (Some (key 0 0 RecvKind 0)) None
    ∷ entry 0 (Resume 0) Nothing None None (reply 0 0)
    ∷ entry 0 (Calls 0) (Called 10 (Credit 0)) None None (reply 0 12)
    ∷ entry 0 (Calls 0) (Called 11 (Bind 1 1)) None None (reply 0 3)
    ∷ entry 0 (Calls 0) (Called 12 (Bind 1 0)) None None (reply 0 0)
    ∷ []

unfoldable pub outcome : Played
outcome = record {
  entries = journal;
  all_enabled = true;
  left = [];
  made = 4;
  cut = 3;
  held = (key 0 0 RecvKind 0, 0) ∷ [];
  is_forest = true;
  is_linked = true;
  is_clean = true;
}

abbrev pub clear_of_gate : Type 0
clear_of_gate = played trace events ≡ outcome
