-- A chain of 41 capabilities between two kernels.
use Rattle.std.specs.Prelude.{◌≡◌, true, Some, None, List, [], ◌∷◌}
use Rattle.sem_machine.specs.Prelude.{MemKind, Mem, SelTarget, ObtainReq, ObtainOk, DelegateReq, DelegatePrepared}
use Rattle.sem_machine.specs.Prelude.{Ack, RevokeReq, RevokeDone, Obtain, Delegate, Revoke, Calls, Fetch, Handle}
use Rattle.sem_machine.specs.Prelude.{Upcall, Resume, Flush, Event, Yes, Called, Carried, Asked, Nothing, Entry}
use Rattle.sem_machine.specs.Prelude.{Setup, event}
use Rattle.sem_plays.specs.Words.{key, place, grant, reply, entry, owners, root, vpe}
use Rattle.sem_plays.specs.Played.{Played, played}

unfoldable pub trace : Setup
trace = record {
  version = 1;
  window = 4;
  kernels = 2;
  owners = owners 2 (Some 0 ∷ Some 1 ∷ []);
  vpes =
      vpe 0 0 (root 0 (Mem 0 4096 7) ∷ []) (Delegate 0 1 1 ∷ Obtain 2 1 1 ∷ Delegate 2 1 3 ∷ Obtain 4 1 3
      ∷ Delegate 4 1 5 ∷ Obtain 6 1 5 ∷ Delegate 6 1 7 ∷ Obtain 8 1 7 ∷ Delegate 8 1 9 ∷ Obtain 10 1 9
      ∷ Delegate 10 1 11 ∷ Obtain 12 1 11 ∷ Delegate 12 1 13 ∷ Obtain 14 1 13 ∷ Delegate 14 1 15 ∷ Obtain 16 1 15
      ∷ Delegate 16 1 17 ∷ Obtain 18 1 17 ∷ Delegate 18 1 19 ∷ Obtain 20 1 19 ∷ Delegate 20 1 21 ∷ Obtain 22 1 21
      ∷ Delegate 22 1 23 ∷ Obtain 24 1 23 ∷ Delegate 24 1 25 ∷ Obtain 26 1 25 ∷ Delegate 26 1 27 ∷ Obtain 28 1 27
      ∷ Delegate 28 1 29 ∷ Obtain 30 1 29 ∷ Delegate 30 1 31 ∷ Obtain 32 1 31 ∷ Delegate 32 1 33 ∷ Obtain 34 1 33
      ∷ Delegate 34 1 35 ∷ Obtain 36 1 35 ∷ Delegate 36 1 37 ∷ Obtain 38 1 37 ∷ Delegate 38 1 39 ∷ Obtain 40 1 39
      ∷ Revoke 0 ∷ [])
      ∷ vpe 1 1 [] []
      ∷ [];
  services = [];
  offers = [];
  denies = [];
  kills = [];
}

unfoldable pub events : List Event
events =
    event 0 (Calls 0)
    ∷ event 0 (Flush 1)
    ∷ event 1 (Fetch 0)
    ∷ event 1 Handle
    ∷ event 1 (Upcall 1)
    ∷ event 1 (Flush 0)
    ∷ event 0 (Fetch 1)
    ∷ event 0 Handle
    ∷ event 0 (Resume 0)
    ∷ event 0 (Calls 0)
    ∷ event 0 (Flush 1)
    ∷ event 0 (Flush 1)
    ∷ event 1 (Fetch 0)
    ∷ event 1 Handle
    ∷ event 1 (Fetch 0)
    ∷ event 1 Handle
    ∷ event 1 (Upcall 1)
    ∷ event 1 (Flush 0)
    ∷ event 0 (Fetch 1)
    ∷ event 0 Handle
    ∷ event 0 (Resume 0)
    ∷ event 0 (Calls 0)
    ∷ event 0 (Flush 1)
    ∷ event 1 (Fetch 0)
    ∷ event 1 Handle
    ∷ event 1 (Upcall 1)
    ∷ event 1 (Flush 0)
    ∷ event 0 (Fetch 1)
    ∷ event 0 Handle
    ∷ event 0 (Resume 0)
    ∷ event 0 (Calls 0)
    ∷ event 0 (Flush 1)
    ∷ event 0 (Flush 1)
    ∷ event 1 (Fetch 0)
    ∷ event 1 Handle
    ∷ event 1 (Fetch 0)
    ∷ event 1 Handle
    ∷ event 1 (Upcall 1)
    ∷ event 1 (Flush 0)
    ∷ event 0 (Fetch 1)
    ∷ event 0 Handle
    ∷ event 0 (Resume 0)
    ∷ event 0 (Calls 0)
    ∷ event 0 (Flush 1)
    ∷ event 1 (Fetch 0)
    ∷ event 1 Handle
    ∷ event 1 (Upcall 1)
    ∷ event 1 (Flush 0)
    ∷ event 0 (Fetch 1)
    ∷ event 0 Handle
    ∷ event 0 (Resume 0)
    ∷ event 0 (Calls 0)
    ∷ event 0 (Flush 1)
    ∷ event 0 (Flush 1)
    ∷ event 1 (Fetch 0)
    ∷ event 1 Handle
    ∷ event 1 (Fetch 0)
    ∷ event 1 Handle
    ∷ event 1 (Upcall 1)
    ∷ event 1 (Flush 0)
    ∷ event 0 (Fetch 1)
    ∷ event 0 Handle
    ∷ event 0 (Resume 0)
    ∷ event 0 (Calls 0)
    ∷ event 0 (Flush 1)
    ∷ event 1 (Fetch 0)
    ∷ event 1 Handle
    ∷ event 1 (Upcall 1)
    ∷ event 1 (Flush 0)
    ∷ event 0 (Fetch 1)
    ∷ event 0 Handle
    ∷ event 0 (Resume 0)
    ∷ event 0 (Calls 0)
    ∷ event 0 (Flush 1)
    ∷ event 0 (Flush 1)
    ∷ event 1 (Fetch 0)
    ∷ event 1 Handle
    ∷ event 1 (Fetch 0)
    ∷ event 1 Handle
    ∷ event 1 (Upcall 1)
    ∷ event 1 (Flush 0)
    ∷ event 0 (Fetch 1)
    ∷ event 0 Handle
    ∷ event 0 (Resume 0)
    ∷ event 0 (Calls 0)
    ∷ event 0 (Flush 1)
    ∷ event 1 (Fetch 0)
    ∷ event 1 Handle
    ∷ event 1 (Upcall 1)
    ∷ event 1 (Flush 0)
    ∷ event 0 (Fetch 1)
    ∷ event 0 Handle
    ∷ event 0 (Resume 0)
    ∷ event 0 (Calls 0)
    ∷ event 0 (Flush 1)
    ∷ event 0 (Flush 1)
    ∷ event 1 (Fetch 0)
    ∷ event 1 Handle
    ∷ event 1 (Fetch 0)
    ∷ event 1 Handle
    ∷ event 1 (Upcall 1)
    ∷ event 1 (Flush 0)
    ∷ event 0 (Fetch 1)
    ∷ event 0 Handle
    ∷ event 0 (Resume 0)
    ∷ event 0 (Calls 0)
    ∷ event 0 (Flush 1)
    ∷ event 1 (Fetch 0)
    ∷ event 1 Handle
    ∷ event 1 (Upcall 1)
    ∷ event 1 (Flush 0)
    ∷ event 0 (Fetch 1)
    ∷ event 0 Handle
    ∷ event 0 (Resume 0)
    ∷ event 0 (Calls 0)
    ∷ event 0 (Flush 1)
    ∷ event 0 (Flush 1)
    ∷ event 1 (Fetch 0)
    ∷ event 1 Handle
    ∷ event 1 (Fetch 0)
    ∷ event 1 Handle
    ∷ event 1 (Upcall 1)
    ∷ event 1 (Flush 0)
    ∷ event 0 (Fetch 1)
    ∷ event 0 Handle
    ∷ event 0 (Resume 0)
    ∷ event 0 (Calls 0)
    ∷ event 0 (Flush 1)
    ∷ event 1 (Fetch 0)
    ∷ event 1 Handle
    ∷ event 1 (Upcall 1)
    ∷ event 1 (Flush 0)
    ∷ event 0 (Fetch 1)
    ∷ event 0 Handle
    ∷ event 0 (Resume 0)
    ∷ event 0 (Calls 0)
    ∷ event 0 (Flush 1)
    ∷ event 0 (Flush 1)
    ∷ event 1 (Fetch 0)
    ∷ event 1 Handle
    ∷ event 1 (Fetch 0)
    ∷ event 1 Handle
    ∷ event 1 (Upcall 1)
    ∷ event 1 (Flush 0)
    ∷ event 0 (Fetch 1)
    ∷ event 0 Handle
    ∷ event 0 (Resume 0)
    ∷ event 0 (Calls 0)
    ∷ event 0 (Flush 1)
    ∷ event 1 (Fetch 0)
    ∷ event 1 Handle
    ∷ event 1 (Upcall 1)
    ∷ event 1 (Flush 0)
    ∷ event 0 (Fetch 1)
    ∷ event 0 Handle
    ∷ event 0 (Resume 0)
    ∷ event 0 (Calls 0)
    ∷ event 0 (Flush 1)
    ∷ event 0 (Flush 1)
    ∷ event 1 (Fetch 0)
    ∷ event 1 Handle
    ∷ event 1 (Fetch 0)
    ∷ event 1 Handle
    ∷ event 1 (Upcall 1)
    ∷ event 1 (Flush 0)
    ∷ event 0 (Fetch 1)
    ∷ event 0 Handle
    ∷ event 0 (Resume 0)
    ∷ event 0 (Calls 0)
    ∷ event 0 (Flush 1)
    ∷ event 1 (Fetch 0)
    ∷ event 1 Handle
    ∷ event 1 (Upcall 1)
    ∷ event 1 (Flush 0)
    ∷ event 0 (Fetch 1)
    ∷ event 0 Handle
    ∷ event 0 (Resume 0)
    ∷ event 0 (Calls 0)
    ∷ event 0 (Flush 1)
    ∷ event 0 (Flush 1)
    ∷ event 1 (Fetch 0)
    ∷ event 1 Handle
    ∷ event 1 (Fetch 0)
    ∷ event 1 Handle
    ∷ event 1 (Upcall 1)
    ∷ event 1 (Flush 0)
    ∷ event 0 (Fetch 1)
    ∷ event 0 Handle
    ∷ event 0 (Resume 0)
    ∷ event 0 (Calls 0)
    ∷ event 0 (Flush 1)
    ∷ event 1 (Fetch 0)
    ∷ event 1 Handle
    ∷ event 1 (Upcall 1)
    ∷ event 1 (Flush 0)
    ∷ event 0 (Fetch 1)
    ∷ event 0 Handle
    ∷ event 0 (Resume 0)
    ∷ event 0 (Calls 0)
    ∷ event 0 (Flush 1)
    ∷ event 0 (Flush 1)
    ∷ event 1 (Fetch 0)
    ∷ event 1 Handle
    ∷ event 1 (Fetch 0)
    ∷ event 1 Handle
    ∷ event 1 (Upcall 1)
    ∷ event 1 (Flush 0)
    ∷ event 0 (Fetch 1)
    ∷ event 0 Handle
    ∷ event 0 (Resume 0)
    ∷ event 0 (Calls 0)
    ∷ event 0 (Flush 1)
    ∷ event 1 (Fetch 0)
    ∷ event 1 Handle
    ∷ event 1 (Upcall 1)
    ∷ event 1 (Flush 0)
    ∷ event 0 (Fetch 1)
    ∷ event 0 Handle
    ∷ event 0 (Resume 0)
    ∷ event 0 (Calls 0)
    ∷ event 0 (Flush 1)
    ∷ event 0 (Flush 1)
    ∷ event 1 (Fetch 0)
    ∷ event 1 Handle
    ∷ event 1 (Fetch 0)
    ∷ event 1 Handle
    ∷ event 1 (Upcall 1)
    ∷ event 1 (Flush 0)
    ∷ event 0 (Fetch 1)
    ∷ event 0 Handle
    ∷ event 0 (Resume 0)
    ∷ event 0 (Calls 0)
    ∷ event 0 (Flush 1)
    ∷ event 1 (Fetch 0)
    ∷ event 1 Handle
    ∷ event 1 (Upcall 1)
    ∷ event 1 (Flush 0)
    ∷ event 0 (Fetch 1)
    ∷ event 0 Handle
    ∷ event 0 (Resume 0)
    ∷ event 0 (Calls 0)
    ∷ event 0 (Flush 1)
    ∷ event 0 (Flush 1)
    ∷ event 1 (Fetch 0)
    ∷ event 1 Handle
    ∷ event 1 (Fetch 0)
    ∷ event 1 Handle
    ∷ event 1 (Upcall 1)
    ∷ event 1 (Flush 0)
    ∷ event 0 (Fetch 1)
    ∷ event 0 Handle
    ∷ event 0 (Resume 0)
    ∷ event 0 (Calls 0)
    ∷ event 0 (Flush 1)
    ∷ event 1 (Fetch 0)
    ∷ event 1 Handle
    ∷ event 1 (Upcall 1)
    ∷ event 1 (Flush 0)
    ∷ event 0 (Fetch 1)
    ∷ event 0 Handle
    ∷ event 0 (Resume 0)
    ∷ event 0 (Calls 0)
    ∷ event 0 (Flush 1)
    ∷ event 0 (Flush 1)
    ∷ event 1 (Fetch 0)
    ∷ event 1 Handle
    ∷ event 1 (Fetch 0)
    ∷ event 1 Handle
    ∷ event 1 (Upcall 1)
    ∷ event 1 (Flush 0)
    ∷ event 0 (Fetch 1)
    ∷ event 0 Handle
    ∷ event 0 (Resume 0)
    ∷ event 0 (Calls 0)
    ∷ event 0 (Flush 1)
    ∷ event 1 (Fetch 0)
    ∷ event 1 Handle
    ∷ event 1 (Upcall 1)
    ∷ event 1 (Flush 0)
    ∷ event 0 (Fetch 1)
    ∷ event 0 Handle
    ∷ event 0 (Resume 0)
    ∷ event 0 (Calls 0)
    ∷ event 0 (Flush 1)
    ∷ event 0 (Flush 1)
    ∷ event 1 (Fetch 0)
    ∷ event 1 Handle
    ∷ event 1 (Fetch 0)
    ∷ event 1 Handle
    ∷ event 1 (Upcall 1)
    ∷ event 1 (Flush 0)
    ∷ event 0 (Fetch 1)
    ∷ event 0 Handle
    ∷ event 0 (Resume 0)
    ∷ event 0 (Calls 0)
    ∷ event 0 (Flush 1)
    ∷ event 1 (Fetch 0)
    ∷ event 1 Handle
    ∷ event 1 (Upcall 1)
    ∷ event 1 (Flush 0)
    ∷ event 0 (Fetch 1)
    ∷ event 0 Handle
    ∷ event 0 (Resume 0)
    ∷ event 0 (Calls 0)
    ∷ event 0 (Flush 1)
    ∷ event 0 (Flush 1)
    ∷ event 1 (Fetch 0)
    ∷ event 1 Handle
    ∷ event 1 (Fetch 0)
    ∷ event 1 Handle
    ∷ event 1 (Upcall 1)
    ∷ event 1 (Flush 0)
    ∷ event 0 (Fetch 1)
    ∷ event 0 Handle
    ∷ event 0 (Resume 0)
    ∷ event 0 (Calls 0)
    ∷ event 0 (Flush 1)
    ∷ event 1 (Fetch 0)
    ∷ event 1 Handle
    ∷ event 1 (Upcall 1)
    ∷ event 1 (Flush 0)
    ∷ event 0 (Fetch 1)
    ∷ event 0 Handle
    ∷ event 0 (Resume 0)
    ∷ event 0 (Calls 0)
    ∷ event 0 (Flush 1)
    ∷ event 0 (Flush 1)
    ∷ event 1 (Fetch 0)
    ∷ event 1 Handle
    ∷ event 1 (Fetch 0)
    ∷ event 1 Handle
    ∷ event 1 (Upcall 1)
    ∷ event 1 (Flush 0)
    ∷ event 0 (Fetch 1)
    ∷ event 0 Handle
    ∷ event 0 (Resume 0)
    ∷ event 0 (Calls 0)
    ∷ event 0 (Flush 1)
    ∷ event 1 (Fetch 0)
    ∷ event 1 Handle
    ∷ event 1 (Upcall 1)
    ∷ event 1 (Flush 0)
    ∷ event 0 (Fetch 1)
    ∷ event 0 Handle
    ∷ event 0 (Resume 0)
    ∷ event 0 (Calls 0)
    ∷ event 0 (Flush 1)
    ∷ event 0 (Flush 1)
    ∷ event 1 (Fetch 0)
    ∷ event 1 Handle
    ∷ event 1 (Fetch 0)
    ∷ event 1 Handle
    ∷ event 1 (Upcall 1)
    ∷ event 1 (Flush 0)
    ∷ event 0 (Fetch 1)
    ∷ event 0 Handle
    ∷ event 0 (Resume 0)
    ∷ event 0 (Calls 0)
    ∷ event 0 (Flush 1)
    ∷ event 1 (Fetch 0)
    ∷ event 1 Handle
    ∷ event 1 (Upcall 1)
    ∷ event 1 (Flush 0)
    ∷ event 0 (Fetch 1)
    ∷ event 0 Handle
    ∷ event 0 (Resume 0)
    ∷ event 0 (Calls 0)
    ∷ event 0 (Flush 1)
    ∷ event 0 (Flush 1)
    ∷ event 1 (Fetch 0)
    ∷ event 1 Handle
    ∷ event 1 (Fetch 0)
    ∷ event 1 Handle
    ∷ event 1 (Upcall 1)
    ∷ event 1 (Flush 0)
    ∷ event 0 (Fetch 1)
    ∷ event 0 Handle
    ∷ event 0 (Resume 0)
    ∷ event 0 (Calls 0)
    ∷ event 0 (Flush 1)
    ∷ event 1 (Fetch 0)
    ∷ event 1 Handle
    ∷ event 1 (Upcall 1)
    ∷ event 1 (Flush 0)
    ∷ event 0 (Fetch 1)
    ∷ event 0 Handle
    ∷ event 0 (Resume 0)
    ∷ event 0 (Calls 0)
    ∷ event 0 (Flush 1)
    ∷ event 0 (Flush 1)
    ∷ event 1 (Fetch 0)
    ∷ event 1 Handle
    ∷ event 1 (Fetch 0)
    ∷ event 1 Handle
    ∷ event 1 (Upcall 1)
    ∷ event 1 (Flush 0)
    ∷ event 0 (Fetch 1)
    ∷ event 0 Handle
    ∷ event 0 (Resume 0)
    ∷ event 0 (Calls 0)
    ∷ event 0 (Flush 1)
    ∷ event 1 (Fetch 0)
    ∷ event 1 Handle
    ∷ event 1 (Upcall 1)
    ∷ event 1 (Flush 0)
    ∷ event 0 (Fetch 1)
    ∷ event 0 Handle
    ∷ event 0 (Resume 0)
    ∷ event 0 (Calls 0)
    ∷ event 0 (Flush 1)
    ∷ event 0 (Flush 1)
    ∷ event 1 (Fetch 0)
    ∷ event 1 Handle
    ∷ event 1 (Fetch 0)
    ∷ event 1 Handle
    ∷ event 1 (Upcall 1)
    ∷ event 1 (Flush 0)
    ∷ event 0 (Fetch 1)
    ∷ event 0 Handle
    ∷ event 0 (Resume 0)
    ∷ event 0 (Calls 0)
    ∷ event 0 (Flush 1)
    ∷ event 1 (Fetch 0)
    ∷ event 1 Handle
    ∷ event 1 (Flush 0)
    ∷ event 0 (Fetch 1)
    ∷ event 0 Handle
    ∷ event 0 (Flush 1)
    ∷ event 1 (Fetch 0)
    ∷ event 1 Handle
    ∷ event 1 (Flush 0)
    ∷ event 0 (Fetch 1)
    ∷ event 0 Handle
    ∷ event 0 (Flush 1)
    ∷ event 1 (Fetch 0)
    ∷ event 1 Handle
    ∷ event 1 (Flush 0)
    ∷ event 0 (Fetch 1)
    ∷ event 0 Handle
    ∷ event 0 (Flush 1)
    ∷ event 1 (Fetch 0)
    ∷ event 1 Handle
    ∷ event 1 (Flush 0)
    ∷ event 0 (Fetch 1)
    ∷ event 0 Handle
    ∷ event 0 (Flush 1)
    ∷ event 1 (Fetch 0)
    ∷ event 1 Handle
    ∷ event 1 (Flush 0)
    ∷ event 0 (Fetch 1)
    ∷ event 0 Handle
    ∷ event 0 (Flush 1)
    ∷ event 1 (Fetch 0)
    ∷ event 1 Handle
    ∷ event 1 (Flush 0)
    ∷ event 0 (Fetch 1)
    ∷ event 0 Handle
    ∷ event 0 (Flush 1)
    ∷ event 1 (Fetch 0)
    ∷ event 1 Handle
    ∷ event 1 (Flush 0)
    ∷ event 0 (Fetch 1)
    ∷ event 0 Handle
    ∷ event 0 (Flush 1)
    ∷ event 1 (Fetch 0)
    ∷ event 1 Handle
    ∷ event 1 (Flush 0)
    ∷ event 0 (Fetch 1)
    ∷ event 0 Handle
    ∷ event 0 (Flush 1)
    ∷ event 1 (Fetch 0)
    ∷ event 1 Handle
    ∷ event 1 (Flush 0)
    ∷ event 0 (Fetch 1)
    ∷ event 0 Handle
    ∷ event 0 (Flush 1)
    ∷ event 1 (Fetch 0)
    ∷ event 1 Handle
    ∷ event 1 (Flush 0)
    ∷ event 0 (Fetch 1)
    ∷ event 0 Handle
    ∷ event 0 (Flush 1)
    ∷ event 1 (Fetch 0)
    ∷ event 1 Handle
    ∷ event 1 (Flush 0)
    ∷ event 0 (Fetch 1)
    ∷ event 0 Handle
    ∷ event 0 (Flush 1)
    ∷ event 1 (Fetch 0)
    ∷ event 1 Handle
    ∷ event 1 (Flush 0)
    ∷ event 0 (Fetch 1)
    ∷ event 0 Handle
    ∷ event 0 (Flush 1)
    ∷ event 1 (Fetch 0)
    ∷ event 1 Handle
    ∷ event 1 (Flush 0)
    ∷ event 0 (Fetch 1)
    ∷ event 0 Handle
    ∷ event 0 (Flush 1)
    ∷ event 1 (Fetch 0)
    ∷ event 1 Handle
    ∷ event 1 (Flush 0)
    ∷ event 0 (Fetch 1)
    ∷ event 0 Handle
    ∷ event 0 (Flush 1)
    ∷ event 1 (Fetch 0)
    ∷ event 1 Handle
    ∷ event 1 (Flush 0)
    ∷ event 0 (Fetch 1)
    ∷ event 0 Handle
    ∷ event 0 (Flush 1)
    ∷ event 1 (Fetch 0)
    ∷ event 1 Handle
    ∷ event 1 (Flush 0)
    ∷ event 0 (Fetch 1)
    ∷ event 0 Handle
    ∷ event 0 (Flush 1)
    ∷ event 1 (Fetch 0)
    ∷ event 1 Handle
    ∷ event 1 (Flush 0)
    ∷ event 0 (Fetch 1)
    ∷ event 0 Handle
    ∷ event 0 (Flush 1)
    ∷ event 1 (Fetch 0)
    ∷ event 1 Handle
    ∷ event 1 (Flush 0)
    ∷ event 0 (Fetch 1)
    ∷ event 0 Handle
    ∷ event 0 (Flush 1)
    ∷ event 1 (Fetch 0)
    ∷ event 1 Handle
    ∷ event 1 (Flush 0)
    ∷ event 0 (Fetch 1)
    ∷ event 0 Handle
    ∷ event 0 (Flush 1)
    ∷ event 1 (Fetch 0)
    ∷ event 1 Handle
    ∷ event 1 (Flush 0)
    ∷ event 0 (Fetch 1)
    ∷ event 0 Handle
    ∷ event 0 (Flush 1)
    ∷ event 1 (Fetch 0)
    ∷ event 1 Handle
    ∷ event 1 (Flush 0)
    ∷ event 0 (Fetch 1)
    ∷ event 0 Handle
    ∷ event 0 (Flush 1)
    ∷ event 1 (Fetch 0)
    ∷ event 1 Handle
    ∷ event 1 (Flush 0)
    ∷ event 0 (Fetch 1)
    ∷ event 0 Handle
    ∷ event 0 (Flush 1)
    ∷ event 1 (Fetch 0)
    ∷ event 1 Handle
    ∷ event 1 (Flush 0)
    ∷ event 0 (Fetch 1)
    ∷ event 0 Handle
    ∷ event 0 (Flush 1)
    ∷ event 1 (Fetch 0)
    ∷ event 1 Handle
    ∷ event 1 (Flush 0)
    ∷ event 0 (Fetch 1)
    ∷ event 0 Handle
    ∷ event 0 (Flush 1)
    ∷ event 1 (Fetch 0)
    ∷ event 1 Handle
    ∷ event 1 (Flush 0)
    ∷ event 0 (Fetch 1)
    ∷ event 0 Handle
    ∷ event 0 (Flush 1)
    ∷ event 1 (Fetch 0)
    ∷ event 1 Handle
    ∷ event 1 (Flush 0)
    ∷ event 0 (Fetch 1)
    ∷ event 0 Handle
    ∷ event 0 (Flush 1)
    ∷ event 1 (Fetch 0)
    ∷ event 1 Handle
    ∷ event 1 (Flush 0)
    ∷ event 0 (Fetch 1)
    ∷ event 0 Handle
    ∷ event 0 (Flush 1)
    ∷ event 1 (Fetch 0)
    ∷ event 1 Handle
    ∷ event 1 (Flush 0)
    ∷ event 0 (Fetch 1)
    ∷ event 0 Handle
    ∷ event 0 (Flush 1)
    ∷ event 1 (Fetch 0)
    ∷ event 1 Handle
    ∷ event 1 (Flush 0)
    ∷ event 0 (Fetch 1)
    ∷ event 0 Handle
    ∷ event 0 (Flush 1)
    ∷ event 1 (Fetch 0)
    ∷ event 1 Handle
    ∷ event 1 (Flush 0)
    ∷ event 0 (Fetch 1)
    ∷ event 0 Handle
    ∷ event 0 (Flush 1)
    ∷ event 1 (Fetch 0)
    ∷ event 1 Handle
    ∷ event 1 (Flush 0)
    ∷ event 0 (Fetch 1)
    ∷ event 0 Handle
    ∷ event 0 (Flush 1)
    ∷ event 1 (Fetch 0)
    ∷ event 1 Handle
    ∷ event 1 (Flush 0)
    ∷ event 0 (Fetch 1)
    ∷ event 0 Handle
    ∷ event 0 (Flush 1)
    ∷ event 1 (Fetch 0)
    ∷ event 1 Handle
    ∷ event 1 (Flush 0)
    ∷ event 0 (Fetch 1)
    ∷ event 0 Handle
    ∷ event 0 (Flush 1)
    ∷ event 1 (Fetch 0)
    ∷ event 1 Handle
    ∷ event 1 (Flush 0)
    ∷ event 0 (Fetch 1)
    ∷ event 0 Handle
    ∷ event 0 (Flush 1)
    ∷ event 1 (Fetch 0)
    ∷ event 1 Handle
    ∷ event 1 (Flush 0)
    ∷ event 0 (Fetch 1)
    ∷ event 0 Handle
    ∷ event 0 (Flush 1)
    ∷ event 1 (Fetch 0)
    ∷ event 1 Handle
    ∷ event 1 (Flush 0)
    ∷ event 0 (Fetch 1)
    ∷ event 0 Handle
    ∷ event 0 (Flush 1)
    ∷ event 1 (Fetch 0)
    ∷ event 1 Handle
    ∷ event 1 (Flush 0)
    ∷ event 0 (Fetch 1)
    ∷ event 0 Handle
    ∷ event 0 (Flush 1)
    ∷ event 1 (Fetch 0)
    ∷ event 1 Handle
    ∷ event 1 (Flush 0)
    ∷ event 0 (Fetch 1)
    ∷ event 0 Handle
    ∷ event 0 (Flush 1)
    ∷ event 1 (Fetch 0)
    ∷ event 1 Handle
    ∷ event 1 (Flush 0)
    ∷ event 0 (Fetch 1)
    ∷ event 0 Handle
    ∷ event 0 (Flush 1)
    ∷ event 1 (Fetch 0)
    ∷ event 1 Handle
    ∷ event 1 (Flush 0)
    ∷ event 0 (Fetch 1)
    ∷ event 0 Handle
    ∷ event 0 (Resume 0)
    ∷ []

unfoldable pub journal : List Entry
journal =
    entry 0 (Calls 0) (Called 0 (Delegate 0 1 1)) None None None
    ∷ entry 0 (Flush 1) (Carried 1 (DelegateReq (key 0 0 MemKind 0) (Mem 0 4096 7) 1 1)) None None None
    ∷ entry 1 (Fetch 0) (Carried 0 (DelegateReq (key 0 0 MemKind 0) (Mem 0 4096 7) 1 1)) None None None
    ∷ entry 1 Handle (Carried 0 (DelegateReq (key 0 0 MemKind 0) (Mem 0 4096 7) 1 1)) None None None
    ∷ entry 1 (Upcall 1) (Asked 0 Yes) None None None
    ∷ entry 1 (Flush 0) (Carried 0 (DelegatePrepared (key 0 0 MemKind 0) (key 1 1 MemKind 0))) None None None
    ∷ entry 0 (Fetch 1) (Carried 1 (DelegatePrepared (key 0 0 MemKind 0) (key 1 1 MemKind 0))) None None None
    ∷ entry 0 Handle (Carried 1 (DelegatePrepared (key 0 0 MemKind 0) (key 1 1 MemKind 0))) None None None
    ∷ entry 0 (Resume 0) Nothing (grant (key 0 0 MemKind 0) (key 1 1 MemKind 0)) None (reply 0 0)
    ∷ entry 0 (Calls 0) (Called 1 (Obtain 2 1 1)) None None None
    ∷ entry 0 (Flush 1) (Carried 1 (Ack (key 1 1 MemKind 0) true)) None None None
    ∷ entry 0 (Flush 1) (Carried 1 (ObtainReq (place 0 0 1) (SelTarget 1 1))) None None None
    ∷ entry 1 (Fetch 0) (Carried 0 (Ack (key 1 1 MemKind 0) true)) None None None
    ∷ entry 1 Handle (Carried 0 (Ack (key 1 1 MemKind 0) true)) None None None
    ∷ entry 1 (Fetch 0) (Carried 0 (ObtainReq (place 0 0 1) (SelTarget 1 1))) None None None
    ∷ entry 1 Handle (Carried 0 (ObtainReq (place 0 0 1) (SelTarget 1 1))) None None None
    ∷ entry 1 (Upcall 1) (Asked 0 Yes) (grant (key 1 1 MemKind 0) (key 0 0 MemKind 1)) None None
    ∷ entry 1 (Flush 0) (Carried 0 (ObtainOk (key 1 1 MemKind 0) (key 0 0 MemKind 1) (Mem 0 4096 7))) None None None
    ∷ entry 0 (Fetch 1) (Carried 1 (ObtainOk (key 1 1 MemKind 0) (key 0 0 MemKind 1) (Mem 0 4096 7))) None None None
    ∷ entry 0 Handle (Carried 1 (ObtainOk (key 1 1 MemKind 0) (key 0 0 MemKind 1) (Mem 0 4096 7))) None None None
    ∷ entry 0 (Resume 0) Nothing None None (reply 0 0)
    ∷ entry 0 (Calls 0) (Called 2 (Delegate 2 1 3)) None None None
    ∷ entry 0 (Flush 1) (Carried 1 (DelegateReq (key 0 0 MemKind 1) (Mem 0 4096 7) 1 3)) None None None
    ∷ entry 1 (Fetch 0) (Carried 0 (DelegateReq (key 0 0 MemKind 1) (Mem 0 4096 7) 1 3)) None None None
    ∷ entry 1 Handle (Carried 0 (DelegateReq (key 0 0 MemKind 1) (Mem 0 4096 7) 1 3)) None None None
    ∷ entry 1 (Upcall 1) (Asked 0 Yes) None None None
    ∷ entry 1 (Flush 0) (Carried 0 (DelegatePrepared (key 0 0 MemKind 1) (key 1 1 MemKind 1))) None None None
    ∷ entry 0 (Fetch 1) (Carried 1 (DelegatePrepared (key 0 0 MemKind 1) (key 1 1 MemKind 1))) None None None
    ∷ entry 0 Handle (Carried 1 (DelegatePrepared (key 0 0 MemKind 1) (key 1 1 MemKind 1))) None None None
    ∷ entry 0 (Resume 0) Nothing (grant (key 0 0 MemKind 1) (key 1 1 MemKind 1)) None (reply 0 0)
    ∷ entry 0 (Calls 0) (Called 3 (Obtain 4 1 3)) None None None
    ∷ entry 0 (Flush 1) (Carried 1 (Ack (key 1 1 MemKind 1) true)) None None None
    ∷ entry 0 (Flush 1) (Carried 1 (ObtainReq (place 0 0 2) (SelTarget 1 3))) None None None
    ∷ entry 1 (Fetch 0) (Carried 0 (Ack (key 1 1 MemKind 1) true)) None None None
    ∷ entry 1 Handle (Carried 0 (Ack (key 1 1 MemKind 1) true)) None None None
    ∷ entry 1 (Fetch 0) (Carried 0 (ObtainReq (place 0 0 2) (SelTarget 1 3))) None None None
    ∷ entry 1 Handle (Carried 0 (ObtainReq (place 0 0 2) (SelTarget 1 3))) None None None
    ∷ entry 1 (Upcall 1) (Asked 0 Yes) (grant (key 1 1 MemKind 1) (key 0 0 MemKind 2)) None None
    ∷ entry 1 (Flush 0) (Carried 0 (ObtainOk (key 1 1 MemKind 1) (key 0 0 MemKind 2) (Mem 0 4096 7))) None None None
    ∷ entry 0 (Fetch 1) (Carried 1 (ObtainOk (key 1 1 MemKind 1) (key 0 0 MemKind 2) (Mem 0 4096 7))) None None None
    ∷ entry 0 Handle (Carried 1 (ObtainOk (key 1 1 MemKind 1) (key 0 0 MemKind 2) (Mem 0 4096 7))) None None None
    ∷ entry 0 (Resume 0) Nothing None None (reply 0 0)
    ∷ entry 0 (Calls 0) (Called 4 (Delegate 4 1 5)) None None None
    ∷ entry 0 (Flush 1) (Carried 1 (DelegateReq (key 0 0 MemKind 2) (Mem 0 4096 7) 1 5)) None None None
    ∷ entry 1 (Fetch 0) (Carried 0 (DelegateReq (key 0 0 MemKind 2) (Mem 0 4096 7) 1 5)) None None None
    ∷ entry 1 Handle (Carried 0 (DelegateReq (key 0 0 MemKind 2) (Mem 0 4096 7) 1 5)) None None None
    ∷ entry 1 (Upcall 1) (Asked 0 Yes) None None None
    ∷ entry 1 (Flush 0) (Carried 0 (DelegatePrepared (key 0 0 MemKind 2) (key 1 1 MemKind 2))) None None None
    ∷ entry 0 (Fetch 1) (Carried 1 (DelegatePrepared (key 0 0 MemKind 2) (key 1 1 MemKind 2))) None None None
    ∷ entry 0 Handle (Carried 1 (DelegatePrepared (key 0 0 MemKind 2) (key 1 1 MemKind 2))) None None None
    ∷ entry 0 (Resume 0) Nothing (grant (key 0 0 MemKind 2) (key 1 1 MemKind 2)) None (reply 0 0)
    ∷ entry 0 (Calls 0) (Called 5 (Obtain 6 1 5)) None None None
    ∷ entry 0 (Flush 1) (Carried 1 (Ack (key 1 1 MemKind 2) true)) None None None
    ∷ entry 0 (Flush 1) (Carried 1 (ObtainReq (place 0 0 3) (SelTarget 1 5))) None None None
    ∷ entry 1 (Fetch 0) (Carried 0 (Ack (key 1 1 MemKind 2) true)) None None None
    ∷ entry 1 Handle (Carried 0 (Ack (key 1 1 MemKind 2) true)) None None None
    ∷ entry 1 (Fetch 0) (Carried 0 (ObtainReq (place 0 0 3) (SelTarget 1 5))) None None None
    ∷ entry 1 Handle (Carried 0 (ObtainReq (place 0 0 3) (SelTarget 1 5))) None None None
    ∷ entry 1 (Upcall 1) (Asked 0 Yes) (grant (key 1 1 MemKind 2) (key 0 0 MemKind 3)) None None
    ∷ entry 1 (Flush 0) (Carried 0 (ObtainOk (key 1 1 MemKind 2) (key 0 0 MemKind 3) (Mem 0 4096 7))) None None None
    ∷ entry 0 (Fetch 1) (Carried 1 (ObtainOk (key 1 1 MemKind 2) (key 0 0 MemKind 3) (Mem 0 4096 7))) None None None
    ∷ entry 0 Handle (Carried 1 (ObtainOk (key 1 1 MemKind 2) (key 0 0 MemKind 3) (Mem 0 4096 7))) None None None
    ∷ entry 0 (Resume 0) Nothing None None (reply 0 0)
    ∷ entry 0 (Calls 0) (Called 6 (Delegate 6 1 7)) None None None
    ∷ entry 0 (Flush 1) (Carried 1 (DelegateReq (key 0 0 MemKind 3) (Mem 0 4096 7) 1 7)) None None None
    ∷ entry 1 (Fetch 0) (Carried 0 (DelegateReq (key 0 0 MemKind 3) (Mem 0 4096 7) 1 7)) None None None
    ∷ entry 1 Handle (Carried 0 (DelegateReq (key 0 0 MemKind 3) (Mem 0 4096 7) 1 7)) None None None
    ∷ entry 1 (Upcall 1) (Asked 0 Yes) None None None
    ∷ entry 1 (Flush 0) (Carried 0 (DelegatePrepared (key 0 0 MemKind 3) (key 1 1 MemKind 3))) None None None
    ∷ entry 0 (Fetch 1) (Carried 1 (DelegatePrepared (key 0 0 MemKind 3) (key 1 1 MemKind 3))) None None None
    ∷ entry 0 Handle (Carried 1 (DelegatePrepared (key 0 0 MemKind 3) (key 1 1 MemKind 3))) None None None
    ∷ entry 0 (Resume 0) Nothing (grant (key 0 0 MemKind 3) (key 1 1 MemKind 3)) None (reply 0 0)
    ∷ entry 0 (Calls 0) (Called 7 (Obtain 8 1 7)) None None None
    ∷ entry 0 (Flush 1) (Carried 1 (Ack (key 1 1 MemKind 3) true)) None None None
    ∷ entry 0 (Flush 1) (Carried 1 (ObtainReq (place 0 0 4) (SelTarget 1 7))) None None None
    ∷ entry 1 (Fetch 0) (Carried 0 (Ack (key 1 1 MemKind 3) true)) None None None
    ∷ entry 1 Handle (Carried 0 (Ack (key 1 1 MemKind 3) true)) None None None
    ∷ entry 1 (Fetch 0) (Carried 0 (ObtainReq (place 0 0 4) (SelTarget 1 7))) None None None
    ∷ entry 1 Handle (Carried 0 (ObtainReq (place 0 0 4) (SelTarget 1 7))) None None None
    ∷ entry 1 (Upcall 1) (Asked 0 Yes) (grant (key 1 1 MemKind 3) (key 0 0 MemKind 4)) None None
    ∷ entry 1 (Flush 0) (Carried 0 (ObtainOk (key 1 1 MemKind 3) (key 0 0 MemKind 4) (Mem 0 4096 7))) None None None
    ∷ entry 0 (Fetch 1) (Carried 1 (ObtainOk (key 1 1 MemKind 3) (key 0 0 MemKind 4) (Mem 0 4096 7))) None None None
    ∷ entry 0 Handle (Carried 1 (ObtainOk (key 1 1 MemKind 3) (key 0 0 MemKind 4) (Mem 0 4096 7))) None None None
    ∷ entry 0 (Resume 0) Nothing None None (reply 0 0)
    ∷ entry 0 (Calls 0) (Called 8 (Delegate 8 1 9)) None None None
    ∷ entry 0 (Flush 1) (Carried 1 (DelegateReq (key 0 0 MemKind 4) (Mem 0 4096 7) 1 9)) None None None
    ∷ entry 1 (Fetch 0) (Carried 0 (DelegateReq (key 0 0 MemKind 4) (Mem 0 4096 7) 1 9)) None None None
    ∷ entry 1 Handle (Carried 0 (DelegateReq (key 0 0 MemKind 4) (Mem 0 4096 7) 1 9)) None None None
    ∷ entry 1 (Upcall 1) (Asked 0 Yes) None None None
    ∷ entry 1 (Flush 0) (Carried 0 (DelegatePrepared (key 0 0 MemKind 4) (key 1 1 MemKind 4))) None None None
    ∷ entry 0 (Fetch 1) (Carried 1 (DelegatePrepared (key 0 0 MemKind 4) (key 1 1 MemKind 4))) None None None
    ∷ entry 0 Handle (Carried 1 (DelegatePrepared (key 0 0 MemKind 4) (key 1 1 MemKind 4))) None None None
    ∷ entry 0 (Resume 0) Nothing (grant (key 0 0 MemKind 4) (key 1 1 MemKind 4)) None (reply 0 0)
    ∷ entry 0 (Calls 0) (Called 9 (Obtain 10 1 9)) None None None
    ∷ entry 0 (Flush 1) (Carried 1 (Ack (key 1 1 MemKind 4) true)) None None None
    ∷ entry 0 (Flush 1) (Carried 1 (ObtainReq (place 0 0 5) (SelTarget 1 9))) None None None
    ∷ entry 1 (Fetch 0) (Carried 0 (Ack (key 1 1 MemKind 4) true)) None None None
    ∷ entry 1 Handle (Carried 0 (Ack (key 1 1 MemKind 4) true)) None None None
    ∷ entry 1 (Fetch 0) (Carried 0 (ObtainReq (place 0 0 5) (SelTarget 1 9))) None None None
    ∷ entry 1 Handle (Carried 0 (ObtainReq (place 0 0 5) (SelTarget 1 9))) None None None
    ∷ entry 1 (Upcall 1) (Asked 0 Yes) (grant (key 1 1 MemKind 4) (key 0 0 MemKind 5)) None None
    ∷ entry 1 (Flush 0) (Carried 0 (ObtainOk (key 1 1 MemKind 4) (key 0 0 MemKind 5) (Mem 0 4096 7))) None None None
    ∷ entry 0 (Fetch 1) (Carried 1 (ObtainOk (key 1 1 MemKind 4) (key 0 0 MemKind 5) (Mem 0 4096 7))) None None None
    ∷ entry 0 Handle (Carried 1 (ObtainOk (key 1 1 MemKind 4) (key 0 0 MemKind 5) (Mem 0 4096 7))) None None None
    ∷ entry 0 (Resume 0) Nothing None None (reply 0 0)
    ∷ entry 0 (Calls 0) (Called 10 (Delegate 10 1 11)) None None None
    ∷ entry 0 (Flush 1) (Carried 1 (DelegateReq (key 0 0 MemKind 5) (Mem 0 4096 7) 1 11)) None None None
    ∷ entry 1 (Fetch 0) (Carried 0 (DelegateReq (key 0 0 MemKind 5) (Mem 0 4096 7) 1 11)) None None None
    ∷ entry 1 Handle (Carried 0 (DelegateReq (key 0 0 MemKind 5) (Mem 0 4096 7) 1 11)) None None None
    ∷ entry 1 (Upcall 1) (Asked 0 Yes) None None None
    ∷ entry 1 (Flush 0) (Carried 0 (DelegatePrepared (key 0 0 MemKind 5) (key 1 1 MemKind 5))) None None None
    ∷ entry 0 (Fetch 1) (Carried 1 (DelegatePrepared (key 0 0 MemKind 5) (key 1 1 MemKind 5))) None None None
    ∷ entry 0 Handle (Carried 1 (DelegatePrepared (key 0 0 MemKind 5) (key 1 1 MemKind 5))) None None None
    ∷ entry 0 (Resume 0) Nothing (grant (key 0 0 MemKind 5) (key 1 1 MemKind 5)) None (reply 0 0)
    ∷ entry 0 (Calls 0) (Called 11 (Obtain 12 1 11)) None None None
    ∷ entry 0 (Flush 1) (Carried 1 (Ack (key 1 1 MemKind 5) true)) None None None
    ∷ entry 0 (Flush 1) (Carried 1 (ObtainReq (place 0 0 6) (SelTarget 1 11))) None None None
    ∷ entry 1 (Fetch 0) (Carried 0 (Ack (key 1 1 MemKind 5) true)) None None None
    ∷ entry 1 Handle (Carried 0 (Ack (key 1 1 MemKind 5) true)) None None None
    ∷ entry 1 (Fetch 0) (Carried 0 (ObtainReq (place 0 0 6) (SelTarget 1 11))) None None None
    ∷ entry 1 Handle (Carried 0 (ObtainReq (place 0 0 6) (SelTarget 1 11))) None None None
    ∷ entry 1 (Upcall 1) (Asked 0 Yes) (grant (key 1 1 MemKind 5) (key 0 0 MemKind 6)) None None
    ∷ entry 1 (Flush 0) (Carried 0 (ObtainOk (key 1 1 MemKind 5) (key 0 0 MemKind 6) (Mem 0 4096 7))) None None None
    ∷ entry 0 (Fetch 1) (Carried 1 (ObtainOk (key 1 1 MemKind 5) (key 0 0 MemKind 6) (Mem 0 4096 7))) None None None
    ∷ entry 0 Handle (Carried 1 (ObtainOk (key 1 1 MemKind 5) (key 0 0 MemKind 6) (Mem 0 4096 7))) None None None
    ∷ entry 0 (Resume 0) Nothing None None (reply 0 0)
    ∷ entry 0 (Calls 0) (Called 12 (Delegate 12 1 13)) None None None
    ∷ entry 0 (Flush 1) (Carried 1 (DelegateReq (key 0 0 MemKind 6) (Mem 0 4096 7) 1 13)) None None None
    ∷ entry 1 (Fetch 0) (Carried 0 (DelegateReq (key 0 0 MemKind 6) (Mem 0 4096 7) 1 13)) None None None
    ∷ entry 1 Handle (Carried 0 (DelegateReq (key 0 0 MemKind 6) (Mem 0 4096 7) 1 13)) None None None
    ∷ entry 1 (Upcall 1) (Asked 0 Yes) None None None
    ∷ entry 1 (Flush 0) (Carried 0 (DelegatePrepared (key 0 0 MemKind 6) (key 1 1 MemKind 6))) None None None
    ∷ entry 0 (Fetch 1) (Carried 1 (DelegatePrepared (key 0 0 MemKind 6) (key 1 1 MemKind 6))) None None None
    ∷ entry 0 Handle (Carried 1 (DelegatePrepared (key 0 0 MemKind 6) (key 1 1 MemKind 6))) None None None
    ∷ entry 0 (Resume 0) Nothing (grant (key 0 0 MemKind 6) (key 1 1 MemKind 6)) None (reply 0 0)
    ∷ entry 0 (Calls 0) (Called 13 (Obtain 14 1 13)) None None None
    ∷ entry 0 (Flush 1) (Carried 1 (Ack (key 1 1 MemKind 6) true)) None None None
    ∷ entry 0 (Flush 1) (Carried 1 (ObtainReq (place 0 0 7) (SelTarget 1 13))) None None None
    ∷ entry 1 (Fetch 0) (Carried 0 (Ack (key 1 1 MemKind 6) true)) None None None
    ∷ entry 1 Handle (Carried 0 (Ack (key 1 1 MemKind 6) true)) None None None
    ∷ entry 1 (Fetch 0) (Carried 0 (ObtainReq (place 0 0 7) (SelTarget 1 13))) None None None
    ∷ entry 1 Handle (Carried 0 (ObtainReq (place 0 0 7) (SelTarget 1 13))) None None None
    ∷ entry 1 (Upcall 1) (Asked 0 Yes) (grant (key 1 1 MemKind 6) (key 0 0 MemKind 7)) None None
    ∷ entry 1 (Flush 0) (Carried 0 (ObtainOk (key 1 1 MemKind 6) (key 0 0 MemKind 7) (Mem 0 4096 7))) None None None
    ∷ entry 0 (Fetch 1) (Carried 1 (ObtainOk (key 1 1 MemKind 6) (key 0 0 MemKind 7) (Mem 0 4096 7))) None None None
    ∷ entry 0 Handle (Carried 1 (ObtainOk (key 1 1 MemKind 6) (key 0 0 MemKind 7) (Mem 0 4096 7))) None None None
    ∷ entry 0 (Resume 0) Nothing None None (reply 0 0)
    ∷ entry 0 (Calls 0) (Called 14 (Delegate 14 1 15)) None None None
    ∷ entry 0 (Flush 1) (Carried 1 (DelegateReq (key 0 0 MemKind 7) (Mem 0 4096 7) 1 15)) None None None
    ∷ entry 1 (Fetch 0) (Carried 0 (DelegateReq (key 0 0 MemKind 7) (Mem 0 4096 7) 1 15)) None None None
    ∷ entry 1 Handle (Carried 0 (DelegateReq (key 0 0 MemKind 7) (Mem 0 4096 7) 1 15)) None None None
    ∷ entry 1 (Upcall 1) (Asked 0 Yes) None None None
    ∷ entry 1 (Flush 0) (Carried 0 (DelegatePrepared (key 0 0 MemKind 7) (key 1 1 MemKind 7))) None None None
    ∷ entry 0 (Fetch 1) (Carried 1 (DelegatePrepared (key 0 0 MemKind 7) (key 1 1 MemKind 7))) None None None
    ∷ entry 0 Handle (Carried 1 (DelegatePrepared (key 0 0 MemKind 7) (key 1 1 MemKind 7))) None None None
    ∷ entry 0 (Resume 0) Nothing (grant (key 0 0 MemKind 7) (key 1 1 MemKind 7)) None (reply 0 0)
    ∷ entry 0 (Calls 0) (Called 15 (Obtain 16 1 15)) None None None
    ∷ entry 0 (Flush 1) (Carried 1 (Ack (key 1 1 MemKind 7) true)) None None None
    ∷ entry 0 (Flush 1) (Carried 1 (ObtainReq (place 0 0 8) (SelTarget 1 15))) None None None
    ∷ entry 1 (Fetch 0) (Carried 0 (Ack (key 1 1 MemKind 7) true)) None None None
    ∷ entry 1 Handle (Carried 0 (Ack (key 1 1 MemKind 7) true)) None None None
    ∷ entry 1 (Fetch 0) (Carried 0 (ObtainReq (place 0 0 8) (SelTarget 1 15))) None None None
    ∷ entry 1 Handle (Carried 0 (ObtainReq (place 0 0 8) (SelTarget 1 15))) None None None
    ∷ entry 1 (Upcall 1) (Asked 0 Yes) (grant (key 1 1 MemKind 7) (key 0 0 MemKind 8)) None None
    ∷ entry 1 (Flush 0) (Carried 0 (ObtainOk (key 1 1 MemKind 7) (key 0 0 MemKind 8) (Mem 0 4096 7))) None None None
    ∷ entry 0 (Fetch 1) (Carried 1 (ObtainOk (key 1 1 MemKind 7) (key 0 0 MemKind 8) (Mem 0 4096 7))) None None None
    ∷ entry 0 Handle (Carried 1 (ObtainOk (key 1 1 MemKind 7) (key 0 0 MemKind 8) (Mem 0 4096 7))) None None None
    ∷ entry 0 (Resume 0) Nothing None None (reply 0 0)
    ∷ entry 0 (Calls 0) (Called 16 (Delegate 16 1 17)) None None None
    ∷ entry 0 (Flush 1) (Carried 1 (DelegateReq (key 0 0 MemKind 8) (Mem 0 4096 7) 1 17)) None None None
    ∷ entry 1 (Fetch 0) (Carried 0 (DelegateReq (key 0 0 MemKind 8) (Mem 0 4096 7) 1 17)) None None None
    ∷ entry 1 Handle (Carried 0 (DelegateReq (key 0 0 MemKind 8) (Mem 0 4096 7) 1 17)) None None None
    ∷ entry 1 (Upcall 1) (Asked 0 Yes) None None None
    ∷ entry 1 (Flush 0) (Carried 0 (DelegatePrepared (key 0 0 MemKind 8) (key 1 1 MemKind 8))) None None None
    ∷ entry 0 (Fetch 1) (Carried 1 (DelegatePrepared (key 0 0 MemKind 8) (key 1 1 MemKind 8))) None None None
    ∷ entry 0 Handle (Carried 1 (DelegatePrepared (key 0 0 MemKind 8) (key 1 1 MemKind 8))) None None None
    ∷ entry 0 (Resume 0) Nothing (grant (key 0 0 MemKind 8) (key 1 1 MemKind 8)) None (reply 0 0)
    ∷ entry 0 (Calls 0) (Called 17 (Obtain 18 1 17)) None None None
    ∷ entry 0 (Flush 1) (Carried 1 (Ack (key 1 1 MemKind 8) true)) None None None
    ∷ entry 0 (Flush 1) (Carried 1 (ObtainReq (place 0 0 9) (SelTarget 1 17))) None None None
    ∷ entry 1 (Fetch 0) (Carried 0 (Ack (key 1 1 MemKind 8) true)) None None None
    ∷ entry 1 Handle (Carried 0 (Ack (key 1 1 MemKind 8) true)) None None None
    ∷ entry 1 (Fetch 0) (Carried 0 (ObtainReq (place 0 0 9) (SelTarget 1 17))) None None None
    ∷ entry 1 Handle (Carried 0 (ObtainReq (place 0 0 9) (SelTarget 1 17))) None None None
    ∷ entry 1 (Upcall 1) (Asked 0 Yes) (grant (key 1 1 MemKind 8) (key 0 0 MemKind 9)) None None
    ∷ entry 1 (Flush 0) (Carried 0 (ObtainOk (key 1 1 MemKind 8) (key 0 0 MemKind 9) (Mem 0 4096 7))) None None None
    ∷ entry 0 (Fetch 1) (Carried 1 (ObtainOk (key 1 1 MemKind 8) (key 0 0 MemKind 9) (Mem 0 4096 7))) None None None
    ∷ entry 0 Handle (Carried 1 (ObtainOk (key 1 1 MemKind 8) (key 0 0 MemKind 9) (Mem 0 4096 7))) None None None
    ∷ entry 0 (Resume 0) Nothing None None (reply 0 0)
    ∷ entry 0 (Calls 0) (Called 18 (Delegate 18 1 19)) None None None
    ∷ entry 0 (Flush 1) (Carried 1 (DelegateReq (key 0 0 MemKind 9) (Mem 0 4096 7) 1 19)) None None None
    ∷ entry 1 (Fetch 0) (Carried 0 (DelegateReq (key 0 0 MemKind 9) (Mem 0 4096 7) 1 19)) None None None
    ∷ entry 1 Handle (Carried 0 (DelegateReq (key 0 0 MemKind 9) (Mem 0 4096 7) 1 19)) None None None
    ∷ entry 1 (Upcall 1) (Asked 0 Yes) None None None
    ∷ entry 1 (Flush 0) (Carried 0 (DelegatePrepared (key 0 0 MemKind 9) (key 1 1 MemKind 9))) None None None
    ∷ entry 0 (Fetch 1) (Carried 1 (DelegatePrepared (key 0 0 MemKind 9) (key 1 1 MemKind 9))) None None None
    ∷ entry 0 Handle (Carried 1 (DelegatePrepared (key 0 0 MemKind 9) (key 1 1 MemKind 9))) None None None
    ∷ entry 0 (Resume 0) Nothing (grant (key 0 0 MemKind 9) (key 1 1 MemKind 9)) None (reply 0 0)
    ∷ entry 0 (Calls 0) (Called 19 (Obtain 20 1 19)) None None None
    ∷ entry 0 (Flush 1) (Carried 1 (Ack (key 1 1 MemKind 9) true)) None None None
    ∷ entry 0 (Flush 1) (Carried 1 (ObtainReq (place 0 0 10) (SelTarget 1 19))) None None None
    ∷ entry 1 (Fetch 0) (Carried 0 (Ack (key 1 1 MemKind 9) true)) None None None
    ∷ entry 1 Handle (Carried 0 (Ack (key 1 1 MemKind 9) true)) None None None
    ∷ entry 1 (Fetch 0) (Carried 0 (ObtainReq (place 0 0 10) (SelTarget 1 19))) None None None
    ∷ entry 1 Handle (Carried 0 (ObtainReq (place 0 0 10) (SelTarget 1 19))) None None None
    ∷ entry 1 (Upcall 1) (Asked 0 Yes) (grant (key 1 1 MemKind 9) (key 0 0 MemKind 10)) None None
    ∷ entry 1 (Flush 0) (Carried 0 (ObtainOk (key 1 1 MemKind 9) (key 0 0 MemKind 10) (Mem 0 4096 7))) None None None
    ∷ entry 0 (Fetch 1) (Carried 1 (ObtainOk (key 1 1 MemKind 9) (key 0 0 MemKind 10) (Mem 0 4096 7))) None None None
    ∷ entry 0 Handle (Carried 1 (ObtainOk (key 1 1 MemKind 9) (key 0 0 MemKind 10) (Mem 0 4096 7))) None None None
    ∷ entry 0 (Resume 0) Nothing None None (reply 0 0)
    ∷ entry 0 (Calls 0) (Called 20 (Delegate 20 1 21)) None None None
    ∷ entry 0 (Flush 1) (Carried 1 (DelegateReq (key 0 0 MemKind 10) (Mem 0 4096 7) 1 21)) None None None
    ∷ entry 1 (Fetch 0) (Carried 0 (DelegateReq (key 0 0 MemKind 10) (Mem 0 4096 7) 1 21)) None None None
    ∷ entry 1 Handle (Carried 0 (DelegateReq (key 0 0 MemKind 10) (Mem 0 4096 7) 1 21)) None None None
    ∷ entry 1 (Upcall 1) (Asked 0 Yes) None None None
    ∷ entry 1 (Flush 0) (Carried 0 (DelegatePrepared (key 0 0 MemKind 10) (key 1 1 MemKind 10))) None None None
    ∷ entry 0 (Fetch 1) (Carried 1 (DelegatePrepared (key 0 0 MemKind 10) (key 1 1 MemKind 10))) None None None
    ∷ entry 0 Handle (Carried 1 (DelegatePrepared (key 0 0 MemKind 10) (key 1 1 MemKind 10))) None None None
    ∷ entry 0 (Resume 0) Nothing (grant (key 0 0 MemKind 10) (key 1 1 MemKind 10)) None (reply 0 0)
    ∷ entry 0 (Calls 0) (Called 21 (Obtain 22 1 21)) None None None
    ∷ entry 0 (Flush 1) (Carried 1 (Ack (key 1 1 MemKind 10) true)) None None None
    ∷ entry 0 (Flush 1) (Carried 1 (ObtainReq (place 0 0 11) (SelTarget 1 21))) None None None
    ∷ entry 1 (Fetch 0) (Carried 0 (Ack (key 1 1 MemKind 10) true)) None None None
    ∷ entry 1 Handle (Carried 0 (Ack (key 1 1 MemKind 10) true)) None None None
    ∷ entry 1 (Fetch 0) (Carried 0 (ObtainReq (place 0 0 11) (SelTarget 1 21))) None None None
    ∷ entry 1 Handle (Carried 0 (ObtainReq (place 0 0 11) (SelTarget 1 21))) None None None
    ∷ entry 1 (Upcall 1) (Asked 0 Yes) (grant (key 1 1 MemKind 10) (key 0 0 MemKind 11)) None None
    ∷ entry 1 (Flush 0) (Carried 0 (ObtainOk (key 1 1 MemKind 10) (key 0 0 MemKind 11) (Mem 0 4096 7))) None None None
    ∷ entry 0 (Fetch 1) (Carried 1 (ObtainOk (key 1 1 MemKind 10) (key 0 0 MemKind 11) (Mem 0 4096 7))) None None None
    ∷ entry 0 Handle (Carried 1 (ObtainOk (key 1 1 MemKind 10) (key 0 0 MemKind 11) (Mem 0 4096 7))) None None None
    ∷ entry 0 (Resume 0) Nothing None None (reply 0 0)
    ∷ entry 0 (Calls 0) (Called 22 (Delegate 22 1 23)) None None None
    ∷ entry 0 (Flush 1) (Carried 1 (DelegateReq (key 0 0 MemKind 11) (Mem 0 4096 7) 1 23)) None None None
    ∷ entry 1 (Fetch 0) (Carried 0 (DelegateReq (key 0 0 MemKind 11) (Mem 0 4096 7) 1 23)) None None None
    ∷ entry 1 Handle (Carried 0 (DelegateReq (key 0 0 MemKind 11) (Mem 0 4096 7) 1 23)) None None None
    ∷ entry 1 (Upcall 1) (Asked 0 Yes) None None None
    ∷ entry 1 (Flush 0) (Carried 0 (DelegatePrepared (key 0 0 MemKind 11) (key 1 1 MemKind 11))) None None None
    ∷ entry 0 (Fetch 1) (Carried 1 (DelegatePrepared (key 0 0 MemKind 11) (key 1 1 MemKind 11))) None None None
    ∷ entry 0 Handle (Carried 1 (DelegatePrepared (key 0 0 MemKind 11) (key 1 1 MemKind 11))) None None None
    ∷ entry 0 (Resume 0) Nothing (grant (key 0 0 MemKind 11) (key 1 1 MemKind 11)) None (reply 0 0)
    ∷ entry 0 (Calls 0) (Called 23 (Obtain 24 1 23)) None None None
    ∷ entry 0 (Flush 1) (Carried 1 (Ack (key 1 1 MemKind 11) true)) None None None
    ∷ entry 0 (Flush 1) (Carried 1 (ObtainReq (place 0 0 12) (SelTarget 1 23))) None None None
    ∷ entry 1 (Fetch 0) (Carried 0 (Ack (key 1 1 MemKind 11) true)) None None None
    ∷ entry 1 Handle (Carried 0 (Ack (key 1 1 MemKind 11) true)) None None None
    ∷ entry 1 (Fetch 0) (Carried 0 (ObtainReq (place 0 0 12) (SelTarget 1 23))) None None None
    ∷ entry 1 Handle (Carried 0 (ObtainReq (place 0 0 12) (SelTarget 1 23))) None None None
    ∷ entry 1 (Upcall 1) (Asked 0 Yes) (grant (key 1 1 MemKind 11) (key 0 0 MemKind 12)) None None
    ∷ entry 1 (Flush 0) (Carried 0 (ObtainOk (key 1 1 MemKind 11) (key 0 0 MemKind 12) (Mem 0 4096 7))) None None None
    ∷ entry 0 (Fetch 1) (Carried 1 (ObtainOk (key 1 1 MemKind 11) (key 0 0 MemKind 12) (Mem 0 4096 7))) None None None
    ∷ entry 0 Handle (Carried 1 (ObtainOk (key 1 1 MemKind 11) (key 0 0 MemKind 12) (Mem 0 4096 7))) None None None
    ∷ entry 0 (Resume 0) Nothing None None (reply 0 0)
    ∷ entry 0 (Calls 0) (Called 24 (Delegate 24 1 25)) None None None
    ∷ entry 0 (Flush 1) (Carried 1 (DelegateReq (key 0 0 MemKind 12) (Mem 0 4096 7) 1 25)) None None None
    ∷ entry 1 (Fetch 0) (Carried 0 (DelegateReq (key 0 0 MemKind 12) (Mem 0 4096 7) 1 25)) None None None
    ∷ entry 1 Handle (Carried 0 (DelegateReq (key 0 0 MemKind 12) (Mem 0 4096 7) 1 25)) None None None
    ∷ entry 1 (Upcall 1) (Asked 0 Yes) None None None
    ∷ entry 1 (Flush 0) (Carried 0 (DelegatePrepared (key 0 0 MemKind 12) (key 1 1 MemKind 12))) None None None
    ∷ entry 0 (Fetch 1) (Carried 1 (DelegatePrepared (key 0 0 MemKind 12) (key 1 1 MemKind 12))) None None None
    ∷ entry 0 Handle (Carried 1 (DelegatePrepared (key 0 0 MemKind 12) (key 1 1 MemKind 12))) None None None
    ∷ entry 0 (Resume 0) Nothing (grant (key 0 0 MemKind 12) (key 1 1 MemKind 12)) None (reply 0 0)
    ∷ entry 0 (Calls 0) (Called 25 (Obtain 26 1 25)) None None None
    ∷ entry 0 (Flush 1) (Carried 1 (Ack (key 1 1 MemKind 12) true)) None None None
    ∷ entry 0 (Flush 1) (Carried 1 (ObtainReq (place 0 0 13) (SelTarget 1 25))) None None None
    ∷ entry 1 (Fetch 0) (Carried 0 (Ack (key 1 1 MemKind 12) true)) None None None
    ∷ entry 1 Handle (Carried 0 (Ack (key 1 1 MemKind 12) true)) None None None
    ∷ entry 1 (Fetch 0) (Carried 0 (ObtainReq (place 0 0 13) (SelTarget 1 25))) None None None
    ∷ entry 1 Handle (Carried 0 (ObtainReq (place 0 0 13) (SelTarget 1 25))) None None None
    ∷ entry 1 (Upcall 1) (Asked 0 Yes) (grant (key 1 1 MemKind 12) (key 0 0 MemKind 13)) None None
    ∷ entry 1 (Flush 0) (Carried 0 (ObtainOk (key 1 1 MemKind 12) (key 0 0 MemKind 13) (Mem 0 4096 7))) None None None
    ∷ entry 0 (Fetch 1) (Carried 1 (ObtainOk (key 1 1 MemKind 12) (key 0 0 MemKind 13) (Mem 0 4096 7))) None None None
    ∷ entry 0 Handle (Carried 1 (ObtainOk (key 1 1 MemKind 12) (key 0 0 MemKind 13) (Mem 0 4096 7))) None None None
    ∷ entry 0 (Resume 0) Nothing None None (reply 0 0)
    ∷ entry 0 (Calls 0) (Called 26 (Delegate 26 1 27)) None None None
    ∷ entry 0 (Flush 1) (Carried 1 (DelegateReq (key 0 0 MemKind 13) (Mem 0 4096 7) 1 27)) None None None
    ∷ entry 1 (Fetch 0) (Carried 0 (DelegateReq (key 0 0 MemKind 13) (Mem 0 4096 7) 1 27)) None None None
    ∷ entry 1 Handle (Carried 0 (DelegateReq (key 0 0 MemKind 13) (Mem 0 4096 7) 1 27)) None None None
    ∷ entry 1 (Upcall 1) (Asked 0 Yes) None None None
    ∷ entry 1 (Flush 0) (Carried 0 (DelegatePrepared (key 0 0 MemKind 13) (key 1 1 MemKind 13))) None None None
    ∷ entry 0 (Fetch 1) (Carried 1 (DelegatePrepared (key 0 0 MemKind 13) (key 1 1 MemKind 13))) None None None
    ∷ entry 0 Handle (Carried 1 (DelegatePrepared (key 0 0 MemKind 13) (key 1 1 MemKind 13))) None None None
    ∷ entry 0 (Resume 0) Nothing (grant (key 0 0 MemKind 13) (key 1 1 MemKind 13)) None (reply 0 0)
    ∷ entry 0 (Calls 0) (Called 27 (Obtain 28 1 27)) None None None
    ∷ entry 0 (Flush 1) (Carried 1 (Ack (key 1 1 MemKind 13) true)) None None None
    ∷ entry 0 (Flush 1) (Carried 1 (ObtainReq (place 0 0 14) (SelTarget 1 27))) None None None
    ∷ entry 1 (Fetch 0) (Carried 0 (Ack (key 1 1 MemKind 13) true)) None None None
    ∷ entry 1 Handle (Carried 0 (Ack (key 1 1 MemKind 13) true)) None None None
    ∷ entry 1 (Fetch 0) (Carried 0 (ObtainReq (place 0 0 14) (SelTarget 1 27))) None None None
    ∷ entry 1 Handle (Carried 0 (ObtainReq (place 0 0 14) (SelTarget 1 27))) None None None
    ∷ entry 1 (Upcall 1) (Asked 0 Yes) (grant (key 1 1 MemKind 13) (key 0 0 MemKind 14)) None None
    ∷ entry 1 (Flush 0) (Carried 0 (ObtainOk (key 1 1 MemKind 13) (key 0 0 MemKind 14) (Mem 0 4096 7))) None None None
    ∷ entry 0 (Fetch 1) (Carried 1 (ObtainOk (key 1 1 MemKind 13) (key 0 0 MemKind 14) (Mem 0 4096 7))) None None None
    ∷ entry 0 Handle (Carried 1 (ObtainOk (key 1 1 MemKind 13) (key 0 0 MemKind 14) (Mem 0 4096 7))) None None None
    ∷ entry 0 (Resume 0) Nothing None None (reply 0 0)
    ∷ entry 0 (Calls 0) (Called 28 (Delegate 28 1 29)) None None None
    ∷ entry 0 (Flush 1) (Carried 1 (DelegateReq (key 0 0 MemKind 14) (Mem 0 4096 7) 1 29)) None None None
    ∷ entry 1 (Fetch 0) (Carried 0 (DelegateReq (key 0 0 MemKind 14) (Mem 0 4096 7) 1 29)) None None None
    ∷ entry 1 Handle (Carried 0 (DelegateReq (key 0 0 MemKind 14) (Mem 0 4096 7) 1 29)) None None None
    ∷ entry 1 (Upcall 1) (Asked 0 Yes) None None None
    ∷ entry 1 (Flush 0) (Carried 0 (DelegatePrepared (key 0 0 MemKind 14) (key 1 1 MemKind 14))) None None None
    ∷ entry 0 (Fetch 1) (Carried 1 (DelegatePrepared (key 0 0 MemKind 14) (key 1 1 MemKind 14))) None None None
    ∷ entry 0 Handle (Carried 1 (DelegatePrepared (key 0 0 MemKind 14) (key 1 1 MemKind 14))) None None None
    ∷ entry 0 (Resume 0) Nothing (grant (key 0 0 MemKind 14) (key 1 1 MemKind 14)) None (reply 0 0)
    ∷ entry 0 (Calls 0) (Called 29 (Obtain 30 1 29)) None None None
    ∷ entry 0 (Flush 1) (Carried 1 (Ack (key 1 1 MemKind 14) true)) None None None
    ∷ entry 0 (Flush 1) (Carried 1 (ObtainReq (place 0 0 15) (SelTarget 1 29))) None None None
    ∷ entry 1 (Fetch 0) (Carried 0 (Ack (key 1 1 MemKind 14) true)) None None None
    ∷ entry 1 Handle (Carried 0 (Ack (key 1 1 MemKind 14) true)) None None None
    ∷ entry 1 (Fetch 0) (Carried 0 (ObtainReq (place 0 0 15) (SelTarget 1 29))) None None None
    ∷ entry 1 Handle (Carried 0 (ObtainReq (place 0 0 15) (SelTarget 1 29))) None None None
    ∷ entry 1 (Upcall 1) (Asked 0 Yes) (grant (key 1 1 MemKind 14) (key 0 0 MemKind 15)) None None
    ∷ entry 1 (Flush 0) (Carried 0 (ObtainOk (key 1 1 MemKind 14) (key 0 0 MemKind 15) (Mem 0 4096 7))) None None None
    ∷ entry 0 (Fetch 1) (Carried 1 (ObtainOk (key 1 1 MemKind 14) (key 0 0 MemKind 15) (Mem 0 4096 7))) None None None
    ∷ entry 0 Handle (Carried 1 (ObtainOk (key 1 1 MemKind 14) (key 0 0 MemKind 15) (Mem 0 4096 7))) None None None
    ∷ entry 0 (Resume 0) Nothing None None (reply 0 0)
    ∷ entry 0 (Calls 0) (Called 30 (Delegate 30 1 31)) None None None
    ∷ entry 0 (Flush 1) (Carried 1 (DelegateReq (key 0 0 MemKind 15) (Mem 0 4096 7) 1 31)) None None None
    ∷ entry 1 (Fetch 0) (Carried 0 (DelegateReq (key 0 0 MemKind 15) (Mem 0 4096 7) 1 31)) None None None
    ∷ entry 1 Handle (Carried 0 (DelegateReq (key 0 0 MemKind 15) (Mem 0 4096 7) 1 31)) None None None
    ∷ entry 1 (Upcall 1) (Asked 0 Yes) None None None
    ∷ entry 1 (Flush 0) (Carried 0 (DelegatePrepared (key 0 0 MemKind 15) (key 1 1 MemKind 15))) None None None
    ∷ entry 0 (Fetch 1) (Carried 1 (DelegatePrepared (key 0 0 MemKind 15) (key 1 1 MemKind 15))) None None None
    ∷ entry 0 Handle (Carried 1 (DelegatePrepared (key 0 0 MemKind 15) (key 1 1 MemKind 15))) None None None
    ∷ entry 0 (Resume 0) Nothing (grant (key 0 0 MemKind 15) (key 1 1 MemKind 15)) None (reply 0 0)
    ∷ entry 0 (Calls 0) (Called 31 (Obtain 32 1 31)) None None None
    ∷ entry 0 (Flush 1) (Carried 1 (Ack (key 1 1 MemKind 15) true)) None None None
    ∷ entry 0 (Flush 1) (Carried 1 (ObtainReq (place 0 0 16) (SelTarget 1 31))) None None None
    ∷ entry 1 (Fetch 0) (Carried 0 (Ack (key 1 1 MemKind 15) true)) None None None
    ∷ entry 1 Handle (Carried 0 (Ack (key 1 1 MemKind 15) true)) None None None
    ∷ entry 1 (Fetch 0) (Carried 0 (ObtainReq (place 0 0 16) (SelTarget 1 31))) None None None
    ∷ entry 1 Handle (Carried 0 (ObtainReq (place 0 0 16) (SelTarget 1 31))) None None None
    ∷ entry 1 (Upcall 1) (Asked 0 Yes) (grant (key 1 1 MemKind 15) (key 0 0 MemKind 16)) None None
    ∷ entry 1 (Flush 0) (Carried 0 (ObtainOk (key 1 1 MemKind 15) (key 0 0 MemKind 16) (Mem 0 4096 7))) None None None
    ∷ entry 0 (Fetch 1) (Carried 1 (ObtainOk (key 1 1 MemKind 15) (key 0 0 MemKind 16) (Mem 0 4096 7))) None None None
    ∷ entry 0 Handle (Carried 1 (ObtainOk (key 1 1 MemKind 15) (key 0 0 MemKind 16) (Mem 0 4096 7))) None None None
    ∷ entry 0 (Resume 0) Nothing None None (reply 0 0)
    ∷ entry 0 (Calls 0) (Called 32 (Delegate 32 1 33)) None None None
    ∷ entry 0 (Flush 1) (Carried 1 (DelegateReq (key 0 0 MemKind 16) (Mem 0 4096 7) 1 33)) None None None
    ∷ entry 1 (Fetch 0) (Carried 0 (DelegateReq (key 0 0 MemKind 16) (Mem 0 4096 7) 1 33)) None None None
    ∷ entry 1 Handle (Carried 0 (DelegateReq (key 0 0 MemKind 16) (Mem 0 4096 7) 1 33)) None None None
    ∷ entry 1 (Upcall 1) (Asked 0 Yes) None None None
    ∷ entry 1 (Flush 0) (Carried 0 (DelegatePrepared (key 0 0 MemKind 16) (key 1 1 MemKind 16))) None None None
    ∷ entry 0 (Fetch 1) (Carried 1 (DelegatePrepared (key 0 0 MemKind 16) (key 1 1 MemKind 16))) None None None
    ∷ entry 0 Handle (Carried 1 (DelegatePrepared (key 0 0 MemKind 16) (key 1 1 MemKind 16))) None None None
    ∷ entry 0 (Resume 0) Nothing (grant (key 0 0 MemKind 16) (key 1 1 MemKind 16)) None (reply 0 0)
    ∷ entry 0 (Calls 0) (Called 33 (Obtain 34 1 33)) None None None
    ∷ entry 0 (Flush 1) (Carried 1 (Ack (key 1 1 MemKind 16) true)) None None None
    ∷ entry 0 (Flush 1) (Carried 1 (ObtainReq (place 0 0 17) (SelTarget 1 33))) None None None
    ∷ entry 1 (Fetch 0) (Carried 0 (Ack (key 1 1 MemKind 16) true)) None None None
    ∷ entry 1 Handle (Carried 0 (Ack (key 1 1 MemKind 16) true)) None None None
    ∷ entry 1 (Fetch 0) (Carried 0 (ObtainReq (place 0 0 17) (SelTarget 1 33))) None None None
    ∷ entry 1 Handle (Carried 0 (ObtainReq (place 0 0 17) (SelTarget 1 33))) None None None
    ∷ entry 1 (Upcall 1) (Asked 0 Yes) (grant (key 1 1 MemKind 16) (key 0 0 MemKind 17)) None None
    ∷ entry 1 (Flush 0) (Carried 0 (ObtainOk (key 1 1 MemKind 16) (key 0 0 MemKind 17) (Mem 0 4096 7))) None None None
    ∷ entry 0 (Fetch 1) (Carried 1 (ObtainOk (key 1 1 MemKind 16) (key 0 0 MemKind 17) (Mem 0 4096 7))) None None None
    ∷ entry 0 Handle (Carried 1 (ObtainOk (key 1 1 MemKind 16) (key 0 0 MemKind 17) (Mem 0 4096 7))) None None None
    ∷ entry 0 (Resume 0) Nothing None None (reply 0 0)
    ∷ entry 0 (Calls 0) (Called 34 (Delegate 34 1 35)) None None None
    ∷ entry 0 (Flush 1) (Carried 1 (DelegateReq (key 0 0 MemKind 17) (Mem 0 4096 7) 1 35)) None None None
    ∷ entry 1 (Fetch 0) (Carried 0 (DelegateReq (key 0 0 MemKind 17) (Mem 0 4096 7) 1 35)) None None None
    ∷ entry 1 Handle (Carried 0 (DelegateReq (key 0 0 MemKind 17) (Mem 0 4096 7) 1 35)) None None None
    ∷ entry 1 (Upcall 1) (Asked 0 Yes) None None None
    ∷ entry 1 (Flush 0) (Carried 0 (DelegatePrepared (key 0 0 MemKind 17) (key 1 1 MemKind 17))) None None None
    ∷ entry 0 (Fetch 1) (Carried 1 (DelegatePrepared (key 0 0 MemKind 17) (key 1 1 MemKind 17))) None None None
    ∷ entry 0 Handle (Carried 1 (DelegatePrepared (key 0 0 MemKind 17) (key 1 1 MemKind 17))) None None None
    ∷ entry 0 (Resume 0) Nothing (grant (key 0 0 MemKind 17) (key 1 1 MemKind 17)) None (reply 0 0)
    ∷ entry 0 (Calls 0) (Called 35 (Obtain 36 1 35)) None None None
    ∷ entry 0 (Flush 1) (Carried 1 (Ack (key 1 1 MemKind 17) true)) None None None
    ∷ entry 0 (Flush 1) (Carried 1 (ObtainReq (place 0 0 18) (SelTarget 1 35))) None None None
    ∷ entry 1 (Fetch 0) (Carried 0 (Ack (key 1 1 MemKind 17) true)) None None None
    ∷ entry 1 Handle (Carried 0 (Ack (key 1 1 MemKind 17) true)) None None None
    ∷ entry 1 (Fetch 0) (Carried 0 (ObtainReq (place 0 0 18) (SelTarget 1 35))) None None None
    ∷ entry 1 Handle (Carried 0 (ObtainReq (place 0 0 18) (SelTarget 1 35))) None None None
    ∷ entry 1 (Upcall 1) (Asked 0 Yes) (grant (key 1 1 MemKind 17) (key 0 0 MemKind 18)) None None
    ∷ entry 1 (Flush 0) (Carried 0 (ObtainOk (key 1 1 MemKind 17) (key 0 0 MemKind 18) (Mem 0 4096 7))) None None None
    ∷ entry 0 (Fetch 1) (Carried 1 (ObtainOk (key 1 1 MemKind 17) (key 0 0 MemKind 18) (Mem 0 4096 7))) None None None
    ∷ entry 0 Handle (Carried 1 (ObtainOk (key 1 1 MemKind 17) (key 0 0 MemKind 18) (Mem 0 4096 7))) None None None
    ∷ entry 0 (Resume 0) Nothing None None (reply 0 0)
    ∷ entry 0 (Calls 0) (Called 36 (Delegate 36 1 37)) None None None
    ∷ entry 0 (Flush 1) (Carried 1 (DelegateReq (key 0 0 MemKind 18) (Mem 0 4096 7) 1 37)) None None None
    ∷ entry 1 (Fetch 0) (Carried 0 (DelegateReq (key 0 0 MemKind 18) (Mem 0 4096 7) 1 37)) None None None
    ∷ entry 1 Handle (Carried 0 (DelegateReq (key 0 0 MemKind 18) (Mem 0 4096 7) 1 37)) None None None
    ∷ entry 1 (Upcall 1) (Asked 0 Yes) None None None
    ∷ entry 1 (Flush 0) (Carried 0 (DelegatePrepared (key 0 0 MemKind 18) (key 1 1 MemKind 18))) None None None
    ∷ entry 0 (Fetch 1) (Carried 1 (DelegatePrepared (key 0 0 MemKind 18) (key 1 1 MemKind 18))) None None None
    ∷ entry 0 Handle (Carried 1 (DelegatePrepared (key 0 0 MemKind 18) (key 1 1 MemKind 18))) None None None
    ∷ entry 0 (Resume 0) Nothing (grant (key 0 0 MemKind 18) (key 1 1 MemKind 18)) None (reply 0 0)
    ∷ entry 0 (Calls 0) (Called 37 (Obtain 38 1 37)) None None None
    ∷ entry 0 (Flush 1) (Carried 1 (Ack (key 1 1 MemKind 18) true)) None None None
    ∷ entry 0 (Flush 1) (Carried 1 (ObtainReq (place 0 0 19) (SelTarget 1 37))) None None None
    ∷ entry 1 (Fetch 0) (Carried 0 (Ack (key 1 1 MemKind 18) true)) None None None
    ∷ entry 1 Handle (Carried 0 (Ack (key 1 1 MemKind 18) true)) None None None
    ∷ entry 1 (Fetch 0) (Carried 0 (ObtainReq (place 0 0 19) (SelTarget 1 37))) None None None
    ∷ entry 1 Handle (Carried 0 (ObtainReq (place 0 0 19) (SelTarget 1 37))) None None None
    ∷ entry 1 (Upcall 1) (Asked 0 Yes) (grant (key 1 1 MemKind 18) (key 0 0 MemKind 19)) None None
    ∷ entry 1 (Flush 0) (Carried 0 (ObtainOk (key 1 1 MemKind 18) (key 0 0 MemKind 19) (Mem 0 4096 7))) None None None
    ∷ entry 0 (Fetch 1) (Carried 1 (ObtainOk (key 1 1 MemKind 18) (key 0 0 MemKind 19) (Mem 0 4096 7))) None None None
    ∷ entry 0 Handle (Carried 1 (ObtainOk (key 1 1 MemKind 18) (key 0 0 MemKind 19) (Mem 0 4096 7))) None None None
    ∷ entry 0 (Resume 0) Nothing None None (reply 0 0)
    ∷ entry 0 (Calls 0) (Called 38 (Delegate 38 1 39)) None None None
    ∷ entry 0 (Flush 1) (Carried 1 (DelegateReq (key 0 0 MemKind 19) (Mem 0 4096 7) 1 39)) None None None
    ∷ entry 1 (Fetch 0) (Carried 0 (DelegateReq (key 0 0 MemKind 19) (Mem 0 4096 7) 1 39)) None None None
    ∷ entry 1 Handle (Carried 0 (DelegateReq (key 0 0 MemKind 19) (Mem 0 4096 7) 1 39)) None None None
    ∷ entry 1 (Upcall 1) (Asked 0 Yes) None None None
    ∷ entry 1 (Flush 0) (Carried 0 (DelegatePrepared (key 0 0 MemKind 19) (key 1 1 MemKind 19))) None None None
    ∷ entry 0 (Fetch 1) (Carried 1 (DelegatePrepared (key 0 0 MemKind 19) (key 1 1 MemKind 19))) None None None
    ∷ entry 0 Handle (Carried 1 (DelegatePrepared (key 0 0 MemKind 19) (key 1 1 MemKind 19))) None None None
    ∷ entry 0 (Resume 0) Nothing (grant (key 0 0 MemKind 19) (key 1 1 MemKind 19)) None (reply 0 0)
    ∷ entry 0 (Calls 0) (Called 39 (Obtain 40 1 39)) None None None
    ∷ entry 0 (Flush 1) (Carried 1 (Ack (key 1 1 MemKind 19) true)) None None None
    ∷ entry 0 (Flush 1) (Carried 1 (ObtainReq (place 0 0 20) (SelTarget 1 39))) None None None
    ∷ entry 1 (Fetch 0) (Carried 0 (Ack (key 1 1 MemKind 19) true)) None None None
    ∷ entry 1 Handle (Carried 0 (Ack (key 1 1 MemKind 19) true)) None None None
    ∷ entry 1 (Fetch 0) (Carried 0 (ObtainReq (place 0 0 20) (SelTarget 1 39))) None None None
    ∷ entry 1 Handle (Carried 0 (ObtainReq (place 0 0 20) (SelTarget 1 39))) None None None
    ∷ entry 1 (Upcall 1) (Asked 0 Yes) (grant (key 1 1 MemKind 19) (key 0 0 MemKind 20)) None None
    ∷ entry 1 (Flush 0) (Carried 0 (ObtainOk (key 1 1 MemKind 19) (key 0 0 MemKind 20) (Mem 0 4096 7))) None None None
    ∷ entry 0 (Fetch 1) (Carried 1 (ObtainOk (key 1 1 MemKind 19) (key 0 0 MemKind 20) (Mem 0 4096 7))) None None None
    ∷ entry 0 Handle (Carried 1 (ObtainOk (key 1 1 MemKind 19) (key 0 0 MemKind 20) (Mem 0 4096 7))) None None None
    ∷ entry 0 (Resume 0) Nothing None None (reply 0 0)
    ∷ entry 0 (Calls 0) (Called 40 (Revoke 0)) None (Some (key 0 0 MemKind 0)) None
    ∷ entry 0 (Flush 1) (Carried 1 (RevokeReq (key 1 1 MemKind 0) 0)) None None None
    ∷ entry 1 (Fetch 0) (Carried 0 (RevokeReq (key 1 1 MemKind 0) 0)) None None None
    ∷ entry 1 Handle (Carried 0 (RevokeReq (key 1 1 MemKind 0) 0)) None None None
    ∷ entry 1 (Flush 0) (Carried 0 (RevokeReq (key 0 0 MemKind 1) 0)) None None None
    ∷ entry 0 (Fetch 1) (Carried 1 (RevokeReq (key 0 0 MemKind 1) 0)) None None None
    ∷ entry 0 Handle (Carried 1 (RevokeReq (key 0 0 MemKind 1) 0)) None None None
    ∷ entry 0 (Flush 1) (Carried 1 (RevokeReq (key 1 1 MemKind 1) 1)) None None None
    ∷ entry 1 (Fetch 0) (Carried 0 (RevokeReq (key 1 1 MemKind 1) 1)) None None None
    ∷ entry 1 Handle (Carried 0 (RevokeReq (key 1 1 MemKind 1) 1)) None None None
    ∷ entry 1 (Flush 0) (Carried 0 (RevokeReq (key 0 0 MemKind 2) 1)) None None None
    ∷ entry 0 (Fetch 1) (Carried 1 (RevokeReq (key 0 0 MemKind 2) 1)) None None None
    ∷ entry 0 Handle (Carried 1 (RevokeReq (key 0 0 MemKind 2) 1)) None None None
    ∷ entry 0 (Flush 1) (Carried 1 (RevokeReq (key 1 1 MemKind 2) 2)) None None None
    ∷ entry 1 (Fetch 0) (Carried 0 (RevokeReq (key 1 1 MemKind 2) 2)) None None None
    ∷ entry 1 Handle (Carried 0 (RevokeReq (key 1 1 MemKind 2) 2)) None None None
    ∷ entry 1 (Flush 0) (Carried 0 (RevokeReq (key 0 0 MemKind 3) 2)) None None None
    ∷ entry 0 (Fetch 1) (Carried 1 (RevokeReq (key 0 0 MemKind 3) 2)) None None None
    ∷ entry 0 Handle (Carried 1 (RevokeReq (key 0 0 MemKind 3) 2)) None None None
    ∷ entry 0 (Flush 1) (Carried 1 (RevokeReq (key 1 1 MemKind 3) 3)) None None None
    ∷ entry 1 (Fetch 0) (Carried 0 (RevokeReq (key 1 1 MemKind 3) 3)) None None None
    ∷ entry 1 Handle (Carried 0 (RevokeReq (key 1 1 MemKind 3) 3)) None None None
    ∷ entry 1 (Flush 0) (Carried 0 (RevokeReq (key 0 0 MemKind 4) 3)) None None None
    ∷ entry 0 (Fetch 1) (Carried 1 (RevokeReq (key 0 0 MemKind 4) 3)) None None None
    ∷ entry 0 Handle (Carried 1 (RevokeReq (key 0 0 MemKind 4) 3)) None None None
    ∷ entry 0 (Flush 1) (Carried 1 (RevokeReq (key 1 1 MemKind 4) 4)) None None None
    ∷ entry 1 (Fetch 0) (Carried 0 (RevokeReq (key 1 1 MemKind 4) 4)) None None None
    ∷ entry 1 Handle (Carried 0 (RevokeReq (key 1 1 MemKind 4) 4)) None None None
    ∷ entry 1 (Flush 0) (Carried 0 (RevokeReq (key 0 0 MemKind 5) 4)) None None None
    ∷ entry 0 (Fetch 1) (Carried 1 (RevokeReq (key 0 0 MemKind 5) 4)) None None None
    ∷ entry 0 Handle (Carried 1 (RevokeReq (key 0 0 MemKind 5) 4)) None None None
    ∷ entry 0 (Flush 1) (Carried 1 (RevokeReq (key 1 1 MemKind 5) 5)) None None None
    ∷ entry 1 (Fetch 0) (Carried 0 (RevokeReq (key 1 1 MemKind 5) 5)) None None None
    ∷ entry 1 Handle (Carried 0 (RevokeReq (key 1 1 MemKind 5) 5)) None None None
    ∷ entry 1 (Flush 0) (Carried 0 (RevokeReq (key 0 0 MemKind 6) 5)) None None None
    ∷ entry 0 (Fetch 1) (Carried 1 (RevokeReq (key 0 0 MemKind 6) 5)) None None None
    ∷ entry 0 Handle (Carried 1 (RevokeReq (key 0 0 MemKind 6) 5)) None None None
    ∷ entry 0 (Flush 1) (Carried 1 (RevokeReq (key 1 1 MemKind 6) 6)) None None None
    ∷ entry 1 (Fetch 0) (Carried 0 (RevokeReq (key 1 1 MemKind 6) 6)) None None None
    ∷ entry 1 Handle (Carried 0 (RevokeReq (key 1 1 MemKind 6) 6)) None None None
    ∷ entry 1 (Flush 0) (Carried 0 (RevokeReq (key 0 0 MemKind 7) 6)) None None None
    ∷ entry 0 (Fetch 1) (Carried 1 (RevokeReq (key 0 0 MemKind 7) 6)) None None None
    ∷ entry 0 Handle (Carried 1 (RevokeReq (key 0 0 MemKind 7) 6)) None None None
    ∷ entry 0 (Flush 1) (Carried 1 (RevokeReq (key 1 1 MemKind 7) 7)) None None None
    ∷ entry 1 (Fetch 0) (Carried 0 (RevokeReq (key 1 1 MemKind 7) 7)) None None None
    ∷ entry 1 Handle (Carried 0 (RevokeReq (key 1 1 MemKind 7) 7)) None None None
    ∷ entry 1 (Flush 0) (Carried 0 (RevokeReq (key 0 0 MemKind 8) 7)) None None None
    ∷ entry 0 (Fetch 1) (Carried 1 (RevokeReq (key 0 0 MemKind 8) 7)) None None None
    ∷ entry 0 Handle (Carried 1 (RevokeReq (key 0 0 MemKind 8) 7)) None None None
    ∷ entry 0 (Flush 1) (Carried 1 (RevokeReq (key 1 1 MemKind 8) 8)) None None None
    ∷ entry 1 (Fetch 0) (Carried 0 (RevokeReq (key 1 1 MemKind 8) 8)) None None None
    ∷ entry 1 Handle (Carried 0 (RevokeReq (key 1 1 MemKind 8) 8)) None None None
    ∷ entry 1 (Flush 0) (Carried 0 (RevokeReq (key 0 0 MemKind 9) 8)) None None None
    ∷ entry 0 (Fetch 1) (Carried 1 (RevokeReq (key 0 0 MemKind 9) 8)) None None None
    ∷ entry 0 Handle (Carried 1 (RevokeReq (key 0 0 MemKind 9) 8)) None None None
    ∷ entry 0 (Flush 1) (Carried 1 (RevokeReq (key 1 1 MemKind 9) 9)) None None None
    ∷ entry 1 (Fetch 0) (Carried 0 (RevokeReq (key 1 1 MemKind 9) 9)) None None None
    ∷ entry 1 Handle (Carried 0 (RevokeReq (key 1 1 MemKind 9) 9)) None None None
    ∷ entry 1 (Flush 0) (Carried 0 (RevokeReq (key 0 0 MemKind 10) 9)) None None None
    ∷ entry 0 (Fetch 1) (Carried 1 (RevokeReq (key 0 0 MemKind 10) 9)) None None None
    ∷ entry 0 Handle (Carried 1 (RevokeReq (key 0 0 MemKind 10) 9)) None None None
    ∷ entry 0 (Flush 1) (Carried 1 (RevokeReq (key 1 1 MemKind 10) 10)) None None None
    ∷ entry 1 (Fetch 0) (Carried 0 (RevokeReq (key 1 1 MemKind 10) 10)) None None None
    ∷ entry 1 Handle (Carried 0 (RevokeReq (key 1 1 MemKind 10) 10)) None None None
    ∷ entry 1 (Flush 0) (Carried 0 (RevokeReq (key 0 0 MemKind 11) 10)) None None None
    ∷ entry 0 (Fetch 1) (Carried 1 (RevokeReq (key 0 0 MemKind 11) 10)) None None None
    ∷ entry 0 Handle (Carried 1 (RevokeReq (key 0 0 MemKind 11) 10)) None None None
    ∷ entry 0 (Flush 1) (Carried 1 (RevokeReq (key 1 1 MemKind 11) 11)) None None None
    ∷ entry 1 (Fetch 0) (Carried 0 (RevokeReq (key 1 1 MemKind 11) 11)) None None None
    ∷ entry 1 Handle (Carried 0 (RevokeReq (key 1 1 MemKind 11) 11)) None None None
    ∷ entry 1 (Flush 0) (Carried 0 (RevokeReq (key 0 0 MemKind 12) 11)) None None None
    ∷ entry 0 (Fetch 1) (Carried 1 (RevokeReq (key 0 0 MemKind 12) 11)) None None None
    ∷ entry 0 Handle (Carried 1 (RevokeReq (key 0 0 MemKind 12) 11)) None None None
    ∷ entry 0 (Flush 1) (Carried 1 (RevokeReq (key 1 1 MemKind 12) 12)) None None None
    ∷ entry 1 (Fetch 0) (Carried 0 (RevokeReq (key 1 1 MemKind 12) 12)) None None None
    ∷ entry 1 Handle (Carried 0 (RevokeReq (key 1 1 MemKind 12) 12)) None None None
    ∷ entry 1 (Flush 0) (Carried 0 (RevokeReq (key 0 0 MemKind 13) 12)) None None None
    ∷ entry 0 (Fetch 1) (Carried 1 (RevokeReq (key 0 0 MemKind 13) 12)) None None None
    ∷ entry 0 Handle (Carried 1 (RevokeReq (key 0 0 MemKind 13) 12)) None None None
    ∷ entry 0 (Flush 1) (Carried 1 (RevokeReq (key 1 1 MemKind 13) 13)) None None None
    ∷ entry 1 (Fetch 0) (Carried 0 (RevokeReq (key 1 1 MemKind 13) 13)) None None None
    ∷ entry 1 Handle (Carried 0 (RevokeReq (key 1 1 MemKind 13) 13)) None None None
    ∷ entry 1 (Flush 0) (Carried 0 (RevokeReq (key 0 0 MemKind 14) 13)) None None None
    ∷ entry 0 (Fetch 1) (Carried 1 (RevokeReq (key 0 0 MemKind 14) 13)) None None None
    ∷ entry 0 Handle (Carried 1 (RevokeReq (key 0 0 MemKind 14) 13)) None None None
    ∷ entry 0 (Flush 1) (Carried 1 (RevokeReq (key 1 1 MemKind 14) 14)) None None None
    ∷ entry 1 (Fetch 0) (Carried 0 (RevokeReq (key 1 1 MemKind 14) 14)) None None None
    ∷ entry 1 Handle (Carried 0 (RevokeReq (key 1 1 MemKind 14) 14)) None None None
    ∷ entry 1 (Flush 0) (Carried 0 (RevokeReq (key 0 0 MemKind 15) 14)) None None None
    ∷ entry 0 (Fetch 1) (Carried 1 (RevokeReq (key 0 0 MemKind 15) 14)) None None None
    ∷ entry 0 Handle (Carried 1 (RevokeReq (key 0 0 MemKind 15) 14)) None None None
    ∷ entry 0 (Flush 1) (Carried 1 (RevokeReq (key 1 1 MemKind 15) 15)) None None None
    ∷ entry 1 (Fetch 0) (Carried 0 (RevokeReq (key 1 1 MemKind 15) 15)) None None None
    ∷ entry 1 Handle (Carried 0 (RevokeReq (key 1 1 MemKind 15) 15)) None None None
    ∷ entry 1 (Flush 0) (Carried 0 (RevokeReq (key 0 0 MemKind 16) 15)) None None None
    ∷ entry 0 (Fetch 1) (Carried 1 (RevokeReq (key 0 0 MemKind 16) 15)) None None None
    ∷ entry 0 Handle (Carried 1 (RevokeReq (key 0 0 MemKind 16) 15)) None None None
    ∷ entry 0 (Flush 1) (Carried 1 (RevokeReq (key 1 1 MemKind 16) 16)) None None None
    ∷ entry 1 (Fetch 0) (Carried 0 (RevokeReq (key 1 1 MemKind 16) 16)) None None None
    ∷ entry 1 Handle (Carried 0 (RevokeReq (key 1 1 MemKind 16) 16)) None None None
    ∷ entry 1 (Flush 0) (Carried 0 (RevokeReq (key 0 0 MemKind 17) 16)) None None None
    ∷ entry 0 (Fetch 1) (Carried 1 (RevokeReq (key 0 0 MemKind 17) 16)) None None None
    ∷ entry 0 Handle (Carried 1 (RevokeReq (key 0 0 MemKind 17) 16)) None None None
    ∷ entry 0 (Flush 1) (Carried 1 (RevokeReq (key 1 1 MemKind 17) 17)) None None None
    ∷ entry 1 (Fetch 0) (Carried 0 (RevokeReq (key 1 1 MemKind 17) 17)) None None None
    ∷ entry 1 Handle (Carried 0 (RevokeReq (key 1 1 MemKind 17) 17)) None None None
    ∷ entry 1 (Flush 0) (Carried 0 (RevokeReq (key 0 0 MemKind 18) 17)) None None None
    ∷ entry 0 (Fetch 1) (Carried 1 (RevokeReq (key 0 0 MemKind 18) 17)) None None None
    ∷ entry 0 Handle (Carried 1 (RevokeReq (key 0 0 MemKind 18) 17)) None None None
    ∷ entry 0 (Flush 1) (Carried 1 (RevokeReq (key 1 1 MemKind 18) 18)) None None None
    ∷ entry 1 (Fetch 0) (Carried 0 (RevokeReq (key 1 1 MemKind 18) 18)) None None None
    ∷ entry 1 Handle (Carried 0 (RevokeReq (key 1 1 MemKind 18) 18)) None None None
    ∷ entry 1 (Flush 0) (Carried 0 (RevokeReq (key 0 0 MemKind 19) 18)) None None None
    ∷ entry 0 (Fetch 1) (Carried 1 (RevokeReq (key 0 0 MemKind 19) 18)) None None None
    ∷ entry 0 Handle (Carried 1 (RevokeReq (key 0 0 MemKind 19) 18)) None None None
    ∷ entry 0 (Flush 1) (Carried 1 (RevokeReq (key 1 1 MemKind 19) 19)) None None None
    ∷ entry 1 (Fetch 0) (Carried 0 (RevokeReq (key 1 1 MemKind 19) 19)) None None None
    ∷ entry 1 Handle (Carried 0 (RevokeReq (key 1 1 MemKind 19) 19)) None None None
    ∷ entry 1 (Flush 0) (Carried 0 (RevokeReq (key 0 0 MemKind 20) 19)) None None None
    ∷ entry 0 (Fetch 1) (Carried 1 (RevokeReq (key 0 0 MemKind 20) 19)) None None None
    ∷ entry 0 Handle (Carried 1 (RevokeReq (key 0 0 MemKind 20) 19)) None None None
    ∷ entry 0 (Flush 1) (Carried 1 (RevokeDone 19)) None None None
    ∷ entry 1 (Fetch 0) (Carried 0 (RevokeDone 19)) None None None
    ∷ entry 1 Handle (Carried 0 (RevokeDone 19)) None None None
    ∷ entry 1 (Flush 0) (Carried 0 (RevokeDone 19)) None None None
    ∷ entry 0 (Fetch 1) (Carried 1 (RevokeDone 19)) None None None
    ∷ entry 0 Handle (Carried 1 (RevokeDone 19)) None None None
    ∷ entry 0 (Flush 1) (Carried 1 (RevokeDone 18)) None None None
    ∷ entry 1 (Fetch 0) (Carried 0 (RevokeDone 18)) None None None
    ∷ entry 1 Handle (Carried 0 (RevokeDone 18)) None None None
    ∷ entry 1 (Flush 0) (Carried 0 (RevokeDone 18)) None None None
    ∷ entry 0 (Fetch 1) (Carried 1 (RevokeDone 18)) None None None
    ∷ entry 0 Handle (Carried 1 (RevokeDone 18)) None None None
    ∷ entry 0 (Flush 1) (Carried 1 (RevokeDone 17)) None None None
    ∷ entry 1 (Fetch 0) (Carried 0 (RevokeDone 17)) None None None
    ∷ entry 1 Handle (Carried 0 (RevokeDone 17)) None None None
    ∷ entry 1 (Flush 0) (Carried 0 (RevokeDone 17)) None None None
    ∷ entry 0 (Fetch 1) (Carried 1 (RevokeDone 17)) None None None
    ∷ entry 0 Handle (Carried 1 (RevokeDone 17)) None None None
    ∷ entry 0 (Flush 1) (Carried 1 (RevokeDone 16)) None None None
    ∷ entry 1 (Fetch 0) (Carried 0 (RevokeDone 16)) None None None
    ∷ entry 1 Handle (Carried 0 (RevokeDone 16)) None None None
    ∷ entry 1 (Flush 0) (Carried 0 (RevokeDone 16)) None None None
    ∷ entry 0 (Fetch 1) (Carried 1 (RevokeDone 16)) None None None
    ∷ entry 0 Handle (Carried 1 (RevokeDone 16)) None None None
    ∷ entry 0 (Flush 1) (Carried 1 (RevokeDone 15)) None None None
    ∷ entry 1 (Fetch 0) (Carried 0 (RevokeDone 15)) None None None
    ∷ entry 1 Handle (Carried 0 (RevokeDone 15)) None None None
    ∷ entry 1 (Flush 0) (Carried 0 (RevokeDone 15)) None None None
    ∷ entry 0 (Fetch 1) (Carried 1 (RevokeDone 15)) None None None
    ∷ entry 0 Handle (Carried 1 (RevokeDone 15)) None None None
    ∷ entry 0 (Flush 1) (Carried 1 (RevokeDone 14)) None None None
    ∷ entry 1 (Fetch 0) (Carried 0 (RevokeDone 14)) None None None
    ∷ entry 1 Handle (Carried 0 (RevokeDone 14)) None None None
    ∷ entry 1 (Flush 0) (Carried 0 (RevokeDone 14)) None None None
    ∷ entry 0 (Fetch 1) (Carried 1 (RevokeDone 14)) None None None
    ∷ entry 0 Handle (Carried 1 (RevokeDone 14)) None None None
    ∷ entry 0 (Flush 1) (Carried 1 (RevokeDone 13)) None None None
    ∷ entry 1 (Fetch 0) (Carried 0 (RevokeDone 13)) None None None
    ∷ entry 1 Handle (Carried 0 (RevokeDone 13)) None None None
    ∷ entry 1 (Flush 0) (Carried 0 (RevokeDone 13)) None None None
    ∷ entry 0 (Fetch 1) (Carried 1 (RevokeDone 13)) None None None
    ∷ entry 0 Handle (Carried 1 (RevokeDone 13)) None None None
    ∷ entry 0 (Flush 1) (Carried 1 (RevokeDone 12)) None None None
    ∷ entry 1 (Fetch 0) (Carried 0 (RevokeDone 12)) None None None
    ∷ entry 1 Handle (Carried 0 (RevokeDone 12)) None None None
    ∷ entry 1 (Flush 0) (Carried 0 (RevokeDone 12)) None None None
    ∷ entry 0 (Fetch 1) (Carried 1 (RevokeDone 12)) None None None
    ∷ entry 0 Handle (Carried 1 (RevokeDone 12)) None None None
    ∷ entry 0 (Flush 1) (Carried 1 (RevokeDone 11)) None None None
    ∷ entry 1 (Fetch 0) (Carried 0 (RevokeDone 11)) None None None
    ∷ entry 1 Handle (Carried 0 (RevokeDone 11)) None None None
    ∷ entry 1 (Flush 0) (Carried 0 (RevokeDone 11)) None None None
    ∷ entry 0 (Fetch 1) (Carried 1 (RevokeDone 11)) None None None
    ∷ entry 0 Handle (Carried 1 (RevokeDone 11)) None None None
    ∷ entry 0 (Flush 1) (Carried 1 (RevokeDone 10)) None None None
    ∷ entry 1 (Fetch 0) (Carried 0 (RevokeDone 10)) None None None
    ∷ entry 1 Handle (Carried 0 (RevokeDone 10)) None None None
    ∷ entry 1 (Flush 0) (Carried 0 (RevokeDone 10)) None None None
    ∷ entry 0 (Fetch 1) (Carried 1 (RevokeDone 10)) None None None
    ∷ entry 0 Handle (Carried 1 (RevokeDone 10)) None None None
    ∷ entry 0 (Flush 1) (Carried 1 (RevokeDone 9)) None None None
    ∷ entry 1 (Fetch 0) (Carried 0 (RevokeDone 9)) None None None
    ∷ entry 1 Handle (Carried 0 (RevokeDone 9)) None None None
    ∷ entry 1 (Flush 0) (Carried 0 (RevokeDone 9)) None None None
    ∷ entry 0 (Fetch 1) (Carried 1 (RevokeDone 9)) None None None
    ∷ entry 0 Handle (Carried 1 (RevokeDone 9)) None None None
    ∷ entry 0 (Flush 1) (Carried 1 (RevokeDone 8)) None None None
    ∷ entry 1 (Fetch 0) (Carried 0 (RevokeDone 8)) None None None
    ∷ entry 1 Handle (Carried 0 (RevokeDone 8)) None None None
    ∷ entry 1 (Flush 0) (Carried 0 (RevokeDone 8)) None None None
    ∷ entry 0 (Fetch 1) (Carried 1 (RevokeDone 8)) None None None
    ∷ entry 0 Handle (Carried 1 (RevokeDone 8)) None None None
    ∷ entry 0 (Flush 1) (Carried 1 (RevokeDone 7)) None None None
    ∷ entry 1 (Fetch 0) (Carried 0 (RevokeDone 7)) None None None
    ∷ entry 1 Handle (Carried 0 (RevokeDone 7)) None None None
    ∷ entry 1 (Flush 0) (Carried 0 (RevokeDone 7)) None None None
    ∷ entry 0 (Fetch 1) (Carried 1 (RevokeDone 7)) None None None
    ∷ entry 0 Handle (Carried 1 (RevokeDone 7)) None None None
    ∷ entry 0 (Flush 1) (Carried 1 (RevokeDone 6)) None None None
    ∷ entry 1 (Fetch 0) (Carried 0 (RevokeDone 6)) None None None
    ∷ entry 1 Handle (Carried 0 (RevokeDone 6)) None None None
    ∷ entry 1 (Flush 0) (Carried 0 (RevokeDone 6)) None None None
    ∷ entry 0 (Fetch 1) (Carried 1 (RevokeDone 6)) None None None
    ∷ entry 0 Handle (Carried 1 (RevokeDone 6)) None None None
    ∷ entry 0 (Flush 1) (Carried 1 (RevokeDone 5)) None None None
    ∷ entry 1 (Fetch 0) (Carried 0 (RevokeDone 5)) None None None
    ∷ entry 1 Handle (Carried 0 (RevokeDone 5)) None None None
    ∷ entry 1 (Flush 0) (Carried 0 (RevokeDone 5)) None None None
    ∷ entry 0 (Fetch 1) (Carried 1 (RevokeDone 5)) None None None
    ∷ entry 0 Handle (Carried 1 (RevokeDone 5)) None None None
    ∷ entry 0 (Flush 1) (Carried 1 (RevokeDone 4)) None None None
    ∷ entry 1 (Fetch 0) (Carried 0 (RevokeDone 4)) None None None
    ∷ entry 1 Handle (Carried 0 (RevokeDone 4)) None None None
    ∷ entry 1 (Flush 0) (Carried 0 (RevokeDone 4)) None None None
    ∷ entry 0 (Fetch 1) (Carried 1 (RevokeDone 4)) None None None
    ∷ entry 0 Handle (Carried 1 (RevokeDone 4)) None None None
    ∷ entry 0 (Flush 1) (Carried 1 (RevokeDone 3)) None None None
    ∷ entry 1 (Fetch 0) (Carried 0 (RevokeDone 3)) None None None
    ∷ entry 1 Handle (Carried 0 (RevokeDone 3)) None None None
    ∷ entry 1 (Flush 0) (Carried 0 (RevokeDone 3)) None None None
    ∷ entry 0 (Fetch 1) (Carried 1 (RevokeDone 3)) None None None
    ∷ entry 0 Handle (Carried 1 (RevokeDone 3)) None None None
    ∷ entry 0 (Flush 1) (Carried 1 (RevokeDone 2)) None None None
    ∷ entry 1 (Fetch 0) (Carried 0 (RevokeDone 2)) None None None
    ∷ entry 1 Handle (Carried 0 (RevokeDone 2)) None None None
    ∷ entry 1 (Flush 0) (Carried 0 (RevokeDone 2)) None None None
    ∷ entry 0 (Fetch 1) (Carried 1 (RevokeDone 2)) None None None
    ∷ entry 0 Handle (Carried 1 (RevokeDone 2)) None None None
    ∷ entry 0 (Flush 1) (Carried 1 (RevokeDone 1)) None None None
    ∷ entry 1 (Fetch 0) (Carried 0 (RevokeDone 1)) None None None
    ∷ entry 1 Handle (Carried 0 (RevokeDone 1)) None None None
    ∷ entry 1 (Flush 0) (Carried 0 (RevokeDone 1)) None None None
    ∷ entry 0 (Fetch 1) (Carried 1 (RevokeDone 1)) None None None
    ∷ entry 0 Handle (Carried 1 (RevokeDone 1)) None None None
    ∷ entry 0 (Flush 1) (Carried 1 (RevokeDone 0)) None None None
    ∷ entry 1 (Fetch 0) (Carried 0 (RevokeDone 0)) None None None
    ∷ entry 1 Handle (Carried 0 (RevokeDone 0)) None None None
    ∷ entry 1 (Flush 0) (Carried 0 (RevokeDone 0)) None None None
    ∷ entry 0 (Fetch 1) (Carried 1 (RevokeDone 0)) None None None
    ∷ entry 0 Handle (Carried 1 (RevokeDone 0)) None None None
    ∷ entry 0 (Resume 0) Nothing None None (reply 0 0)
    ∷ []

unfoldable pub outcome : Played
outcome = record {
  entries = journal;
  all_enabled = true;
  left = [];
  made = 41;
  cut = 1;
  held = [];
  is_forest = true;
  is_linked = true;
  is_clean = true;
}

abbrev pub chain_of_forty_one : Type 0
chain_of_forty_one = played trace events ≡ outcome
