-- A chain of nine capabilities between two kernels, with a window of 1.
use Rattle.std.specs.Prelude.{◌≡◌, true, Some, None, List, [], ◌∷◌}
use Rattle.sem_machine.specs.Prelude.{MemKind, Mem, SelTarget, ObtainReq, ObtainOk, DelegateReq, DelegatePrepared}
use Rattle.sem_machine.specs.Prelude.{Ack, RevokeReq, RevokeDone, Obtain, Delegate, Revoke, Calls, Fetch, Handle}
use Rattle.sem_machine.specs.Prelude.{Upcall, Resume, Flush, Event, Yes, Called, Carried, Asked, Nothing, Entry}
use Rattle.sem_machine.specs.Prelude.{Setup, event}
use Rattle.sem_plays.specs.Words.{key, place, grant, reply, entry, owners, root, vpe}
use Rattle.sem_plays.specs.Played.{Played, played}

unfoldable pub trace : Setup
trace = record {
  version = 2;
  window = 1;
  kernels = 2;
  owners = owners 2 (Some 0 ∷ Some 1 ∷ []);
  vpes =
      vpe 0 0 (root 0 (Mem 0 4096 7) ∷ []) (Delegate 0 1 1 ∷ Obtain 2 1 1 ∷ Delegate 2 1 3 ∷ Obtain 4 1 3
      ∷ Delegate 4 1 5 ∷ Obtain 6 1 5 ∷ Delegate 6 1 7 ∷ Obtain 8 1 7 ∷ Revoke 0 ∷ [])
      ∷ vpe 1 1 [] []
      ∷ [];
  services = [];
  offers = [];
  denies = [];
  kills = [];
}

unfoldable pub events : List Event
events =
    event 0 (Calls 0)
    ∷ event 0 (Flush 1)
    ∷ event 1 (Fetch 0)
    ∷ event 1 Handle
    ∷ event 1 (Upcall 1)
    ∷ event 1 (Flush 0)
    ∷ event 0 (Fetch 1)
    ∷ event 0 Handle
    ∷ event 0 (Resume 0)
    ∷ event 0 (Calls 0)
    ∷ event 0 (Flush 1)
    ∷ event 1 (Fetch 0)
    ∷ event 0 (Flush 1)
    ∷ event 1 Handle
    ∷ event 1 (Fetch 0)
    ∷ event 1 Handle
    ∷ event 1 (Upcall 1)
    ∷ event 1 (Flush 0)
    ∷ event 0 (Fetch 1)
    ∷ event 0 Handle
    ∷ event 0 (Resume 0)
    ∷ event 0 (Calls 0)
    ∷ event 0 (Flush 1)
    ∷ event 1 (Fetch 0)
    ∷ event 1 Handle
    ∷ event 1 (Upcall 1)
    ∷ event 1 (Flush 0)
    ∷ event 0 (Fetch 1)
    ∷ event 0 Handle
    ∷ event 0 (Resume 0)
    ∷ event 0 (Calls 0)
    ∷ event 0 (Flush 1)
    ∷ event 1 (Fetch 0)
    ∷ event 0 (Flush 1)
    ∷ event 1 Handle
    ∷ event 1 (Fetch 0)
    ∷ event 1 Handle
    ∷ event 1 (Upcall 1)
    ∷ event 1 (Flush 0)
    ∷ event 0 (Fetch 1)
    ∷ event 0 Handle
    ∷ event 0 (Resume 0)
    ∷ event 0 (Calls 0)
    ∷ event 0 (Flush 1)
    ∷ event 1 (Fetch 0)
    ∷ event 1 Handle
    ∷ event 1 (Upcall 1)
    ∷ event 1 (Flush 0)
    ∷ event 0 (Fetch 1)
    ∷ event 0 Handle
    ∷ event 0 (Resume 0)
    ∷ event 0 (Calls 0)
    ∷ event 0 (Flush 1)
    ∷ event 1 (Fetch 0)
    ∷ event 0 (Flush 1)
    ∷ event 1 Handle
    ∷ event 1 (Fetch 0)
    ∷ event 1 Handle
    ∷ event 1 (Upcall 1)
    ∷ event 1 (Flush 0)
    ∷ event 0 (Fetch 1)
    ∷ event 0 Handle
    ∷ event 0 (Resume 0)
    ∷ event 0 (Calls 0)
    ∷ event 0 (Flush 1)
    ∷ event 1 (Fetch 0)
    ∷ event 1 Handle
    ∷ event 1 (Upcall 1)
    ∷ event 1 (Flush 0)
    ∷ event 0 (Fetch 1)
    ∷ event 0 Handle
    ∷ event 0 (Resume 0)
    ∷ event 0 (Calls 0)
    ∷ event 0 (Flush 1)
    ∷ event 1 (Fetch 0)
    ∷ event 0 (Flush 1)
    ∷ event 1 Handle
    ∷ event 1 (Fetch 0)
    ∷ event 1 Handle
    ∷ event 1 (Upcall 1)
    ∷ event 1 (Flush 0)
    ∷ event 0 (Fetch 1)
    ∷ event 0 Handle
    ∷ event 0 (Resume 0)
    ∷ event 0 (Calls 0)
    ∷ event 0 (Flush 1)
    ∷ event 1 (Fetch 0)
    ∷ event 1 Handle
    ∷ event 1 (Flush 0)
    ∷ event 0 (Fetch 1)
    ∷ event 0 Handle
    ∷ event 0 (Flush 1)
    ∷ event 1 (Fetch 0)
    ∷ event 1 Handle
    ∷ event 1 (Flush 0)
    ∷ event 0 (Fetch 1)
    ∷ event 0 Handle
    ∷ event 0 (Flush 1)
    ∷ event 1 (Fetch 0)
    ∷ event 1 Handle
    ∷ event 1 (Flush 0)
    ∷ event 0 (Fetch 1)
    ∷ event 0 Handle
    ∷ event 0 (Flush 1)
    ∷ event 1 (Fetch 0)
    ∷ event 1 Handle
    ∷ event 1 (Flush 0)
    ∷ event 0 (Fetch 1)
    ∷ event 0 Handle
    ∷ event 0 (Flush 1)
    ∷ event 1 (Fetch 0)
    ∷ event 1 Handle
    ∷ event 1 (Flush 0)
    ∷ event 0 (Fetch 1)
    ∷ event 0 Handle
    ∷ event 0 (Flush 1)
    ∷ event 1 (Fetch 0)
    ∷ event 1 Handle
    ∷ event 1 (Flush 0)
    ∷ event 0 (Fetch 1)
    ∷ event 0 Handle
    ∷ event 0 (Flush 1)
    ∷ event 1 (Fetch 0)
    ∷ event 1 Handle
    ∷ event 1 (Flush 0)
    ∷ event 0 (Fetch 1)
    ∷ event 0 Handle
    ∷ event 0 (Flush 1)
    ∷ event 1 (Fetch 0)
    ∷ event 1 Handle
    ∷ event 1 (Flush 0)
    ∷ event 0 (Fetch 1)
    ∷ event 0 Handle
    ∷ event 0 (Resume 0)
    ∷ []

unfoldable pub journal : List Entry
journal =
    entry 0 (Calls 0) (Called 0 (Delegate 0 1 1)) None None None
    ∷ entry 0 (Flush 1) (Carried 1 (DelegateReq (key 0 0 MemKind 0) (Mem 0 4096 7) 1 1)) None None None
    ∷ entry 1 (Fetch 0) (Carried 0 (DelegateReq (key 0 0 MemKind 0) (Mem 0 4096 7) 1 1)) None None None
    ∷ entry 1 Handle (Carried 0 (DelegateReq (key 0 0 MemKind 0) (Mem 0 4096 7) 1 1)) None None None
    ∷ entry 1 (Upcall 1) (Asked 0 Yes) None None None
    ∷ entry 1 (Flush 0) (Carried 0 (DelegatePrepared (key 0 0 MemKind 0) (key 1 1 MemKind 0))) None None None
    ∷ entry 0 (Fetch 1) (Carried 1 (DelegatePrepared (key 0 0 MemKind 0) (key 1 1 MemKind 0))) None None None
    ∷ entry 0 Handle (Carried 1 (DelegatePrepared (key 0 0 MemKind 0) (key 1 1 MemKind 0))) None None None
    ∷ entry 0 (Resume 0) Nothing (grant (key 0 0 MemKind 0) (key 1 1 MemKind 0)) None (reply 0 0)
    ∷ entry 0 (Calls 0) (Called 1 (Obtain 2 1 1)) None None None
    ∷ entry 0 (Flush 1) (Carried 1 (Ack (key 1 1 MemKind 0) true)) None None None
    ∷ entry 1 (Fetch 0) (Carried 0 (Ack (key 1 1 MemKind 0) true)) None None None
    ∷ entry 0 (Flush 1) (Carried 1 (ObtainReq (place 0 0 1) (SelTarget 1 1))) None None None
    ∷ entry 1 Handle (Carried 0 (Ack (key 1 1 MemKind 0) true)) None None None
    ∷ entry 1 (Fetch 0) (Carried 0 (ObtainReq (place 0 0 1) (SelTarget 1 1))) None None None
    ∷ entry 1 Handle (Carried 0 (ObtainReq (place 0 0 1) (SelTarget 1 1))) None None None
    ∷ entry 1 (Upcall 1) (Asked 0 Yes) (grant (key 1 1 MemKind 0) (key 0 0 MemKind 1)) None None
    ∷ entry 1 (Flush 0) (Carried 0 (ObtainOk (key 1 1 MemKind 0) (key 0 0 MemKind 1) (Mem 0 4096 7))) None None None
    ∷ entry 0 (Fetch 1) (Carried 1 (ObtainOk (key 1 1 MemKind 0) (key 0 0 MemKind 1) (Mem 0 4096 7))) None None None
    ∷ entry 0 Handle (Carried 1 (ObtainOk (key 1 1 MemKind 0) (key 0 0 MemKind 1) (Mem 0 4096 7))) None None None
    ∷ entry 0 (Resume 0) Nothing None None (reply 0 0)
    ∷ entry 0 (Calls 0) (Called 2 (Delegate 2 1 3)) None None None
    ∷ entry 0 (Flush 1) (Carried 1 (DelegateReq (key 0 0 MemKind 1) (Mem 0 4096 7) 1 3)) None None None
    ∷ entry 1 (Fetch 0) (Carried 0 (DelegateReq (key 0 0 MemKind 1) (Mem 0 4096 7) 1 3)) None None None
    ∷ entry 1 Handle (Carried 0 (DelegateReq (key 0 0 MemKind 1) (Mem 0 4096 7) 1 3)) None None None
    ∷ entry 1 (Upcall 1) (Asked 0 Yes) None None None
    ∷ entry 1 (Flush 0) (Carried 0 (DelegatePrepared (key 0 0 MemKind 1) (key 1 1 MemKind 1))) None None None
    ∷ entry 0 (Fetch 1) (Carried 1 (DelegatePrepared (key 0 0 MemKind 1) (key 1 1 MemKind 1))) None None None
    ∷ entry 0 Handle (Carried 1 (DelegatePrepared (key 0 0 MemKind 1) (key 1 1 MemKind 1))) None None None
    ∷ entry 0 (Resume 0) Nothing (grant (key 0 0 MemKind 1) (key 1 1 MemKind 1)) None (reply 0 0)
    ∷ entry 0 (Calls 0) (Called 3 (Obtain 4 1 3)) None None None
    ∷ entry 0 (Flush 1) (Carried 1 (Ack (key 1 1 MemKind 1) true)) None None None
    ∷ entry 1 (Fetch 0) (Carried 0 (Ack (key 1 1 MemKind 1) true)) None None None
    ∷ entry 0 (Flush 1) (Carried 1 (ObtainReq (place 0 0 2) (SelTarget 1 3))) None None None
    ∷ entry 1 Handle (Carried 0 (Ack (key 1 1 MemKind 1) true)) None None None
    ∷ entry 1 (Fetch 0) (Carried 0 (ObtainReq (place 0 0 2) (SelTarget 1 3))) None None None
    ∷ entry 1 Handle (Carried 0 (ObtainReq (place 0 0 2) (SelTarget 1 3))) None None None
    ∷ entry 1 (Upcall 1) (Asked 0 Yes) (grant (key 1 1 MemKind 1) (key 0 0 MemKind 2)) None None
    ∷ entry 1 (Flush 0) (Carried 0 (ObtainOk (key 1 1 MemKind 1) (key 0 0 MemKind 2) (Mem 0 4096 7))) None None None
    ∷ entry 0 (Fetch 1) (Carried 1 (ObtainOk (key 1 1 MemKind 1) (key 0 0 MemKind 2) (Mem 0 4096 7))) None None None
    ∷ entry 0 Handle (Carried 1 (ObtainOk (key 1 1 MemKind 1) (key 0 0 MemKind 2) (Mem 0 4096 7))) None None None
    ∷ entry 0 (Resume 0) Nothing None None (reply 0 0)
    ∷ entry 0 (Calls 0) (Called 4 (Delegate 4 1 5)) None None None
    ∷ entry 0 (Flush 1) (Carried 1 (DelegateReq (key 0 0 MemKind 2) (Mem 0 4096 7) 1 5)) None None None
    ∷ entry 1 (Fetch 0) (Carried 0 (DelegateReq (key 0 0 MemKind 2) (Mem 0 4096 7) 1 5)) None None None
    ∷ entry 1 Handle (Carried 0 (DelegateReq (key 0 0 MemKind 2) (Mem 0 4096 7) 1 5)) None None None
    ∷ entry 1 (Upcall 1) (Asked 0 Yes) None None None
    ∷ entry 1 (Flush 0) (Carried 0 (DelegatePrepared (key 0 0 MemKind 2) (key 1 1 MemKind 2))) None None None
    ∷ entry 0 (Fetch 1) (Carried 1 (DelegatePrepared (key 0 0 MemKind 2) (key 1 1 MemKind 2))) None None None
    ∷ entry 0 Handle (Carried 1 (DelegatePrepared (key 0 0 MemKind 2) (key 1 1 MemKind 2))) None None None
    ∷ entry 0 (Resume 0) Nothing (grant (key 0 0 MemKind 2) (key 1 1 MemKind 2)) None (reply 0 0)
    ∷ entry 0 (Calls 0) (Called 5 (Obtain 6 1 5)) None None None
    ∷ entry 0 (Flush 1) (Carried 1 (Ack (key 1 1 MemKind 2) true)) None None None
    ∷ entry 1 (Fetch 0) (Carried 0 (Ack (key 1 1 MemKind 2) true)) None None None
    ∷ entry 0 (Flush 1) (Carried 1 (ObtainReq (place 0 0 3) (SelTarget 1 5))) None None None
    ∷ entry 1 Handle (Carried 0 (Ack (key 1 1 MemKind 2) true)) None None None
    ∷ entry 1 (Fetch 0) (Carried 0 (ObtainReq (place 0 0 3) (SelTarget 1 5))) None None None
    ∷ entry 1 Handle (Carried 0 (ObtainReq (place 0 0 3) (SelTarget 1 5))) None None None
    ∷ entry 1 (Upcall 1) (Asked 0 Yes) (grant (key 1 1 MemKind 2) (key 0 0 MemKind 3)) None None
    ∷ entry 1 (Flush 0) (Carried 0 (ObtainOk (key 1 1 MemKind 2) (key 0 0 MemKind 3) (Mem 0 4096 7))) None None None
    ∷ entry 0 (Fetch 1) (Carried 1 (ObtainOk (key 1 1 MemKind 2) (key 0 0 MemKind 3) (Mem 0 4096 7))) None None None
    ∷ entry 0 Handle (Carried 1 (ObtainOk (key 1 1 MemKind 2) (key 0 0 MemKind 3) (Mem 0 4096 7))) None None None
    ∷ entry 0 (Resume 0) Nothing None None (reply 0 0)
    ∷ entry 0 (Calls 0) (Called 6 (Delegate 6 1 7)) None None None
    ∷ entry 0 (Flush 1) (Carried 1 (DelegateReq (key 0 0 MemKind 3) (Mem 0 4096 7) 1 7)) None None None
    ∷ entry 1 (Fetch 0) (Carried 0 (DelegateReq (key 0 0 MemKind 3) (Mem 0 4096 7) 1 7)) None None None
    ∷ entry 1 Handle (Carried 0 (DelegateReq (key 0 0 MemKind 3) (Mem 0 4096 7) 1 7)) None None None
    ∷ entry 1 (Upcall 1) (Asked 0 Yes) None None None
    ∷ entry 1 (Flush 0) (Carried 0 (DelegatePrepared (key 0 0 MemKind 3) (key 1 1 MemKind 3))) None None None
    ∷ entry 0 (Fetch 1) (Carried 1 (DelegatePrepared (key 0 0 MemKind 3) (key 1 1 MemKind 3))) None None None
    ∷ entry 0 Handle (Carried 1 (DelegatePrepared (key 0 0 MemKind 3) (key 1 1 MemKind 3))) None None None
    ∷ entry 0 (Resume 0) Nothing (grant (key 0 0 MemKind 3) (key 1 1 MemKind 3)) None (reply 0 0)
    ∷ entry 0 (Calls 0) (Called 7 (Obtain 8 1 7)) None None None
    ∷ entry 0 (Flush 1) (Carried 1 (Ack (key 1 1 MemKind 3) true)) None None None
    ∷ entry 1 (Fetch 0) (Carried 0 (Ack (key 1 1 MemKind 3) true)) None None None
    ∷ entry 0 (Flush 1) (Carried 1 (ObtainReq (place 0 0 4) (SelTarget 1 7))) None None None
    ∷ entry 1 Handle (Carried 0 (Ack (key 1 1 MemKind 3) true)) None None None
    ∷ entry 1 (Fetch 0) (Carried 0 (ObtainReq (place 0 0 4) (SelTarget 1 7))) None None None
    ∷ entry 1 Handle (Carried 0 (ObtainReq (place 0 0 4) (SelTarget 1 7))) None None None
    ∷ entry 1 (Upcall 1) (Asked 0 Yes) (grant (key 1 1 MemKind 3) (key 0 0 MemKind 4)) None None
    ∷ entry 1 (Flush 0) (Carried 0 (ObtainOk (key 1 1 MemKind 3) (key 0 0 MemKind 4) (Mem 0 4096 7))) None None None
    ∷ entry 0 (Fetch 1) (Carried 1 (ObtainOk (key 1 1 MemKind 3) (key 0 0 MemKind 4) (Mem 0 4096 7))) None None None
    ∷ entry 0 Handle (Carried 1 (ObtainOk (key 1 1 MemKind 3) (key 0 0 MemKind 4) (Mem 0 4096 7))) None None None
    ∷ entry 0 (Resume 0) Nothing None None (reply 0 0)
    ∷ entry 0 (Calls 0) (Called 8 (Revoke 0)) None (Some (key 0 0 MemKind 0)) None
    ∷ entry 0 (Flush 1) (Carried 1 (RevokeReq (key 1 1 MemKind 0) 0)) None None None
    ∷ entry 1 (Fetch 0) (Carried 0 (RevokeReq (key 1 1 MemKind 0) 0)) None None None
    ∷ entry 1 Handle (Carried 0 (RevokeReq (key 1 1 MemKind 0) 0)) None None None
    ∷ entry 1 (Flush 0) (Carried 0 (RevokeReq (key 0 0 MemKind 1) 0)) None None None
    ∷ entry 0 (Fetch 1) (Carried 1 (RevokeReq (key 0 0 MemKind 1) 0)) None None None
    ∷ entry 0 Handle (Carried 1 (RevokeReq (key 0 0 MemKind 1) 0)) None None None
    ∷ entry 0 (Flush 1) (Carried 1 (RevokeReq (key 1 1 MemKind 1) 1)) None None None
    ∷ entry 1 (Fetch 0) (Carried 0 (RevokeReq (key 1 1 MemKind 1) 1)) None None None
    ∷ entry 1 Handle (Carried 0 (RevokeReq (key 1 1 MemKind 1) 1)) None None None
    ∷ entry 1 (Flush 0) (Carried 0 (RevokeReq (key 0 0 MemKind 2) 1)) None None None
    ∷ entry 0 (Fetch 1) (Carried 1 (RevokeReq (key 0 0 MemKind 2) 1)) None None None
    ∷ entry 0 Handle (Carried 1 (RevokeReq (key 0 0 MemKind 2) 1)) None None None
    ∷ entry 0 (Flush 1) (Carried 1 (RevokeReq (key 1 1 MemKind 2) 2)) None None None
    ∷ entry 1 (Fetch 0) (Carried 0 (RevokeReq (key 1 1 MemKind 2) 2)) None None None
    ∷ entry 1 Handle (Carried 0 (RevokeReq (key 1 1 MemKind 2) 2)) None None None
    ∷ entry 1 (Flush 0) (Carried 0 (RevokeReq (key 0 0 MemKind 3) 2)) None None None
    ∷ entry 0 (Fetch 1) (Carried 1 (RevokeReq (key 0 0 MemKind 3) 2)) None None None
    ∷ entry 0 Handle (Carried 1 (RevokeReq (key 0 0 MemKind 3) 2)) None None None
    ∷ entry 0 (Flush 1) (Carried 1 (RevokeReq (key 1 1 MemKind 3) 3)) None None None
    ∷ entry 1 (Fetch 0) (Carried 0 (RevokeReq (key 1 1 MemKind 3) 3)) None None None
    ∷ entry 1 Handle (Carried 0 (RevokeReq (key 1 1 MemKind 3) 3)) None None None
    ∷ entry 1 (Flush 0) (Carried 0 (RevokeReq (key 0 0 MemKind 4) 3)) None None None
    ∷ entry 0 (Fetch 1) (Carried 1 (RevokeReq (key 0 0 MemKind 4) 3)) None None None
    ∷ entry 0 Handle (Carried 1 (RevokeReq (key 0 0 MemKind 4) 3)) None None None
    ∷ entry 0 (Flush 1) (Carried 1 (RevokeDone 3)) None None None
    ∷ entry 1 (Fetch 0) (Carried 0 (RevokeDone 3)) None None None
    ∷ entry 1 Handle (Carried 0 (RevokeDone 3)) None None None
    ∷ entry 1 (Flush 0) (Carried 0 (RevokeDone 3)) None None None
    ∷ entry 0 (Fetch 1) (Carried 1 (RevokeDone 3)) None None None
    ∷ entry 0 Handle (Carried 1 (RevokeDone 3)) None None None
    ∷ entry 0 (Flush 1) (Carried 1 (RevokeDone 2)) None None None
    ∷ entry 1 (Fetch 0) (Carried 0 (RevokeDone 2)) None None None
    ∷ entry 1 Handle (Carried 0 (RevokeDone 2)) None None None
    ∷ entry 1 (Flush 0) (Carried 0 (RevokeDone 2)) None None None
    ∷ entry 0 (Fetch 1) (Carried 1 (RevokeDone 2)) None None None
    ∷ entry 0 Handle (Carried 1 (RevokeDone 2)) None None None
    ∷ entry 0 (Flush 1) (Carried 1 (RevokeDone 1)) None None None
    ∷ entry 1 (Fetch 0) (Carried 0 (RevokeDone 1)) None None None
    ∷ entry 1 Handle (Carried 0 (RevokeDone 1)) None None None
    ∷ entry 1 (Flush 0) (Carried 0 (RevokeDone 1)) None None None
    ∷ entry 0 (Fetch 1) (Carried 1 (RevokeDone 1)) None None None
    ∷ entry 0 Handle (Carried 1 (RevokeDone 1)) None None None
    ∷ entry 0 (Flush 1) (Carried 1 (RevokeDone 0)) None None None
    ∷ entry 1 (Fetch 0) (Carried 0 (RevokeDone 0)) None None None
    ∷ entry 1 Handle (Carried 0 (RevokeDone 0)) None None None
    ∷ entry 1 (Flush 0) (Carried 0 (RevokeDone 0)) None None None
    ∷ entry 0 (Fetch 1) (Carried 1 (RevokeDone 0)) None None None
    ∷ entry 0 Handle (Carried 1 (RevokeDone 0)) None None None
    ∷ entry 0 (Resume 0) Nothing None None (reply 0 0)
    ∷ []

unfoldable pub outcome : Played
outcome = record {
  entries = journal;
  all_enabled = true;
  left = [];
  made = 9;
  cut = 1;
  held = [];
  is_forest = true;
  is_linked = true;
  is_clean = true;
}

abbrev pub chain_by_window_of_one : Type 0
chain_by_window_of_one = played trace events ≡ outcome
