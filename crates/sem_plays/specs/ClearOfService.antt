-- A clear of a service ends its sessions; what it offered stays, and it can be opened again.
use Rattle.std.specs.Prelude.{◌≡◌, true, Some, None, List, [], ◌∷◌}
use Rattle.sem_machine.specs.Prelude.{MemKind, ServKind, SessKind, Mem, Serv, Sess, ServTarget, OfferTarget}
use Rattle.sem_machine.specs.Prelude.{ObtainReq, ObtainOk, RevokeReq, RevokeDone, OpenSession, AskOffer, Clear, Calls}
use Rattle.sem_machine.specs.Prelude.{Fetch, Handle, Upcall, Resume, Flush, Event, Yes, Called, Carried, Asked}
use Rattle.sem_machine.specs.Prelude.{Nothing, Entry, Setup, event}
use Rattle.sem_plays.specs.Words.{key, place, grant, reply, entry, owners, root, vpe, service, offer}
use Rattle.sem_plays.specs.Played.{Played, played}

unfoldable pub trace : Setup
trace = record {
  version = 1;
  window = 4;
  kernels = 2;
  owners = owners 2 (Some 0 ∷ Some 1 ∷ Some 0 ∷ []);
  vpes =
      vpe 0 0 (root 0 (Serv 1) ∷ root 1 (Mem 0 4096 7) ∷ []) (Clear 0 ∷ [])
      ∷ vpe 1 1 [] (OpenSession 0 1 ∷ AskOffer 1 0 0 ∷ AskOffer 2 0 0 ∷ OpenSession 0 1 ∷ AskOffer 2 0 0 ∷ Clear 0
      ∷ [])
      ∷ vpe 2 2 [] (OpenSession 0 1 ∷ AskOffer 1 0 0 ∷ [])
      ∷ [];
  services = service 1 (key 0 0 ServKind 0) ∷ [];
  offers = offer 1 0 1 ∷ [];
  denies = [];
  kills = [];
}

unfoldable pub events : List Event
events =
    event 1 (Calls 1)
    ∷ event 1 (Flush 0)
    ∷ event 0 (Fetch 1)
    ∷ event 0 Handle
    ∷ event 0 (Upcall 0)
    ∷ event 0 (Flush 1)
    ∷ event 1 (Fetch 0)
    ∷ event 1 Handle
    ∷ event 1 (Resume 1)
    ∷ event 1 (Calls 1)
    ∷ event 1 (Flush 0)
    ∷ event 0 (Fetch 1)
    ∷ event 0 Handle
    ∷ event 0 (Upcall 0)
    ∷ event 0 (Flush 1)
    ∷ event 1 (Fetch 0)
    ∷ event 1 Handle
    ∷ event 1 (Resume 1)
    ∷ event 0 (Calls 2)
    ∷ event 0 (Upcall 0)
    ∷ event 0 (Resume 2)
    ∷ event 0 (Calls 0)
    ∷ event 0 (Flush 1)
    ∷ event 1 (Fetch 0)
    ∷ event 1 Handle
    ∷ event 1 (Flush 0)
    ∷ event 0 (Fetch 1)
    ∷ event 0 Handle
    ∷ event 0 (Resume 0)
    ∷ event 0 (Calls 2)
    ∷ event 1 (Calls 1)
    ∷ event 1 (Calls 1)
    ∷ event 1 (Flush 0)
    ∷ event 0 (Fetch 1)
    ∷ event 0 Handle
    ∷ event 0 (Upcall 0)
    ∷ event 0 (Flush 1)
    ∷ event 1 (Fetch 0)
    ∷ event 1 Handle
    ∷ event 1 (Resume 1)
    ∷ event 1 (Calls 1)
    ∷ event 1 (Flush 0)
    ∷ event 0 (Fetch 1)
    ∷ event 0 Handle
    ∷ event 0 (Upcall 0)
    ∷ event 0 (Flush 1)
    ∷ event 1 (Fetch 0)
    ∷ event 1 Handle
    ∷ event 1 (Resume 1)
    ∷ event 1 (Calls 1)
    ∷ event 1 (Resume 1)
    ∷ []

unfoldable pub journal : List Entry
journal =
    entry 1 (Calls 1) (Called 0 (OpenSession 0 1)) None None None
    ∷ entry 1 (Flush 0) (Carried 0 (ObtainReq (place 1 1 0) (ServTarget (key 0 0 ServKind 0)))) None None None
    ∷ entry 0 (Fetch 1) (Carried 1 (ObtainReq (place 1 1 0) (ServTarget (key 0 0 ServKind 0)))) None None None
    ∷ entry 0 Handle (Carried 1 (ObtainReq (place 1 1 0) (ServTarget (key 0 0 ServKind 0)))) None None None
    ∷ entry 0 (Upcall 0) (Asked 1 Yes) (grant (key 0 0 ServKind 0) (key 1 1 SessKind 0)) None None
    ∷ entry 0 (Flush 1) (Carried 1 (ObtainOk (key 0 0 ServKind 0) (key 1 1 SessKind 0) (Sess (key 0 0 ServKind 0) 1)))
    None None None
    ∷ entry 1 (Fetch 0) (Carried 0 (ObtainOk (key 0 0 ServKind 0) (key 1 1 SessKind 0) (Sess (key 0 0 ServKind 0) 1)))
    None None None
    ∷ entry 1 Handle (Carried 0 (ObtainOk (key 0 0 ServKind 0) (key 1 1 SessKind 0) (Sess (key 0 0 ServKind 0) 1)))
    None None None
    ∷ entry 1 (Resume 1) Nothing None None (reply 1 0)
    ∷ entry 1 (Calls 1) (Called 1 (AskOffer 1 0 0)) None None None
    ∷ entry 1 (Flush 0) (Carried 0 (ObtainReq (place 1 1 1) (OfferTarget (key 0 0 ServKind 0) 0))) None None None
    ∷ entry 0 (Fetch 1) (Carried 1 (ObtainReq (place 1 1 1) (OfferTarget (key 0 0 ServKind 0) 0))) None None None
    ∷ entry 0 Handle (Carried 1 (ObtainReq (place 1 1 1) (OfferTarget (key 0 0 ServKind 0) 0))) None None None
    ∷ entry 0 (Upcall 0) (Asked 1 Yes) (grant (key 0 0 MemKind 1) (key 1 1 MemKind 1)) None None
    ∷ entry 0 (Flush 1) (Carried 1 (ObtainOk (key 0 0 MemKind 1) (key 1 1 MemKind 1) (Mem 0 4096 7))) None None None
    ∷ entry 1 (Fetch 0) (Carried 0 (ObtainOk (key 0 0 MemKind 1) (key 1 1 MemKind 1) (Mem 0 4096 7))) None None None
    ∷ entry 1 Handle (Carried 0 (ObtainOk (key 0 0 MemKind 1) (key 1 1 MemKind 1) (Mem 0 4096 7))) None None None
    ∷ entry 1 (Resume 1) Nothing None None (reply 1 0)
    ∷ entry 0 (Calls 2) (Called 0 (OpenSession 0 1)) None None None
    ∷ entry 0 (Upcall 0) (Asked 2 Yes) (grant (key 0 0 ServKind 0) (key 2 2 SessKind 0)) None None
    ∷ entry 0 (Resume 2) Nothing None None (reply 2 0)
    ∷ entry 0 (Calls 0) (Called 0 (Clear 0)) None (Some (key 0 0 ServKind 0)) None
    ∷ entry 0 (Flush 1) (Carried 1 (RevokeReq (key 1 1 SessKind 0) 0)) None None None
    ∷ entry 1 (Fetch 0) (Carried 0 (RevokeReq (key 1 1 SessKind 0) 0)) None None None
    ∷ entry 1 Handle (Carried 0 (RevokeReq (key 1 1 SessKind 0) 0)) None None None
    ∷ entry 1 (Flush 0) (Carried 0 (RevokeDone 0)) None None None
    ∷ entry 0 (Fetch 1) (Carried 1 (RevokeDone 0)) None None None
    ∷ entry 0 Handle (Carried 1 (RevokeDone 0)) None None None
    ∷ entry 0 (Resume 0) Nothing None None (reply 0 0)
    ∷ entry 0 (Calls 2) (Called 1 (AskOffer 1 0 0)) None None (reply 2 3)
    ∷ entry 1 (Calls 1) (Called 2 (AskOffer 2 0 0)) None None (reply 1 3)
    ∷ entry 1 (Calls 1) (Called 3 (OpenSession 0 1)) None None None
    ∷ entry 1 (Flush 0) (Carried 0 (ObtainReq (place 1 1 2) (ServTarget (key 0 0 ServKind 0)))) None None None
    ∷ entry 0 (Fetch 1) (Carried 1 (ObtainReq (place 1 1 2) (ServTarget (key 0 0 ServKind 0)))) None None None
    ∷ entry 0 Handle (Carried 1 (ObtainReq (place 1 1 2) (ServTarget (key 0 0 ServKind 0)))) None None None
    ∷ entry 0 (Upcall 0) (Asked 1 Yes) (grant (key 0 0 ServKind 0) (key 1 1 SessKind 2)) None None
    ∷ entry 0 (Flush 1) (Carried 1 (ObtainOk (key 0 0 ServKind 0) (key 1 1 SessKind 2) (Sess (key 0 0 ServKind 0) 1)))
    None None None
    ∷ entry 1 (Fetch 0) (Carried 0 (ObtainOk (key 0 0 ServKind 0) (key 1 1 SessKind 2) (Sess (key 0 0 ServKind 0) 1)))
    None None None
    ∷ entry 1 Handle (Carried 0 (ObtainOk (key 0 0 ServKind 0) (key 1 1 SessKind 2) (Sess (key 0 0 ServKind 0) 1)))
    None None None
    ∷ entry 1 (Resume 1) Nothing None None (reply 1 0)
    ∷ entry 1 (Calls 1) (Called 4 (AskOffer 2 0 0)) None None None
    ∷ entry 1 (Flush 0) (Carried 0 (ObtainReq (place 1 1 3) (OfferTarget (key 0 0 ServKind 0) 0))) None None None
    ∷ entry 0 (Fetch 1) (Carried 1 (ObtainReq (place 1 1 3) (OfferTarget (key 0 0 ServKind 0) 0))) None None None
    ∷ entry 0 Handle (Carried 1 (ObtainReq (place 1 1 3) (OfferTarget (key 0 0 ServKind 0) 0))) None None None
    ∷ entry 0 (Upcall 0) (Asked 1 Yes) (grant (key 0 0 MemKind 1) (key 1 1 MemKind 3)) None None
    ∷ entry 0 (Flush 1) (Carried 1 (ObtainOk (key 0 0 MemKind 1) (key 1 1 MemKind 3) (Mem 0 4096 7))) None None None
    ∷ entry 1 (Fetch 0) (Carried 0 (ObtainOk (key 0 0 MemKind 1) (key 1 1 MemKind 3) (Mem 0 4096 7))) None None None
    ∷ entry 1 Handle (Carried 0 (ObtainOk (key 0 0 MemKind 1) (key 1 1 MemKind 3) (Mem 0 4096 7))) None None None
    ∷ entry 1 (Resume 1) Nothing None None (reply 1 0)
    ∷ entry 1 (Calls 1) (Called 5 (Clear 0)) None (Some (key 1 1 SessKind 2)) None
    ∷ entry 1 (Resume 1) Nothing None None (reply 1 0)
    ∷ []

unfoldable pub outcome : Played
outcome = record {
  entries = journal;
  all_enabled = true;
  left = [];
  made = 7;
  cut = 2;
  held = (key 0 0 MemKind 1, 1) ∷ (key 0 0 ServKind 0, 0) ∷ (key 1 1 MemKind 1, 1) ∷ (key 1 1 MemKind 3, 2)
      ∷ (key 1 1 SessKind 2, 0) ∷ [];
  is_forest = true;
  is_linked = true;
  is_clean = true;
}

abbrev pub clear_of_service : Type 0
clear_of_service = played trace events ≡ outcome
