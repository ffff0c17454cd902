-- Two sessions of a service, and what it offers.
use Rattle.std.specs.Prelude.{◌≡◌, true, Some, None, List, [], ◌∷◌}
use Rattle.sem_machine.specs.Prelude.{MemKind, ServKind, SessKind, Mem, Serv, Sess, ServTarget, OfferTarget}
use Rattle.sem_machine.specs.Prelude.{ObtainReq, ObtainOk, Unlink, OpenSession, AskOffer, Revoke, Bind, Read, Write}
use Rattle.sem_machine.specs.Prelude.{Calls, Fetch, Handle, Upcall, Resume, Flush, Event, Yes, Called, Carried, Asked}
use Rattle.sem_machine.specs.Prelude.{Nothing, Entry, Setup, event}
use Rattle.sem_plays.specs.Words.{key, place, grant, reply, entry, owners, root, vpe, service, offer}
use Rattle.sem_plays.specs.Played.{Played, played}

unfoldable pub trace : Setup
trace = record {
  version = 1;
  window = 4;
  kernels = 2;
  owners = owners 2 (Some 0 ∷ Some 1 ∷ Some 1 ∷ []);
  vpes =
      vpe 0 0 (root 0 (Serv 1) ∷ root 1 (Mem 0 4096 7) ∷ root 2 (Mem 4096 4096 7) ∷ root 3 (Mem 8192 4096 7) ∷ []) []
      ∷ vpe 1 1 [] (OpenSession 0 1 ∷ AskOffer 1 0 0 ∷ AskOffer 2 0 1 ∷ AskOffer 3 0 2 ∷ Bind 0 1 ∷ Read 0 0 4096
      ∷ Bind 1 2 ∷ Write 1 4095 1 ∷ Bind 2 3 ∷ Read 2 0 1 ∷ Revoke 1 ∷ Revoke 2 ∷ Revoke 3 ∷ Revoke 0 ∷ [])
      ∷ vpe 2 2 [] (OpenSession 0 1 ∷ Revoke 0 ∷ [])
      ∷ [];
  services = service 1 (key 0 0 ServKind 0) ∷ [];
  offers = offer 1 0 1 ∷ offer 1 1 2 ∷ offer 1 2 3 ∷ [];
  denies = [];
  kills = [];
}

unfoldable pub events : List Event
events =
    event 1 (Calls 1)
    ∷ event 1 (Calls 2)
    ∷ event 1 (Flush 0)
    ∷ event 0 (Fetch 1)
    ∷ event 0 Handle
    ∷ event 0 (Upcall 0)
    ∷ event 0 (Flush 1)
    ∷ event 1 (Fetch 0)
    ∷ event 1 Handle
    ∷ event 1 (Resume 1)
    ∷ event 1 (Calls 1)
    ∷ event 1 (Flush 0)
    ∷ event 0 (Fetch 1)
    ∷ event 0 Handle
    ∷ event 0 (Upcall 0)
    ∷ event 0 (Flush 1)
    ∷ event 1 (Fetch 0)
    ∷ event 1 Handle
    ∷ event 1 (Resume 2)
    ∷ event 1 (Calls 2)
    ∷ event 1 (Resume 2)
    ∷ event 1 (Flush 0)
    ∷ event 0 (Fetch 1)
    ∷ event 0 Handle
    ∷ event 0 (Upcall 0)
    ∷ event 0 (Flush 1)
    ∷ event 1 (Fetch 0)
    ∷ event 1 Handle
    ∷ event 1 (Resume 1)
    ∷ event 1 (Calls 1)
    ∷ event 1 (Flush 0)
    ∷ event 0 (Fetch 1)
    ∷ event 0 Handle
    ∷ event 1 (Flush 0)
    ∷ event 0 (Fetch 1)
    ∷ event 0 Handle
    ∷ event 0 (Upcall 0)
    ∷ event 0 (Flush 1)
    ∷ event 1 (Fetch 0)
    ∷ event 1 Handle
    ∷ event 1 (Resume 1)
    ∷ event 1 (Calls 1)
    ∷ event 1 (Flush 0)
    ∷ event 0 (Fetch 1)
    ∷ event 0 Handle
    ∷ event 0 (Upcall 0)
    ∷ event 0 (Flush 1)
    ∷ event 1 (Fetch 0)
    ∷ event 1 Handle
    ∷ event 1 (Resume 1)
    ∷ event 1 (Calls 1)
    ∷ event 1 (Calls 1)
    ∷ event 1 (Calls 1)
    ∷ event 1 (Calls 1)
    ∷ event 1 (Calls 1)
    ∷ event 1 (Calls 1)
    ∷ event 1 (Calls 1)
    ∷ event 1 (Resume 1)
    ∷ event 1 (Calls 1)
    ∷ event 1 (Resume 1)
    ∷ event 1 (Calls 1)
    ∷ event 1 (Resume 1)
    ∷ event 1 (Calls 1)
    ∷ event 1 (Resume 1)
    ∷ event 1 (Flush 0)
    ∷ event 0 (Fetch 1)
    ∷ event 0 Handle
    ∷ event 1 (Flush 0)
    ∷ event 0 (Fetch 1)
    ∷ event 0 Handle
    ∷ event 1 (Flush 0)
    ∷ event 0 (Fetch 1)
    ∷ event 0 Handle
    ∷ event 1 (Flush 0)
    ∷ event 0 (Fetch 1)
    ∷ event 0 Handle
    ∷ []

unfoldable pub journal : List Entry
journal =
    entry 1 (Calls 1) (Called 0 (OpenSession 0 1)) None None None
    ∷ entry 1 (Calls 2) (Called 0 (OpenSession 0 1)) None None None
    ∷ entry 1 (Flush 0) (Carried 0 (ObtainReq (place 1 1 0) (ServTarget (key 0 0 ServKind 0)))) None None None
    ∷ entry 0 (Fetch 1) (Carried 1 (ObtainReq (place 1 1 0) (ServTarget (key 0 0 ServKind 0)))) None None None
    ∷ entry 0 Handle (Carried 1 (ObtainReq (place 1 1 0) (ServTarget (key 0 0 ServKind 0)))) None None None
    ∷ entry 0 (Upcall 0) (Asked 1 Yes) (grant (key 0 0 ServKind 0) (key 1 1 SessKind 0)) None None
    ∷ entry 0 (Flush 1) (Carried 1 (ObtainOk (key 0 0 ServKind 0) (key 1 1 SessKind 0) (Sess (key 0 0 ServKind 0) 1)))
    None None None
    ∷ entry 1 (Fetch 0) (Carried 0 (ObtainOk (key 0 0 ServKind 0) (key 1 1 SessKind 0) (Sess (key 0 0 ServKind 0) 1)))
    None None None
    ∷ entry 1 Handle (Carried 0 (ObtainOk (key 0 0 ServKind 0) (key 1 1 SessKind 0) (Sess (key 0 0 ServKind 0) 1)))
    None None None
    ∷ entry 1 (Resume 1) Nothing None None (reply 1 0)
    ∷ entry 1 (Calls 1) (Called 1 (AskOffer 1 0 0)) None None None
    ∷ entry 1 (Flush 0) (Carried 0 (ObtainReq (place 2 2 0) (ServTarget (key 0 0 ServKind 0)))) None None None
    ∷ entry 0 (Fetch 1) (Carried 1 (ObtainReq (place 2 2 0) (ServTarget (key 0 0 ServKind 0)))) None None None
    ∷ entry 0 Handle (Carried 1 (ObtainReq (place 2 2 0) (ServTarget (key 0 0 ServKind 0)))) None None None
    ∷ entry 0 (Upcall 0) (Asked 2 Yes) (grant (key 0 0 ServKind 0) (key 2 2 SessKind 0)) None None
    ∷ entry 0 (Flush 1) (Carried 1 (ObtainOk (key 0 0 ServKind 0) (key 2 2 SessKind 0) (Sess (key 0 0 ServKind 0) 2)))
    None None None
    ∷ entry 1 (Fetch 0) (Carried 0 (ObtainOk (key 0 0 ServKind 0) (key 2 2 SessKind 0) (Sess (key 0 0 ServKind 0) 2)))
    None None None
    ∷ entry 1 Handle (Carried 0 (ObtainOk (key 0 0 ServKind 0) (key 2 2 SessKind 0) (Sess (key 0 0 ServKind 0) 2)))
    None None None
    ∷ entry 1 (Resume 2) Nothing None None (reply 2 0)
    ∷ entry 1 (Calls 2) (Called 1 (Revoke 0)) None (Some (key 2 2 SessKind 0)) None
    ∷ entry 1 (Resume 2) Nothing None None (reply 2 0)
    ∷ entry 1 (Flush 0) (Carried 0 (ObtainReq (place 1 1 1) (OfferTarget (key 0 0 ServKind 0) 0))) None None None
    ∷ entry 0 (Fetch 1) (Carried 1 (ObtainReq (place 1 1 1) (OfferTarget (key 0 0 ServKind 0) 0))) None None None
    ∷ entry 0 Handle (Carried 1 (ObtainReq (place 1 1 1) (OfferTarget (key 0 0 ServKind 0) 0))) None None None
    ∷ entry 0 (Upcall 0) (Asked 1 Yes) (grant (key 0 0 MemKind 1) (key 1 1 MemKind 1)) None None
    ∷ entry 0 (Flush 1) (Carried 1 (ObtainOk (key 0 0 MemKind 1) (key 1 1 MemKind 1) (Mem 0 4096 7))) None None None
    ∷ entry 1 (Fetch 0) (Carried 0 (ObtainOk (key 0 0 MemKind 1) (key 1 1 MemKind 1) (Mem 0 4096 7))) None None None
    ∷ entry 1 Handle (Carried 0 (ObtainOk (key 0 0 MemKind 1) (key 1 1 MemKind 1) (Mem 0 4096 7))) None None None
    ∷ entry 1 (Resume 1) Nothing None None (reply 1 0)
    ∷ entry 1 (Calls 1) (Called 2 (AskOffer 2 0 1)) None None None
    ∷ entry 1 (Flush 0) (Carried 0 (Unlink (key 0 0 ServKind 0) (key 2 2 SessKind 0))) None None None
    ∷ entry 0 (Fetch 1) (Carried 1 (Unlink (key 0 0 ServKind 0) (key 2 2 SessKind 0))) None None None
    ∷ entry 0 Handle (Carried 1 (Unlink (key 0 0 ServKind 0) (key 2 2 SessKind 0))) None None None
    ∷ entry 1 (Flush 0) (Carried 0 (ObtainReq (place 1 1 2) (OfferTarget (key 0 0 ServKind 0) 1))) None None None
    ∷ entry 0 (Fetch 1) (Carried 1 (ObtainReq (place 1 1 2) (OfferTarget (key 0 0 ServKind 0) 1))) None None None
    ∷ entry 0 Handle (Carried 1 (ObtainReq (place 1 1 2) (OfferTarget (key 0 0 ServKind 0) 1))) None None None
    ∷ entry 0 (Upcall 0) (Asked 1 Yes) (grant (key 0 0 MemKind 2) (key 1 1 MemKind 2)) None None
    ∷ entry 0 (Flush 1) (Carried 1 (ObtainOk (key 0 0 MemKind 2) (key 1 1 MemKind 2) (Mem 4096 4096 7))) None None
    None
    ∷ entry 1 (Fetch 0) (Carried 0 (ObtainOk (key 0 0 MemKind 2) (key 1 1 MemKind 2) (Mem 4096 4096 7))) None None
    None
    ∷ entry 1 Handle (Carried 0 (ObtainOk (key 0 0 MemKind 2) (key 1 1 MemKind 2) (Mem 4096 4096 7))) None None None
    ∷ entry 1 (Resume 1) Nothing None None (reply 1 0)
    ∷ entry 1 (Calls 1) (Called 3 (AskOffer 3 0 2)) None None None
    ∷ entry 1 (Flush 0) (Carried 0 (ObtainReq (place 1 1 3) (OfferTarget (key 0 0 ServKind 0) 2))) None None None
    ∷ entry 0 (Fetch 1) (Carried 1 (ObtainReq (place 1 1 3) (OfferTarget (key 0 0 ServKind 0) 2))) None None None
    ∷ entry 0 Handle (Carried 1 (ObtainReq (place 1 1 3) (OfferTarget (key 0 0 ServKind 0) 2))) None None None
    ∷ entry 0 (Upcall 0) (Asked 1 Yes) (grant (key 0 0 MemKind 3) (key 1 1 MemKind 3)) None None
    ∷ entry 0 (Flush 1) (Carried 1 (ObtainOk (key 0 0 MemKind 3) (key 1 1 MemKind 3) (Mem 8192 4096 7))) None None
    None
    ∷ entry 1 (Fetch 0) (Carried 0 (ObtainOk (key 0 0 MemKind 3) (key 1 1 MemKind 3) (Mem 8192 4096 7))) None None
    None
    ∷ entry 1 Handle (Carried 0 (ObtainOk (key 0 0 MemKind 3) (key 1 1 MemKind 3) (Mem 8192 4096 7))) None None None
    ∷ entry 1 (Resume 1) Nothing None None (reply 1 0)
    ∷ entry 1 (Calls 1) (Called 4 (Bind 0 1)) None None (reply 1 0)
    ∷ entry 1 (Calls 1) (Called 5 (Read 0 0 4096)) None None (reply 1 0)
    ∷ entry 1 (Calls 1) (Called 6 (Bind 1 2)) None None (reply 1 0)
    ∷ entry 1 (Calls 1) (Called 7 (Write 1 4095 1)) None None (reply 1 0)
    ∷ entry 1 (Calls 1) (Called 8 (Bind 2 3)) None None (reply 1 0)
    ∷ entry 1 (Calls 1) (Called 9 (Read 2 0 1)) None None (reply 1 0)
    ∷ entry 1 (Calls 1) (Called 10 (Revoke 1)) None (Some (key 1 1 MemKind 1)) None
    ∷ entry 1 (Resume 1) Nothing None None (reply 1 0)
    ∷ entry 1 (Calls 1) (Called 11 (Revoke 2)) None (Some (key 1 1 MemKind 2)) None
    ∷ entry 1 (Resume 1) Nothing None None (reply 1 0)
    ∷ entry 1 (Calls 1) (Called 12 (Revoke 3)) None (Some (key 1 1 MemKind 3)) None
    ∷ entry 1 (Resume 1) Nothing None None (reply 1 0)
    ∷ entry 1 (Calls 1) (Called 13 (Revoke 0)) None (Some (key 1 1 SessKind 0)) None
    ∷ entry 1 (Resume 1) Nothing None None (reply 1 0)
    ∷ entry 1 (Flush 0) (Carried 0 (Unlink (key 0 0 MemKind 1) (key 1 1 MemKind 1))) None None None
    ∷ entry 0 (Fetch 1) (Carried 1 (Unlink (key 0 0 MemKind 1) (key 1 1 MemKind 1))) None None None
    ∷ entry 0 Handle (Carried 1 (Unlink (key 0 0 MemKind 1) (key 1 1 MemKind 1))) None None None
    ∷ entry 1 (Flush 0) (Carried 0 (Unlink (key 0 0 MemKind 2) (key 1 1 MemKind 2))) None None None
    ∷ entry 0 (Fetch 1) (Carried 1 (Unlink (key 0 0 MemKind 2) (key 1 1 MemKind 2))) None None None
    ∷ entry 0 Handle (Carried 1 (Unlink (key 0 0 MemKind 2) (key 1 1 MemKind 2))) None None None
    ∷ entry 1 (Flush 0) (Carried 0 (Unlink (key 0 0 MemKind 3) (key 1 1 MemKind 3))) None None None
    ∷ entry 0 (Fetch 1) (Carried 1 (Unlink (key 0 0 MemKind 3) (key 1 1 MemKind 3))) None None None
    ∷ entry 0 Handle (Carried 1 (Unlink (key 0 0 MemKind 3) (key 1 1 MemKind 3))) None None None
    ∷ entry 1 (Flush 0) (Carried 0 (Unlink (key 0 0 ServKind 0) (key 1 1 SessKind 0))) None None None
    ∷ entry 0 (Fetch 1) (Carried 1 (Unlink (key 0 0 ServKind 0) (key 1 1 SessKind 0))) None None None
    ∷ entry 0 Handle (Carried 1 (Unlink (key 0 0 ServKind 0) (key 1 1 SessKind 0))) None None None
    ∷ []

unfoldable pub outcome : Played
outcome = record {
  entries = journal;
  all_enabled = true;
  left = [];
  made = 9;
  cut = 5;
  held = (key 0 0 MemKind 1, 1) ∷ (key 0 0 MemKind 2, 2) ∷ (key 0 0 MemKind 3, 3) ∷ (key 0 0 ServKind 0, 0) ∷ [];
  is_forest = true;
  is_linked = true;
  is_clean = true;
}

abbrev pub sessions_and_offers : Type 0
sessions_and_offers = played trace events ≡ outcome
