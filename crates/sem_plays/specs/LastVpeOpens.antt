-- The session of the last VPE, and its clear by the service.
use Rattle.std.specs.Prelude.{◌≡◌, true, Some, None, List, [], ◌∷◌, ◌++◌, replicate}
use Rattle.sem_machine.specs.Prelude.{MemKind, ServKind, SessKind, Mem, Serv, Sess, ServTarget, OfferTarget}
use Rattle.sem_machine.specs.Prelude.{ObtainReq, ObtainOk, DelegateReq, DelegatePrepared, Ack, RevokeReq, RevokeDone}
use Rattle.sem_machine.specs.Prelude.{Delegate, OpenSession, AskOffer, Revoke, Clear, Calls, Fetch, Handle, Upcall}
use Rattle.sem_machine.specs.Prelude.{Resume, Flush, Kill, Event, Yes, Called, Carried, Asked, Nothing, Entry, Setup}
use Rattle.sem_machine.specs.Prelude.{event}
use Rattle.sem_plays.specs.Words.{key, place, grant, reply, entry, owners, root, vpe, service, offer}
use Rattle.sem_plays.specs.Played.{Played, played}

unfoldable pub trace : Setup
trace = record {
  version = 2;
  window = 2;
  kernels = 32;
  owners = owners 32 (replicate 63 None ++ Some 16 ∷ Some 15 ∷ replicate 62 None ++ Some 31 ∷ []);
  vpes =
      vpe 63 63 [] (OpenSession 0 1 ∷ [])
      ∷ vpe 64 64 (root 0 (Serv 1) ∷ root 255 (Mem 0 4096 7) ∷ []) (Clear 0 ∷ Revoke 255 ∷ [])
      ∷ vpe 127 127 [] (OpenSession 0 1 ∷ AskOffer 1 0 0 ∷ Delegate 1 63 9 ∷ [])
      ∷ [];
  services = service 1 (key 64 64 ServKind 0) ∷ [];
  offers = offer 1 0 255 ∷ [];
  denies = [];
  kills = (127, 5) ∷ [];
}

unfoldable pub events : List Event
events =
    event 31 (Calls 127)
    ∷ event 31 (Flush 15)
    ∷ event 15 (Fetch 31)
    ∷ event 15 Handle
    ∷ event 15 (Upcall 64)
    ∷ event 15 (Flush 31)
    ∷ event 31 (Fetch 15)
    ∷ event 31 Handle
    ∷ event 31 (Resume 127)
    ∷ event 31 (Calls 127)
    ∷ event 31 (Flush 15)
    ∷ event 15 (Fetch 31)
    ∷ event 15 Handle
    ∷ event 15 (Upcall 64)
    ∷ event 15 (Flush 31)
    ∷ event 31 (Fetch 15)
    ∷ event 31 Handle
    ∷ event 31 (Resume 127)
    ∷ event 31 (Calls 127)
    ∷ event 31 (Flush 16)
    ∷ event 16 (Fetch 31)
    ∷ event 16 Handle
    ∷ event 16 (Upcall 63)
    ∷ event 16 (Flush 31)
    ∷ event 31 (Fetch 16)
    ∷ event 31 Handle
    ∷ event 31 (Resume 127)
    ∷ event 31 (Flush 16)
    ∷ event 16 (Fetch 31)
    ∷ event 16 Handle
    ∷ event 16 (Calls 63)
    ∷ event 16 (Flush 15)
    ∷ event 15 (Fetch 16)
    ∷ event 15 Handle
    ∷ event 15 (Upcall 64)
    ∷ event 15 (Flush 16)
    ∷ event 16 (Fetch 15)
    ∷ event 16 Handle
    ∷ event 16 (Resume 63)
    ∷ event 15 (Calls 64)
    ∷ event 15 (Flush 16)
    ∷ event 16 (Fetch 15)
    ∷ event 16 Handle
    ∷ event 16 (Flush 15)
    ∷ event 15 (Fetch 16)
    ∷ event 15 Handle
    ∷ event 15 (Flush 31)
    ∷ event 31 (Fetch 15)
    ∷ event 31 Handle
    ∷ event 31 (Flush 15)
    ∷ event 15 (Fetch 31)
    ∷ event 15 Handle
    ∷ event 15 (Resume 64)
    ∷ event 31 (Kill 127)
    ∷ event 15 (Calls 64)
    ∷ event 15 (Flush 31)
    ∷ event 31 (Fetch 15)
    ∷ event 31 Handle
    ∷ event 31 (Flush 16)
    ∷ event 16 (Fetch 31)
    ∷ event 16 Handle
    ∷ event 16 (Flush 31)
    ∷ event 31 (Fetch 16)
    ∷ event 31 Handle
    ∷ event 31 (Flush 15)
    ∷ event 15 (Fetch 31)
    ∷ event 15 Handle
    ∷ event 15 (Resume 64)
    ∷ []

unfoldable pub journal : List Entry
journal =
    entry 31 (Calls 127) (Called 0 (OpenSession 0 1)) None None None
    ∷ entry 31 (Flush 15) (Carried 15 (ObtainReq (place 127 127 0) (ServTarget (key 64 64 ServKind 0)))) None None
    None
    ∷ entry 15 (Fetch 31) (Carried 31 (ObtainReq (place 127 127 0) (ServTarget (key 64 64 ServKind 0)))) None None
    None
    ∷ entry 15 Handle (Carried 31 (ObtainReq (place 127 127 0) (ServTarget (key 64 64 ServKind 0)))) None None None
    ∷ entry 15 (Upcall 64) (Asked 127 Yes) (grant (key 64 64 ServKind 0) (key 127 127 SessKind 0)) None None
    ∷ entry 15 (Flush 31)
    (Carried 31 (ObtainOk (key 64 64 ServKind 0) (key 127 127 SessKind 0) (Sess (key 64 64 ServKind 0) 127))) None
    None None
    ∷ entry 31 (Fetch 15)
    (Carried 15 (ObtainOk (key 64 64 ServKind 0) (key 127 127 SessKind 0) (Sess (key 64 64 ServKind 0) 127))) None
    None None
    ∷ entry 31 Handle
    (Carried 15 (ObtainOk (key 64 64 ServKind 0) (key 127 127 SessKind 0) (Sess (key 64 64 ServKind 0) 127))) None
    None None
    ∷ entry 31 (Resume 127) Nothing None None (reply 127 0)
    ∷ entry 31 (Calls 127) (Called 1 (AskOffer 1 0 0)) None None None
    ∷ entry 31 (Flush 15) (Carried 15 (ObtainReq (place 127 127 1) (OfferTarget (key 64 64 ServKind 0) 0))) None None
    None
    ∷ entry 15 (Fetch 31) (Carried 31 (ObtainReq (place 127 127 1) (OfferTarget (key 64 64 ServKind 0) 0))) None None
    None
    ∷ entry 15 Handle (Carried 31 (ObtainReq (place 127 127 1) (OfferTarget (key 64 64 ServKind 0) 0))) None None None
    ∷ entry 15 (Upcall 64) (Asked 127 Yes) (grant (key 64 64 MemKind 1) (key 127 127 MemKind 1)) None None
    ∷ entry 15 (Flush 31) (Carried 31 (ObtainOk (key 64 64 MemKind 1) (key 127 127 MemKind 1) (Mem 0 4096 7))) None
    None None
    ∷ entry 31 (Fetch 15) (Carried 15 (ObtainOk (key 64 64 MemKind 1) (key 127 127 MemKind 1) (Mem 0 4096 7))) None
    None None
    ∷ entry 31 Handle (Carried 15 (ObtainOk (key 64 64 MemKind 1) (key 127 127 MemKind 1) (Mem 0 4096 7))) None None
    None
    ∷ entry 31 (Resume 127) Nothing None None (reply 127 0)
    ∷ entry 31 (Calls 127) (Called 2 (Delegate 1 63 9)) None None None
    ∷ entry 31 (Flush 16) (Carried 16 (DelegateReq (key 127 127 MemKind 1) (Mem 0 4096 7) 63 9)) None None None
    ∷ entry 16 (Fetch 31) (Carried 31 (DelegateReq (key 127 127 MemKind 1) (Mem 0 4096 7) 63 9)) None None None
    ∷ entry 16 Handle (Carried 31 (DelegateReq (key 127 127 MemKind 1) (Mem 0 4096 7) 63 9)) None None None
    ∷ entry 16 (Upcall 63) (Asked 127 Yes) None None None
    ∷ entry 16 (Flush 31) (Carried 31 (DelegatePrepared (key 127 127 MemKind 1) (key 63 63 MemKind 0))) None None None
    ∷ entry 31 (Fetch 16) (Carried 16 (DelegatePrepared (key 127 127 MemKind 1) (key 63 63 MemKind 0))) None None None
    ∷ entry 31 Handle (Carried 16 (DelegatePrepared (key 127 127 MemKind 1) (key 63 63 MemKind 0))) None None None
    ∷ entry 31 (Resume 127) Nothing (grant (key 127 127 MemKind 1) (key 63 63 MemKind 0)) None (reply 127 0)
    ∷ entry 31 (Flush 16) (Carried 16 (Ack (key 63 63 MemKind 0) true)) None None None
    ∷ entry 16 (Fetch 31) (Carried 31 (Ack (key 63 63 MemKind 0) true)) None None None
    ∷ entry 16 Handle (Carried 31 (Ack (key 63 63 MemKind 0) true)) None None None
    ∷ entry 16 (Calls 63) (Called 0 (OpenSession 0 1)) None None None
    ∷ entry 16 (Flush 15) (Carried 15 (ObtainReq (place 63 63 1) (ServTarget (key 64 64 ServKind 0)))) None None None
    ∷ entry 15 (Fetch 16) (Carried 16 (ObtainReq (place 63 63 1) (ServTarget (key 64 64 ServKind 0)))) None None None
    ∷ entry 15 Handle (Carried 16 (ObtainReq (place 63 63 1) (ServTarget (key 64 64 ServKind 0)))) None None None
    ∷ entry 15 (Upcall 64) (Asked 63 Yes) (grant (key 64 64 ServKind 0) (key 63 63 SessKind 1)) None None
    ∷ entry 15 (Flush 16)
    (Carried 16 (ObtainOk (key 64 64 ServKind 0) (key 63 63 SessKind 1) (Sess (key 64 64 ServKind 0) 63))) None
    None None
    ∷ entry 16 (Fetch 15)
    (Carried 15 (ObtainOk (key 64 64 ServKind 0) (key 63 63 SessKind 1) (Sess (key 64 64 ServKind 0) 63))) None
    None None
    ∷ entry 16 Handle
    (Carried 15 (ObtainOk (key 64 64 ServKind 0) (key 63 63 SessKind 1) (Sess (key 64 64 ServKind 0) 63))) None
    None None
    ∷ entry 16 (Resume 63) Nothing None None (reply 63 0)
    ∷ entry 15 (Calls 64) (Called 0 (Clear 0)) None (Some (key 64 64 ServKind 0)) None
    ∷ entry 15 (Flush 16) (Carried 16 (RevokeReq (key 63 63 SessKind 1) 0)) None None None
    ∷ entry 16 (Fetch 15) (Carried 15 (RevokeReq (key 63 63 SessKind 1) 0)) None None None
    ∷ entry 16 Handle (Carried 15 (RevokeReq (key 63 63 SessKind 1) 0)) None None None
    ∷ entry 16 (Flush 15) (Carried 15 (RevokeDone 0)) None None None
    ∷ entry 15 (Fetch 16) (Carried 16 (RevokeDone 0)) None None None
    ∷ entry 15 Handle (Carried 16 (RevokeDone 0)) None None None
    ∷ entry 15 (Flush 31) (Carried 31 (RevokeReq (key 127 127 SessKind 0) 0)) None None None
    ∷ entry 31 (Fetch 15) (Carried 15 (RevokeReq (key 127 127 SessKind 0) 0)) None None None
    ∷ entry 31 Handle (Carried 15 (RevokeReq (key 127 127 SessKind 0) 0)) None None None
    ∷ entry 31 (Flush 15) (Carried 15 (RevokeDone 0)) None None None
    ∷ entry 15 (Fetch 31) (Carried 31 (RevokeDone 0)) None None None
    ∷ entry 15 Handle (Carried 31 (RevokeDone 0)) None None None
    ∷ entry 15 (Resume 64) Nothing None None (reply 64 0)
    ∷ entry 31 (Kill 127) Nothing None None None
    ∷ entry 15 (Calls 64) (Called 1 (Revoke 255)) None (Some (key 64 64 MemKind 1)) None
    ∷ entry 15 (Flush 31) (Carried 31 (RevokeReq (key 127 127 MemKind 1) 1)) None None None
    ∷ entry 31 (Fetch 15) (Carried 15 (RevokeReq (key 127 127 MemKind 1) 1)) None None None
    ∷ entry 31 Handle (Carried 15 (RevokeReq (key 127 127 MemKind 1) 1)) None None None
    ∷ entry 31 (Flush 16) (Carried 16 (RevokeReq (key 63 63 MemKind 0) 1)) None None None
    ∷ entry 16 (Fetch 31) (Carried 31 (RevokeReq (key 63 63 MemKind 0) 1)) None None None
    ∷ entry 16 Handle (Carried 31 (RevokeReq (key 63 63 MemKind 0) 1)) None None None
    ∷ entry 16 (Flush 31) (Carried 31 (RevokeDone 1)) None None None
    ∷ entry 31 (Fetch 16) (Carried 16 (RevokeDone 1)) None None None
    ∷ entry 31 Handle (Carried 16 (RevokeDone 1)) None None None
    ∷ entry 31 (Flush 15) (Carried 15 (RevokeDone 1)) None None None
    ∷ entry 15 (Fetch 31) (Carried 31 (RevokeDone 1)) None None None
    ∷ entry 15 Handle (Carried 31 (RevokeDone 1)) None None None
    ∷ entry 15 (Resume 64) Nothing None None (reply 64 0)
    ∷ []

unfoldable pub outcome : Played
outcome = record {
  entries = journal;
  all_enabled = true;
  left = [];
  made = 6;
  cut = 4;
  held = (key 64 64 ServKind 0, 0) ∷ [];
  is_forest = true;
  is_linked = true;
  is_clean = true;
}

abbrev pub last_vpe_opens : Type 0
last_vpe_opens = played trace events ≡ outcome
