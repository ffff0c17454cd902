-- A marked source is refused before its kind is tested, and no offer gives a service.
use Rattle.std.specs.Prelude.{◌≡◌, true, Some, None, List, [], ◌∷◌}
use Rattle.sem_machine.specs.Prelude.{ServKind, SessKind, Serv, Sess, ServTarget, OfferTarget, ObtainReq, ObtainOk}
use Rattle.sem_machine.specs.Prelude.{ObtainNo, RevokeReq, RevokeDone, Obtain, OpenSession, AskOffer, Revoke, Bind}
use Rattle.sem_machine.specs.Prelude.{Calls, Fetch, Handle, Upcall, Resume, Flush, Event, Yes, Called, Carried, Asked}
use Rattle.sem_machine.specs.Prelude.{Nothing, Entry, Setup, event}
use Rattle.sem_plays.specs.Words.{key, place, grant, reply, entry, owners, root, vpe, service, offer}
use Rattle.sem_plays.specs.Played.{Played, played, enabled_after}

unfoldable pub trace : Setup
trace = record {
  version = 1;
  window = 4;
  kernels = 2;
  owners = owners 2 (Some 0 ∷ Some 1 ∷ Some 0 ∷ []);
  vpes =
      vpe 0 0 (root 0 (Serv 1) ∷ []) (Revoke 0 ∷ [])
      ∷ vpe 1 1 [] (OpenSession 0 1 ∷ AskOffer 1 0 0 ∷ Bind 0 0 ∷ AskOffer 1 0 5 ∷ [])
      ∷ vpe 2 2 [] (Obtain 0 0 0 ∷ [])
      ∷ [];
  services = service 1 (key 0 0 ServKind 0) ∷ [];
  offers = offer 1 0 0 ∷ [];
  denies = [];
  kills = [];
}

-- the events before the test of what is enabled
unfoldable pub first_events : List Event
first_events =
    event 1 (Calls 1)
    ∷ event 1 (Flush 0)
    ∷ event 0 (Fetch 1)
    ∷ event 0 Handle
    ∷ event 0 (Upcall 0)
    ∷ event 0 (Flush 1)
    ∷ event 1 (Fetch 0)
    ∷ event 1 Handle
    ∷ event 1 (Resume 1)
    ∷ event 1 (Calls 1)
    ∷ event 1 (Flush 0)
    ∷ event 0 (Fetch 1)
    ∷ event 0 Handle
    ∷ event 0 (Upcall 0)
    ∷ event 0 (Flush 1)
    ∷ event 1 (Fetch 0)
    ∷ event 1 Handle
    ∷ event 1 (Resume 1)
    ∷ event 1 (Calls 1)
    ∷ event 1 (Calls 1)
    ∷ event 1 (Flush 0)
    ∷ event 0 (Fetch 1)
    ∷ event 0 Handle
    ∷ event 0 (Upcall 0)
    ∷ event 0 (Flush 1)
    ∷ event 1 (Fetch 0)
    ∷ event 1 Handle
    ∷ event 1 (Resume 1)
    ∷ event 0 (Calls 0)
    ∷ event 0 (Calls 2)
    ∷ event 0 (Upcall 0)
    ∷ []

unfoldable pub events : List Event
events =
    event 1 (Calls 1)
    ∷ event 1 (Flush 0)
    ∷ event 0 (Fetch 1)
    ∷ event 0 Handle
    ∷ event 0 (Upcall 0)
    ∷ event 0 (Flush 1)
    ∷ event 1 (Fetch 0)
    ∷ event 1 Handle
    ∷ event 1 (Resume 1)
    ∷ event 1 (Calls 1)
    ∷ event 1 (Flush 0)
    ∷ event 0 (Fetch 1)
    ∷ event 0 Handle
    ∷ event 0 (Upcall 0)
    ∷ event 0 (Flush 1)
    ∷ event 1 (Fetch 0)
    ∷ event 1 Handle
    ∷ event 1 (Resume 1)
    ∷ event 1 (Calls 1)
    ∷ event 1 (Calls 1)
    ∷ event 1 (Flush 0)
    ∷ event 0 (Fetch 1)
    ∷ event 0 Handle
    ∷ event 0 (Upcall 0)
    ∷ event 0 (Flush 1)
    ∷ event 1 (Fetch 0)
    ∷ event 1 Handle
    ∷ event 1 (Resume 1)
    ∷ event 0 (Calls 0)
    ∷ event 0 (Calls 2)
    ∷ event 0 (Upcall 0)
    ∷ event 0 (Resume 2)
    ∷ event 0 (Flush 1)
    ∷ event 1 (Fetch 0)
    ∷ event 1 Handle
    ∷ event 1 (Flush 0)
    ∷ event 0 (Fetch 1)
    ∷ event 0 Handle
    ∷ event 0 (Resume 0)
    ∷ []

unfoldable pub journal : List Entry
journal =
    entry 1 (Calls 1) (Called 0 (OpenSession 0 1)) None None None
    ∷ entry 1 (Flush 0) (Carried 0 (ObtainReq (place 1 1 0) (ServTarget (key 0 0 ServKind 0)))) None None None
    ∷ entry 0 (Fetch 1) (Carried 1 (ObtainReq (place 1 1 0) (ServTarget (key 0 0 ServKind 0)))) None None None
    ∷ entry 0 Handle (Carried 1 (ObtainReq (place 1 1 0) (ServTarget (key 0 0 ServKind 0)))) None None None
    ∷ entry 0 (Upcall 0) (Asked 1 Yes) (grant (key 0 0 ServKind 0) (key 1 1 SessKind 0)) None None
    ∷ entry 0 (Flush 1) (Carried 1 (ObtainOk (key 0 0 ServKind 0) (key 1 1 SessKind 0) (Sess (key 0 0 ServKind 0) 1)))
    None None None
    ∷ entry 1 (Fetch 0) (Carried 0 (ObtainOk (key 0 0 ServKind 0) (key 1 1 SessKind 0) (Sess (key 0 0 ServKind 0) 1)))
    None None None
    ∷ entry 1 Handle (Carried 0 (ObtainOk (key 0 0 ServKind 0) (key 1 1 SessKind 0) (Sess (key 0 0 ServKind 0) 1)))
    None None None
    ∷ entry 1 (Resume 1) Nothing None None (reply 1 0)
    ∷ entry 1 (Calls 1) (Called 1 (AskOffer 1 0 0)) None None None
    ∷ entry 1 (Flush 0) (Carried 0 (ObtainReq (place 1 1 1) (OfferTarget (key 0 0 ServKind 0) 0))) None None None
    ∷ entry 0 (Fetch 1) (Carried 1 (ObtainReq (place 1 1 1) (OfferTarget (key 0 0 ServKind 0) 0))) None None None
    ∷ entry 0 Handle (Carried 1 (ObtainReq (place 1 1 1) (OfferTarget (key 0 0 ServKind 0) 0))) None None None
    ∷ entry 0 (Upcall 0) (Asked 1 Yes) None None None
    ∷ entry 0 (Flush 1) (Carried 1 (ObtainNo (place 1 1 1) 8)) None None None
    ∷ entry 1 (Fetch 0) (Carried 0 (ObtainNo (place 1 1 1) 8)) None None None
    ∷ entry 1 Handle (Carried 0 (ObtainNo (place 1 1 1) 8)) None None None
    ∷ entry 1 (Resume 1) Nothing None None (reply 1 8)
    ∷ entry 1 (Calls 1) (Called 2 (Bind 0 0)) None None (reply 1 8)
    ∷ entry 1 (Calls 1) (Called 3 (AskOffer 1 0 5)) None None None
    ∷ entry 1 (Flush 0) (Carried 0 (ObtainReq (place 1 1 2) (OfferTarget (key 0 0 ServKind 0) 5))) None None None
    ∷ entry 0 (Fetch 1) (Carried 1 (ObtainReq (place 1 1 2) (OfferTarget (key 0 0 ServKind 0) 5))) None None None
    ∷ entry 0 Handle (Carried 1 (ObtainReq (place 1 1 2) (OfferTarget (key 0 0 ServKind 0) 5))) None None None
    ∷ entry 0 (Upcall 0) (Asked 1 Yes) None None None
    ∷ entry 0 (Flush 1) (Carried 1 (ObtainNo (place 1 1 2) 3)) None None None
    ∷ entry 1 (Fetch 0) (Carried 0 (ObtainNo (place 1 1 2) 3)) None None None
    ∷ entry 1 Handle (Carried 0 (ObtainNo (place 1 1 2) 3)) None None None
    ∷ entry 1 (Resume 1) Nothing None None (reply 1 3)
    ∷ entry 0 (Calls 0) (Called 0 (Revoke 0)) None (Some (key 0 0 ServKind 0)) None
    ∷ entry 0 (Calls 2) (Called 0 (Obtain 0 0 0)) None None None
    ∷ entry 0 (Upcall 0) (Asked 2 Yes) None None None
    ∷ entry 0 (Resume 2) Nothing None None (reply 2 4)
    ∷ entry 0 (Flush 1) (Carried 1 (RevokeReq (key 1 1 SessKind 0) 0)) None None None
    ∷ entry 1 (Fetch 0) (Carried 0 (RevokeReq (key 1 1 SessKind 0) 0)) None None None
    ∷ entry 1 Handle (Carried 0 (RevokeReq (key 1 1 SessKind 0) 0)) None None None
    ∷ entry 1 (Flush 0) (Carried 0 (RevokeDone 0)) None None None
    ∷ entry 0 (Fetch 1) (Carried 1 (RevokeDone 0)) None None None
    ∷ entry 0 Handle (Carried 1 (RevokeDone 0)) None None None
    ∷ entry 0 (Resume 0) Nothing None None (reply 0 0)
    ∷ []

unfoldable pub outcome : Played
outcome = record {
  entries = journal;
  all_enabled = true;
  left = [];
  made = 2;
  cut = 1;
  held = [];
  is_forest = true;
  is_linked = true;
  is_clean = true;
}

abbrev pub marked_before_kind : Type 0
marked_before_kind = played trace events ≡ outcome

unfoldable pub waiting : List Event
waiting =
    event 0 (Resume 2)
    ∷ event 0 (Flush 1)
    ∷ []

-- then exactly these are enabled
abbrev pub waits : Type 0
waits = enabled_after trace first_events ≡ waiting
