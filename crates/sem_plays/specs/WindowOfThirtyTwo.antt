-- With a window of 32 a link holds 32 messages.
use Rattle.std.specs.Prelude.{◌≡◌, true, Some, None, List, [], ◌∷◌, replicate}
use Rattle.sem_machine.specs.Prelude.{MemKind, Mem, SelTarget, ObtainReq, ObtainOk, Obtain, Calls, Fetch, Handle}
use Rattle.sem_machine.specs.Prelude.{Upcall, Resume, Flush, Event, Yes, Called, Carried, Asked, Nothing, Entry}
use Rattle.sem_machine.specs.Prelude.{Setup, event}
use Rattle.sem_plays.specs.Words.{key, place, grant, reply, entry, owners, root, vpe}
use Rattle.sem_plays.specs.Played.{Played, played, enabled_after}

unfoldable pub trace : Setup
trace = record {
  version = 2;
  window = 32;
  kernels = 2;
  owners = owners 2 (Some 0 ∷ replicate 33 (Some 1));
  vpes =
      vpe 0 0 (root 0 (Mem 0 4096 7) ∷ []) []
      ∷ vpe 1 1 [] (Obtain 1 0 0 ∷ [])
      ∷ vpe 2 2 [] (Obtain 1 0 0 ∷ [])
      ∷ vpe 3 3 [] (Obtain 1 0 0 ∷ [])
      ∷ vpe 4 4 [] (Obtain 1 0 0 ∷ [])
      ∷ vpe 5 5 [] (Obtain 1 0 0 ∷ [])
      ∷ vpe 6 6 [] (Obtain 1 0 0 ∷ [])
      ∷ vpe 7 7 [] (Obtain 1 0 0 ∷ [])
      ∷ vpe 8 8 [] (Obtain 1 0 0 ∷ [])
      ∷ vpe 9 9 [] (Obtain 1 0 0 ∷ [])
      ∷ vpe 10 10 [] (Obtain 1 0 0 ∷ [])
      ∷ vpe 11 11 [] (Obtain 1 0 0 ∷ [])
      ∷ vpe 12 12 [] (Obtain 1 0 0 ∷ [])
      ∷ vpe 13 13 [] (Obtain 1 0 0 ∷ [])
      ∷ vpe 14 14 [] (Obtain 1 0 0 ∷ [])
      ∷ vpe 15 15 [] (Obtain 1 0 0 ∷ [])
      ∷ vpe 16 16 [] (Obtain 1 0 0 ∷ [])
      ∷ vpe 17 17 [] (Obtain 1 0 0 ∷ [])
      ∷ vpe 18 18 [] (Obtain 1 0 0 ∷ [])
      ∷ vpe 19 19 [] (Obtain 1 0 0 ∷ [])
      ∷ vpe 20 20 [] (Obtain 1 0 0 ∷ [])
      ∷ vpe 21 21 [] (Obtain 1 0 0 ∷ [])
      ∷ vpe 22 22 [] (Obtain 1 0 0 ∷ [])
      ∷ vpe 23 23 [] (Obtain 1 0 0 ∷ [])
      ∷ vpe 24 24 [] (Obtain 1 0 0 ∷ [])
      ∷ vpe 25 25 [] (Obtain 1 0 0 ∷ [])
      ∷ vpe 26 26 [] (Obtain 1 0 0 ∷ [])
      ∷ vpe 27 27 [] (Obtain 1 0 0 ∷ [])
      ∷ vpe 28 28 [] (Obtain 1 0 0 ∷ [])
      ∷ vpe 29 29 [] (Obtain 1 0 0 ∷ [])
      ∷ vpe 30 30 [] (Obtain 1 0 0 ∷ [])
      ∷ vpe 31 31 [] (Obtain 1 0 0 ∷ [])
      ∷ vpe 32 32 [] (Obtain 1 0 0 ∷ [])
      ∷ vpe 33 33 [] (Obtain 1 0 0 ∷ [])
      ∷ [];
  services = [];
  offers = [];
  denies = [];
  kills = [];
}

-- the events before the test of what is enabled
unfoldable pub first_events : List Event
first_events =
    event 1 (Calls 1)
    ∷ event 1 (Calls 2)
    ∷ event 1 (Calls 3)
    ∷ event 1 (Calls 4)
    ∷ event 1 (Calls 5)
    ∷ event 1 (Calls 6)
    ∷ event 1 (Calls 7)
    ∷ event 1 (Calls 8)
    ∷ event 1 (Calls 9)
    ∷ event 1 (Calls 10)
    ∷ event 1 (Calls 11)
    ∷ event 1 (Calls 12)
    ∷ event 1 (Calls 13)
    ∷ event 1 (Calls 14)
    ∷ event 1 (Calls 15)
    ∷ event 1 (Calls 16)
    ∷ event 1 (Calls 17)
    ∷ event 1 (Calls 18)
    ∷ event 1 (Calls 19)
    ∷ event 1 (Calls 20)
    ∷ event 1 (Calls 21)
    ∷ event 1 (Calls 22)
    ∷ event 1 (Calls 23)
    ∷ event 1 (Calls 24)
    ∷ event 1 (Calls 25)
    ∷ event 1 (Calls 26)
    ∷ event 1 (Calls 27)
    ∷ event 1 (Calls 28)
    ∷ event 1 (Calls 29)
    ∷ event 1 (Calls 30)
    ∷ event 1 (Calls 31)
    ∷ event 1 (Calls 32)
    ∷ event 1 (Calls 33)
    ∷ event 1 (Flush 0)
    ∷ event 1 (Flush 0)
    ∷ event 1 (Flush 0)
    ∷ event 1 (Flush 0)
    ∷ event 1 (Flush 0)
    ∷ event 1 (Flush 0)
    ∷ event 1 (Flush 0)
    ∷ event 1 (Flush 0)
    ∷ event 1 (Flush 0)
    ∷ event 1 (Flush 0)
    ∷ event 1 (Flush 0)
    ∷ event 1 (Flush 0)
    ∷ event 1 (Flush 0)
    ∷ event 1 (Flush 0)
    ∷ event 1 (Flush 0)
    ∷ event 1 (Flush 0)
    ∷ event 1 (Flush 0)
    ∷ event 1 (Flush 0)
    ∷ event 1 (Flush 0)
    ∷ event 1 (Flush 0)
    ∷ event 1 (Flush 0)
    ∷ event 1 (Flush 0)
    ∷ event 1 (Flush 0)
    ∷ event 1 (Flush 0)
    ∷ event 1 (Flush 0)
    ∷ event 1 (Flush 0)
    ∷ event 1 (Flush 0)
    ∷ event 1 (Flush 0)
    ∷ event 1 (Flush 0)
    ∷ event 1 (Flush 0)
    ∷ event 1 (Flush 0)
    ∷ event 1 (Flush 0)
    ∷ []

unfoldable pub events : List Event
events =
    event 1 (Calls 1)
    ∷ event 1 (Calls 2)
    ∷ event 1 (Calls 3)
    ∷ event 1 (Calls 4)
    ∷ event 1 (Calls 5)
    ∷ event 1 (Calls 6)
    ∷ event 1 (Calls 7)
    ∷ event 1 (Calls 8)
    ∷ event 1 (Calls 9)
    ∷ event 1 (Calls 10)
    ∷ event 1 (Calls 11)
    ∷ event 1 (Calls 12)
    ∷ event 1 (Calls 13)
    ∷ event 1 (Calls 14)
    ∷ event 1 (Calls 15)
    ∷ event 1 (Calls 16)
    ∷ event 1 (Calls 17)
    ∷ event 1 (Calls 18)
    ∷ event 1 (Calls 19)
    ∷ event 1 (Calls 20)
    ∷ event 1 (Calls 21)
    ∷ event 1 (Calls 22)
    ∷ event 1 (Calls 23)
    ∷ event 1 (Calls 24)
    ∷ event 1 (Calls 25)
    ∷ event 1 (Calls 26)
    ∷ event 1 (Calls 27)
    ∷ event 1 (Calls 28)
    ∷ event 1 (Calls 29)
    ∷ event 1 (Calls 30)
    ∷ event 1 (Calls 31)
    ∷ event 1 (Calls 32)
    ∷ event 1 (Calls 33)
    ∷ event 1 (Flush 0)
    ∷ event 1 (Flush 0)
    ∷ event 1 (Flush 0)
    ∷ event 1 (Flush 0)
    ∷ event 1 (Flush 0)
    ∷ event 1 (Flush 0)
    ∷ event 1 (Flush 0)
    ∷ event 1 (Flush 0)
    ∷ event 1 (Flush 0)
    ∷ event 1 (Flush 0)
    ∷ event 1 (Flush 0)
    ∷ event 1 (Flush 0)
    ∷ event 1 (Flush 0)
    ∷ event 1 (Flush 0)
    ∷ event 1 (Flush 0)
    ∷ event 1 (Flush 0)
    ∷ event 1 (Flush 0)
    ∷ event 1 (Flush 0)
    ∷ event 1 (Flush 0)
    ∷ event 1 (Flush 0)
    ∷ event 1 (Flush 0)
    ∷ event 1 (Flush 0)
    ∷ event 1 (Flush 0)
    ∷ event 1 (Flush 0)
    ∷ event 1 (Flush 0)
    ∷ event 1 (Flush 0)
    ∷ event 1 (Flush 0)
    ∷ event 1 (Flush 0)
    ∷ event 1 (Flush 0)
    ∷ event 1 (Flush 0)
    ∷ event 1 (Flush 0)
    ∷ event 1 (Flush 0)
    ∷ event 0 (Fetch 1)
    ∷ event 0 Handle
    ∷ event 0 (Upcall 0)
    ∷ event 0 (Fetch 1)
    ∷ event 0 Handle
    ∷ event 0 (Upcall 0)
    ∷ event 0 (Fetch 1)
    ∷ event 0 Handle
    ∷ event 0 (Upcall 0)
    ∷ event 0 (Fetch 1)
    ∷ event 0 Handle
    ∷ event 0 (Upcall 0)
    ∷ event 0 (Fetch 1)
    ∷ event 0 Handle
    ∷ event 0 (Upcall 0)
    ∷ event 0 (Fetch 1)
    ∷ event 0 Handle
    ∷ event 0 (Upcall 0)
    ∷ event 0 (Fetch 1)
    ∷ event 0 Handle
    ∷ event 0 (Upcall 0)
    ∷ event 0 (Fetch 1)
    ∷ event 0 Handle
    ∷ event 0 (Upcall 0)
    ∷ event 0 (Fetch 1)
    ∷ event 0 Handle
    ∷ event 0 (Upcall 0)
    ∷ event 0 (Fetch 1)
    ∷ event 0 Handle
    ∷ event 0 (Upcall 0)
    ∷ event 0 (Fetch 1)
    ∷ event 0 Handle
    ∷ event 0 (Upcall 0)
    ∷ event 0 (Fetch 1)
    ∷ event 0 Handle
    ∷ event 0 (Upcall 0)
    ∷ event 0 (Fetch 1)
    ∷ event 0 Handle
    ∷ event 0 (Upcall 0)
    ∷ event 0 (Fetch 1)
    ∷ event 0 Handle
    ∷ event 0 (Upcall 0)
    ∷ event 0 (Fetch 1)
    ∷ event 0 Handle
    ∷ event 0 (Upcall 0)
    ∷ event 0 (Fetch 1)
    ∷ event 0 Handle
    ∷ event 0 (Upcall 0)
    ∷ event 0 (Fetch 1)
    ∷ event 0 Handle
    ∷ event 0 (Upcall 0)
    ∷ event 0 (Fetch 1)
    ∷ event 0 Handle
    ∷ event 0 (Upcall 0)
    ∷ event 0 (Fetch 1)
    ∷ event 0 Handle
    ∷ event 0 (Upcall 0)
    ∷ event 0 (Fetch 1)
    ∷ event 0 Handle
    ∷ event 0 (Upcall 0)
    ∷ event 0 (Fetch 1)
    ∷ event 0 Handle
    ∷ event 0 (Upcall 0)
    ∷ event 0 (Fetch 1)
    ∷ event 0 Handle
    ∷ event 0 (Upcall 0)
    ∷ event 0 (Fetch 1)
    ∷ event 0 Handle
    ∷ event 0 (Upcall 0)
    ∷ event 0 (Fetch 1)
    ∷ event 0 Handle
    ∷ event 0 (Upcall 0)
    ∷ event 0 (Fetch 1)
    ∷ event 0 Handle
    ∷ event 0 (Upcall 0)
    ∷ event 0 (Fetch 1)
    ∷ event 0 Handle
    ∷ event 0 (Upcall 0)
    ∷ event 0 (Fetch 1)
    ∷ event 0 Handle
    ∷ event 0 (Upcall 0)
    ∷ event 0 (Fetch 1)
    ∷ event 0 Handle
    ∷ event 0 (Upcall 0)
    ∷ event 0 (Fetch 1)
    ∷ event 0 Handle
    ∷ event 0 (Upcall 0)
    ∷ event 0 (Fetch 1)
    ∷ event 0 Handle
    ∷ event 0 (Upcall 0)
    ∷ event 0 (Fetch 1)
    ∷ event 0 Handle
    ∷ event 0 (Upcall 0)
    ∷ event 0 (Fetch 1)
    ∷ event 0 Handle
    ∷ event 0 (Upcall 0)
    ∷ event 0 (Flush 1)
    ∷ event 0 (Flush 1)
    ∷ event 0 (Flush 1)
    ∷ event 0 (Flush 1)
    ∷ event 0 (Flush 1)
    ∷ event 0 (Flush 1)
    ∷ event 0 (Flush 1)
    ∷ event 0 (Flush 1)
    ∷ event 0 (Flush 1)
    ∷ event 0 (Flush 1)
    ∷ event 0 (Flush 1)
    ∷ event 0 (Flush 1)
    ∷ event 0 (Flush 1)
    ∷ event 0 (Flush 1)
    ∷ event 0 (Flush 1)
    ∷ event 0 (Flush 1)
    ∷ event 0 (Flush 1)
    ∷ event 0 (Flush 1)
    ∷ event 0 (Flush 1)
    ∷ event 0 (Flush 1)
    ∷ event 0 (Flush 1)
    ∷ event 0 (Flush 1)
    ∷ event 0 (Flush 1)
    ∷ event 0 (Flush 1)
    ∷ event 0 (Flush 1)
    ∷ event 0 (Flush 1)
    ∷ event 0 (Flush 1)
    ∷ event 0 (Flush 1)
    ∷ event 0 (Flush 1)
    ∷ event 0 (Flush 1)
    ∷ event 0 (Flush 1)
    ∷ event 0 (Flush 1)
    ∷ event 1 (Fetch 0)
    ∷ event 1 Handle
    ∷ event 1 (Resume 1)
    ∷ event 1 (Fetch 0)
    ∷ event 1 Handle
    ∷ event 1 (Resume 2)
    ∷ event 1 (Fetch 0)
    ∷ event 1 Handle
    ∷ event 1 (Resume 3)
    ∷ event 1 (Fetch 0)
    ∷ event 1 Handle
    ∷ event 1 (Resume 4)
    ∷ event 1 (Fetch 0)
    ∷ event 1 Handle
    ∷ event 1 (Resume 5)
    ∷ event 1 (Fetch 0)
    ∷ event 1 Handle
    ∷ event 1 (Resume 6)
    ∷ event 1 (Fetch 0)
    ∷ event 1 Handle
    ∷ event 1 (Resume 7)
    ∷ event 1 (Fetch 0)
    ∷ event 1 Handle
    ∷ event 1 (Resume 8)
    ∷ event 1 (Fetch 0)
    ∷ event 1 Handle
    ∷ event 1 (Resume 9)
    ∷ event 1 (Fetch 0)
    ∷ event 1 Handle
    ∷ event 1 (Resume 10)
    ∷ event 1 (Fetch 0)
    ∷ event 1 Handle
    ∷ event 1 (Resume 11)
    ∷ event 1 (Fetch 0)
    ∷ event 1 Handle
    ∷ event 1 (Resume 12)
    ∷ event 1 (Fetch 0)
    ∷ event 1 Handle
    ∷ event 1 (Resume 13)
    ∷ event 1 (Fetch 0)
    ∷ event 1 Handle
    ∷ event 1 (Resume 14)
    ∷ event 1 (Fetch 0)
    ∷ event 1 Handle
    ∷ event 1 (Resume 15)
    ∷ event 1 (Fetch 0)
    ∷ event 1 Handle
    ∷ event 1 (Resume 16)
    ∷ event 1 (Fetch 0)
    ∷ event 1 Handle
    ∷ event 1 (Resume 17)
    ∷ event 1 (Fetch 0)
    ∷ event 1 Handle
    ∷ event 1 (Resume 18)
    ∷ event 1 (Fetch 0)
    ∷ event 1 Handle
    ∷ event 1 (Resume 19)
    ∷ event 1 (Fetch 0)
    ∷ event 1 Handle
    ∷ event 1 (Resume 20)
    ∷ event 1 (Fetch 0)
    ∷ event 1 Handle
    ∷ event 1 (Resume 21)
    ∷ event 1 (Fetch 0)
    ∷ event 1 Handle
    ∷ event 1 (Resume 22)
    ∷ event 1 (Fetch 0)
    ∷ event 1 Handle
    ∷ event 1 (Resume 23)
    ∷ event 1 (Fetch 0)
    ∷ event 1 Handle
    ∷ event 1 (Resume 24)
    ∷ event 1 (Fetch 0)
    ∷ event 1 Handle
    ∷ event 1 (Resume 25)
    ∷ event 1 (Fetch 0)
    ∷ event 1 Handle
    ∷ event 1 (Resume 26)
    ∷ event 1 (Fetch 0)
    ∷ event 1 Handle
    ∷ event 1 (Resume 27)
    ∷ event 1 (Fetch 0)
    ∷ event 1 Handle
    ∷ event 1 (Resume 28)
    ∷ event 1 (Fetch 0)
    ∷ event 1 Handle
    ∷ event 1 (Resume 29)
    ∷ event 1 (Fetch 0)
    ∷ event 1 Handle
    ∷ event 1 (Resume 30)
    ∷ event 1 (Fetch 0)
    ∷ event 1 Handle
    ∷ event 1 (Resume 31)
    ∷ event 1 (Fetch 0)
    ∷ event 1 Handle
    ∷ event 1 (Resume 32)
    ∷ event 1 (Flush 0)
    ∷ event 0 (Fetch 1)
    ∷ event 0 Handle
    ∷ event 0 (Upcall 0)
    ∷ event 0 (Flush 1)
    ∷ event 1 (Fetch 0)
    ∷ event 1 Handle
    ∷ event 1 (Resume 33)
    ∷ []

unfoldable pub journal : List Entry
journal =
    entry 1 (Calls 1) (Called 0 (Obtain 1 0 0)) None None None
    ∷ entry 1 (Calls 2) (Called 0 (Obtain 1 0 0)) None None None
    ∷ entry 1 (Calls 3) (Called 0 (Obtain 1 0 0)) None None None
    ∷ entry 1 (Calls 4) (Called 0 (Obtain 1 0 0)) None None None
    ∷ entry 1 (Calls 5) (Called 0 (Obtain 1 0 0)) None None None
    ∷ entry 1 (Calls 6) (Called 0 (Obtain 1 0 0)) None None None
    ∷ entry 1 (Calls 7) (Called 0 (Obtain 1 0 0)) None None None
    ∷ entry 1 (Calls 8) (Called 0 (Obtain 1 0 0)) None None None
    ∷ entry 1 (Calls 9) (Called 0 (Obtain 1 0 0)) None None None
    ∷ entry 1 (Calls 10) (Called 0 (Obtain 1 0 0)) None None None
    ∷ entry 1 (Calls 11) (Called 0 (Obtain 1 0 0)) None None None
    ∷ entry 1 (Calls 12) (Called 0 (Obtain 1 0 0)) None None None
    ∷ entry 1 (Calls 13) (Called 0 (Obtain 1 0 0)) None None None
    ∷ entry 1 (Calls 14) (Called 0 (Obtain 1 0 0)) None None None
    ∷ entry 1 (Calls 15) (Called 0 (Obtain 1 0 0)) None None None
    ∷ entry 1 (Calls 16) (Called 0 (Obtain 1 0 0)) None None None
    ∷ entry 1 (Calls 17) (Called 0 (Obtain 1 0 0)) None None None
    ∷ entry 1 (Calls 18) (Called 0 (Obtain 1 0 0)) None None None
    ∷ entry 1 (Calls 19) (Called 0 (Obtain 1 0 0)) None None None
    ∷ entry 1 (Calls 20) (Called 0 (Obtain 1 0 0)) None None None
    ∷ entry 1 (Calls 21) (Called 0 (Obtain 1 0 0)) None None None
    ∷ entry 1 (Calls 22) (Called 0 (Obtain 1 0 0)) None None None
    ∷ entry 1 (Calls 23) (Called 0 (Obtain 1 0 0)) None None None
    ∷ entry 1 (Calls 24) (Called 0 (Obtain 1 0 0)) None None None
    ∷ entry 1 (Calls 25) (Called 0 (Obtain 1 0 0)) None None None
    ∷ entry 1 (Calls 26) (Called 0 (Obtain 1 0 0)) None None None
    ∷ entry 1 (Calls 27) (Called 0 (Obtain 1 0 0)) None None None
    ∷ entry 1 (Calls 28) (Called 0 (Obtain 1 0 0)) None None None
    ∷ entry 1 (Calls 29) (Called 0 (Obtain 1 0 0)) None None None
    ∷ entry 1 (Calls 30) (Called 0 (Obtain 1 0 0)) None None None
    ∷ entry 1 (Calls 31) (Called 0 (Obtain 1 0 0)) None None None
    ∷ entry 1 (Calls 32) (Called 0 (Obtain 1 0 0)) None None None
    ∷ entry 1 (Calls 33) (Called 0 (Obtain 1 0 0)) None None None
    ∷ entry 1 (Flush 0) (Carried 0 (ObtainReq (place 1 1 0) (SelTarget 0 0))) None None None
    ∷ entry 1 (Flush 0) (Carried 0 (ObtainReq (place 2 2 0) (SelTarget 0 0))) None None None
    ∷ entry 1 (Flush 0) (Carried 0 (ObtainReq (place 3 3 0) (SelTarget 0 0))) None None None
    ∷ entry 1 (Flush 0) (Carried 0 (ObtainReq (place 4 4 0) (SelTarget 0 0))) None None None
    ∷ entry 1 (Flush 0) (Carried 0 (ObtainReq (place 5 5 0) (SelTarget 0 0))) None None None
    ∷ entry 1 (Flush 0) (Carried 0 (ObtainReq (place 6 6 0) (SelTarget 0 0))) None None None
    ∷ entry 1 (Flush 0) (Carried 0 (ObtainReq (place 7 7 0) (SelTarget 0 0))) None None None
    ∷ entry 1 (Flush 0) (Carried 0 (ObtainReq (place 8 8 0) (SelTarget 0 0))) None None None
    ∷ entry 1 (Flush 0) (Carried 0 (ObtainReq (place 9 9 0) (SelTarget 0 0))) None None None
    ∷ entry 1 (Flush 0) (Carried 0 (ObtainReq (place 10 10 0) (SelTarget 0 0))) None None None
    ∷ entry 1 (Flush 0) (Carried 0 (ObtainReq (place 11 11 0) (SelTarget 0 0))) None None None
    ∷ entry 1 (Flush 0) (Carried 0 (ObtainReq (place 12 12 0) (SelTarget 0 0))) None None None
    ∷ entry 1 (Flush 0) (Carried 0 (ObtainReq (place 13 13 0) (SelTarget 0 0))) None None None
    ∷ entry 1 (Flush 0) (Carried 0 (ObtainReq (place 14 14 0) (SelTarget 0 0))) None None None
    ∷ entry 1 (Flush 0) (Carried 0 (ObtainReq (place 15 15 0) (SelTarget 0 0))) None None None
    ∷ entry 1 (Flush 0) (Carried 0 (ObtainReq (place 16 16 0) (SelTarget 0 0))) None None None
    ∷ entry 1 (Flush 0) (Carried 0 (ObtainReq (place 17 17 0) (SelTarget 0 0))) None None None
    ∷ entry 1 (Flush 0) (Carried 0 (ObtainReq (place 18 18 0) (SelTarget 0 0))) None None None
    ∷ entry 1 (Flush 0) (Carried 0 (ObtainReq (place 19 19 0) (SelTarget 0 0))) None None None
    ∷ entry 1 (Flush 0) (Carried 0 (ObtainReq (place 20 20 0) (SelTarget 0 0))) None None None
    ∷ entry 1 (Flush 0) (Carried 0 (ObtainReq (place 21 21 0) (SelTarget 0 0))) None None None
    ∷ entry 1 (Flush 0) (Carried 0 (ObtainReq (place 22 22 0) (SelTarget 0 0))) None None None
    ∷ entry 1 (Flush 0) (Carried 0 (ObtainReq (place 23 23 0) (SelTarget 0 0))) None None None
    ∷ entry 1 (Flush 0) (Carried 0 (ObtainReq (place 24 24 0) (SelTarget 0 0))) None None None
    ∷ entry 1 (Flush 0) (Carried 0 (ObtainReq (place 25 25 0) (SelTarget 0 0))) None None None
    ∷ entry 1 (Flush 0) (Carried 0 (ObtainReq (place 26 26 0) (SelTarget 0 0))) None None None
    ∷ entry 1 (Flush 0) (Carried 0 (ObtainReq (place 27 27 0) (SelTarget 0 0))) None None None
    ∷ entry 1 (Flush 0) (Carried 0 (ObtainReq (place 28 28 0) (SelTarget 0 0))) None None None
    ∷ entry 1 (Flush 0) (Carried 0 (ObtainReq (place 29 29 0) (SelTarget 0 0))) None None None
    ∷ entry 1 (Flush 0) (Carried 0 (ObtainReq (place 30 30 0) (SelTarget 0 0))) None None None
    ∷ entry 1 (Flush 0) (Carried 0 (ObtainReq (place 31 31 0) (SelTarget 0 0))) None None None
    ∷ entry 1 (Flush 0) (Carried 0 (ObtainReq (place 32 32 0) (SelTarget 0 0))) None None None
    ∷ entry 0 (Fetch 1) (Carried 1 (ObtainReq (place 1 1 0) (SelTarget 0 0))) None None None
    ∷ entry 0 Handle (Carried 1 (ObtainReq (place 1 1 0) (SelTarget 0 0))) None None None
    ∷ entry 0 (Upcall 0) (Asked 1 Yes) (grant (key 0 0 MemKind 0) (key 1 1 MemKind 0)) None None
    ∷ entry 0 (Fetch 1) (Carried 1 (ObtainReq (place 2 2 0) (SelTarget 0 0))) None None None
    ∷ entry 0 Handle (Carried 1 (ObtainReq (place 2 2 0) (SelTarget 0 0))) None None None
    ∷ entry 0 (Upcall 0) (Asked 2 Yes) (grant (key 0 0 MemKind 0) (key 2 2 MemKind 0)) None None
    ∷ entry 0 (Fetch 1) (Carried 1 (ObtainReq (place 3 3 0) (SelTarget 0 0))) None None None
    ∷ entry 0 Handle (Carried 1 (ObtainReq (place 3 3 0) (SelTarget 0 0))) None None None
    ∷ entry 0 (Upcall 0) (Asked 3 Yes) (grant (key 0 0 MemKind 0) (key 3 3 MemKind 0)) None None
    ∷ entry 0 (Fetch 1) (Carried 1 (ObtainReq (place 4 4 0) (SelTarget 0 0))) None None None
    ∷ entry 0 Handle (Carried 1 (ObtainReq (place 4 4 0) (SelTarget 0 0))) None None None
    ∷ entry 0 (Upcall 0) (Asked 4 Yes) (grant (key 0 0 MemKind 0) (key 4 4 MemKind 0)) None None
    ∷ entry 0 (Fetch 1) (Carried 1 (ObtainReq (place 5 5 0) (SelTarget 0 0))) None None None
    ∷ entry 0 Handle (Carried 1 (ObtainReq (place 5 5 0) (SelTarget 0 0))) None None None
    ∷ entry 0 (Upcall 0) (Asked 5 Yes) (grant (key 0 0 MemKind 0) (key 5 5 MemKind 0)) None None
    ∷ entry 0 (Fetch 1) (Carried 1 (ObtainReq (place 6 6 0) (SelTarget 0 0))) None None None
    ∷ entry 0 Handle (Carried 1 (ObtainReq (place 6 6 0) (SelTarget 0 0))) None None None
    ∷ entry 0 (Upcall 0) (Asked 6 Yes) (grant (key 0 0 MemKind 0) (key 6 6 MemKind 0)) None None
    ∷ entry 0 (Fetch 1) (Carried 1 (ObtainReq (place 7 7 0) (SelTarget 0 0))) None None None
    ∷ entry 0 Handle (Carried 1 (ObtainReq (place 7 7 0) (SelTarget 0 0))) None None None
    ∷ entry 0 (Upcall 0) (Asked 7 Yes) (grant (key 0 0 MemKind 0) (key 7 7 MemKind 0)) None None
    ∷ entry 0 (Fetch 1) (Carried 1 (ObtainReq (place 8 8 0) (SelTarget 0 0))) None None None
    ∷ entry 0 Handle (Carried 1 (ObtainReq (place 8 8 0) (SelTarget 0 0))) None None None
    ∷ entry 0 (Upcall 0) (Asked 8 Yes) (grant (key 0 0 MemKind 0) (key 8 8 MemKind 0)) None None
    ∷ entry 0 (Fetch 1) (Carried 1 (ObtainReq (place 9 9 0) (SelTarget 0 0))) None None None
    ∷ entry 0 Handle (Carried 1 (ObtainReq (place 9 9 0) (SelTarget 0 0))) None None None
    ∷ entry 0 (Upcall 0) (Asked 9 Yes) (grant (key 0 0 MemKind 0) (key 9 9 MemKind 0)) None None
    ∷ entry 0 (Fetch 1) (Carried 1 (ObtainReq (place 10 10 0) (SelTarget 0 0))) None None None
    ∷ entry 0 Handle (Carried 1 (ObtainReq (place 10 10 0) (SelTarget 0 0))) None None None
    ∷ entry 0 (Upcall 0) (Asked 10 Yes) (grant (key 0 0 MemKind 0) (key 10 10 MemKind 0)) None None
    ∷ entry 0 (Fetch 1) (Carried 1 (ObtainReq (place 11 11 0) (SelTarget 0 0))) None None None
    ∷ entry 0 Handle (Carried 1 (ObtainReq (place 11 11 0) (SelTarget 0 0))) None None None
    ∷ entry 0 (Upcall 0) (Asked 11 Yes) (grant (key 0 0 MemKind 0) (key 11 11 MemKind 0)) None None
    ∷ entry 0 (Fetch 1) (Carried 1 (ObtainReq (place 12 12 0) (SelTarget 0 0))) None None None
    ∷ entry 0 Handle (Carried 1 (ObtainReq (place 12 12 0) (SelTarget 0 0))) None None None
    ∷ entry 0 (Upcall 0) (Asked 12 Yes) (grant (key 0 0 MemKind 0) (key 12 12 MemKind 0)) None None
    ∷ entry 0 (Fetch 1) (Carried 1 (ObtainReq (place 13 13 0) (SelTarget 0 0))) None None None
    ∷ entry 0 Handle (Carried 1 (ObtainReq (place 13 13 0) (SelTarget 0 0))) None None None
    ∷ entry 0 (Upcall 0) (Asked 13 Yes) (grant (key 0 0 MemKind 0) (key 13 13 MemKind 0)) None None
    ∷ entry 0 (Fetch 1) (Carried 1 (ObtainReq (place 14 14 0) (SelTarget 0 0))) None None None
    ∷ entry 0 Handle (Carried 1 (ObtainReq (place 14 14 0) (SelTarget 0 0))) None None None
    ∷ entry 0 (Upcall 0) (Asked 14 Yes) (grant (key 0 0 MemKind 0) (key 14 14 MemKind 0)) None None
    ∷ entry 0 (Fetch 1) (Carried 1 (ObtainReq (place 15 15 0) (SelTarget 0 0))) None None None
    ∷ entry 0 Handle (Carried 1 (ObtainReq (place 15 15 0) (SelTarget 0 0))) None None None
    ∷ entry 0 (Upcall 0) (Asked 15 Yes) (grant (key 0 0 MemKind 0) (key 15 15 MemKind 0)) None None
    ∷ entry 0 (Fetch 1) (Carried 1 (ObtainReq (place 16 16 0) (SelTarget 0 0))) None None None
    ∷ entry 0 Handle (Carried 1 (ObtainReq (place 16 16 0) (SelTarget 0 0))) None None None
    ∷ entry 0 (Upcall 0) (Asked 16 Yes) (grant (key 0 0 MemKind 0) (key 16 16 MemKind 0)) None None
    ∷ entry 0 (Fetch 1) (Carried 1 (ObtainReq (place 17 17 0) (SelTarget 0 0))) None None None
    ∷ entry 0 Handle (Carried 1 (ObtainReq (place 17 17 0) (SelTarget 0 0))) None None None
    ∷ entry 0 (Upcall 0) (Asked 17 Yes) (grant (key 0 0 MemKind 0) (key 17 17 MemKind 0)) None None
    ∷ entry 0 (Fetch 1) (Carried 1 (ObtainReq (place 18 18 0) (SelTarget 0 0))) None None None
    ∷ entry 0 Handle (Carried 1 (ObtainReq (place 18 18 0) (SelTarget 0 0))) None None None
    ∷ entry 0 (Upcall 0) (Asked 18 Yes) (grant (key 0 0 MemKind 0) (key 18 18 MemKind 0)) None None
    ∷ entry 0 (Fetch 1) (Carried 1 (ObtainReq (place 19 19 0) (SelTarget 0 0))) None None None
    ∷ entry 0 Handle (Carried 1 (ObtainReq (place 19 19 0) (SelTarget 0 0))) None None None
    ∷ entry 0 (Upcall 0) (Asked 19 Yes) (grant (key 0 0 MemKind 0) (key 19 19 MemKind 0)) None None
    ∷ entry 0 (Fetch 1) (Carried 1 (ObtainReq (place 20 20 0) (SelTarget 0 0))) None None None
    ∷ entry 0 Handle (Carried 1 (ObtainReq (place 20 20 0) (SelTarget 0 0))) None None None
    ∷ entry 0 (Upcall 0) (Asked 20 Yes) (grant (key 0 0 MemKind 0) (key 20 20 MemKind 0)) None None
    ∷ entry 0 (Fetch 1) (Carried 1 (ObtainReq (place 21 21 0) (SelTarget 0 0))) None None None
    ∷ entry 0 Handle (Carried 1 (ObtainReq (place 21 21 0) (SelTarget 0 0))) None None None
    ∷ entry 0 (Upcall 0) (Asked 21 Yes) (grant (key 0 0 MemKind 0) (key 21 21 MemKind 0)) None None
    ∷ entry 0 (Fetch 1) (Carried 1 (ObtainReq (place 22 22 0) (SelTarget 0 0))) None None None
    ∷ entry 0 Handle (Carried 1 (ObtainReq (place 22 22 0) (SelTarget 0 0))) None None None
    ∷ entry 0 (Upcall 0) (Asked 22 Yes) (grant (key 0 0 MemKind 0) (key 22 22 MemKind 0)) None None
    ∷ entry 0 (Fetch 1) (Carried 1 (ObtainReq (place 23 23 0) (SelTarget 0 0))) None None None
    ∷ entry 0 Handle (Carried 1 (ObtainReq (place 23 23 0) (SelTarget 0 0))) None None None
    ∷ entry 0 (Upcall 0) (Asked 23 Yes) (grant (key 0 0 MemKind 0) (key 23 23 MemKind 0)) None None
    ∷ entry 0 (Fetch 1) (Carried 1 (ObtainReq (place 24 24 0) (SelTarget 0 0))) None None None
    ∷ entry 0 Handle (Carried 1 (ObtainReq (place 24 24 0) (SelTarget 0 0))) None None None
    ∷ entry 0 (Upcall 0) (Asked 24 Yes) (grant (key 0 0 MemKind 0) (key 24 24 MemKind 0)) None None
    ∷ entry 0 (Fetch 1) (Carried 1 (ObtainReq (place 25 25 0) (SelTarget 0 0))) None None None
    ∷ entry 0 Handle (Carried 1 (ObtainReq (place 25 25 0) (SelTarget 0 0))) None None None
    ∷ entry 0 (Upcall 0) (Asked 25 Yes) (grant (key 0 0 MemKind 0) (key 25 25 MemKind 0)) None None
    ∷ entry 0 (Fetch 1) (Carried 1 (ObtainReq (place 26 26 0) (SelTarget 0 0))) None None None
    ∷ entry 0 Handle (Carried 1 (ObtainReq (place 26 26 0) (SelTarget 0 0))) None None None
    ∷ entry 0 (Upcall 0) (Asked 26 Yes) (grant (key 0 0 MemKind 0) (key 26 26 MemKind 0)) None None
    ∷ entry 0 (Fetch 1) (Carried 1 (ObtainReq (place 27 27 0) (SelTarget 0 0))) None None None
    ∷ entry 0 Handle (Carried 1 (ObtainReq (place 27 27 0) (SelTarget 0 0))) None None None
    ∷ entry 0 (Upcall 0) (Asked 27 Yes) (grant (key 0 0 MemKind 0) (key 27 27 MemKind 0)) None None
    ∷ entry 0 (Fetch 1) (Carried 1 (ObtainReq (place 28 28 0) (SelTarget 0 0))) None None None
    ∷ entry 0 Handle (Carried 1 (ObtainReq (place 28 28 0) (SelTarget 0 0))) None None None
    ∷ entry 0 (Upcall 0) (Asked 28 Yes) (grant (key 0 0 MemKind 0) (key 28 28 MemKind 0)) None None
    ∷ entry 0 (Fetch 1) (Carried 1 (ObtainReq (place 29 29 0) (SelTarget 0 0))) None None None
    ∷ entry 0 Handle (Carried 1 (ObtainReq (place 29 29 0) (SelTarget 0 0))) None None None
    ∷ entry 0 (Upcall 0) (Asked 29 Yes) (grant (key 0 0 MemKind 0) (key 29 29 MemKind 0)) None None
    ∷ entry 0 (Fetch 1) (Carried 1 (ObtainReq (place 30 30 0) (SelTarget 0 0))) None None None
    ∷ entry 0 Handle (Carried 1 (ObtainReq (place 30 30 0) (SelTarget 0 0))) None None None
    ∷ entry 0 (Upcall 0) (Asked 30 Yes) (grant (key 0 0 MemKind 0) (key 30 30 MemKind 0)) None None
    ∷ entry 0 (Fetch 1) (Carried 1 (ObtainReq (place 31 31 0) (SelTarget 0 0))) None None None
    ∷ entry 0 Handle (Carried 1 (ObtainReq (place 31 31 0) (SelTarget 0 0))) None None None
    ∷ entry 0 (Upcall 0) (Asked 31 Yes) (grant (key 0 0 MemKind 0) (key 31 31 MemKind 0)) None None
    ∷ entry 0 (Fetch 1) (Carried 1 (ObtainReq (place 32 32 0) (SelTarget 0 0))) None None None
    ∷ entry 0 Handle (Carried 1 (ObtainReq (place 32 32 0) (SelTarget 0 0))) None None None
    ∷ entry 0 (Upcall 0) (Asked 32 Yes) (grant (key 0 0 MemKind 0) (key 32 32 MemKind 0)) None None
    ∷ entry 0 (Flush 1) (Carried 1 (ObtainOk (key 0 0 MemKind 0) (key 1 1 MemKind 0) (Mem 0 4096 7))) None None None
    ∷ entry 0 (Flush 1) (Carried 1 (ObtainOk (key 0 0 MemKind 0) (key 2 2 MemKind 0) (Mem 0 4096 7))) None None None
    ∷ entry 0 (Flush 1) (Carried 1 (ObtainOk (key 0 0 MemKind 0) (key 3 3 MemKind 0) (Mem 0 4096 7))) None None None
    ∷ entry 0 (Flush 1) (Carried 1 (ObtainOk (key 0 0 MemKind 0) (key 4 4 MemKind 0) (Mem 0 4096 7))) None None None
    ∷ entry 0 (Flush 1) (Carried 1 (ObtainOk (key 0 0 MemKind 0) (key 5 5 MemKind 0) (Mem 0 4096 7))) None None None
    ∷ entry 0 (Flush 1) (Carried 1 (ObtainOk (key 0 0 MemKind 0) (key 6 6 MemKind 0) (Mem 0 4096 7))) None None None
    ∷ entry 0 (Flush 1) (Carried 1 (ObtainOk (key 0 0 MemKind 0) (key 7 7 MemKind 0) (Mem 0 4096 7))) None None None
    ∷ entry 0 (Flush 1) (Carried 1 (ObtainOk (key 0 0 MemKind 0) (key 8 8 MemKind 0) (Mem 0 4096 7))) None None None
    ∷ entry 0 (Flush 1) (Carried 1 (ObtainOk (key 0 0 MemKind 0) (key 9 9 MemKind 0) (Mem 0 4096 7))) None None None
    ∷ entry 0 (Flush 1) (Carried 1 (ObtainOk (key 0 0 MemKind 0) (key 10 10 MemKind 0) (Mem 0 4096 7))) None None None
    ∷ entry 0 (Flush 1) (Carried 1 (ObtainOk (key 0 0 MemKind 0) (key 11 11 MemKind 0) (Mem 0 4096 7))) None None None
    ∷ entry 0 (Flush 1) (Carried 1 (ObtainOk (key 0 0 MemKind 0) (key 12 12 MemKind 0) (Mem 0 4096 7))) None None None
    ∷ entry 0 (Flush 1) (Carried 1 (ObtainOk (key 0 0 MemKind 0) (key 13 13 MemKind 0) (Mem 0 4096 7))) None None None
    ∷ entry 0 (Flush 1) (Carried 1 (ObtainOk (key 0 0 MemKind 0) (key 14 14 MemKind 0) (Mem 0 4096 7))) None None None
    ∷ entry 0 (Flush 1) (Carried 1 (ObtainOk (key 0 0 MemKind 0) (key 15 15 MemKind 0) (Mem 0 4096 7))) None None None
    ∷ entry 0 (Flush 1) (Carried 1 (ObtainOk (key 0 0 MemKind 0) (key 16 16 MemKind 0) (Mem 0 4096 7))) None None None
    ∷ entry 0 (Flush 1) (Carried 1 (ObtainOk (key 0 0 MemKind 0) (key 17 17 MemKind 0) (Mem 0 4096 7))) None None None
    ∷ entry 0 (Flush 1) (Carried 1 (ObtainOk (key 0 0 MemKind 0) (key 18 18 MemKind 0) (Mem 0 4096 7))) None None None
    ∷ entry 0 (Flush 1) (Carried 1 (ObtainOk (key 0 0 MemKind 0) (key 19 19 MemKind 0) (Mem 0 4096 7))) None None None
    ∷ entry 0 (Flush 1) (Carried 1 (ObtainOk (key 0 0 MemKind 0) (key 20 20 MemKind 0) (Mem 0 4096 7))) None None None
    ∷ entry 0 (Flush 1) (Carried 1 (ObtainOk (key 0 0 MemKind 0) (key 21 21 MemKind 0) (Mem 0 4096 7))) None None None
    ∷ entry 0 (Flush 1) (Carried 1 (ObtainOk (key 0 0 MemKind 0) (key 22 22 MemKind 0) (Mem 0 4096 7))) None None None
    ∷ entry 0 (Flush 1) (Carried 1 (ObtainOk (key 0 0 MemKind 0) (key 23 23 MemKind 0) (Mem 0 4096 7))) None None None
    ∷ entry 0 (Flush 1) (Carried 1 (ObtainOk (key 0 0 MemKind 0) (key 24 24 MemKind 0) (Mem 0 4096 7))) None None None
    ∷ entry 0 (Flush 1) (Carried 1 (ObtainOk (key 0 0 MemKind 0) (key 25 25 MemKind 0) (Mem 0 4096 7))) None None None
    ∷ entry 0 (Flush 1) (Carried 1 (ObtainOk (key 0 0 MemKind 0) (key 26 26 MemKind 0) (Mem 0 4096 7))) None None None
    ∷ entry 0 (Flush 1) (Carried 1 (ObtainOk (key 0 0 MemKind 0) (key 27 27 MemKind 0) (Mem 0 4096 7))) None None None
    ∷ entry 0 (Flush 1) (Carried 1 (ObtainOk (key 0 0 MemKind 0) (key 28 28 MemKind 0) (Mem 0 4096 7))) None None None
    ∷ entry 0 (Flush 1) (Carried 1 (ObtainOk (key 0 0 MemKind 0) (key 29 29 MemKind 0) (Mem 0 4096 7))) None None None
    ∷ entry 0 (Flush 1) (Carried 1 (ObtainOk (key 0 0 MemKind 0) (key 30 30 MemKind 0) (Mem 0 4096 7))) None None None
    ∷ entry 0 (Flush 1) (Carried 1 (ObtainOk (key 0 0 MemKind 0) (key 31 31 MemKind 0) (Mem 0 4096 7))) None None None
    ∷ entry 0 (Flush 1) (Carried 1 (ObtainOk (key 0 0 MemKind 0) (key 32 32 MemKind 0) (Mem 0 4096 7))) None None None
    ∷ entry 1 (Fetch 0) (Carried 0 (ObtainOk (key 0 0 MemKind 0) (key 1 1 MemKind 0) (Mem 0 4096 7))) None None None
    ∷ entry 1 Handle (Carried 0 (ObtainOk (key 0 0 MemKind 0) (key 1 1 MemKind 0) (Mem 0 4096 7))) None None None
    ∷ entry 1 (Resume 1) Nothing None None (reply 1 0)
    ∷ entry 1 (Fetch 0) (Carried 0 (ObtainOk (key 0 0 MemKind 0) (key 2 2 MemKind 0) (Mem 0 4096 7))) None None None
    ∷ entry 1 Handle (Carried 0 (ObtainOk (key 0 0 MemKind 0) (key 2 2 MemKind 0) (Mem 0 4096 7))) None None None
    ∷ entry 1 (Resume 2) Nothing None None (reply 2 0)
    ∷ entry 1 (Fetch 0) (Carried 0 (ObtainOk (key 0 0 MemKind 0) (key 3 3 MemKind 0) (Mem 0 4096 7))) None None None
    ∷ entry 1 Handle (Carried 0 (ObtainOk (key 0 0 MemKind 0) (key 3 3 MemKind 0) (Mem 0 4096 7))) None None None
    ∷ entry 1 (Resume 3) Nothing None None (reply 3 0)
    ∷ entry 1 (Fetch 0) (Carried 0 (ObtainOk (key 0 0 MemKind 0) (key 4 4 MemKind 0) (Mem 0 4096 7))) None None None
    ∷ entry 1 Handle (Carried 0 (ObtainOk (key 0 0 MemKind 0) (key 4 4 MemKind 0) (Mem 0 4096 7))) None None None
    ∷ entry 1 (Resume 4) Nothing None None (reply 4 0)
    ∷ entry 1 (Fetch 0) (Carried 0 (ObtainOk (key 0 0 MemKind 0) (key 5 5 MemKind 0) (Mem 0 4096 7))) None None None
    ∷ entry 1 Handle (Carried 0 (ObtainOk (key 0 0 MemKind 0) (key 5 5 MemKind 0) (Mem 0 4096 7))) None None None
    ∷ entry 1 (Resume 5) Nothing None None (reply 5 0)
    ∷ entry 1 (Fetch 0) (Carried 0 (ObtainOk (key 0 0 MemKind 0) (key 6 6 MemKind 0) (Mem 0 4096 7))) None None None
    ∷ entry 1 Handle (Carried 0 (ObtainOk (key 0 0 MemKind 0) (key 6 6 MemKind 0) (Mem 0 4096 7))) None None None
    ∷ entry 1 (Resume 6) Nothing None None (reply 6 0)
    ∷ entry 1 (Fetch 0) (Carried 0 (ObtainOk (key 0 0 MemKind 0) (key 7 7 MemKind 0) (Mem 0 4096 7))) None None None
    ∷ entry 1 Handle (Carried 0 (ObtainOk (key 0 0 MemKind 0) (key 7 7 MemKind 0) (Mem 0 4096 7))) None None None
    ∷ entry 1 (Resume 7) Nothing None None (reply 7 0)
    ∷ entry 1 (Fetch 0) (Carried 0 (ObtainOk (key 0 0 MemKind 0) (key 8 8 MemKind 0) (Mem 0 4096 7))) None None None
    ∷ entry 1 Handle (Carried 0 (ObtainOk (key 0 0 MemKind 0) (key 8 8 MemKind 0) (Mem 0 4096 7))) None None None
    ∷ entry 1 (Resume 8) Nothing None None (reply 8 0)
    ∷ entry 1 (Fetch 0) (Carried 0 (ObtainOk (key 0 0 MemKind 0) (key 9 9 MemKind 0) (Mem 0 4096 7))) None None None
    ∷ entry 1 Handle (Carried 0 (ObtainOk (key 0 0 MemKind 0) (key 9 9 MemKind 0) (Mem 0 4096 7))) None None None
    ∷ entry 1 (Resume 9) Nothing None None (reply 9 0)
    ∷ entry 1 (Fetch 0) (Carried 0 (ObtainOk (key 0 0 MemKind 0) (key 10 10 MemKind 0) (Mem 0 4096 7))) None None None
    ∷ entry 1 Handle (Carried 0 (ObtainOk (key 0 0 MemKind 0) (key 10 10 MemKind 0) (Mem 0 4096 7))) None None None
    ∷ entry 1 (Resume 10) Nothing None None (reply 10 0)
    ∷ entry 1 (Fetch 0) (Carried 0 (ObtainOk (key 0 0 MemKind 0) (key 11 11 MemKind 0) (Mem 0 4096 7))) None None None
    ∷ entry 1 Handle (Carried 0 (ObtainOk (key 0 0 MemKind 0) (key 11 11 MemKind 0) (Mem 0 4096 7))) None None None
    ∷ entry 1 (Resume 11) Nothing None None (reply 11 0)
    ∷ entry 1 (Fetch 0) (Carried 0 (ObtainOk (key 0 0 MemKind 0) (key 12 12 MemKind 0) (Mem 0 4096 7))) None None None
    ∷ entry 1 Handle (Carried 0 (ObtainOk (key 0 0 MemKind 0) (key 12 12 MemKind 0) (Mem 0 4096 7))) None None None
    ∷ entry 1 (Resume 12) Nothing None None (reply 12 0)
    ∷ entry 1 (Fetch 0) (Carried 0 (ObtainOk (key 0 0 MemKind 0) (key 13 13 MemKind 0) (Mem 0 4096 7))) None None None
    ∷ entry 1 Handle (Carried 0 (ObtainOk (key 0 0 MemKind 0) (key 13 13 MemKind 0) (Mem 0 4096 7))) None None None
    ∷ entry 1 (Resume 13) Nothing None None (reply 13 0)
    ∷ entry 1 (Fetch 0) (Carried 0 (ObtainOk (key 0 0 MemKind 0) (key 14 14 MemKind 0) (Mem 0 4096 7))) None None None
    ∷ entry 1 Handle (Carried 0 (ObtainOk (key 0 0 MemKind 0) (key 14 14 MemKind 0) (Mem 0 4096 7))) None None None
    ∷ entry 1 (Resume 14) Nothing None None (reply 14 0)
    ∷ entry 1 (Fetch 0) (Carried 0 (ObtainOk (key 0 0 MemKind 0) (key 15 15 MemKind 0) (Mem 0 4096 7))) None None None
    ∷ entry 1 Handle (Carried 0 (ObtainOk (key 0 0 MemKind 0) (key 15 15 MemKind 0) (Mem 0 4096 7))) None None None
    ∷ entry 1 (Resume 15) Nothing None None (reply 15 0)
    ∷ entry 1 (Fetch 0) (Carried 0 (ObtainOk (key 0 0 MemKind 0) (key 16 16 MemKind 0) (Mem 0 4096 7))) None None None
    ∷ entry 1 Handle (Carried 0 (ObtainOk (key 0 0 MemKind 0) (key 16 16 MemKind 0) (Mem 0 4096 7))) None None None
    ∷ entry 1 (Resume 16) Nothing None None (reply 16 0)
    ∷ entry 1 (Fetch 0) (Carried 0 (ObtainOk (key 0 0 MemKind 0) (key 17 17 MemKind 0) (Mem 0 4096 7))) None None None
    ∷ entry 1 Handle (Carried 0 (ObtainOk (key 0 0 MemKind 0) (key 17 17 MemKind 0) (Mem 0 4096 7))) None None None
    ∷ entry 1 (Resume 17) Nothing None None (reply 17 0)
    ∷ entry 1 (Fetch 0) (Carried 0 (ObtainOk (key 0 0 MemKind 0) (key 18 18 MemKind 0) (Mem 0 4096 7))) None None None
    ∷ entry 1 Handle (Carried 0 (ObtainOk (key 0 0 MemKind 0) (key 18 18 MemKind 0) (Mem 0 4096 7))) None None None
    ∷ entry 1 (Resume 18) Nothing None None (reply 18 0)
    ∷ entry 1 (Fetch 0) (Carried 0 (ObtainOk (key 0 0 MemKind 0) (key 19 19 MemKind 0) (Mem 0 4096 7))) None None None
    ∷ entry 1 Handle (Carried 0 (ObtainOk (key 0 0 MemKind 0) (key 19 19 MemKind 0) (Mem 0 4096 7))) None None None
    ∷ entry 1 (Resume 19) Nothing None None (reply 19 0)
    ∷ entry 1 (Fetch 0) (Carried 0 (ObtainOk (key 0 0 MemKind 0) (key 20 20 MemKind 0) (Mem 0 4096 7))) None None None
    ∷ entry 1 Handle (Carried 0 (ObtainOk (key 0 0 MemKind 0) (key 20 20 MemKind 0) (Mem 0 4096 7))) None None None
    ∷ entry 1 (Resume 20) Nothing None None (reply 20 0)
    ∷ entry 1 (Fetch 0) (Carried 0 (ObtainOk (key 0 0 MemKind 0) (key 21 21 MemKind 0) (Mem 0 4096 7))) None None None
    ∷ entry 1 Handle (Carried 0 (ObtainOk (key 0 0 MemKind 0) (key 21 21 MemKind 0) (Mem 0 4096 7))) None None None
    ∷ entry 1 (Resume 21) Nothing None None (reply 21 0)
    ∷ entry 1 (Fetch 0) (Carried 0 (ObtainOk (key 0 0 MemKind 0) (key 22 22 MemKind 0) (Mem 0 4096 7))) None None None
    ∷ entry 1 Handle (Carried 0 (ObtainOk (key 0 0 MemKind 0) (key 22 22 MemKind 0) (Mem 0 4096 7))) None None None
    ∷ entry 1 (Resume 22) Nothing None None (reply 22 0)
    ∷ entry 1 (Fetch 0) (Carried 0 (ObtainOk (key 0 0 MemKind 0) (key 23 23 MemKind 0) (Mem 0 4096 7))) None None None
    ∷ entry 1 Handle (Carried 0 (ObtainOk (key 0 0 MemKind 0) (key 23 23 MemKind 0) (Mem 0 4096 7))) None None None
    ∷ entry 1 (Resume 23) Nothing None None (reply 23 0)
    ∷ entry 1 (Fetch 0) (Carried 0 (ObtainOk (key 0 0 MemKind 0) (key 24 24 MemKind 0) (Mem 0 4096 7))) None None None
    ∷ entry 1 Handle (Carried 0 (ObtainOk (key 0 0 MemKind 0) (key 24 24 MemKind 0) (Mem 0 4096 7))) None None None
    ∷ entry 1 (Resume 24) Nothing None None (reply 24 0)
    ∷ entry 1 (Fetch 0) (Carried 0 (ObtainOk (key 0 0 MemKind 0) (key 25 25 MemKind 0) (Mem 0 4096 7))) None None None
    ∷ entry 1 Handle (Carried 0 (ObtainOk (key 0 0 MemKind 0) (key 25 25 MemKind 0) (Mem 0 4096 7))) None None None
    ∷ entry 1 (Resume 25) Nothing None None (reply 25 0)
    ∷ entry 1 (Fetch 0) (Carried 0 (ObtainOk (key 0 0 MemKind 0) (key 26 26 MemKind 0) (Mem 0 4096 7))) None None None
    ∷ entry 1 Handle (Carried 0 (ObtainOk (key 0 0 MemKind 0) (key 26 26 MemKind 0) (Mem 0 4096 7))) None None None
    ∷ entry 1 (Resume 26) Nothing None None (reply 26 0)
    ∷ entry 1 (Fetch 0) (Carried 0 (ObtainOk (key 0 0 MemKind 0) (key 27 27 MemKind 0) (Mem 0 4096 7))) None None None
    ∷ entry 1 Handle (Carried 0 (ObtainOk (key 0 0 MemKind 0) (key 27 27 MemKind 0) (Mem 0 4096 7))) None None None
    ∷ entry 1 (Resume 27) Nothing None None (reply 27 0)
    ∷ entry 1 (Fetch 0) (Carried 0 (ObtainOk (key 0 0 MemKind 0) (key 28 28 MemKind 0) (Mem 0 4096 7))) None None None
    ∷ entry 1 Handle (Carried 0 (ObtainOk (key 0 0 MemKind 0) (key 28 28 MemKind 0) (Mem 0 4096 7))) None None None
    ∷ entry 1 (Resume 28) Nothing None None (reply 28 0)
    ∷ entry 1 (Fetch 0) (Carried 0 (ObtainOk (key 0 0 MemKind 0) (key 29 29 MemKind 0) (Mem 0 4096 7))) None None None
    ∷ entry 1 Handle (Carried 0 (ObtainOk (key 0 0 MemKind 0) (key 29 29 MemKind 0) (Mem 0 4096 7))) None None None
    ∷ entry 1 (Resume 29) Nothing None None (reply 29 0)
    ∷ entry 1 (Fetch 0) (Carried 0 (ObtainOk (key 0 0 MemKind 0) (key 30 30 MemKind 0) (Mem 0 4096 7))) None None None
    ∷ entry 1 Handle (Carried 0 (ObtainOk (key 0 0 MemKind 0) (key 30 30 MemKind 0) (Mem 0 4096 7))) None None None
    ∷ entry 1 (Resume 30) Nothing None None (reply 30 0)
    ∷ entry 1 (Fetch 0) (Carried 0 (ObtainOk (key 0 0 MemKind 0) (key 31 31 MemKind 0) (Mem 0 4096 7))) None None None
    ∷ entry 1 Handle (Carried 0 (ObtainOk (key 0 0 MemKind 0) (key 31 31 MemKind 0) (Mem 0 4096 7))) None None None
    ∷ entry 1 (Resume 31) Nothing None None (reply 31 0)
    ∷ entry 1 (Fetch 0) (Carried 0 (ObtainOk (key 0 0 MemKind 0) (key 32 32 MemKind 0) (Mem 0 4096 7))) None None None
    ∷ entry 1 Handle (Carried 0 (ObtainOk (key 0 0 MemKind 0) (key 32 32 MemKind 0) (Mem 0 4096 7))) None None None
    ∷ entry 1 (Resume 32) Nothing None None (reply 32 0)
    ∷ entry 1 (Flush 0) (Carried 0 (ObtainReq (place 33 33 0) (SelTarget 0 0))) None None None
    ∷ entry 0 (Fetch 1) (Carried 1 (ObtainReq (place 33 33 0) (SelTarget 0 0))) None None None
    ∷ entry 0 Handle (Carried 1 (ObtainReq (place 33 33 0) (SelTarget 0 0))) None None None
    ∷ entry 0 (Upcall 0) (Asked 33 Yes) (grant (key 0 0 MemKind 0) (key 33 33 MemKind 0)) None None
    ∷ entry 0 (Flush 1) (Carried 1 (ObtainOk (key 0 0 MemKind 0) (key 33 33 MemKind 0) (Mem 0 4096 7))) None None None
    ∷ entry 1 (Fetch 0) (Carried 0 (ObtainOk (key 0 0 MemKind 0) (key 33 33 MemKind 0) (Mem 0 4096 7))) None None None
    ∷ entry 1 Handle (Carried 0 (ObtainOk (key 0 0 MemKind 0) (key 33 33 MemKind 0) (Mem 0 4096 7))) None None None
    ∷ entry 1 (Resume 33) Nothing None None (reply 33 0)
    ∷ []

unfoldable pub outcome : Played
outcome = record {
  entries = journal;
  all_enabled = true;
  left = [];
  made = 34;
  cut = 0;
  held = (key 0 0 MemKind 0, 0) ∷ (key 1 1 MemKind 0, 1) ∷ (key 2 2 MemKind 0, 1) ∷ (key 3 3 MemKind 0, 1)
      ∷ (key 4 4 MemKind 0, 1) ∷ (key 5 5 MemKind 0, 1) ∷ (key 6 6 MemKind 0, 1) ∷ (key 7 7 MemKind 0, 1)
      ∷ (key 8 8 MemKind 0, 1) ∷ (key 9 9 MemKind 0, 1) ∷ (key 10 10 MemKind 0, 1) ∷ (key 11 11 MemKind 0, 1)
      ∷ (key 12 12 MemKind 0, 1) ∷ (key 13 13 MemKind 0, 1) ∷ (key 14 14 MemKind 0, 1) ∷ (key 15 15 MemKind 0, 1)
      ∷ (key 16 16 MemKind 0, 1) ∷ (key 17 17 MemKind 0, 1) ∷ (key 18 18 MemKind 0, 1) ∷ (key 19 19 MemKind 0, 1)
      ∷ (key 20 20 MemKind 0, 1) ∷ (key 21 21 MemKind 0, 1) ∷ (key 22 22 MemKind 0, 1) ∷ (key 23 23 MemKind 0, 1)
      ∷ (key 24 24 MemKind 0, 1) ∷ (key 25 25 MemKind 0, 1) ∷ (key 26 26 MemKind 0, 1) ∷ (key 27 27 MemKind 0, 1)
      ∷ (key 28 28 MemKind 0, 1) ∷ (key 29 29 MemKind 0, 1) ∷ (key 30 30 MemKind 0, 1) ∷ (key 31 31 MemKind 0, 1)
      ∷ (key 32 32 MemKind 0, 1) ∷ (key 33 33 MemKind 0, 1) ∷ [];
  is_forest = true;
  is_linked = true;
  is_clean = true;
}

abbrev pub window_of_thirty_two : Type 0
window_of_thirty_two = played trace events ≡ outcome

unfoldable pub waiting : List Event
waiting =
    event 0 (Fetch 1)
    ∷ []

-- then exactly these are enabled
abbrev pub waits : Type 0
waits = enabled_after trace first_events ≡ waiting
