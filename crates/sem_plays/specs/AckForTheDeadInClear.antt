-- A delegate is acknowledged to a dead VPE when its root is being cleared.
use Rattle.std.specs.Prelude.{◌≡◌, true, Some, None, List, [], ◌∷◌}
use Rattle.sem_machine.specs.Prelude.{MemKind, Mem, DelegateReq, DelegatePrepared, Ack, Orphan, RevokeReq, RevokeDone}
use Rattle.sem_machine.specs.Prelude.{Derive, Delegate, Clear, Calls, Fetch, Handle, Upcall, Resume, Flush, Kill}
use Rattle.sem_machine.specs.Prelude.{Event, Yes, Called, Carried, Asked, Nothing, Entry, Setup, event}
use Rattle.sem_plays.specs.Words.{key, grant, reply, entry, owners, root, vpe}
use Rattle.sem_plays.specs.Played.{Played, played}

unfoldable pub trace : Setup
trace = record {
  version = 1;
  window = 4;
  kernels = 2;
  owners = owners 2 (Some 0 ∷ Some 1 ∷ []);
  vpes =
      vpe 0 0 (root 0 (Mem 0 4096 7) ∷ []) (Delegate 0 1 4 ∷ Clear 0 ∷ Derive 0 1 0 1 1 ∷ [])
      ∷ vpe 1 1 [] []
      ∷ [];
  services = [];
  offers = [];
  denies = [];
  kills = (1, 1) ∷ [];
}

unfoldable pub events : List Event
events =
    event 0 (Calls 0)
    ∷ event 0 (Flush 1)
    ∷ event 1 (Fetch 0)
    ∷ event 1 Handle
    ∷ event 1 (Upcall 1)
    ∷ event 1 (Flush 0)
    ∷ event 0 (Fetch 1)
    ∷ event 0 Handle
    ∷ event 0 (Resume 0)
    ∷ event 1 (Kill 1)
    ∷ event 0 (Calls 0)
    ∷ event 0 (Flush 1)
    ∷ event 0 (Flush 1)
    ∷ event 1 (Fetch 0)
    ∷ event 1 Handle
    ∷ event 1 (Fetch 0)
    ∷ event 1 Handle
    ∷ event 1 (Flush 0)
    ∷ event 0 (Fetch 1)
    ∷ event 0 Handle
    ∷ event 1 (Flush 0)
    ∷ event 0 (Fetch 1)
    ∷ event 0 Handle
    ∷ event 0 (Resume 0)
    ∷ event 0 (Calls 0)
    ∷ []

unfoldable pub journal : List Entry
journal =
    entry 0 (Calls 0) (Called 0 (Delegate 0 1 4)) None None None
    ∷ entry 0 (Flush 1) (Carried 1 (DelegateReq (key 0 0 MemKind 0) (Mem 0 4096 7) 1 4)) None None None
    ∷ entry 1 (Fetch 0) (Carried 0 (DelegateReq (key 0 0 MemKind 0) (Mem 0 4096 7) 1 4)) None None None
    ∷ entry 1 Handle (Carried 0 (DelegateReq (key 0 0 MemKind 0) (Mem 0 4096 7) 1 4)) None None None
    ∷ entry 1 (Upcall 1) (Asked 0 Yes) None None None
    ∷ entry 1 (Flush 0) (Carried 0 (DelegatePrepared (key 0 0 MemKind 0) (key 1 1 MemKind 0))) None None None
    ∷ entry 0 (Fetch 1) (Carried 1 (DelegatePrepared (key 0 0 MemKind 0) (key 1 1 MemKind 0))) None None None
    ∷ entry 0 Handle (Carried 1 (DelegatePrepared (key 0 0 MemKind 0) (key 1 1 MemKind 0))) None None None
    ∷ entry 0 (Resume 0) Nothing (grant (key 0 0 MemKind 0) (key 1 1 MemKind 0)) None (reply 0 0)
    ∷ entry 1 (Kill 1) Nothing None None None
    ∷ entry 0 (Calls 0) (Called 1 (Clear 0)) None (Some (key 0 0 MemKind 0)) None
    ∷ entry 0 (Flush 1) (Carried 1 (Ack (key 1 1 MemKind 0) true)) None None None
    ∷ entry 0 (Flush 1) (Carried 1 (RevokeReq (key 1 1 MemKind 0) 0)) None None None
    ∷ entry 1 (Fetch 0) (Carried 0 (Ack (key 1 1 MemKind 0) true)) None None None
    ∷ entry 1 Handle (Carried 0 (Ack (key 1 1 MemKind 0) true)) None None None
    ∷ entry 1 (Fetch 0) (Carried 0 (RevokeReq (key 1 1 MemKind 0) 0)) None None None
    ∷ entry 1 Handle (Carried 0 (RevokeReq (key 1 1 MemKind 0) 0)) None None None
    ∷ entry 1 (Flush 0) (Carried 0 (Orphan (key 0 0 MemKind 0) (key 1 1 MemKind 0))) None None None
    ∷ entry 0 (Fetch 1) (Carried 1 (Orphan (key 0 0 MemKind 0) (key 1 1 MemKind 0))) None None None
    ∷ entry 0 Handle (Carried 1 (Orphan (key 0 0 MemKind 0) (key 1 1 MemKind 0))) None None None
    ∷ entry 1 (Flush 0) (Carried 0 (RevokeDone 0)) None None None
    ∷ entry 0 (Fetch 1) (Carried 1 (RevokeDone 0)) None None None
    ∷ entry 0 Handle (Carried 1 (RevokeDone 0)) None None None
    ∷ entry 0 (Resume 0) Nothing None None (reply 0 0)
    ∷ entry 0 (Calls 0) (Called 2 (Derive 0 1 0 1 1)) (grant (key 0 0 MemKind 0) (key 0 0 MemKind 1)) None (reply 0 0)
    ∷ []

unfoldable pub outcome : Played
outcome = record {
  entries = journal;
  all_enabled = true;
  left = [];
  made = 3;
  cut = 1;
  held = (key 0 0 MemKind 0, 0) ∷ (key 0 0 MemKind 1, 1) ∷ [];
  is_forest = true;
  is_linked = true;
  is_clean = true;
}

abbrev pub ack_for_the_dead_in_clear : Type 0
ack_for_the_dead_in_clear = played trace events ≡ outcome
