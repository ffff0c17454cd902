-- A schedule in which each call brings as many entries as it can ("The bound" in docs/proof.md).
use Rattle.std.specs.Prelude.{ℕ, List, [], ◌∷◌, ◌++◌, Option, Some, None, replicate}
use Rattle.std.specs.List.{slice_set}
use Rattle.sem_machine.specs.Prelude.{PES, Mem, Serv, Derive, Obtain, Delegate, OpenSession, AskOffer, Revoke, Clear}
use Rattle.sem_machine.specs.Prelude.{Exit, Calls, Fetch, Handle, Upcall, Resume, Flush, Kill, Event, Entry, Root}
use Rattle.sem_machine.specs.Prelude.{VpeDecl, Setup, event}
use Rattle.sem_msg.specs.Setup.{root_key}
use Rattle.sem_safety.specs.Walks.{journal_of}

abbrev pub memory : Root
memory = record { sel = 0; object = Mem 0 4096 7 }

abbrev pub service : Root
service = record { sel = 1; object = Serv 1 }

-- VPE 0 of kernel 0 serves, gives its memory to both others, and ends: 3, 21 and 1
abbrev pub serving_vpe : VpeDecl
serving_vpe = record {
  vpe = 0;
  pe = 0;
  roots = memory ∷ service ∷ [];
  calls = Delegate 0 1 4 ∷ Delegate 0 2 4 ∷ Exit ∷ [];
}

-- VPE 1 of the same kernel: 3, 3, 1, 2 and 2
abbrev pub neighbour : VpeDecl
neighbour = record {
  vpe = 1;
  pe = 1;
  roots = [];
  calls = Obtain 0 0 0 ∷ OpenSession 1 1 ∷ Derive 0 2 0 16 1 ∷ Clear 0 ∷ Revoke 0 ∷ [];
}

-- VPE 2 of kernel 1: 18 each
abbrev pub stranger : VpeDecl
stranger = record {
  vpe = 2;
  pe = 2;
  roots = [];
  calls = Obtain 0 0 0 ∷ OpenSession 1 1 ∷ AskOffer 2 1 0 ∷ [];
}

-- the kernel that owns each PE
abbrev pub each_owner : List (Option ℕ)
each_owner = slice_set (slice_set (slice_set (replicate PES None) 0 (Some 0)) 1 (Some 0)) 2 (Some 1)

-- the server's memory is offered too, and the stranger is killed
unfoldable pub each_cost : Setup
each_cost = record {
  version = 2;
  window = 4;
  kernels = 2;
  owners = record { kernels = 2; owners = each_owner };
  vpes = serving_vpe ∷ neighbour ∷ stranger ∷ [];
  services = record { name = 1; key = root_key serving_vpe 1 service } ∷ [];
  offers = record { name = 1; index = 0; sel = 0 } ∷ [];
  denies = [];
  kills = (2, 1) ∷ [];
}

-- a message goes from one kernel to another, and is handled there
abbrev carry_events : ℕ → ℕ → List Event
carry_events i j = event i (Flush j) ∷ event j (Fetch i) ∷ event j Handle ∷ []

-- the neighbour asks the server
abbrev asked_near : List Event
asked_near = event 0 (Calls 1) ∷ event 0 (Upcall 0) ∷ event 0 (Resume 1) ∷ []

-- the stranger asks the server
abbrev asked_far : List Event
asked_far =
    event 1 (Calls 2) ∷ carry_events 1 0 ++ event 0 (Upcall 0) ∷ carry_events 0 1 ++ event 1 (Resume 2) ∷ []

unfoldable pub each_cost_events : List Event
each_cost_events =
    -- within kernel 0: an obtain, an open, a delegate, a derive, a clear, a revoke
    asked_near ++ asked_near
    ++ event 0 (Calls 0) ∷ event 0 (Upcall 1) ∷ event 0 (Resume 0)
    ∷ event 0 (Calls 1)
    ∷ event 0 (Calls 1) ∷ event 0 (Resume 1)
    ∷ event 0 (Calls 1) ∷ event 0 (Resume 1)
    -- between the kernels: an obtain, an open, an ask of an offer, a delegate
    ∷ asked_far ++ asked_far ++ asked_far
    ++ event 0 (Calls 0) ∷ carry_events 0 1
    ++ event 1 (Upcall 2) ∷ carry_events 1 0
    ++ event 0 (Resume 0) ∷ carry_events 0 1
    -- Both end. Four capabilities leave their parents, which ask for them at the same time.
    ++ event 1 (Kill 2) ∷ event 0 (Calls 0)
    ∷ carry_events 0 1 ++ carry_events 0 1 ++ carry_events 0 1 ++ carry_events 0 1
    ++ carry_events 1 0 ++ carry_events 1 0 ++ carry_events 1 0 ++ carry_events 1 0
    ++ carry_events 1 0 ++ carry_events 1 0 ++ carry_events 1 0 ++ carry_events 1 0

-- the journal that they make
abbrev pub each_cost_journal : List Entry
each_cost_journal = journal_of each_cost each_cost_events
