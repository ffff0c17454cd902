-- A schedule that sends messages of every kind, and after which nothing is left to do ("Messages"
-- in docs/proof.md).
use Rattle.std.specs.Prelude.{ℕ, List, [], ◌∷◌, ◌++◌}
use Rattle.sem_machine.specs.Prelude.{Call, Obtain, Delegate, Revoke, Clear, Calls, Fetch, Handle, Upcall, Resume}
use Rattle.sem_machine.specs.Prelude.{Flush, Kill, Event, Entry, Setup, event}
use Rattle.sem_safety.specs.Walks.{journal_of, pair}

-- VPE 0 delegates its memory twice to the same selector of VPE 1, and clears it
abbrev pub giver_calls : List Call
giver_calls = Delegate 0 1 4 ∷ Delegate 0 1 4 ∷ Clear 0 ∷ []

-- VPE 1 obtains the memory, asks for something that is not there, revokes what it obtained, obtains
-- again
abbrev pub taker_calls : List Call
taker_calls = Obtain 0 0 0 ∷ Obtain 1 0 9 ∷ Revoke 0 ∷ Obtain 0 0 0 ∷ []

-- VPE 1 is killed after six replies
unfoldable pub each_kind : Setup
each_kind = pair giver_calls taker_calls ((1, 6) ∷ [])

-- a message goes from one kernel to another, and is handled there
abbrev carry_events : ℕ → ℕ → List Event
carry_events i j = event i (Flush j) ∷ event j (Fetch i) ∷ event j Handle ∷ []

-- VPE v of kernel v asks the VPE of kernel w, and has its answer
abbrev ask_events : ℕ → ℕ → List Event
ask_events v w =
    event v (Calls v) ∷ carry_events v w ++ event w (Upcall w) ∷ carry_events w v ++ event v (Resume v) ∷ []

unfoldable pub each_kind_events : List Event
each_kind_events =
    -- the memory is delegated, and acknowledged; then a delegate is refused
    ask_events 0 1 ++ carry_events 0 1 ++ ask_events 0 1
    -- an obtain is granted; an obtain is refused
    ++ ask_events 1 0 ++ ask_events 1 0
    -- the obtained memory is revoked, the delegated one is cleared
    ++ event 1 (Calls 1) ∷ event 1 (Resume 1) ∷ carry_events 1 0
    ++ event 0 (Calls 0) ∷ carry_events 0 1 ++ carry_events 1 0 ++ event 0 (Resume 0)
    -- an obtain is granted to a VPE that is dead when the answer comes
    ∷ event 1 (Calls 1) ∷ carry_events 1 0 ++ event 0 (Upcall 0) ∷ event 1 (Kill 1)
    ∷ carry_events 0 1 ++ carry_events 1 0

-- the journal that they make
abbrev pub each_kind_journal : List Entry
each_kind_journal = journal_of each_kind each_kind_events
