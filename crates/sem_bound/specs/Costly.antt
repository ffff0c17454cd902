-- A schedule of one call and two kills with 23 entries: a delegate across kernels, the end of the
-- receiver, and the end of the giver ("The bound" in docs/proof.md).
use Rattle.std.specs.Prelude.{List, [], ◌∷◌}
use Rattle.sem_machine.specs.Prelude.{Delegate, Calls, Fetch, Handle, Upcall, Resume, Flush, Kill, Event, Entry}
use Rattle.sem_machine.specs.Prelude.{Setup, event}
use Rattle.sem_safety.specs.Walks.{journal_of, pair}

-- VPE 0 gives its memory to VPE 1, and both are killed
unfoldable pub costly : Setup
costly = pair (Delegate 0 1 4 ∷ []) [] ((0, 1) ∷ (1, 1) ∷ [])

unfoldable pub costly_events : List Event
costly_events =
    event 0 (Calls 0) ∷ event 0 (Flush 1) ∷ event 1 (Fetch 0) ∷ event 1 Handle
    ∷ event 1 (Upcall 1) ∷ event 1 (Flush 0) ∷ event 0 (Fetch 1) ∷ event 0 Handle
    ∷ event 0 (Resume 0) ∷ event 0 (Flush 1) ∷ event 1 (Fetch 0) ∷ event 1 Handle
    ∷ event 1 (Kill 1) ∷ event 0 (Kill 0)
    ∷ event 0 (Flush 1) ∷ event 1 (Fetch 0) ∷ event 1 Handle
    ∷ event 1 (Flush 0) ∷ event 0 (Fetch 1) ∷ event 0 Handle
    ∷ event 1 (Flush 0) ∷ event 0 (Fetch 1) ∷ event 0 Handle
    ∷ []

-- the journal that they make
abbrev pub costly_journal : List Entry
costly_journal = journal_of costly costly_events
