-- The lives that some plays tell.
use Rattle.std.specs.Prelude.{◌≡◌, ℕ, List, [], ◌∷◌, Option, Some, None, true}
use Rattle.sem_machine.specs.Prelude.{MemKind, KeyName, Calls, Fetch, Handle, Upcall, Resume, Flush, Event, start}
use Rattle.sem_machine.specs.Prelude.{event}
use Rattle.sem_safety.specs.Walks.{all_enabled, journal_of}
use Rattle.sem_plays.specs.Words.{key}
use Rattle.sem_plays.specs.TwoRevokesMeet
use Rattle.sem_plays.specs.ClearTakesBack
use Rattle.sem_query.specs.Lives.{KeyLife, lives}

abbrev pub lived : KeyName → ℕ → Option ℕ → Option ℕ → List ℕ → Option ℕ → KeyLife
lived k sel granted held marked gone =
    record { key = k; sel = sel; granted = granted; held = held; marked = marked; gone = gone }

-- VPE 1 revokes a key that it obtained from VPE 0 and delegated to VPE 2, and VPE 0 revokes what it
-- gave.
abbrev pub two_revokes_meet_lives : Type 0
two_revokes_meet_lives =
    lives TwoRevokesMeet.trace TwoRevokesMeet.journal
    ≡ lived (key 0 0 MemKind 0) 0 None None (22 ∷ []) (Some 35)
    ∷ lived (key 1 1 MemKind 0) 1 (Some 4) (Some 8) (21 ∷ []) (Some 31)
    ∷ lived (key 2 2 MemKind 0) 1 (Some 17) (Some 20) [] (Some 28)
    ∷ []

-- The same, but only VPE 0 revokes: by entry 21. Its child is at the other kernel, and entry 24
-- marks it there.
unfoldable pub one_revoke : List Event
one_revoke =
    event 1 (Calls 1)
    ∷ event 1 (Flush 0)
    ∷ event 0 (Fetch 1)
    ∷ event 0 Handle
    ∷ event 0 (Upcall 0)
    ∷ event 0 (Flush 1)
    ∷ event 1 (Fetch 0)
    ∷ event 1 Handle
    ∷ event 1 (Resume 1)
    ∷ event 1 (Calls 1)
    ∷ event 1 (Flush 0)
    ∷ event 0 (Fetch 1)
    ∷ event 0 Handle
    ∷ event 0 (Upcall 2)
    ∷ event 0 (Flush 1)
    ∷ event 1 (Fetch 0)
    ∷ event 1 Handle
    ∷ event 1 (Resume 1)
    ∷ event 1 (Flush 0)
    ∷ event 0 (Fetch 1)
    ∷ event 0 Handle
    ∷ event 0 (Calls 0)
    ∷ event 0 (Flush 1)
    ∷ event 1 (Fetch 0)
    ∷ event 1 Handle
    ∷ event 1 (Flush 0)
    ∷ event 0 (Fetch 1)
    ∷ event 0 Handle
    ∷ event 0 (Flush 1)
    ∷ event 1 (Fetch 0)
    ∷ event 1 Handle
    ∷ []

abbrev pub one_revoke_is_a_run : Type 0
one_revoke_is_a_run = all_enabled TwoRevokesMeet.trace (start TwoRevokesMeet.trace) one_revoke ≡ true

abbrev pub marked_when_asked_for : Type 0
marked_when_asked_for =
    lives TwoRevokesMeet.trace (journal_of TwoRevokesMeet.trace one_revoke)
    ≡ lived (key 0 0 MemKind 0) 0 None None (21 ∷ []) None
    ∷ lived (key 1 1 MemKind 0) 1 (Some 4) (Some 8) (24 ∷ []) (Some 30)
    ∷ lived (key 2 2 MemKind 0) 1 (Some 17) (Some 20) [] (Some 27)
    ∷ []

-- A clear removes the mark of its root again.
abbrev pub clear_takes_back_lives : Type 0
clear_takes_back_lives =
    lives ClearTakesBack.trace ClearTakesBack.journal
    ≡ lived (key 0 0 MemKind 0) 0 None None (9 ∷ 15 ∷ []) None
    ∷ lived (key 1 1 MemKind 0) 5 (Some 4) (Some 8) [] (Some 12)
    ∷ []
