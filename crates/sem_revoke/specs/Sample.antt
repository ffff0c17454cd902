-- A schedule of two kernels: an obtain across them, a bound endpoint, a revoke with its answer,
-- another obtain, and a clear with its answer. The law of safety covers it.
use Rattle.std.specs.Prelude.{ℕ, List, [], ◌∷◌, ◌++◌}
use Rattle.sem_machine.specs.Prelude.{MemKind, KeyName, Call, Derive, Obtain, Revoke, Clear, Bind, Calls, Fetch}
use Rattle.sem_machine.specs.Prelude.{Handle, Upcall, Resume, Flush, Event, Entry, Setup, event}
use Rattle.sem_safety.specs.Walks.{journal_of, pair}

-- VPE 0 derives a part of its memory, revokes it, and clears the memory
abbrev pub owner_calls : List Call
owner_calls = Derive 0 1 0 1024 3 ∷ Revoke 1 ∷ Clear 0 ∷ []

-- VPE 1 obtains the part, binds an endpoint to it, and obtains the memory itself
abbrev pub obtainer_calls : List Call
obtainer_calls = Obtain 0 0 1 ∷ Bind 0 0 ∷ Obtain 1 0 0 ∷ []

unfoldable pub sample : Setup
sample = pair owner_calls obtainer_calls []

-- the memory, and the part derived from it
abbrev pub memory_key : KeyName
memory_key = record { pe = 0; vpe = 0; kind = MemKind; number = 0 }

abbrev pub derived_key : KeyName
derived_key = record { pe = 0; vpe = 0; kind = MemKind; number = 1 }

-- what VPE 1 obtains: first the part, then the memory
abbrev pub obtained_key : ℕ → KeyName
obtained_key n = record { pe = 1; vpe = 1; kind = MemKind; number = n }

-- kernel 1 asks kernel 0 for VPE 1, and VPE 0 gives
abbrev pub ask_events : List Event
ask_events = event 1 (Calls 1) ∷ event 1 (Flush 0) ∷ event 0 (Fetch 1) ∷ event 0 Handle ∷ event 0 (Upcall 0) ∷ []

-- the child arrives, and is installed
abbrev pub install_events : List Event
install_events = event 0 (Flush 1) ∷ event 1 (Fetch 0) ∷ event 1 Handle ∷ event 1 (Resume 1) ∷ []

-- VPE 0 revokes or clears: kernel 1 gets the request, does it, and VPE 0 has its answer
abbrev pub recalled : List Event
recalled =
    event 0 (Calls 0) ∷ event 0 (Flush 1) ∷ event 1 (Fetch 0) ∷ event 1 Handle
    ∷ event 1 (Flush 0) ∷ event 0 (Fetch 1) ∷ event 0 Handle ∷ event 0 (Resume 0) ∷ []

-- the journal up to the grant of the part, to the bind, to the answer of the revoke, and to that of
-- the clear
abbrev pub to_grant : List Event
to_grant = event 0 (Calls 0) ∷ ask_events

abbrev pub to_bind : List Event
to_bind = to_grant ++ install_events ++ event 1 (Calls 1) ∷ []

abbrev pub to_revoke : List Event
to_revoke = to_bind ++ recalled

abbrev pub to_clear : List Event
to_clear = to_revoke ++ ask_events ++ install_events ++ recalled

abbrev pub sample_journal : List Event → List Entry
sample_journal es = journal_of sample es
