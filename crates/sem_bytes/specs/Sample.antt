-- Two journals that the law of accesses and the text of contents cover: overlapping writes, in one
-- kernel and across two.
use Rattle.std.specs.Prelude.{ℕ, true, false, List, [], ◌∷◌, ◌++◌, codes, Some, None, replicate}
use Rattle.std.specs.List.{slice_set}
use Rattle.sem_machine.specs.Prelude.{MemKind, PES, KeyName, Call, Derive, Obtain, Bind, Read, Write, Calls, Fetch}
use Rattle.sem_machine.specs.Prelude.{Handle, Upcall, Resume, Flush, Event, Entry, Setup, event}
use Rattle.sem_safety.specs.Walks.{journal_of, pair, first_vpe}
use Rattle.sem_access.specs.declared.access.Access.{Access}

-- the memory of VPE 0
abbrev pub memory_key : KeyName
memory_key = record { pe = 0; vpe = 0; kind = MemKind; number = 0 }

-- One kernel: a VPE writes two overlapping ranges, and reads twice.

unfoldable pub alone : Setup
alone = record {
  version = 1;
  window = 4;
  kernels = 1;
  owners = record { kernels = 1; owners = slice_set (replicate PES None) 0 (Some 0) };
  vpes =
      first_vpe (Bind 0 0 ∷ Write 0 10 20 ∷ Write 0 20 20 ∷ Read 0 0 25 ∷ Read 0 4096 0 ∷ []) ∷ [];
  services = [];
  offers = [];
  denies = [];
  kills = [];
}

abbrev pub alone_journal : List Entry
alone_journal =
    journal_of alone (
    event 0 (Calls 0)
    ∷ event 0 (Calls 0)
    ∷ event 0 (Calls 0)
    ∷ event 0 (Calls 0)
    ∷ event 0 (Calls 0)
    ∷ []
    )

abbrev pub alone_accesses : List Access
alone_accesses =
    record { entry = 1; vpe = 0; key = memory_key; write = true; base = 10; len = 20 }
    ∷ record { entry = 2; vpe = 0; key = memory_key; write = true; base = 20; len = 20 }
    ∷ record { entry = 3; vpe = 0; key = memory_key; write = false; base = 0; len = 25 }
    ∷ record { entry = 4; vpe = 0; key = memory_key; write = false; base = 4096; len = 0 }
    ∷ []

unfoldable pub alone_text : List ℕ
alone_text =
    codes "semper contents 1" ++ 10
    ∷ codes "read 3 0 25 15 2" ++ 10
    ∷ codes "read 4 4096 0 0 -" ++ 10
    ∷ codes "run 10 10 1" ++ 10
    ∷ codes "run 20 20 2" ++ 10
    ∷ codes "end" ++ 10
    ∷ []

-- Two kernels: a VPE writes to its memory. Another one obtained a part of it, writes to that part,
-- and reads from it.

abbrev pub owner_calls : List Call
owner_calls = Derive 0 1 16 1024 3 ∷ Bind 0 0 ∷ Write 0 10 20 ∷ []

abbrev pub obtainer_calls : List Call
obtainer_calls = Obtain 0 0 1 ∷ Bind 0 0 ∷ Write 0 4 20 ∷ Read 0 0 30 ∷ []

unfoldable pub sample : Setup
sample = pair owner_calls obtainer_calls []

-- the part is obtained across the kernels
abbrev pub obtained : List Event
obtained =
    event 0 (Calls 0) ∷ event 1 (Calls 1) ∷ event 1 (Flush 0) ∷ event 0 (Fetch 1) ∷ event 0 Handle
    ∷ event 0 (Upcall 0) ∷ event 0 (Flush 1) ∷ event 1 (Fetch 0) ∷ event 1 Handle ∷ event 1 (Resume 1) ∷ []

-- both bind it, the owner writes, and the other one writes and reads
abbrev pub used : List Event
used =
    event 0 (Calls 0)
    ∷ event 1 (Calls 1)
    ∷ event 0 (Calls 0)
    ∷ event 1 (Calls 1)
    ∷ event 1 (Calls 1)
    ∷ []

abbrev pub sample_journal : List Entry
sample_journal = journal_of sample (obtained ++ used)

-- the part that was obtained
abbrev pub obtained_key : KeyName
obtained_key = record { pe = 1; vpe = 1; kind = MemKind; number = 0 }

abbrev pub sample_accesses : List Access
sample_accesses =
    record { entry = 12; vpe = 0; key = memory_key; write = true; base = 10; len = 20 }
    ∷ record { entry = 13; vpe = 1; key = obtained_key; write = true; base = 20; len = 20 }
    ∷ record { entry = 14; vpe = 1; key = obtained_key; write = false; base = 16; len = 30 }
    ∷ []
