-- Two clients and a file. The second shares it and closes it while the share is on its way to the
-- other kernel; then the first writes. So the laws of file commands are not empty.
use Rattle.std.specs.Prelude.{◌≡◌, ℕ, Bool, true, ◌&&◌, ◌==◌, List, [], ◌∷◌, length, slice_get, Option, Some}
use Rattle.std.specs.Prelude.{option_map}
use Rattle.std.specs.List.{list_all}
use Rattle.sem_machine.specs.Prelude.{Revoke, Write as WriteCall, Ack, Calls, Fetch, Handle, Upcall}
use Rattle.sem_machine.specs.Prelude.{Resume, Flush, Event, Detail, Called, Carried, Entry, Setup, replies}
use Rattle.sem_machine.specs.Prelude.{World, event, start, after, entry_of, is_enabled}
use Rattle.sem_files.specs.declared.files.FileAct.TheVariants.{OpenFile, Write, Share, Close}
use Rattle.sem_files.specs.Files.{Files}
use Rattle.sem_files.specs.Compiled.{compiled}
use Rattle.sem_fs.specs.Examples.{nth_memory_key}
use Rattle.sem_fs.specs.Openings.{Opening, IsClosedOpening}

unfoldable pub two_clients : Files
two_clients = record {
  kernels = 2;
  files = record { file = 3; extents = 1 } ∷ [];
  clients = 1 ∷ 2 ∷ [];
  commands =
      record { client = 2; act = OpenFile 0 3 }
      ∷ record { client = 2; act = Share 0 1 5 }
      ∷ record { client = 2; act = Close 0 }
      ∷ record { client = 1; act = OpenFile 4 3 }
      ∷ record { client = 1; act = Write 4 0 100 }
      ∷ [];
}

-- an order of events
unfoldable pub shared_events : List Event
shared_events =
    event 0 (Calls 2)
    ∷ event 1 (Calls 1)
    ∷ event 1 (Flush 0)
    ∷ event 0 (Fetch 1)
    ∷ event 0 (Upcall 0)
    ∷ event 0 (Resume 2)
    ∷ event 0 Handle
    ∷ event 0 (Upcall 0)
    ∷ event 0 (Calls 2)
    ∷ event 0 (Upcall 0)
    ∷ event 0 (Flush 1)
    ∷ event 1 (Fetch 0)
    ∷ event 1 Handle
    ∷ event 1 (Resume 1)
    ∷ event 1 (Calls 1)
    ∷ event 1 (Flush 0)
    ∷ event 0 (Fetch 1)
    ∷ event 0 Handle
    ∷ event 0 (Resume 2)
    ∷ event 0 (Calls 2)
    ∷ event 0 (Upcall 0)
    ∷ event 0 (Flush 1)
    ∷ event 1 (Fetch 0)
    ∷ event 0 (Flush 1)
    ∷ event 1 Handle
    ∷ event 1 (Upcall 1)
    ∷ event 1 (Flush 0)
    ∷ event 0 (Fetch 1)
    ∷ event 0 Handle
    ∷ event 1 (Fetch 0)
    ∷ event 1 Handle
    ∷ event 0 (Resume 2)
    ∷ event 1 (Resume 1)
    ∷ event 0 (Calls 2)
    ∷ event 0 (Flush 1)
    ∷ event 0 (Flush 1)
    ∷ event 1 (Calls 1)
    ∷ event 1 (Fetch 0)
    ∷ event 1 Handle
    ∷ event 1 (Fetch 0)
    ∷ event 1 Handle
    ∷ event 1 (Flush 0)
    ∷ event 0 (Fetch 1)
    ∷ event 0 Handle
    ∷ event 0 (Resume 2)
    ∷ event 1 (Calls 1)
    ∷ []

-- the entries of events from a world on
unfoldable pub happened : Setup → World → List Event → List Entry
happened T W [] = []
happened T W (e ∷ es) = entry_of T W e ∷ happened T (after T W e) es

-- whether each event is enabled in its turn
unfoldable pub are_enabled : Setup → World → List Event → Bool
are_enabled T W [] = true
are_enabled T W (e ∷ es) = is_enabled T W e && are_enabled T (after T W e) es

abbrev pub journal_of_two : List Entry
journal_of_two = happened (compiled two_clients) (start (compiled two_clients)) shared_events

abbrev pub closed_in_two : Type 0
closed_in_two = (o : Opening two_clients) × IsClosedOpening journal_of_two o

abbrev pub detail_at : ℕ → Option Detail
detail_at n = option_map (λ e. e.detail) (slice_get journal_of_two n)

-- What the journal tells: client 2 closes, and only then the share is acknowledged to the other
-- kernel. Client 1 writes after the answer to the close. All 8 replies are successes.
pub record ClosesWhileSharing : Type 0 where
  pub closes : detail_at 33 ≡ Some (Called 3 (Revoke 1))
  pub acknowledged : detail_at 34 ≡ Some (Carried 1 (Ack (nth_memory_key 1 2) true))
  pub arrived : detail_at 38 ≡ Some (Carried 0 (Ack (nth_memory_key 1 2) true))
  pub closed : option_map (λ e. e.reply) (slice_get journal_of_two 44)
      ≡ Some (Some (record { vpe = 2; code = 0 }))
  pub writes : detail_at 45 ≡ Some (Called 3 (WriteCall 0 0 100))
  pub entries : length journal_of_two ≡ 46
  pub replies_there : length (replies journal_of_two) ≡ 8
  pub all_succeed : list_all (λ r. r.code == 0) (replies journal_of_two) ≡ true
