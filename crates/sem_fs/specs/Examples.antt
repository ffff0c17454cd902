-- A file that one client opens, writes and closes, and what comes of it: a test of the definitions
-- by computation.
use Rattle.std.specs.Prelude.{◌≡◌, ℕ, zero, suc, Bool, true, List, [], ◌∷◌, length, map, flat_map, ◌==◌}
use Rattle.std.specs.List.{list_all}
use Rattle.sem_machine.specs.Prelude.{MemKind, ServKind, SessKind, KeyName, OpenSession, AskOffer, Delegate, Revoke}
use Rattle.sem_machine.specs.Prelude.{Bind, Write as WriteCall, Event, Entry, Setup, replies, World, start, after}
use Rattle.sem_machine.specs.Prelude.{entry_of, enabled, world_after, made, cut}
use Rattle.sem_files.specs.declared.files.FileAct.TheVariants.{OpenFile, Write, Share, Close}
use Rattle.sem_files.specs.Files.{Files}
use Rattle.sem_files.specs.Compiled.{client_calls, compiled}
use Rattle.sem_fs.specs.Openings.{Opening, IsClosedOpening}

abbrev pub nth_memory_key : ℕ → ℕ → KeyName
nth_memory_key v n = record { pe = v; vpe = v; kind = MemKind; number = n }

-- one client, and one file of two extents, written across their border
unfoldable pub one_client : Files
one_client = record {
  kernels = 2;
  files = record { file = 0; extents = 2 } ∷ [];
  clients = 1 ∷ [];
  commands =
      record { client = 1; act = OpenFile 0 0 }
      ∷ record { client = 1; act = Write 0 4090 10 }
      ∷ record { client = 1; act = Close 0 }
      ∷ [];
}

-- three clients: two of them share and close, and one of these opens the file again under its
-- handle
unfoldable pub three_clients : Files
three_clients = record {
  kernels = 2;
  files = record { file = 3; extents = 1 } ∷ [];
  clients = 3 ∷ 1 ∷ 2 ∷ [];
  commands =
      record { client = 1; act = OpenFile 0 3 }
      ∷ record { client = 1; act = Share 0 2 5 }
      ∷ record { client = 2; act = OpenFile 15 3 }
      ∷ record { client = 2; act = Share 15 1 5 }
      ∷ record { client = 1; act = Close 0 }
      ∷ record { client = 1; act = OpenFile 0 3 }
      ∷ record { client = 2; act = Share 15 3 0 }
      ∷ record { client = 2; act = Close 15 }
      ∷ [];
}

-- the entries from a world on if the first enabled event always happens, at most n
unfoldable pub first_run : Setup → ℕ → World → List Event → List Entry
first_run T zero W es = []
first_run T (suc n) W [] = []
first_run T (suc n) W (e ∷ es) =
    let V : World = after T W e in entry_of T W e ∷ first_run T n V (enabled T V)

abbrev pub first_run_of : Files → ℕ → List Entry
first_run_of F n =
    first_run (compiled F) n (start (compiled F)) (enabled (compiled F) (start (compiled F)))

-- the held keys with their selectors, kernel by kernel
abbrev pub held : World → List (KeyName × ℕ)
held W = flat_map (λ s. map (λ c. (c.key, c.selector)) s.caps) W.sides

pub record Outcome : Type 0 where
  pub entries : ℕ
  pub made : ℕ
  pub cut : ℕ
  pub held : List (KeyName × ℕ)
  pub all_succeed : Bool

abbrev pub file_outcome : Setup → List Entry → Outcome
file_outcome T J = record {
  entries = length J;
  made = length (made T J);
  cut = length (cut T J);
  held = held (world_after T J);
  all_succeed = list_all (λ r. r.code == 0) (replies J);
}

abbrev pub calls_of_one : Type 0
calls_of_one =
    client_calls one_client 1
    ≡ OpenSession 0 0 ∷ AskOffer 1 0 0 ∷ AskOffer 2 0 1 ∷ Bind 0 1 ∷ WriteCall 0 4090 6
    ∷ Bind 0 2 ∷ WriteCall 0 0 4 ∷ Revoke 1 ∷ Revoke 2 ∷ []

abbrev pub run_of_one : Type 0
run_of_one =
    file_outcome (compiled one_client) (first_run_of one_client 100)
    ≡ record {
      entries = 41;
      made = 6;
      cut = 2;
      held =
          (nth_memory_key 0 1, 1)
          ∷ (nth_memory_key 0 2, 2)
          ∷ (record { pe = 0; vpe = 0; kind = ServKind; number = 0 }, 0)
          ∷ (record { pe = 1; vpe = 1; kind = SessKind; number = 0 }, 0)
          ∷ [];
      all_succeed = true;
    }

abbrev pub calls_of_three : Type 0
calls_of_three =
    client_calls three_clients 1
    ≡ OpenSession 0 0 ∷ AskOffer 1 0 12 ∷ Delegate 1 2 148 ∷ Revoke 1 ∷ AskOffer 1 0 12 ∷ []

abbrev pub run_of_three : Type 0
run_of_three = list_all (λ r. r.code == 0) (replies (first_run_of three_clients 300)) ≡ true

-- The laws are not empty: these commands pass the tests of the grammar, their run is a schedule,
-- and after it the file is closed.
abbrev pub journal_of_one : List Entry
journal_of_one = first_run_of one_client 100

abbrev pub closed_in_one : Type 0
closed_in_one = (o : Opening one_client) × IsClosedOpening journal_of_one o
