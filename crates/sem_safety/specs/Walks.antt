-- Journals made by computation from given events, and a setup of two kernels for them.
use Rattle.std.specs.Prelude.{ℕ, Bool, true, ◌&&◌, List, [], ◌∷◌, Some, None, replicate}
use Rattle.std.specs.List.{slice_set}
use Rattle.sem_machine.specs.Prelude.{PES, Mem, Call, Event, Entry, Root, VpeDecl, Setup, World, start, after}
use Rattle.sem_machine.specs.Prelude.{entry_of, is_enabled}

-- the entries that the events make from a world on
unfoldable pub walked : Setup → World → List Event → List Entry
walked T W [] = []
walked T W (e ∷ es) = entry_of T W e ∷ walked T (after T W e) es

-- whether each event is enabled in its turn
unfoldable pub all_enabled : Setup → World → List Event → Bool
all_enabled T W [] = true
all_enabled T W (e ∷ es) = is_enabled T W e && all_enabled T (after T W e) es

-- the journal that the events make from the start
abbrev pub journal_of : Setup → List Event → List Entry
journal_of T es = walked T (start T) es

abbrev pub the_root : Root
the_root = record { sel = 0; object = Mem 0 4096 7 }

-- VPE 0 has memory, and VPE 1 has nothing
abbrev pub first_vpe : List Call → VpeDecl
first_vpe calls = record { vpe = 0; pe = 0; roots = the_root ∷ []; calls = calls }

abbrev pub second_vpe : List Call → VpeDecl
second_vpe calls = record { vpe = 1; pe = 1; roots = []; calls = calls }

-- two kernels, with one VPE each
unfoldable pub pair : List Call → List Call → List (ℕ × ℕ) → Setup
pair calls calls' kills = record {
  version = 2;
  window = 4;
  kernels = 2;
  owners = record { kernels = 2; owners = slice_set (slice_set (replicate PES None) 0 (Some 0)) 1 (Some 1) };
  vpes = first_vpe calls ∷ second_vpe calls' ∷ [];
  services = [];
  offers = [];
  denies = [];
  kills = kills;
}
