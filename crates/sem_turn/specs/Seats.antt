-- What the private functions say of seats.
use Rattle.std.specs.Prelude.{◌≡◌, ℕ, Bool, false, List, [], ◌∷◌, Option, Some, None}
use Rattle.atomic_table.specs.Seated.{TableId}
use Rattle.atomic_table.specs.declared.shared.Seat.{Seat}
use Rattle.sem_msg.specs.declared.entry.Entry.{Entry}
use Rattle.sem_msg.specs.Prelude.{FabricValue}
use Rattle.sem_turn.specs.declared.rule.Share.{Share}
use Rattle.sem_turn.specs.declared.rule.View.{View}

-- what the seat of a pass has out: the slot that it took the fabric from
abbrev pub out_with : Option FabricValue → List (ℕ × Option FabricValue)
out_with None = []
out_with (Some f) = (0, None) ∷ []

-- the entries of the first share
abbrev pub first_entries : List Share → List Entry
first_entries [] = []
first_entries (p ∷ ps) = p.entries

-- whether the first share notes a place
abbrev pub placed_of : List Share → Bool
placed_of [] = false
placed_of (p ∷ ps) = p.placed

-- a seat of this table that has nothing out
abbrev pub IsIdleSeat : TableId → Seat (Option FabricValue) View → Type 0
IsIdleSeat table seat = (seat.table_id ≡ table) × (seat.me.0.taken ≡ None) × (seat.me.1 ≡ [])
