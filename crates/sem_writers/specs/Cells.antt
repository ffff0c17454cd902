-- Cells: adjoining parts of a range of addresses.
use Rattle.std.specs.Prelude.{◌≡◌, ℕ, ◌+◌, ◌≤◌, ◌==◌, List, Option, Some, None, fold, if◌then◌else◌}
use Rattle.sem_access.specs.LastWrites.{looked}
use Rattle.sem_writers.specs.declared.cells.Cell.{Cell}

-- the end of a cell that begins where the earlier ones ended; none if it begins elsewhere
abbrev pub end_behind : Option ℕ → Cell → Option ℕ
end_behind (Some end) c = if c.begin == end then Some (c.begin + c.len) else None
end_behind None c = None

-- the end of adjoining cells from an address on
abbrev pub cells_end : ℕ → List Cell → Option ℕ
cells_end begin cs = fold end_behind (Some begin) cs

-- the cell has an address, and tells the newest of the last writes of its addresses
pub record TellsNewest (last : ℕ → Option ℕ) (c : Cell) : Type 0 where
  pub some : 1 ≤ c.len
  pub newest : c.newest ≡ (looked last c.begin c.len).newest
