use Rattle.std.proofs.Common.{◌≡◌, ◌+◌, ◌≤◌, Some}
use Rattle.std.specs.List.{All}
use Rattle.sem_access.specs.Runs.{entry_at}
use Rattle.sem_writers.specs.Cells.{cells_end, TellsNewest}
use Rattle.sem_writers.proofs.cells.cells_of.Given as goal

-- the cells so far end where the next one begins, which is as far on as there were turns
abbrev pub invariant-loop : goal.invariant-loop
invariant-loop l = record {
  whole : cells_end l.base l.cells.items ≡ Some l.begin;
  newest : All (TellsNewest (entry_at l.memory)) l.cells.items;
  within : l.begin ≤ l.base + l.len;
  far : l.base + l.counter ≤ l.begin;
}
