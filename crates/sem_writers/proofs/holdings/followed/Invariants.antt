use Rattle.std.proofs.Common.{◌≡◌, ℕ, ◌≤◌, ◌<◌, length, map, take, get_or}
use Rattle.sem_access.specs.declared.access.Access.{Access}
use Rattle.sem_access.specs.LastWrites.{is_write_at, greatest_entry}
use Rattle.sem_access.specs.Runs.{entry_at, IsNewer}
use Rattle.sem_access.specs.ContentsText.{found_by}
use Rattle.sem_writers.proofs.holdings.followed.Given as goal

-- memory tells the last writes of the first accesses, all others come behind them, and the first have their looks
abbrev pub invariant-loop-access : goal.invariant-loop-access
invariant-loop-access l = record {
  kept : (a : ℕ) → entry_at l.memory a ≡ greatest_entry (is_write_at a) (take l.access-index l.list);
  older : (k : ℕ) (d : Access) → l.access-index ≤ k → k < length l.list → IsNewer l.memory (get_or l.list k d).entry;
  found : l.looks.items ≡ map (found_by l.list) (take l.access-index l.list);
}
