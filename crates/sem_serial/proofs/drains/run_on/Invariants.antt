use Rattle.std.proofs.Common.{◌≡◌, ◌-◌, length, map}
use Rattle.std.specs.Prelude.{sum_by}
use Rattle.sem_machine.specs.Seeded.{entry_limit}
use Rattle.sem_serial.proofs.Running.{IsDraining}
use Rattle.sem_serial.proofs.drains.run_on.Given as goal

-- the run has come from the journal and the words that it began with, and its events are counted
abbrev pub invariant-loop-event : goal.invariant-loop-event
invariant-loop-event l = IsDraining l.setup l.initial.fabric.journal l.initial.draws l.kernels.items l.fabric (map (λ list. list.items) l.lists.items) l.draws
    × (l.count ≡ sum_by (λ list. length list.items) l.lists.items)

-- the entries that are left
abbrev pub decreases-loop-event : goal.decreases-loop-event
decreases-loop-event l = entry_limit l.setup - length l.fabric.journal
