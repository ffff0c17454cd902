use Rattle.std.proofs.Common.{◌≡◌, take}
use Rattle.sem_check.proofs.replays.first_entries.Given as goal

-- as many of the entries as were looked at
abbrev pub invariant-loop-entry : goal.invariant-loop-entry
invariant-loop-entry l = l.first.entries ≡ take l.entry-index l.entry-items
