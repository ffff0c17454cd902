use Rattle.std.proofs.Common.{◌≡◌, take}
use Rattle.sem_machine.specs.Journals.{grants}
use Rattle.sem_tree.proofs.rows.granted.Given as goal

-- the grants of the first entries
abbrev pub invariant-loop-entry : goal.invariant-loop-entry
invariant-loop-entry l = l.granted.items ≡ grants (take l.entry-index l.entries)
