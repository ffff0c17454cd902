use Rattle.std.proofs.Common.{take}
use Rattle.sem_tree.proofs.Growing.{AreRows}
use Rattle.sem_tree.proofs.rows.rows_of.Given as goal

-- the first keys have their rows
abbrev pub invariant-loop-key : goal.invariant-loop-key
invariant-loop-key l = AreRows l.granted (take l.key-index l.made) l.rows.items
