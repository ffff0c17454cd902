use Rattle.std.proofs.Common.{◌≡◌, ◌++◌, map, take}
use Rattle.sem_machine.specs.Journals.{grants}
use Rattle.sem_grants.proofs.makes.push_children.Given as goal

-- the children of the first entries were appended
abbrev pub invariant-loop-at : goal.invariant-loop-at
invariant-loop-at l = l.keys.items ≡ l.initial.keys.items ++ map (λ g. g.1) (grants (take l.at l.journal.entries))
