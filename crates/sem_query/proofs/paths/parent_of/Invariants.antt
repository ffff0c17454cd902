use Rattle.std.proofs.Common.{◌≡◌, take, None}
use Rattle.sem_machine.specs.Journals.{grants, parent_in}
use Rattle.sem_query.proofs.paths.parent_of.Given as goal

-- no grant of the first entries is one of the key
abbrev pub invariant-loop-entry : goal.invariant-loop-entry
invariant-loop-entry l = parent_in (grants (take l.entry-index l.entry-items)) l.fn.key ≡ None
