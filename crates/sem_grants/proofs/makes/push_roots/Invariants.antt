use Rattle.std.proofs.Common.{◌≡◌, ◌++◌, take}
use Rattle.sem_machine.specs.Journals.{root_keys_from}
use Rattle.sem_grants.proofs.makes.push_roots.Given as goal

-- the keys of the first roots were appended
abbrev pub invariant-loop-number : goal.invariant-loop-number
invariant-loop-number l = l.keys.items ≡ l.initial.keys.items ++ root_keys_from l.decl 0 (take l.number l.decl.roots)
