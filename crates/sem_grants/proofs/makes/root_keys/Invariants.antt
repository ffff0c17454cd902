use Rattle.std.proofs.Common.{◌≡◌, take}
use Rattle.std.specs.List.{flat_map}
use Rattle.sem_machine.specs.Journals.{root_keys_from}
use Rattle.sem_grants.proofs.makes.root_keys.Given as goal

-- the keys of the roots of the first VPEs
abbrev pub invariant-loop-decl : goal.invariant-loop-decl
invariant-loop-decl l = l.keys.items ≡ flat_map (λ d. root_keys_from d 0 d.roots) (take l.decl-index l.decl-items)
