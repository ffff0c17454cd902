use Rattle.std.proofs.Common.{◌≡◌, ◌++◌, take, nat_eq}
use Rattle.std.specs.List.{filter}
use Rattle.indexmap.specs.IndexSet.{contains}
use Rattle.sem_grants.proofs.cuts.push_ended.Given as goal

-- those among the first keys were appended
abbrev pub invariant-loop-key : goal.invariant-loop-key
invariant-loop-key l = l.found.items ≡ l.initial.found.items ++ filter (λ k. contains nat_eq l.ended k.vpe) (take l.key-index l.made)
