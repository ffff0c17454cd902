use Rattle.std.proofs.Common.{◌≡◌, take}
use Rattle.std.specs.List.{Contains}
use Rattle.sem_key.specs.KeyName.{KeyName}
use Rattle.sem_msg.specs.Lookups.{owner_of}
use Rattle.sem_query.proofs.marked.first_marked.Given as goal

-- none of the first keys is one of those
abbrev pub invariant-loop-marking : goal.invariant-loop-marking
invariant-loop-marking l = (k : KeyName) → owner_of l.setup k ≡ l.number → Contains (take l.marking-index l.marked) (k, l.job) → ⊥
