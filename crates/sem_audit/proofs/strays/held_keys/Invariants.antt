use Rattle.std.proofs.Common.{◌≡◌, take, map}
use Rattle.sem_msg.specs.declared.audit.Held.{Held}
use Rattle.sem_audit.proofs.strays.held_keys.Given as goal

-- the keys of the first of what is held
abbrev pub invariant-loop-one : goal.invariant-loop-one
invariant-loop-one l = l.keys.items ≡ map (λ (x : Held). x.key) (take l.one-index l.one-items)
