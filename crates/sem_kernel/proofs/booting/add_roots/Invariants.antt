use Rattle.sem_kernel.proofs.Boots.{IsAdding}
use Rattle.sem_kernel.proofs.booting.add_roots.Given as goal

-- the first roots were added
abbrev pub invariant-loop-number : goal.invariant-loop-number
invariant-loop-number l = IsAdding l.decl l.initial.caps.caps l.caps.caps l.number
