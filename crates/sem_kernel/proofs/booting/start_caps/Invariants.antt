use Rattle.sem_kernel.proofs.Boots.{IsStarting}
use Rattle.sem_kernel.proofs.booting.start_caps.Given as goal

-- the VPEs of the kernel among the first were added
abbrev pub invariant-loop-decl : goal.invariant-loop-decl
invariant-loop-decl l = IsStarting l.setup l.kernel l.caps.caps l.decl-index
