use Rattle.sem_vpe.proofs.Starts.{IsAdding}
use Rattle.sem_vpe.proofs.vpe.Vpe.new.Given as goal

-- the first roots were added
abbrev pub invariant-loop-root : goal.invariant-loop-root
invariant-loop-root l = IsAdding l.decl l.vpe l.root-index
