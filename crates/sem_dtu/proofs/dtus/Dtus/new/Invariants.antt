use Rattle.sem_dtu.proofs.Started.{IsStarted}
use Rattle.sem_dtu.proofs.dtus.Dtus.new.Given as goal

-- so many VPEs have their endpoints
abbrev pub invariant-loop-vpe : goal.invariant-loop-vpe
invariant-loop-vpe l = IsStarted l.setup l.kernel l.rows.items l.vpe
