use Rattle.sem_check.specs.declared.faults.CheckError.TheVariants.{Differs}
use Rattle.sem_run.proofs.FoundVerdicts.{same-error}
use Rattle.sem_run.proofs.judging.audit_complete.Goals as goal

pub returns-clause-differs : goal.returns-clause-differs
returns-clause-differs g c =
    λ n entered replayed same. c.in-Err.ensures.differs n entered replayed (same-error c.in-Err.error (Differs n entered replayed) same)
