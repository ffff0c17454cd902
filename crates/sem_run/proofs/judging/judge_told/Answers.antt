use Rattle.std.proofs.Common.{rules}
use Rattle.sem_run.proofs.FoundVerdicts.{tells-report}
use Rattle.sem_run.proofs.judging.judge_told.Goals as goal

-- an entry differs
pub returns-in-Err-Differs-clause-verdict : goal.returns-in-Err-Differs-clause-verdict
returns-in-Err-Differs-clause-verdict g c =
    let e = c.in-Err-Differs in (
      c.args.setup,
      tells-report _ c.args.setup c.args.journal.entries c.args.told.now c.requires.told,
      c.audit_complete.ensures.differs _ _ _ (search rules),
    )
