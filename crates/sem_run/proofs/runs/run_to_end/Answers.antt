use Rattle.sem_machine.proofs.Pushing.{schedule-empty}
use Rattle.sem_run.proofs.runs.run_to_end.Goals as goal

-- nothing was run
pub returns-in-Err-clause-schedule : goal.returns-in-Err-clause-schedule
returns-in-Err-clause-schedule c = schedule-empty c.args.setup.now c.new.result.entries c.new.ensures
