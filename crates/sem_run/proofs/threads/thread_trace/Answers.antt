use Rattle.std.proofs.Common.{refl, inr, Some}
use Rattle.sem_cli.specs.declared.forms.Command.TheVariants.{Threads}
use Rattle.sem_run.proofs.Ending.{threads-end}
use Rattle.sem_run.proofs.threads.thread_trace.Goals as goal

-- a run of the setup that was read
pub returns-in-Ok : goal.returns-in-Ok
returns-in-Ok g c = threads-end _ _ _ c.args.seed c.in-Ok.setup (c.in-Ok.ensures.reads (Some (Threads c.args.seed))) c.in-Ok.ensures.quiet
    c.report_run.ensures.schedule c.report_run.result.status refl c.report_run.ensures.ends

-- what was read is no trace
pub returns-in-Err : goal.returns-in-Err
returns-in-Err g c = c.in-Err.ensures.refused c.args.seed (Some (Threads c.args.seed)) (inr refl)
