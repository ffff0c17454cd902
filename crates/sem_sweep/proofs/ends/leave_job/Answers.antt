use Rattle.std.proofs.Common.{◌∙◌, ap}
use Rattle.sem_msg.specs.JobRows.{waiter_removed}
use Rattle.sem_jobs.specs.JobStore.{JobStore}
use Rattle.sem_jobs.proofs.JobPlaces.{same_jobs}
use Rattle.sem_sweep.proofs.Leaving.{left-both}
use Rattle.sem_sweep.proofs.ends.leave_job.Goals as goal

pub returns-clause-jobs : goal.returns-clause-jobs
returns-clause-jobs c =
    c.leave.ensures
    ∙ ap (λ (t : JobStore). record t { jobs = waiter_removed c.args.vpe t.jobs }) c.give_up_root.ensures
    ∙ same_jobs _ _ _ _ (left-both c.args.job c.args.vpe c.args.jobs.now.jobs)
