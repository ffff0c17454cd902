use Rattle.std.proofs.Common.{sym}
use Rattle.sem_jobs.proofs.Written.{opened, job-here}
use Rattle.sem_jobs.proofs.jobs.Jobs.get.Goals as goal

-- the job in its place was copied
pub returns-clause-job : goal.returns-clause-job
returns-clause-job c =
    let open_at = opened c.self.view_is c.self.invariant c.in_ok-at.ensures.place c.index.ensures c.index-open.ensures in
    rw (← c.self.view_is, c.copy.ensures) (sym (job-here open_at))
