use Rattle.sem_jobs.proofs.JobPlaces.{ids-left_by}
use Rattle.sem_jobs.specs.Stored.{rows_of}
use Rattle.sem_jobs.proofs.jobs.Jobs.leave.Goals as goal

-- the ids are the same
pub invariant_of-self : goal.invariant_of-self
invariant_of-self c =
    let jobs = rw c.deref.ensures.value at c.leave_all.ensures.jobs in (
      rw (jobs, ids-left_by c.args.vpe (rows_of c.self.inside.slab c.self.inside.spots.items)) c.self.invariant.0,
      rw c.deref.ensures.value at c.leave_all.ensures.placed,
    )
