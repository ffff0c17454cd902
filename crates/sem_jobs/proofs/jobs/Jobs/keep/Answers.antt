use Rattle.std.proofs.Common.{true, ap}
use Rattle.sem_msg.specs.Rows.{JobRow}
use Rattle.sem_jobs.proofs.JobPlaces.{same_jobs}
use Rattle.sem_jobs.proofs.Written.{opened, changed-written, stored-written}
use Rattle.sem_jobs.proofs.jobs.Jobs.keep.Goals as goal

-- the id is the same
pub invariant_of-self : goal.invariant_of-self
invariant_of-self c =
    let open_at = opened c.self.view_is c.self.invariant c.in-Some.ensures.place c.index.ensures c.index_mut-open.ensures.value in
    stored-written open_at c.keep.new.self (ap (λ (x : JobRow). x.id) c.keep.ensures)

pub returns : goal.returns
returns c =
    let open_at = opened c.self.view_is c.self.invariant c.in-Some.ensures.place c.index.ensures c.index_mut-open.ensures.value in
    rw (← c.self.view_is) (same_jobs _ _ _ _ (changed-written open_at c.keep.new.self (λ (x : JobRow). record x { keep = true }) c.keep.ensures))
