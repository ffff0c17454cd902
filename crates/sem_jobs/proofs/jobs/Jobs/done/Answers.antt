use Rattle.std.proofs.Common.{◌≡◌, ◌-◌, refl, ◌∙◌, ap}
use Rattle.sem_msg.specs.Rows.{JobRow}
use Rattle.sem_jobs.specs.Stored.{rows_of}
use Rattle.sem_jobs.proofs.JobPlaces.{same_jobs, found-changed}
use Rattle.sem_jobs.proofs.Written.{opened, job-here, changed-written, stored-written}
use Rattle.sem_jobs.proofs.jobs.Jobs.done.Goals as goal

-- a token is out
pub lower-requires : goal.lower-requires
lower-requires c =
    let open_at = opened c.self.view_is c.self.invariant c.in-Some.ensures.place c.index.ensures c.index_mut-open.ensures.value in
    rw (← c.self.view_is, job-here open_at) at c.requires

-- the id is the same
pub invariant_of-self : goal.invariant_of-self
invariant_of-self c =
    let open_at = opened c.self.view_is c.self.invariant c.in-Some.ensures.place c.index.ensures c.index_mut-open.ensures.value in
    stored-written open_at c.lower.new.self (ap (λ (x : JobRow). x.id) c.lower.ensures)

pub returns-clause-jobs : goal.returns-clause-jobs
returns-clause-jobs c =
    let open_at = opened c.self.view_is c.self.invariant c.in-Some.ensures.place c.index.ensures c.index_mut-open.ensures.value in
    rw (← c.self.view_is) (same_jobs _ _ _ _ (changed-written open_at c.lower.new.self (λ (x : JobRow). record x { count = x.count - 1 }) c.lower.ensures))

-- the count that is left was read
pub returns-clause-last : goal.returns-clause-last
returns-clause-last c =
    let open_at = opened c.self.view_is c.self.invariant c.in-Some.ensures.place c.index.ensures c.index_mut-open.ensures.value in
    let there = changed-written open_at c.lower.new.self (λ (x : JobRow). record x { count = x.count - 1 }) c.lower.ensures in
    let count : c.open.inside.outstanding ≡ c.index_mut-open.result.now.count - 1 = ap (λ (x : JobRow). x.count) (c.open.view_is ∙ c.lower.ensures) in
    rw (
      there,
      found-changed c.args.job (λ (x : JobRow). record x { count = x.count - 1 }) (λ x. refl) (rows_of c.self.inside.slab c.self.inside.spots.items),
      job-here open_at,
      count,
    ) refl
