use Rattle.std.proofs.Common.{◌≡◌, ◌<◌, length, refl, sym, ◌∙◌, ap}
use Rattle.sem_msg.specs.JobRows.{job_removed}
use Rattle.sem_jobs.specs.JobStore.{JobStore, IsPlaceOf}
use Rattle.sem_jobs.specs.Stored.{rows_of}
use Rattle.sem_jobs.proofs.JobPlaces.{ids-removed, found, removed, removed-absent}
use Rattle.sem_jobs.proofs.Places.{row-read, rows-taken, placed-taken}
use Rattle.sem_jobs.proofs.Written.{within-spots}
use Rattle.sem_jobs.proofs.jobs.Jobs.take.Goals as goal

-- the job is out of the slab, and its spot out of the list
pub invariant_of-self : goal.invariant_of-self
invariant_of-self c =
    let slab = c.self.inside.slab in
    let spots = c.self.inside.spots.items in
    let jobs : c.args.self.now.jobs ≡ rows_of slab spots = sym (ap (λ (s : JobStore). s.jobs) c.self.view_is) in
    let place : IsPlaceOf (rows_of slab spots) c.args.job c.in_ok-at.at = rw jobs at c.in_ok-at.ensures.place in
    let within : c.in_ok-at.at < length spots = within-spots slab spots c.args.job c.in_ok-at.at place in
    let left : rows_of c.remove.new.self c.remove-spot.new.self.items ≡ job_removed c.args.job (rows_of slab spots) =
    rw c.remove-spot.ensures.items (rows-taken slab spots c.self.invariant.1 c.in_ok-at.at within c.remove-spot.result c.remove-spot.ensures.value
    c.remove.new.self c.remove.ensures.updates)
    ∙ removed (rows_of slab spots) c.self.inside.next c.self.invariant.0 c.args.job c.in_ok-at.at place c.remove.result in (
      rw left (ids-removed (rows_of slab spots) c.self.inside.next c.self.invariant.0 c.args.job),
      rw c.remove-spot.ensures.items (placed-taken slab spots c.self.invariant.1 c.in_ok-at.at within c.remove-spot.result c.remove-spot.ensures.value
          c.remove.new.self c.remove.ensures.updates c.remove.ensures.len),
    )

pub returns-clause-job : goal.returns-clause-job
returns-clause-job c =
    let slab = c.self.inside.slab in
    let spots = c.self.inside.spots.items in
    let jobs : c.args.self.now.jobs ≡ rows_of slab spots = sym (ap (λ (s : JobStore). s.jobs) c.self.view_is) in
    let place : IsPlaceOf (rows_of slab spots) c.args.job c.in_ok-at.at = rw jobs at c.in_ok-at.ensures.place in
    let within : c.in_ok-at.at < length spots = within-spots slab spots c.args.job c.in_ok-at.at place in
    let read = row-read slab spots c.self.invariant.1 c.in_ok-at.at within c.remove-spot.result c.remove-spot.ensures.value c.remove.result
    c.remove.ensures.value in
    rw jobs (sym (found (rows_of slab spots) c.self.inside.next c.self.invariant.0 c.args.job c.in_ok-at.at place c.remove.result read))

pub returns-clause-jobs : goal.returns-clause-jobs
returns-clause-jobs c =
    let slab = c.self.inside.slab in
    let spots = c.self.inside.spots.items in
    let jobs : c.args.self.now.jobs ≡ rows_of slab spots = sym (ap (λ (s : JobStore). s.jobs) c.self.view_is) in
    let place : IsPlaceOf (rows_of slab spots) c.args.job c.in_ok-at.at = rw jobs at c.in_ok-at.ensures.place in
    let within : c.in_ok-at.at < length spots = within-spots slab spots c.args.job c.in_ok-at.at place in
    let left = rows-taken slab spots c.self.invariant.1 c.in_ok-at.at within c.remove-spot.result c.remove-spot.ensures.value c.remove.new.self
    c.remove.ensures.updates in
    rw (jobs, c.remove-spot.ensures.items) (left
    ∙ removed (rows_of slab spots) c.self.inside.next c.self.invariant.0 c.args.job c.in_ok-at.at place c.remove.result)

-- there is no such job
pub returns-in_err-at-clause-jobs : goal.returns-in_err-at-clause-jobs
returns-in_err-at-clause-jobs c = sym (removed-absent c.args.job c.args.self.now.jobs (c.in_err-at.ensures.absent refl))
