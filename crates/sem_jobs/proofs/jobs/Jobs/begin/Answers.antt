use Rattle.std.proofs.Common.{refl}
use Rattle.sem_msg.specs.Rows.{JobRow}
use Rattle.sem_msg.specs.JobRows.{waiters_of}
use Rattle.sem_jobs.specs.JobStore.{new_job}
use Rattle.sem_jobs.specs.Stored.{rows_of}
use Rattle.sem_jobs.proofs.JobPlaces.{ids-opened, found-opened}
use Rattle.sem_jobs.proofs.Places.{rows-pushed, placed-pushed}
use Rattle.sem_jobs.proofs.jobs.Jobs.begin.Goals as goal

-- the job lies at a vacant place, and its spot is the last
pub invariant_of-self : goal.invariant_of-self
invariant_of-self c =
    let slab = c.self.inside.slab in
    let spots = c.self.inside.spots.items in
    let row : JobRow = new_job c.self.inside.next c.args.root c.args.up c.of.result in
    let vacant = c.insert_reserved-place.ensures.was_vacant in
    let updates = c.insert_reserved-place.ensures.updates in
    rw (
      c.push_reserved.ensures.items,
      rows-pushed slab c.insert_reserved-place.new.self c.insert_reserved-place.result row vacant updates spots c.self.invariant.1,
    ) (
      ids-opened (rows_of slab spots) c.self.inside.next c.self.invariant.0 row refl,
      placed-pushed slab c.insert_reserved-place.new.self c.insert_reserved-place.result row vacant updates spots c.self.invariant.1
          c.insert_reserved-place.ensures.len,
    )

pub returns-clause-jobs : goal.returns-clause-jobs
returns-clause-jobs c =
    let slab = c.self.inside.slab in
    let spots = c.self.inside.spots.items in
    let row : JobRow = new_job c.self.inside.next c.args.root c.args.up c.of.result in
    let more = rows-pushed slab c.insert_reserved-place.new.self c.insert_reserved-place.result row c.insert_reserved-place.ensures.was_vacant
    c.insert_reserved-place.ensures.updates spots c.self.invariant.1 in
    rw (← c.self.view_is, c.push_reserved.ensures.items) (rw c.of.ensures at more)

-- no other job has the next id
pub returns-clause-there : goal.returns-clause-there
returns-clause-there c =
    let slab = c.self.inside.slab in
    let spots = c.self.inside.spots.items in
    let row : JobRow = new_job c.self.inside.next c.args.root c.args.up c.of.result in
    let more = rows-pushed slab c.insert_reserved-place.new.self c.insert_reserved-place.result row c.insert_reserved-place.ensures.was_vacant
    c.insert_reserved-place.ensures.updates spots c.self.invariant.1 in
    rw (
      c.push_reserved.ensures.items,
      more,
      c.of.ensures,
    ) (found-opened (rows_of slab spots) c.self.inside.next c.self.invariant.0
    (new_job c.self.inside.next c.args.root c.args.up (waiters_of c.args.waiter)) refl)
