use Rattle.std.proofs.Common.{◌≡◌, sym, ap, rules}
use Rattle.std.proofs.lemmas.List.Sorted.{answers_always}
use Rattle.sem_jobs.specs.declared.spot.IdSpot.{IdSpot}
use Rattle.sem_jobs.specs.JobStore.{JobStore}
use Rattle.sem_jobs.specs.Stored.{rows_of}
use Rattle.sem_jobs.proofs.Searched.{searched}
use Rattle.sem_jobs.proofs.jobs.Jobs.search.Goals as goal

-- the closure reads the id of a spot, and the slice is what is stored
pub returns : goal.returns
returns c =
    let slab = c.self.inside.slab in
    let spots = c.self.inside.spots.items in
    let facts = c.binary_search_by_key.ensures in
    let by_id = facts.position (λ (s : IdSpot). s.id) (answers_always _ _ _ (λ f a r g called. search rules)) in
    let parts = searched slab spots c.self.inside.next c.self.invariant c.args.job _ (rw c.deref.ensures.value at facts.bound)
    (rw c.deref.ensures.value at by_id) in
    let jobs : c.args.self.now.jobs ≡ rows_of slab spots = sym (ap (λ (s : JobStore). s.jobs) c.self.view_is) in
    record {
      place = rw (jobs, c.ok.ensures.value) parts.place;
      absent = rw (jobs, c.ok.ensures.value) parts.absent;
      store = rw (← c.self.view_is) c.self.invariant.0;
    }
