-- What a store of jobs keeps in its fields.
use Rattle.std.specs.Prelude.{◌≡◌, ◌≢◌, ℕ, length, List, [], map, All, AllPairs, None, IsSomeAnd}
use Rattle.std.specs.Option.{unwrap_or}
use Rattle.slab.specs.Slab.{Slab, get, slab_len}
use Rattle.sem_msg.specs.Prelude.{ServKind as Serv, JobRow}
use Rattle.sem_jobs.specs.declared.spot.IdSpot.{IdSpot}
use Rattle.sem_jobs.specs.JobStore.{new_job}

-- some job of that id
abbrev pub some_job : ℕ → JobRow
some_job id = new_job id (record { pe = 0; vpe = 0; kind = Serv; number = 0 }) None []

-- the job that a spot leads to; no spot of a store leads to an empty place
abbrev pub row_at : Slab JobRow → IdSpot → JobRow
row_at slab spot = unwrap_or (get slab spot.place) (some_job spot.id)

-- the jobs that the spots lead to, in order
abbrev pub rows_of : Slab JobRow → List IdSpot → List JobRow
rows_of slab spots = map (row_at slab) spots

-- the spot leads to a job of its id
abbrev pub LeadsTo : Slab JobRow → IdSpot → Type 0
LeadsTo slab spot = IsSomeAnd (get slab spot.place) (λ x. x.id ≡ spot.id)

-- each spot leads to a job of its id, no two to the same place, and nothing else lies in the slab
pub record IsPlaced (slab : Slab JobRow) (spots : List IdSpot) : Type 0 where
  pub leads : All (LeadsTo slab) spots
  pub apart : AllPairs (λ a b. a.place ≢ b.place) spots
  pub full : slab_len slab ≡ length spots
