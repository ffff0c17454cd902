-- What is stored after the job of one id was written in its place.
use Rattle.std.proofs.Common.{◌≡◌, ℕ, ◌<◌, List, length, get_or, Some, arith}
use Rattle.slab.specs.Slab.{Slab, get, with_value, ContainsKey}
use Rattle.sem_msg.specs.Rows.{JobRow}
use Rattle.sem_msg.specs.JobRows.{job_of, job_changed, ids_of}
use Rattle.sem_jobs.specs.declared.spot.IdSpot.{IdSpot}
use Rattle.sem_jobs.specs.JobStore.{JobStore, HasRisingIds, IsPlaceOf}
use Rattle.sem_jobs.specs.Stored.{rows_of, IsPlaced}
use Rattle.sem_jobs.proofs.Places.{length-rows, contains-here, row-read, rows-set, placed-set}
use Rattle.sem_jobs.proofs.JobPlaces.{ids-set, found, changed}

-- a place among the jobs is one among the spots
pub within-spots : (slab : Slab JobRow) (spots : List IdSpot) (j at : ℕ) → IsPlaceOf (rows_of slab spots) j at → at < length spots
within-spots slab spots j at place = omega (arith, place.in_range, length-rows slab spots)

pub contains-place : (slab : Slab JobRow) (spots : List IdSpot) → IsPlaced slab spots → (j at : ℕ) → IsPlaceOf (rows_of slab spots) j at → (spot : IdSpot) →
    spot ≡ get_or spots at spot → ContainsKey slab spot.place
contains-place slab spots placed j at place spot read = contains-here slab spots placed at (within-spots slab spots j at place) spot read

-- the job of that id stands in that place of the list, whose spot leads to it
pub record IsOpenAt (slab : Slab JobRow) (spots : List IdSpot) (next j at : ℕ) (spot : IdSpot) (row : JobRow) : Type 0 where
  pub stored : HasRisingIds (ids_of (rows_of slab spots)) next × IsPlaced slab spots
  pub place : IsPlaceOf (rows_of slab spots) j at
  pub read : spot ≡ get_or spots at spot
  pub value : get slab spot.place ≡ Some row

-- a job that was found by its id among those of the store, with the place that was borrowed
pub opened : {slab : Slab JobRow} {spots : List IdSpot} {next spare j at : ℕ} {spot : IdSpot} {row : JobRow} {now : JobStore} →
    ◌≡◌ {A = JobStore} (record { jobs = rows_of slab spots; next = next; spare = spare }) now →
    HasRisingIds (ids_of (rows_of slab spots)) next × IsPlaced slab spots → IsPlaceOf now.jobs j at → spot ≡ get_or spots at spot →
    get slab spot.place ≡ Some row → IsOpenAt slab spots next j at spot row
opened view_is stored place read value = record { stored = stored; place = rw (← view_is) at place; read = read; value = value }

module _ {slab : Slab JobRow} {spots : List IdSpot} {next j at : ℕ} {spot : IdSpot} {row : JobRow} (open_at : IsOpenAt slab spots next j at spot row) where
  abbrev rows : List JobRow
  rows = rows_of slab spots

  within : at < length spots
  within = within-spots slab spots j at open_at.place

  row_read : row ≡ get_or rows at row
  row_read = row-read slab spots open_at.stored.1 at within spot open_at.read row open_at.value

  -- it is found
  pub job-here : job_of rows j ≡ Some row
  job-here = found rows next open_at.stored.0 j at open_at.place row row_read

  module _ (new : JobRow) where
    abbrev written : Slab JobRow
    written = with_value slab spot.place new

    -- a change of the job is a change in that place
    pub changed-written : (f : JobRow → JobRow) → new ≡ f row → rows_of written spots ≡ job_changed j f rows
    changed-written f is = rw (rows-set slab spots open_at.stored.1 at within spot open_at.read row open_at.value new)
        (changed rows next open_at.stored.0 j at open_at.place row new f row_read is)

    -- the id is the same, and all is stored as before
    pub stored-written : new.id ≡ row.id → HasRisingIds (ids_of (rows_of written spots)) next × IsPlaced written spots
    stored-written same = (
      rw (rows-set slab spots open_at.stored.1 at within spot open_at.read row open_at.value new, ids-set rows at row new row_read same) open_at.stored.0,
      placed-set slab spots open_at.stored.1 at within spot open_at.read row open_at.value new same,
    )
