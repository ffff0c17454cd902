-- The open jobs of a kernel as contracts see them ("State" in docs/machine.md).
use Rattle.std.specs.Prelude.{◌≡◌, ℕ, ◌<◌, ◌==◌, Bool, false, List, length, slice_index_or, Option, All}
use Rattle.std.specs.List.{AllPairs}
use Rattle.std.specs.Option.{option_map_or}
use Rattle.sem_msg.specs.Prelude.{KeyName, JobRow}
use Rattle.sem_msg.specs.declared.state.Up.{Up}
use Rattle.sem_msg.specs.JobRows.{ids_of}

pub record JobStore : Type 0 where
  -- the open jobs, by rising id
  pub jobs : List JobRow
  -- the id of the next job, which is the number of drawn ids
  pub next : ℕ
  -- how many more can be opened without taking memory
  pub spare : ℕ

-- a job that was just opened: no token is out for it
abbrev pub new_job : ℕ → KeyName → Option Up → List ℕ → JobRow
new_job id root up waiters = record { id = id; root = root; up = up; waiters = waiters; count = 0; keep = false }

-- whether no token is out for the job
abbrev pub is_done : Option JobRow → Bool
is_done o = option_map_or (λ x. x.count == 0) o false

-- what always holds of the jobs: their ids rise and were drawn
pub record HasRisingIds (ns : List ℕ) (next : ℕ) : Type 0 where
  pub rising : AllPairs (λ m n. m < n) ns
  pub drawn : All (λ n. n < next) ns

abbrev pub IsJobStore : JobStore → Type 0
IsJobStore s = HasRisingIds (ids_of s.jobs) s.next

-- the job of that id stands at the place
pub record IsPlaceOf (xs : List JobRow) (j at : ℕ) : Type 0 where
  pub in_range : at < length xs
  pub id : (d : JobRow) → (slice_index_or xs at d).id ≡ j
