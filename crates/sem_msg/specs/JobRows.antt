-- The open jobs of a kernel, by rising id, and their small changes ("State" in docs/machine.md).
use Rattle.std.specs.Prelude.{ℕ, ◌+◌, ◌-◌, ◌==◌, nat_lt, Bool, true, false, not, ◌&&◌, List, [], ◌∷◌, ◌++◌, map}
use Rattle.std.specs.Prelude.{filter, find, Option, Some, None, if◌then◌else◌}
use Rattle.std.specs.Option.{option_and_then}
use Rattle.sem_key.specs.Prelude.{KeyName}
use Rattle.sem_key.specs.Lists.{change}
use Rattle.sem_msg.specs.declared.state.Up.{Up}
use Rattle.sem_msg.specs.declared.state.Up.TheVariants.{Local, Remote}
use Rattle.sem_msg.specs.Rows.{JobRow}

-- the open job of that id
abbrev pub job_of : List JobRow → ℕ → Option JobRow
job_of xs j = find (λ x. x.id == j) xs

abbrev pub ids_of : List JobRow → List ℕ
ids_of xs = map (λ x. x.id) xs

-- the jobs with one more, which these VPEs wait for; no token is out for it
abbrev pub job_opened : ℕ → KeyName → Option Up → List ℕ → Bool → List JobRow → List JobRow
job_opened id root up waiters keep xs = xs ++ record {
  id = id;
  root = root;
  up = up;
  waiters = waiters;
  count = 0;
  keep = keep;
} ∷ []

-- that job is changed
abbrev pub job_changed : ℕ → (JobRow → JobRow) → List JobRow → List JobRow
job_changed j f xs = change (λ x. x.id == j) f xs

-- the job is gone
abbrev pub job_removed : ℕ → List JobRow → List JobRow
job_removed j xs = filter (λ x. not (x.id == j)) xs

-- one more token is out for the job
abbrev pub count_raised : ℕ → List JobRow → List JobRow
count_raised j xs = job_changed j (λ x. record x { count = x.count + 1 }) xs

-- the job gets one token back; a count of 0 stays
abbrev pub count_lowered : ℕ → List JobRow → List JobRow
count_lowered j xs = job_changed j (λ x. record x { count = x.count - 1 }) xs

-- the job, if no token is out for it
abbrev pub if_done : Option JobRow → Option JobRow
if_done o = option_and_then (λ x. if x.count == 0 then Some x else None) o

-- the job of this kernel that waits for a finished one gets a token back
abbrev pub token_given_back : Option Up → List JobRow → List JobRow
token_given_back None xs = xs
token_given_back (Some (Local j)) xs = count_lowered j xs
token_given_back (Some (Remote kernel j)) xs = xs

-- the job that finishes after one with that `up`: a job of this kernel with no token out any more
abbrev pub next_done : Option Up → List JobRow → Option JobRow
next_done None xs = None
next_done (Some (Local j)) xs = if_done (job_of xs j)
next_done (Some (Remote kernel j)) xs = None

-- the job keeps its root
abbrev pub keep_set : ℕ → List JobRow → List JobRow
keep_set j xs = job_changed j (λ x. record x { keep = true }) xs

-- the job no longer keeps its root
abbrev pub keep_given_up : ℕ → List JobRow → List JobRow
keep_given_up j xs = job_changed j (λ x. record x { keep = false }) xs

-- another job waits for the job, which no longer keeps its root
abbrev pub with_up : Up → ℕ → List JobRow → List JobRow
with_up up j xs = job_changed j (λ x. record x { up = Some up; keep = false }) xs

-- Who waits for a job.

-- the VPEs with one more, in rising order
abbrev pub with_number : List ℕ → ℕ → List ℕ
with_number vs v = filter (λ w. nat_lt w v) vs ++ v ∷ filter (λ w. nat_lt v w) vs

-- the VPEs without one
abbrev pub without_number : List ℕ → ℕ → List ℕ
without_number vs v = filter (λ w. not (w == v)) vs

-- the VPE waits for the job
abbrev pub waiter_added : ℕ → ℕ → List JobRow → List JobRow
waiter_added j v xs = job_changed j (λ x. record x { waiters = with_number x.waiters v }) xs

-- the VPE waits for no job
abbrev pub waiter_removed : ℕ → List JobRow → List JobRow
waiter_removed v xs = map (λ (x : JobRow). record x { waiters = without_number x.waiters v }) xs

-- the VPE, which waited for job j, waits for no job; if the root of job j is a capability of the
-- VPE, job j no longer keeps it
abbrev pub waiter_left : ℕ → ℕ → List JobRow → List JobRow
waiter_left j v xs =
    map (λ (x : JobRow). record x {
      waiters = without_number x.waiters v;
      keep = x.keep && not ((x.id == j) && (x.root.vpe == v));
    }) xs

-- the VPE that waits for a new job, if one does
abbrev pub waiters_of : Option ℕ → List ℕ
waiters_of None = []
waiters_of (Some v) = v ∷ []
