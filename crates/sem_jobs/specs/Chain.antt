-- How jobs finish one after another ("Revocation" in docs/machine.md).
use Rattle.std.specs.Prelude.{ℕ, zero, suc, ◌==◌, Bool, false, List, [], ◌∷◌, length, Option, Some, None}
use Rattle.std.specs.Prelude.{if◌then◌else◌}
use Rattle.std.specs.Option.{option_map_or}
use Rattle.sem_msg.specs.declared.state.Up.{Up}
use Rattle.sem_msg.specs.declared.state.Up.TheVariants.{Local, Remote}
use Rattle.sem_msg.specs.Prelude.{JobRow}
use Rattle.sem_msg.specs.JobRows.{job_of, job_removed, count_lowered, token_given_back}

-- what a chain of finishing jobs leaves, and the jobs that it takes out, in order
pub record Chain : Type 0 where
  pub left : List JobRow
  pub gone : List JobRow

-- whether exactly one token is out for the job
abbrev pub is_last_token : Option JobRow → Bool
is_last_token o = option_map_or (λ x. x.count == 1) o false

-- the job that finishes next: the local one that gets its last token back by this
abbrev pub next_finishing : Option Up → List JobRow → Option JobRow
next_finishing None xs = None
next_finishing (Some (Local j)) xs = if is_last_token (job_of xs j) then job_of (count_lowered j xs) j else None
next_finishing (Some (Remote kernel j)) xs = None

-- The chain of a job is the job, and then the chain of the job that finishes next, once the first
-- is taken out and its token is given back. n bounds the jobs in it.
unfoldable pub chain : ℕ → Option JobRow → List JobRow → Chain
chain zero o xs = record { left = xs; gone = [] }
chain (suc n) None xs = record { left = xs; gone = [] }
chain (suc n) (Some x) xs =
    let others : List JobRow = job_removed x.id xs in
    let rest : Chain = chain n (next_finishing x.up others) (token_given_back x.up others) in
    record { left = rest.left; gone = x ∷ rest.gone }

-- the chain of the job of that id; each of its jobs is taken out of the list, so it has no more
-- jobs than the list
abbrev pub chain_of : ℕ → List JobRow → Chain
chain_of j xs = chain (length xs) (job_of xs j) xs
