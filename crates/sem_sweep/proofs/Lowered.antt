-- What becomes of a job that gets a token back.
use Rattle.std.proofs.Common.{◌≡◌, ℕ, Bool, true, false, List, length, Option, Some, None, refl, sym, ◌∙◌, ap}
use Rattle.std.specs.Prelude.{◌==◌, IfSome, IsSome, if◌then◌else◌}
use Rattle.std.specs.Option.{option_and_then}
use Rattle.std.proofs.lemmas.Bool.{false≢true}
use Rattle.sem_msg.specs.declared.message.Message.TheVariants.{RevokeDone}
use Rattle.sem_msg.specs.Rows.{JobRow}
use Rattle.sem_msg.specs.JobRows.{job_of, if_done}
use Rattle.sem_msg.specs.JobRows
use Rattle.sem_msg.specs.Setup.{Setup}
use Rattle.sem_jobs.specs.JobStore.{JobStore}
use Rattle.sem_jobs.proofs.JobPlaces.{changed-absent}
use Rattle.sem_machine.specs.Sides.{Side}
use Rattle.sem_machine.specs.Stores.{with_jobs}
use Rattle.sem_machine.specs.Revokes.{count_lowered, finish, finished, settled}
use Rattle.sem_machine.specs.Handles.{handle_row}
use Rattle.sem_sweep.proofs.Swept.{finish-none, job-id}

-- the job, if it is done, is finished: that is what the message does
pub done-row : (T : Setup) (i from j : ℕ) (o : Option ℕ) (old new : JobStore) (s : Side) → new ≡ record old { jobs = JobRows.count_lowered j old.jobs } →
    option_and_then (job_of new.jobs) o ≡ if_done (job_of new.jobs j) →
    finished T i o (with_jobs new.jobs new.next s) ≡ handle_row T i (with_jobs old.jobs old.next s) from (RevokeDone j)
unfolding handle_row
done-row T i from j o old new s lowered next =
    ap (λ p. finish T i (length new.jobs) p (with_jobs new.jobs new.next s)) next
    ∙ ap (λ (t : JobStore). settled T i j (with_jobs t.jobs t.next s)) lowered
    ∙ by_job (job_of old.jobs j) refl
  where
    settled_if_there : Setup → ℕ → ℕ → Option JobRow → Side → Side
    settled_if_there T i j None s = s
    settled_if_there T i j (Some x) s = settled T i j (count_lowered j s)

    by_job : (p : Option JobRow) → job_of old.jobs j ≡ p →
        settled T i j (count_lowered j (with_jobs old.jobs old.next s)) ≡ settled_if_there T i j p (with_jobs old.jobs old.next s)
    by_job None none =
        ap (λ (xs : List JobRow). settled T i j (with_jobs xs old.next s)) (changed-absent j _ old.jobs none)
        ∙ ap (λ p. finish T i (length old.jobs) (if_done p) (with_jobs old.jobs old.next s)) none
        ∙ finish-none T i (length old.jobs) (with_jobs old.jobs old.next s)
    by_job (Some x) some = refl

-- it is the job that got the token
pub answered-job : (j : ℕ) (xs : List JobRow) (o : Option ℕ) → option_and_then (job_of xs) o ≡ if_done (job_of xs j) → IfSome o (λ k. IsSome (job_of xs k)) →
    IfSome o (λ k. k ≡ j)
answered-job j xs None next there = tt
answered-job j xs (Some k) next there = by_jobs (job_of xs k) (job_of xs j) refl refl next there
  where
    by_count : (x y : JobRow) (t : Bool) → job_of xs k ≡ Some x → job_of xs j ≡ Some y → Some x ≡ (if t then Some y else None) → k ≡ j
    by_count x y true at_k at_j same = let one : x ≡ y = cc in sym (job-id k xs x at_k) ∙ ap (λ (z : JobRow). z.id) one ∙ job-id j xs y at_j
    by_count x y false at_k at_j same = absurd cc

    by_jobs : (p q : Option JobRow) → job_of xs k ≡ p → job_of xs j ≡ q → p ≡ if_done q → IsSome p → k ≡ j
    by_jobs None q at_k at_j same some = absurd (false≢true some)
    by_jobs (Some x) None at_k at_j same some = absurd cc
    by_jobs (Some x) (Some y) at_k at_j same some = by_count x y (y.count == 0) at_k at_j same
