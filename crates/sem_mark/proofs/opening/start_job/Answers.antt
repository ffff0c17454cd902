use Rattle.std.proofs.Common.{◌<◌, ℕ, List, sym, ap, subst, ◌∙◌, arith}
use Rattle.std.specs.List.{AllPairs}
use Rattle.sem_msg.specs.Rows.{JobRow}
use Rattle.sem_msg.specs.JobRows.{ids_of, job_opened, keep_set, waiters_of}
use Rattle.sem_jobs.specs.JobStore.{JobStore}
use Rattle.sem_mark.proofs.Opened.{opened-kept, kept-count}
use Rattle.sem_mark.proofs.opening.start_job.Goals as goal

-- the other ids are lower
pub returns-then-keep-clause-jobs : goal.returns-then-keep-clause-jobs
returns-then-keep-clause-jobs c =
    let jobs : List JobRow = c.args.jobs.now.jobs in
    let next : ℕ = c.args.jobs.now.next in
    ap (λ (x : JobStore). x.jobs) c.keep.ensures
    ∙ ap (λ n. keep_set n c.begin-job.new.self.jobs) c.begin-job.ensures.id
    ∙ ap (keep_set next) c.begin-job.ensures.jobs
    ∙ opened-kept next c.args.root c.args.up (waiters_of c.args.waiter) jobs
    (subst (λ xs. AllPairs (λ m n. m < n) (ids_of xs)) c.begin-job.ensures.jobs c.get.ensures.store.rising)
    ∙ ap (λ keep. job_opened next c.args.root c.args.up (waiters_of c.args.waiter) keep jobs) (sym c.if-keep.true)

pub returns-then-keep-clause-count : goal.returns-then-keep-clause-count
returns-then-keep-clause-count c = rw c.keep.ensures (kept-count c.begin-job.result c.begin-job.new.self.jobs _ c.begin-job.ensures.there (omega arith))
