use Rattle.std.proofs.Common.{◌-◌, sym, ◌∙◌, ap}
use Rattle.sem_msg.specs.Rows.{JobRow}
use Rattle.sem_jobs.proofs.JobPlaces.{same_jobs, changed-absent}
use Rattle.sem_jobs.proofs.Chains.{lowered-zero}
use Rattle.sem_jobs.proofs.jobs.Jobs.token_back.Goals as goal

-- there is no such job
pub returns-in_err-waiting-clause-jobs : goal.returns-in_err-waiting-clause-jobs
returns-in_err-waiting-clause-jobs c =
    same_jobs _ _ _ _
    (sym (changed-absent c.args.job (λ (x : JobRow). record x { count = x.count - 1 }) c.args.self.now.jobs (sym c.in_err-waiting.ensures.job)))

-- no token is out for it
pub returns-then-waiting-eq0-clause-jobs : goal.returns-then-waiting-eq0-clause-jobs
returns-then-waiting-eq0-clause-jobs c =
    let none = sym (ap (λ (x : JobRow). x.count) c.waiting.view_is) ∙ c.if-waiting-eq0.true in
    same_jobs _ _ _ _
    (sym (lowered-zero c.args.self.now.jobs c.args.self.now.next c.in_ok-waiting.ensures.store c.args.job c.in_ok-waiting.waiting
    (sym c.in_ok-waiting.ensures.job) none))
