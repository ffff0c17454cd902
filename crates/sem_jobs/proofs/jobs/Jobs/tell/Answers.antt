use Rattle.std.proofs.Common.{◌≡◌, ◌-◌, ◌<◌, Some, sym, ◌∙◌, ap, arith, rules}
use Rattle.sem_msg.specs.Rows.{JobRow}
use Rattle.sem_msg.specs.declared.state.Up.TheVariants.{Local}
use Rattle.sem_jobs.specs.JobStore.{JobStore}
use Rattle.sem_jobs.proofs.JobPlaces.{same_jobs, changed-absent}
use Rattle.sem_jobs.proofs.Chains.{lowered-zero, next-told}
use Rattle.sem_jobs.proofs.jobs.Jobs.tell.Goals as goal

-- the job is not there
pub returns-in_err-waiting-clause-jobs : goal.returns-in_err-waiting-clause-jobs
returns-in_err-waiting-clause-jobs c =
    let up : c.args.up ≡ Some (Local c.in-Some-Local.job) = search rules in
    rw up (same_jobs _ _ _ _
    (sym (changed-absent c.in-Some-Local.job (λ (x : JobRow). record x { count = x.count - 1 }) c.args.self.now.jobs (sym c.in_err-waiting.ensures.job))))

-- no token is out for it
pub returns-then-waiting-eq0-clause-jobs : goal.returns-then-waiting-eq0-clause-jobs
returns-then-waiting-eq0-clause-jobs c =
    let up : c.args.up ≡ Some (Local c.in-Some-Local.job) = search rules in
    let none = sym (ap (λ (x : JobRow). x.count) c.waiting.view_is) ∙ c.if-waiting-eq0.true in
    rw up (same_jobs _ _ _ _
    (sym (lowered-zero c.args.self.now.jobs c.args.self.now.next c.in_ok-waiting.ensures.store c.in-Some-Local.job c.in_ok-waiting.waiting
    (sym c.in_ok-waiting.ensures.job) none)))

-- one is, and maybe no more
pub returns-clause-next : goal.returns-clause-next
returns-clause-next c =
    let up : c.args.up ≡ Some (Local c.in-Some-Local.job) = search rules in
    let some : 0 < c.in_ok-waiting.waiting.count = let same = ap (λ (x : JobRow). x.count) c.waiting.view_is in let positive = c.if-waiting-eq0.false in
    omega arith in
    rw up (next-told c.args.self.now.jobs c.done-is_last.new.self.jobs c.args.self.now.next c.in_ok-waiting.ensures.store c.in-Some-Local.job
    c.in_ok-waiting.waiting (sym c.in_ok-waiting.ensures.job) (ap (λ (s : JobStore). s.jobs) c.done-is_last.ensures.jobs) some c.done-is_last.result
    c.then_some.result c.done-is_last.ensures.last c.then_some.ensures)
