use Rattle.std.proofs.Common.{false, refl, sym, ap}
use Rattle.sem_msg.specs.Rows.{JobRow}
use Rattle.sem_jobs.proofs.JobPlaces.{same_jobs, changed-absent}
use Rattle.sem_jobs.proofs.Written.{opened, changed-written, stored-written}
use Rattle.sem_jobs.proofs.jobs.Jobs.give_up.Goals as goal

-- the id is the same
pub invariant_of-self : goal.invariant_of-self
invariant_of-self c =
    let open_at = opened c.self.view_is c.self.invariant c.in-Some.ensures.place c.index.ensures c.index_mut-open.ensures.value in
    stored-written open_at c.give_up.new.self (ap (λ (x : JobRow). x.id) c.give_up.ensures)

pub returns : goal.returns
returns c =
    let open_at = opened c.self.view_is c.self.invariant c.in-Some.ensures.place c.index.ensures c.index_mut-open.ensures.value in
    rw (← c.self.view_is) (same_jobs _ _ _ _ (changed-written open_at c.give_up.new.self (λ (x : JobRow). record x { keep = false }) c.give_up.ensures))

-- there is no such job
pub returns-in_default : goal.returns-in_default
returns-in_default c =
    same_jobs _ _ _ _ (sym (changed-absent c.args.job (λ (x : JobRow). record x { keep = false }) c.args.self.now.jobs (c.in_default.ensures.absent refl)))
