use Rattle.std.proofs.Common.{◌≡◌, None, sym, ◌∙◌, eq-eqb, rules}
use Rattle.sem_msg.specs.Rows.{JobRow}
use Rattle.sem_msg.specs.JobRows.{job_of}
use Rattle.sem_jobs.proofs.JobPlaces.{same_jobs}
use Rattle.sem_sweep.proofs.Leaving.{left-absent, left-own, left-other}
use Rattle.sem_sweep.proofs.ends.give_up_root.Goals as goal

-- the job is not there
pub returns-in_default : goal.returns-in_default
returns-in_default c =
    let none : job_of c.args.jobs.now.jobs c.args.job ≡ None = search rules in
    same_jobs _ _ _ _ (sym (left-absent c.args.job c.args.vpe c.args.jobs.now.jobs none))

-- its root is of the VPE
pub returns-then-open-vpe : goal.returns-then-open-vpe
returns-then-open-vpe c =
    let x : JobRow = c.in-Some.open in
    let own : x.root.vpe ≡ c.args.vpe = search rules in
    c.give_up.ensures
    ∙ same_jobs _ _ _ _ (left-own c.args.job c.args.vpe c.args.jobs.now.jobs x c.in-Some.ensures.store.rising (sym c.in-Some.ensures.job)
    (eq-eqb x.root.vpe c.args.vpe own))

-- its root is of another VPE
pub returns-else-open-vpe : goal.returns-else-open-vpe
returns-else-open-vpe c =
    let x : JobRow = c.in-Some.open in
    same_jobs _ _ _ _ (sym (left-other c.args.job c.args.vpe c.args.jobs.now.jobs x c.in-Some.ensures.store.rising (sym c.in-Some.ensures.job) (search rules)))
