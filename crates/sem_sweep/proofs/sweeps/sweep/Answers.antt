use Rattle.std.proofs.Common.{◌≡◌, ◌+◌, ◌<◌, Option, Some, length, refl, sym, ◌∙◌, ap, arith}
use Rattle.std.specs.Option.{option_and_then}
use Rattle.sem_msg.specs.declared.state.Up.{Up}
use Rattle.sem_msg.specs.Rows.{JobRow}
use Rattle.sem_msg.specs.JobRows.{job_of, job_removed as jobs_removed}
use Rattle.sem_jobs.specs.JobStore.{JobStore}
use Rattle.sem_jobs.proofs.Chains.{shorter}
use Rattle.sem_machine.specs.Sides.{Side, job_removed}
use Rattle.sem_machine.specs.Revokes.{closed, closed_here, finish, parent_left, swept, up_told, woken}
use Rattle.sem_machine.specs.Stores.{with_caps_vpes_parks_outs, with_jobs, with_outs, with_parks, with_vpes}
use Rattle.sem_sweep.specs.Sweeping.{sweeping, parent_messages, up_messages}
use Rattle.sem_sweep.proofs.Swept.{job-id, up-found, told-kept, told-length, removed-kept, one-message, left-owner, can-ours, home-same, closed-here, finish-none, finish-turn}
use Rattle.sem_sweep.proofs.sweeps.sweep.Goals as goal

pub close-parent-requires-clause-ours : goal.close-parent-requires-clause-ours
close-parent-requires-clause-ours c = can-ours c.args.setup.now c.args.kernel c.loop-next.vpes c.loop-next.caps.caps
    (home-same c.args.setup.now c.args.kernel c.args.vpes.now c.loop-next.vpes c.loop-next.invariant.ours c.requires.home) c.loop-next.invariant.caps

pub leave_parent-requires-clause-owner : goal.leave_parent-requires-clause-owner
leave_parent-requires-clause-owner c = left-owner c.args.setup.now c.args.kernel c.loop-next.caps.caps c.in-Some-take.finished c.close-parent.result
    c.loop-next.invariant.caps c.close-parent.ensures.parent

pub tell_up-next-requires-clause-up : goal.tell_up-next-requires-clause-up
tell_up-next-requires-clause-up c =
    let is = up-found c.args.setup.now c.in-Some.id c.loop-next.jobs.jobs c.in-Some-take.finished c.loop-next.invariant.ups (sym c.in-Some-take.ensures.job) in
    let up : c.finished.inside.up ≡ c.in-Some-take.finished.up = ap (λ (y : JobRow). y.up) c.finished.view_is in
    rw up is

pub loop-next-smaller : goal.loop-next-smaller
loop-next-smaller c =
    let xs = c.loop-next.jobs.jobs in
    let less : length (jobs_removed c.in-Some.id xs) + 1 ≡ length xs =
    shorter xs c.loop-next.jobs.next c.in-Some-take.ensures.store c.in-Some.id c.in-Some-take.finished (sym c.in-Some-take.ensures.job) in
    let told : length c.tell_up-next.new.jobs.jobs ≡ length c.take.new.self.jobs = ap (λ (t : JobStore). length t.jobs) c.tell_up-next.ensures.told
    ∙ told-length c.finished.inside.up c.take.new.self.jobs in
    let taken : length c.take.new.self.jobs ≡ length (jobs_removed c.in-Some.id xs) = ap length c.in-Some-take.ensures.jobs in
    let fewer : length c.tell_up-next.new.jobs.jobs < length xs = omega (arith, less, told, taken) in
    fewer

pub loop-next-preserved : goal.loop-next-preserved
loop-next-preserved c =
    let T = c.args.setup.now in
    let i = c.args.kernel in
    let xs = c.loop-next.jobs.jobs in
    let ys = c.take.new.self.jobs in
    let zs = c.tell_up-next.new.jobs.jobs in
    let id = c.in-Some.id in
    let x : JobRow = c.in-Some-take.finished in
    let up : Option Up = c.finished.inside.up in
    let same_up : up ≡ x.up = ap (λ (y : JobRow). y.up) c.finished.view_is in
    let found : job_of xs id ≡ Some x = sym c.in-Some-take.ensures.job in
    let x_id : x.id ≡ id = job-id id xs x found in
    let less : length (jobs_removed id xs) + 1 ≡ length xs = shorter xs c.loop-next.jobs.next c.in-Some-take.ensures.store id x found in
    let is_told = ap (λ (t : JobStore). t.jobs) c.tell_up-next.ensures.told in
    let told : length zs ≡ length ys = ap length is_told ∙ told-length up ys in
    let taken : length ys ≡ length (jobs_removed id xs) = ap length c.in-Some-take.ensures.jobs in
    let one : parent_messages x.up + up_messages x.up ≡ 1 = one-message x.up in
    let same_messages : up_messages up ≡ up_messages x.up = ap up_messages same_up in
    record {
      there = c.tell_up-next.ensures.there;
      ours = c.close-parent.ensures.ours ∙ c.loop-next.invariant.ours;
      caps = c.leave_parent.ensures.kept i (c.close-parent.ensures.kept T i c.loop-next.invariant.caps);
      ups = rw is_told (told-kept T up ys (rw c.in-Some-take.ensures.jobs (removed-kept T id xs c.loop-next.invariant.ups)));
      boxes = c.tell_up-next.ensures.boxes;
      spare = omega (arith, less, told, taken, one, same_messages, c.tell_up-next.ensures.spare, c.leave_parent.ensures.spare, c.loop-next.invariant.spare);
      job_spare = let kept = ap (λ (t : JobStore). t.spare) c.tell_up-next.ensures.told in
          omega (arith, kept, c.in-Some-take.ensures.spare, c.loop-next.invariant.job_spare);
      caps_spare = omega (arith, c.leave_parent.ensures.caps_spare, c.close-parent.ensures.spare, c.loop-next.invariant.caps_spare);
      count = omega (arith, c.leave_parent.ensures.count, c.close-parent.ensures.count, c.loop-next.invariant.count);
      space = c.close-parent.ensures.space ∙ c.loop-next.invariant.space;
      keys = c.loop-next.invariant.keys;
      links = c.loop-next.invariant.links;
      row = λ s.
          let s0 : Side = sweeping c.loop-next.caps c.loop-next.vpes c.loop-next.jobs c.loop-next.park c.loop-next.outs s in
          let s3 : Side = sweeping c.leave_parent.new.caps c.close-parent.new.vpes c.tell_up-next.new.jobs c.close-parent.new.park c.tell_up-next.new.outs s in
          let out : sweeping c.loop-next.caps c.loop-next.vpes c.take.new.self c.loop-next.park c.loop-next.outs s ≡ job_removed x.id s0 =
          rw (c.in-Some-take.ensures.jobs, c.in-Some-take.ensures.next, x_id) refl in
          let s1 : Side = sweeping c.close-parent.new.caps c.close-parent.new.vpes c.take.new.self c.close-parent.new.park c.loop-next.outs s in
          let s2 : Side = sweeping c.leave_parent.new.caps c.close-parent.new.vpes c.take.new.self c.close-parent.new.park c.leave_parent.new.outs s in
          let swept1 : s1 ≡ woken x.waiters (swept x (job_removed x.id s0)) =
          c.close-parent.ensures.row (with_jobs c.take.new.self.jobs c.take.new.self.next (with_outs c.loop-next.outs.boxes s))
          ∙ ap (λ t. woken x.waiters (swept x t)) out in
          let left : s2 ≡ parent_left T i x c.close-parent.result s1 = c.leave_parent.ensures.row
          (with_vpes c.close-parent.new.vpes.rows (with_jobs c.take.new.self.jobs c.take.new.self.next (with_parks c.close-parent.new.park s))) in
          let closed1 : s2 ≡ closed_here T i x (job_removed x.id s0) =
          closed-here T i x (job_removed x.id s0) s1 s2 c.close-parent.result swept1 c.close-parent.ensures.parent left in
          let here : s3 ≡ closed T i x s0 = c.tell_up-next.ensures.row
          (with_caps_vpes_parks_outs c.leave_parent.new.caps.caps c.close-parent.new.vpes.rows c.close-parent.new.park c.leave_parent.new.outs.boxes s)
          ∙ (ap (up_told up) closed1 ∙ ap (λ u. up_told u (closed_here T i x (job_removed x.id s0))) same_up) in
          finish-turn T i (length zs) (length xs) x up s0 s3 (option_and_then (job_of zs) c.tell_up-next.result) (option_and_then (job_of xs) c.loop-next.next)
          (omega (arith, less, told, taken)) (ap (option_and_then (job_of xs)) c.in-Some.is ∙ found) same_up here c.tell_up-next.ensures.next
          ∙ c.loop-next.invariant.row s;
    }

pub returns-clause-row : goal.returns-clause-row
returns-clause-row c s = sym (finish-none c.args.setup.now c.args.kernel (length c.loop-next.jobs.jobs) _)
    ∙ (ap (λ o. finish c.args.setup.now c.args.kernel (length c.loop-next.jobs.jobs) (option_and_then (job_of c.loop-next.jobs.jobs) o)
    (sweeping c.loop-next.caps c.loop-next.vpes c.loop-next.jobs c.loop-next.park c.loop-next.outs s)) (sym c.in_default.is) ∙ c.loop-next.invariant.row s)
