use Rattle.std.proofs.Common.{◌≡◌, ℕ, false, [], ◌∷◌, length, None, sym, ap, ◌∙◌, arith, rules}
use Rattle.sem_key.specs.KeyName.{KeyName}
use Rattle.sem_key.specs.Capability.{Capability, capability_of}
use Rattle.sem_msg.specs.declared.state.Parked.TheVariants.{RevokeWait}
use Rattle.sem_machine.specs.Sides.{Side, parked_as}
use Rattle.sem_machine.specs.Revokes.{opened, waiter_added}
use Rattle.sem_mark.specs.Marking.{revoking}
use Rattle.sem_mark.proofs.Begun.{finish-none, begins-nothing, call-begun, call-opened, children-few, revoke-none, revoke-marked, revoke-open}
use Rattle.sem_mark.proofs.calls.revoke_call.Goals as goal

-- nothing is held
pub returns-in_default-clause-row : goal.returns-in_default-clause-row
returns-in_default-clause-row c s =
    let side : Side = revoking c.args.caps.now c.args.vpes.now c.args.dtus.now c.args.jobs.now c.args.park.now c.args.outs.now s in
    (λ i. record { side = finish-none c.args.setup.now c.args.kernel (length side.jobs) side i; outcome = c.answered.ensures i })
    ∙ sym (revoke-none c.args.setup.now c.args.kernel side c.args.vpe c.args.sel (search rules))

-- a job has marked it
pub returns-in-Some-mark-clause-row : goal.returns-in-Some-mark-clause-row
returns-in-Some-mark-clause-row c s =
    let T = c.args.setup.now in
    let v = c.args.vpe in
    let j : ℕ = c.in-Some-mark.job in
    let side : Side = revoking c.args.caps.now c.args.vpes.now c.args.dtus.now c.args.jobs.now c.args.park.now c.args.outs.now s in
    let after : Side = revoking c.args.caps.now c.args.vpes.now c.args.dtus.now c.wait.new.self c.park.new.self c.args.outs.now s in
    let waits : after ≡ waiter_added j v (parked_as v (RevokeWait j) side) =
    λ i. revoking c.args.caps.now c.args.vpes.now c.args.dtus.now (c.wait.ensures i) (c.park.ensures.states i) c.args.outs.now s in
    let whole = finish-none T c.args.kernel (length after.jobs) after ∙ waits in
    (λ i. record { side = whole i; outcome = c.cut.ensures i })
    ∙ sym (revoke-marked T c.args.kernel side v c.args.sel (capability_of c.in-Some.cap.now) j (search rules) c.in-Some-mark.is)

-- no job has marked it
pub returns-clause-row : goal.returns-clause-row
returns-clause-row c s =
    let side : Side = revoking c.args.caps.now c.args.vpes.now c.args.dtus.now c.args.jobs.now c.args.park.now c.args.outs.now s in
    (λ i. record {
      side = call-begun c.args.setup.now c.args.kernel c.args.vpe false (capability_of c.in-Some.cap.now).key c.args.caps.now c.open_job-begun.new.caps c.args.vpes.now c.args.dtus.now
          c.open_job-begun.new.dtus c.args.jobs.now c.open_job-begun.new.jobs c.args.park.now c.wait_for.new.park c.args.outs.now c.open_job-begun.new.outs
          c.open_job-begun.result c.open_job-begun.ensures.opened c.wait_for.ensures.park c.open_job-begun.ensures.id s c.wait_for.result c.wait_for.ensures.done i;
      outcome = c.cut-2.ensures i;
    })
    ∙ sym (revoke-open c.args.setup.now c.args.kernel side c.args.vpe c.args.sel (capability_of c.in-Some.cap.now) (search rules) c.in_default-mark.is)

pub returns-in_default-clause-begun : goal.returns-in_default-clause-begun
returns-in_default-clause-begun c = begins-nothing _ _ _ _ _ _ _ _ _

pub returns-in-Some-mark-clause-begun : goal.returns-in-Some-mark-clause-begun
returns-in-Some-mark-clause-begun c = begins-nothing _ _ _ _ _ _ _ _ _

-- there are no more children than links
pub open_job-begun-requires-clause-spare : goal.open_job-begun-requires-clause-spare
open_job-begun-requires-clause-spare c =
    let few = children-few c.args.caps.now.caps (capability_of c.in-Some.cap.now).key in omega (arith, few, c.requires.can.spare)

pub returns-clause-left : goal.returns-clause-left
returns-clause-left c =
    let few = children-few c.args.caps.now.caps (capability_of c.in-Some.cap.now).key in
    record {
      boxes = c.open_job-begun.ensures.boxes;
      spare = omega (arith, few, c.open_job-begun.ensures.spare);
      job_spare = c.open_job-begun.ensures.job_spare;
      caps_spare = c.open_job-begun.ensures.caps_spare;
      space = c.open_job-begun.ensures.space;
      gone = c.open_job-begun.ensures.gone;
    }

pub returns-clause-begun : goal.returns-clause-begun
returns-clause-begun c = record {
  opened = λ is d held s.
      let same : capability_of c.in-Some.cap.now ≡ d = search rules in
      let key = ap (λ (x : Capability). x.key) same in
      let side : Side = revoking c.args.caps.now c.args.vpes.now c.args.dtus.now c.args.jobs.now c.args.park.now c.args.outs.now s in
      call-opened c.args.setup.now c.args.kernel c.args.vpe false (capability_of c.in-Some.cap.now).key c.args.caps.now c.open_job-begun.new.caps c.args.vpes.now c.args.dtus.now
      c.open_job-begun.new.dtus c.args.jobs.now c.open_job-begun.new.jobs c.args.park.now c.wait_for.new.park c.args.outs.now c.open_job-begun.new.outs
      c.open_job-begun.result c.open_job-begun.ensures.opened c.wait_for.ensures.park c.open_job-begun.ensures.id s
      ∙ ap (λ (k : KeyName). opened c.args.setup.now c.args.kernel k None (c.args.vpe ∷ []) false (parked_as c.args.vpe (RevokeWait c.args.jobs.now.next) side))
      key;
  unmarked = search rules;
  there = search rules;
  next = search rules;
}
