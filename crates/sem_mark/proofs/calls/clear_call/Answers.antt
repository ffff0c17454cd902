use Rattle.std.proofs.Common.{◌≡◌, true, [], ◌∷◌, length, None, sym, ap, ◌∙◌, arith, rules}
use Rattle.sem_key.specs.KeyName.{KeyName}
use Rattle.sem_key.specs.Capability.{Capability, capability_of}
use Rattle.sem_msg.specs.declared.state.Parked.TheVariants.{RevokeWait}
use Rattle.sem_machine.specs.Sides.{Side, parked_as}
use Rattle.sem_machine.specs.Calls.{own_tests}
use Rattle.sem_machine.specs.Sides
use Rattle.sem_machine.specs.Revokes.{opened}
use Rattle.sem_machine.proofs.FirstCodes.{row-refused}
use Rattle.sem_mark.specs.Marking.{revoking}
use Rattle.sem_mark.proofs.Begun.{finish-none, begins-nothing, call-begun, call-opened, children-few, clear-done}
use Rattle.sem_mark.proofs.calls.clear_call.Goals as goal

-- the first test that holds
pub returns-in-Some-clause-row : goal.returns-in-Some-clause-row
returns-in-Some-clause-row c s =
    let side : Side = revoking c.args.caps.now c.args.vpes.now c.args.dtus.now c.args.jobs.now c.args.park.now c.args.outs.now s in
    ap (λ (x : Side). record { side = x; outcome = c.answered.result }) (finish-none c.args.setup.now c.args.kernel (length side.jobs) side)
    ∙ row-refused side (own_tests (Sides.own side c.args.vpe c.args.sel)) _ c.in-Some.code c.answered.result c.in-Some.ensures c.answered.ensures

-- no test holds
pub returns-clause-row : goal.returns-clause-row
returns-clause-row c s =
    let side : Side = revoking c.args.caps.now c.args.vpes.now c.args.dtus.now c.args.jobs.now c.args.park.now c.args.outs.now s in
    (λ i. record {
      side = call-begun c.args.setup.now c.args.kernel c.args.vpe true (capability_of c.in-Some-and_then.cap.now).key c.args.caps.now c.open_job-begun.new.caps c.args.vpes.now c.args.dtus.now
          c.open_job-begun.new.dtus c.args.jobs.now c.open_job-begun.new.jobs c.args.park.now c.wait_for.new.park c.args.outs.now c.open_job-begun.new.outs
          c.open_job-begun.result c.open_job-begun.ensures.opened c.wait_for.ensures.park c.open_job-begun.ensures.id s c.wait_for.result c.wait_for.ensures.done i;
      outcome = c.cut.ensures i;
    })
    ∙ sym (clear-done c.args.setup.now c.args.kernel side c.args.vpe c.args.sel (capability_of c.in-Some-and_then.cap.now) c.in_default.ensures
    (search rules))

pub returns-in-Some-clause-begun : goal.returns-in-Some-clause-begun
returns-in-Some-clause-begun c = begins-nothing _ _ _ _ _ _ _ _ _

-- there are no more children than links
pub open_job-begun-requires-clause-spare : goal.open_job-begun-requires-clause-spare
open_job-begun-requires-clause-spare c =
    let few = children-few c.args.caps.now.caps (capability_of c.in-Some-and_then.cap.now).key in omega (arith, few, c.requires.spare)

pub returns-clause-left : goal.returns-clause-left
returns-clause-left c =
    let few = children-few c.args.caps.now.caps (capability_of c.in-Some-and_then.cap.now).key in
    record {
      boxes = c.open_job-begun.ensures.boxes;
      spare = omega (arith, few, c.open_job-begun.ensures.spare);
      job_spare = c.open_job-begun.ensures.job_spare;
      caps_spare = c.open_job-begun.ensures.caps_spare;
      space = c.open_job-begun.ensures.space;
      gone = c.open_job-begun.ensures.gone;
    }

pub returns-clause-begun : goal.returns-clause-begun
returns-clause-begun c = record {
  opened = λ is d held s.
      let same : capability_of c.in-Some-and_then.cap.now ≡ d = search rules in
      let key = ap (λ (x : Capability). x.key) same in
      let side : Side = revoking c.args.caps.now c.args.vpes.now c.args.dtus.now c.args.jobs.now c.args.park.now c.args.outs.now s in
      call-opened c.args.setup.now c.args.kernel c.args.vpe true (capability_of c.in-Some-and_then.cap.now).key c.args.caps.now c.open_job-begun.new.caps c.args.vpes.now c.args.dtus.now
      c.open_job-begun.new.dtus c.args.jobs.now c.open_job-begun.new.jobs c.args.park.now c.wait_for.new.park c.args.outs.now c.open_job-begun.new.outs
      c.open_job-begun.result c.open_job-begun.ensures.opened c.wait_for.ensures.park c.open_job-begun.ensures.id s
      ∙ ap (λ (k : KeyName). opened c.args.setup.now c.args.kernel k None (c.args.vpe ∷ []) true (parked_as c.args.vpe (RevokeWait c.args.jobs.now.next) side))
      key;
  unmarked = search rules;
  there = search rules;
  next = search rules;
}
