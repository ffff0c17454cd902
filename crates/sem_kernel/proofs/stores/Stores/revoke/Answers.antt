use Rattle.std.proofs.Common.{◌∙◌, false, refl, ap, arith, rules}
use Rattle.std.specs.Prelude.{IfSome, IsSome}
use Rattle.sem_msg.specs.JobRows.{job_of}
use Rattle.sem_machine.specs.Sides.{Side}
use Rattle.sem_sound.proofs.Meeting.{ids-fit}
use Rattle.sem_sound.proofs.Revoking.{slack-of}
use Rattle.sem_kernel.proofs.Meets.{own-sound}
use Rattle.sem_kernel.proofs.BegunCalls.{begun-sound, begun-jobs, begun-caps}
use Rattle.sem_kernel.proofs.Openings.{lead-home, marker-there}
use Rattle.sem_machine.specs.Steps.{step_of}
use Rattle.sem_kernel.specs.KernelStores.{side_of}
use Rattle.sem_kernel.proofs.stores.Stores.revoke.Goals as goal

pub revoke_call-outcome-requires-clause-marker : goal.revoke_call-outcome-requires-clause-marker
revoke_call-outcome-requires-clause-marker c = own-sound c.args.setup.now c.requires.can.are.setup c.args.kernel c.requires.can.are.is_one
    (side_of c.args.self.now) c.requires.can.are.sound c.args.vpe c.args.src (λ p. IfSome p.mark (λ j. IsSome (job_of c.args.self.now.jobs.jobs j)))
    (λ p among sound. marker-there c.args.setup.now c.requires.can.are.setup c.args.kernel c.requires.can.are.is_one (side_of c.args.self.now) c.requires.can.are.sound p
    among)

pub revoke_call-outcome-requires-clause-can : goal.revoke_call-outcome-requires-clause-can
revoke_call-outcome-requires-clause-can c =
    let T = c.args.setup.now in
    let are = c.requires.can.are in
    let fit = ids-fit T are.setup c.args.kernel are.is_one (side_of c.args.self.now) are.sound in
    let home = lead-home T are.setup c.args.kernel are.is_one (side_of c.args.self.now) are.sound in
    search (rules, fit, home)

pub finish-requires-clause-sound : goal.finish-requires-clause-sound
finish-requires-clause-sound c = begun-sound c.args.setup.now c.args.kernel c.args.vpe c.args.src c.args.self.now c.requires.can false _ _ _ _
    c.revoke_call-outcome.ensures.begun refl
    c.requires.idle (slack-of c.args.setup.now c.requires.can.are.setup c.args.kernel c.requires.can.are.is_one
    (side_of c.args.self.now) c.requires.can.are.sound)

pub finish-requires-clause-outs : goal.finish-requires-clause-outs
finish-requires-clause-outs c some =
    let jobs = begun-jobs c.args.setup.now c.args.kernel c.args.vpe c.args.src c.args.self.now c.requires.can false _ _ _ _
    c.revoke_call-outcome.ensures.begun refl some in
    let spare = c.revoke_call-outcome.ensures.left.spare in
    let room = c.requires.room.outs in
    omega (arith, jobs, spare, room)

pub finish-requires-clause-gone : goal.finish-requires-clause-gone
finish-requires-clause-gone c some =
    let caps = begun-caps c.args.setup.now c.args.kernel c.args.vpe c.args.src c.args.self.now c.requires.can false _ _ _ _
    c.revoke_call-outcome.ensures.begun refl some in
    let gone = c.revoke_call-outcome.ensures.left.gone in
    let room = c.requires.room.gone in
    omega (arith, caps, gone, room)

pub returns : goal.returns
returns c = record {
  row = ap (λ (t : Side). step_of c.revoke_call-outcome.result.0 t) c.finish.ensures.row
      ∙ c.revoke_call-outcome.ensures.row (side_of c.args.self.now);
  stores = search rules;
}
