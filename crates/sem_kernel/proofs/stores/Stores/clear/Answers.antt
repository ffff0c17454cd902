use Rattle.std.proofs.Common.{◌∙◌, true, refl, ap, arith, rules}
use Rattle.sem_machine.specs.Sides.{Side}
use Rattle.sem_sound.proofs.Meeting.{ids-fit}
use Rattle.sem_kernel.proofs.BegunCalls.{begun-sound, begun-jobs, begun-caps}
use Rattle.sem_kernel.proofs.Openings.{lead-home}
use Rattle.sem_machine.specs.Steps.{step_of}
use Rattle.sem_kernel.specs.KernelStores.{side_of}
use Rattle.sem_kernel.proofs.stores.Stores.clear.Goals as goal

pub clear_call-outcome-requires : goal.clear_call-outcome-requires
clear_call-outcome-requires c =
    let T = c.args.setup.now in
    let are = c.requires.can.are in
    let fit = ids-fit T are.setup c.args.kernel are.is_one (side_of c.args.self.now) are.sound in
    let home = lead-home T are.setup c.args.kernel are.is_one (side_of c.args.self.now) are.sound in
    search (rules, fit, home)

pub finish-requires-clause-sound : goal.finish-requires-clause-sound
finish-requires-clause-sound c = begun-sound c.args.setup.now c.args.kernel c.args.vpe c.args.src c.args.self.now c.requires.can true _ _ _ _
    c.clear_call-outcome.ensures.begun refl
    c.requires.idle c.requires.pays

pub finish-requires-clause-outs : goal.finish-requires-clause-outs
finish-requires-clause-outs c some =
    let jobs = begun-jobs c.args.setup.now c.args.kernel c.args.vpe c.args.src c.args.self.now c.requires.can true _ _ _ _
    c.clear_call-outcome.ensures.begun refl some in
    let spare = c.clear_call-outcome.ensures.left.spare in
    let room = c.requires.room.outs in
    omega (arith, jobs, spare, room)

pub finish-requires-clause-gone : goal.finish-requires-clause-gone
finish-requires-clause-gone c some =
    let caps = begun-caps c.args.setup.now c.args.kernel c.args.vpe c.args.src c.args.self.now c.requires.can true _ _ _ _
    c.clear_call-outcome.ensures.begun refl some in
    let gone = c.clear_call-outcome.ensures.left.gone in
    let room = c.requires.room.gone in
    omega (arith, caps, gone, room)

pub returns : goal.returns
returns c = record {
  row = ap (λ (t : Side). step_of c.clear_call-outcome.result.0 t) c.finish.ensures.row
      ∙ c.clear_call-outcome.ensures.row (side_of c.args.self.now);
  stores = search rules;
}
