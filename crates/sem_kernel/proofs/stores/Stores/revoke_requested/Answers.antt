use Rattle.std.proofs.Common.{◌∙◌, arith, rules}
use Rattle.sem_sound.proofs.Meeting.{ids-fit}
use Rattle.sem_kernel.proofs.Openings.{lead-home, request-middle, request-jobs, request-caps, ready-here}
use Rattle.sem_kernel.specs.KernelStores.{side_of}
use Rattle.sem_kernel.proofs.stores.Stores.revoke_requested.Goals as goal

pub revoke_request-done-requires-clause-ready : goal.revoke_request-done-requires-clause-ready
revoke_request-done-requires-clause-ready c = ready-here c.args.setup.now c.requires.are.setup c.args.kernel c.requires.are.is_one
    (side_of c.args.self.now) c.requires.are.sound c.args.key

pub revoke_request-done-requires-clause-ids : goal.revoke_request-done-requires-clause-ids
revoke_request-done-requires-clause-ids c = ids-fit c.args.setup.now c.requires.are.setup c.args.kernel c.requires.are.is_one
    (side_of c.args.self.now) c.requires.are.sound

pub revoke_request-done-requires-clause-owners : goal.revoke_request-done-requires-clause-owners
revoke_request-done-requires-clause-owners c = lead-home c.args.setup.now c.requires.are.setup c.args.kernel c.requires.are.is_one
    (side_of c.args.self.now) c.requires.are.sound

pub finish-requires-clause-sound : goal.finish-requires-clause-sound
finish-requires-clause-sound c =
    request-middle c.args.setup.now c.requires.are.setup c.args.kernel c.requires.are.is_one (side_of c.args.self.now) c.requires.are.sound c.args.from
    c.args.job c.requires.from c.requires.other c.requires.id c.args.key c.revoke_request-done.result _ c.revoke_request-done.ensures.done
    c.revoke_request-done.ensures.unmarked
    (λ some. c.revoke_request-done.ensures.opened some (side_of c.args.self.now))

pub finish-requires-clause-outs : goal.finish-requires-clause-outs
finish-requires-clause-outs c some =
    let jobs = request-jobs c.args.setup.now c.args.kernel (side_of c.args.self.now) c.args.from c.args.job c.args.key _
    (c.revoke_request-done.ensures.opened some (side_of c.args.self.now)) in
    let spare = c.revoke_request-done.ensures.spare in
    let room = c.requires.room.outs in
    omega (arith, jobs, spare, room)

pub finish-requires-clause-gone : goal.finish-requires-clause-gone
finish-requires-clause-gone c some =
    let caps = request-caps c.args.setup.now c.args.kernel (side_of c.args.self.now) c.args.from c.args.job c.args.key _
    (c.revoke_request-done.ensures.opened some (side_of c.args.self.now)) in
    let gone = c.revoke_request-done.ensures.gone in
    let room = c.requires.room.gone in
    omega (arith, caps, gone, room)

pub returns : goal.returns
returns c = record {
  row = c.finish.ensures.row ∙ c.revoke_request-done.ensures.row (side_of c.args.self.now);
  stores = search rules;
}
