use Rattle.std.proofs.Common.{◌≡◌, true, false, refl, rules}
use Rattle.sem_kernel.specs.KernelStores.{side_of}
use Rattle.sem_kernel.specs.Ending.{ends_obtain, ends_delegate}
use Rattle.sem_kernel.proofs.Asked.{can-end, can-grant, has-code}
use Rattle.sem_machine.specs.Sides.{parked}
use Rattle.sem_kernel.proofs.stores.Stores.resume.Goals as goal

pub obtain_resume-requires-clause-waits : goal.obtain_resume-requires-clause-waits
obtain_resume-requires-clause-waits c =
    let ends : ends_obtain (parked (side_of c.args.self.now) c.args.vpe) ≡ true = search rules in
    can-end c.args.setup.now c.requires.can.are.setup c.args.kernel c.requires.can.are.is_one c.args.self.now c.requires.can.are.sound c.args.vpe
    (parked (side_of c.args.self.now) c.args.vpe) refl ends

pub returns-then-ends_obtain : goal.returns-then-ends_obtain
returns-then-ends_obtain c = record {
  row = c.obtain_resume.ensures.row c.args.setup.now (side_of c.args.self.now);
  stores = search rules;
}

pub delegate_resume-requires-clause-waits : goal.delegate_resume-requires-clause-waits
delegate_resume-requires-clause-waits c =
    let ends : ends_delegate (parked (side_of c.args.self.now) c.args.vpe) ≡ true = search rules in
    can-grant c.args.setup.now c.requires.can.are.setup c.args.kernel c.requires.can.are.is_one c.args.self.now c.requires.can.are.sound c.args.vpe
    (parked (side_of c.args.self.now) c.args.vpe) refl ends c.requires.room.child

pub returns-then-ends_delegate : goal.returns-then-ends_delegate
returns-then-ends_delegate c = record {
  row = c.delegate_resume.ensures.row (side_of c.args.self.now);
  stores = search rules;
}

pub ready_resume-requires-clause-ready : goal.ready_resume-requires-clause-ready
ready_resume-requires-clause-ready c =
    let obtains : ends_obtain (parked (side_of c.args.self.now) c.args.vpe) ≡ false = search rules in
    let delegates : ends_delegate (parked (side_of c.args.self.now) c.args.vpe) ≡ false = search rules in
    has-code (parked (side_of c.args.self.now) c.args.vpe) c.requires.resumes obtains delegates

pub returns : goal.returns
returns c = record {
  row = c.ready_resume.ensures.row c.args.setup.now (side_of c.args.self.now);
  stores = search rules;
}
