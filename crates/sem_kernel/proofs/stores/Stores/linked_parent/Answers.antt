use Rattle.std.proofs.Common.{◌<◌, ◌∙◌, ap, sym, subst, rules}
use Rattle.sem_machine.specs.Machine.{is_locally_enabled}
use Rattle.sem_kernel.specs.KernelStores.{side_of}
use Rattle.sem_sound.proofs.Named.{kernel-vpe}
use Rattle.sem_kernel.proofs.Enabled.{call-here, upcall-here, resume-here}
use Rattle.sem_kernel.proofs.stores.Stores.linked_parent.Goals as goal

pub next_call-requires-clause-here : goal.next_call-requires-clause-here
next_call-requires-clause-here c = call-here c.args.setup.now c.args.kernel (side_of c.args.self.now) c.in-Call.vpe
    (ap (is_locally_enabled c.args.setup.now c.args.kernel (side_of c.args.self.now)) (sym c.in-Call.is) ∙ c.requires.enabled)

pub held_key-requires : goal.held_key-requires
held_key-requires c =
    let here = call-here c.args.setup.now c.args.kernel (side_of c.args.self.now) c.in-Call.vpe
    (ap (is_locally_enabled c.args.setup.now c.args.kernel (side_of c.args.self.now)) (sym c.in-Call.is) ∙ c.requires.enabled) in
    search (rules, here)

pub asked_parent-requires-clause-here : goal.asked_parent-requires-clause-here
asked_parent-requires-clause-here c = upcall-here c.args.setup.now c.args.kernel (side_of c.args.self.now) c.in-Upcall.vpe
    (ap (is_locally_enabled c.args.setup.now c.args.kernel (side_of c.args.self.now)) (sym c.in-Upcall.is) ∙ c.requires.enabled)

pub state-state-requires : goal.state-state-requires
state-state-requires c =
    kernel-vpe c.args.setup.now c.requires.are.setup c.in-Resume.vpe
    (subst (λ k. k < c.args.setup.now.kernels)
    (sym (resume-here c.args.setup.now c.args.kernel (side_of c.args.self.now) c.in-Resume.vpe
    (ap (is_locally_enabled c.args.setup.now c.args.kernel (side_of c.args.self.now)) (sym c.in-Resume.is) ∙ c.requires.enabled))) c.requires.are.is_one)
