use Rattle.std.proofs.Common.{◌∙◌, ap, sym}
use Rattle.sem_machine.specs.Machine.{is_locally_enabled}
use Rattle.sem_kernel.specs.KernelStores.{side_of}
use Rattle.sem_kernel.proofs.Enabled.{call-here}
use Rattle.sem_kernel.proofs.stores.Stores.opens_jobs.Goals as goal

pub next_call-requires-clause-here : goal.next_call-requires-clause-here
next_call-requires-clause-here c = call-here c.args.setup.now c.args.kernel (side_of c.args.self.now) c.in-Call.vpe
    (ap (is_locally_enabled c.args.setup.now c.args.kernel (side_of c.args.self.now)) (sym c.in-Call.is) ∙ c.requires.enabled)
