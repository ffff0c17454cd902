use Rattle.sem_kernel.specs.KernelStores.{side_of}
use Rattle.sem_kernel.proofs.Enabled.{upcall-here, upcall-asked}
use Rattle.sem_kernel.proofs.stores.Stores.upcall_next.Goals as goal

pub upcall-outcome-requires-clause-can : goal.upcall-outcome-requires-clause-can
upcall-outcome-requires-clause-can c = record {
  are = c.requires.can.are;
  here = upcall-here c.args.setup.now c.args.kernel (side_of c.args.self.now) c.args.vpe c.requires.can.enabled;
}

pub upcall-outcome-requires-clause-asked : goal.upcall-outcome-requires-clause-asked
upcall-outcome-requires-clause-asked c = upcall-asked c.args.setup.now c.args.kernel (side_of c.args.self.now) c.args.vpe c.requires.can.enabled
