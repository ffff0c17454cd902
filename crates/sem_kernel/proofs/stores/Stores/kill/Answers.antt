use Rattle.std.proofs.Common.{refl}
use Rattle.sem_machine.specs.Machine.{local_step}
use Rattle.sem_kernel.proofs.Enabled.{kill-here}
use Rattle.sem_kernel.specs.KernelStores.{side_of}
use Rattle.sem_kernel.proofs.stores.Stores.kill.Goals as goal

pub end-requires-clause-here : goal.end-requires-clause-here
end-requires-clause-here c = kill-here c.args.setup.now c.args.kernel (side_of c.args.self.now) c.args.vpe c.requires.can.enabled

pub returns : goal.returns
unfolding local_step
returns c = record {
  step = rw (c.end.ensures.row, c.nothing.ensures) refl;
  detail_is = refl;
  stores = c.end.ensures.stores;
}
