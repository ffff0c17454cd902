use Rattle.std.proofs.Common.{◌∙◌, ap, sym}
use Rattle.sem_machine.specs.Machine.{is_locally_enabled}
use Rattle.sem_kernel.specs.KernelStores.{side_of}
use Rattle.sem_kernel.proofs.Enabled.{call-here, kill-here}
use Rattle.sem_kernel.proofs.stores.Stores.ended_asks.Goals as goal

pub asks-requires : goal.asks-requires
asks-requires c =
    c.requires.are.stores.vpes c.in-Call.vpe (call-here c.args.setup.now c.args.kernel (side_of c.args.self.now) c.in-Call.vpe
    (ap (is_locally_enabled c.args.setup.now c.args.kernel (side_of c.args.self.now)) (sym c.in-Call.is) ∙ c.requires.enabled))

pub asks-requires-in-Kill : goal.asks-requires-in-Kill
asks-requires-in-Kill c =
    c.requires.are.stores.vpes c.in-Kill.vpe (kill-here c.args.setup.now c.args.kernel (side_of c.args.self.now) c.in-Kill.vpe
    (ap (is_locally_enabled c.args.setup.now c.args.kernel (side_of c.args.self.now)) (sym c.in-Kill.is) ∙ c.requires.enabled))
