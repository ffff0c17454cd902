use Rattle.std.proofs.Common.{◌<◌, sym, subst}
use Rattle.sem_sound.proofs.Named.{kernel-vpe}
use Rattle.sem_kernel.proofs.stores.Stores.vpe_acts.Goals as goal

pub state-state-requires : goal.state-state-requires
state-state-requires c =
    kernel-vpe c.args.setup.now c.requires.are.setup c.args.own.vpe (subst (λ k. k < c.args.setup.now.kernels) (sym c.requires.here) c.requires.are.is_one)
