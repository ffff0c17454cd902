use Rattle.std.proofs.Common.{◌≡◌, ◌<◌, sym, subst, rules}
use Rattle.sem_msg.specs.Lookups.{kernel_of}
use Rattle.sem_sound.proofs.Named.{kernel-vpe}
use Rattle.sem_kernel.proofs.stores.Stores.is_enabled.Goals as goal

pub state-requires-then-kernel_of-kernel-2 : goal.state-requires-then-kernel_of-kernel-2
state-requires-then-kernel_of-kernel-2 c =
    let here : kernel_of c.args.setup.now c.in-Resume.vpe ≡ c.args.kernel = search rules in
    kernel-vpe c.args.setup.now c.requires.setup c.in-Resume.vpe (subst (λ k. k < c.args.setup.now.kernels) (sym here) c.requires.is_one)
