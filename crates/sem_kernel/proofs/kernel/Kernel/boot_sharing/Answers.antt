use Rattle.std.proofs.Common.{◌<◌, None, sym, ◌∙◌, subst}
use Rattle.sem_machine.specs.Sound.{IsSound}
use Rattle.sem_sound.proofs.Starting.{start-sound}
use Rattle.sem_kernel.specs.KernelValue.{IsKernel}
use Rattle.sem_kernel.proofs.kernel.Kernel.boot_sharing.Goals as goal

-- the setup is the shared one
pub invariant_of-result : goal.invariant_of-result
invariant_of-result c =
    let T = c.get-setup.result.now in
    let one : c.args.id < c.get-setup.result.now.kernels = rw c.get-setup.ensures c.requires in
    subst (λ S. IsKernel S c.args.id c.in_ok-stores.stores None c.in_ok-own.own.items) (c.get-setup.ensures ∙ sym c.in_ok-share.ensures) (record {
      are = record {
        setup = c.keeps_its_rules.ensures;
        is_one = one;
        stores = c.in_ok-stores.ensures.stores;
        sound = subst (IsSound T c.args.id) (sym c.in_ok-stores.ensures.side) (start-sound T c.keeps_its_rules.ensures c.args.id one);
      };
      room = tt;
      known = c.in_ok-own.ensures;
    })
