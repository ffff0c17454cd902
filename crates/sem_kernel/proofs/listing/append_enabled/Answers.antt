use Rattle.std.proofs.Common.{◌≤◌, ◌++◌, sym, ◌∙◌, ap, arith}
use Rattle.std.proofs.lemmas.List.{append-nil}
use Rattle.sem_msg.specs.Setup.{Setup}
use Rattle.sem_kernel.specs.Worlds.{world_of}
use Rattle.sem_kernel.proofs.Listings.{kernels-none}
use Rattle.sem_kernel.proofs.listing.append_enabled.Goals as goal

-- no such kernel
pub returns-then-kernel-setup : goal.returns-then-kernel-setup
returns-then-kernel-setup c =
    let over : c.args.setup.now.kernels ≤ c.args.kernel = omega (arith, c.if-kernel-setup.true, ap (λ (S : Setup). S.kernels) c.setup.view_is) in
    sym (ap (λ es. c.args.out.now.items ++ es) (kernels-none c.args.setup.now (world_of c.args.kernels.now c.args.fabric.now) c.args.kernel over)
    ∙ append-nil c.args.out.now.items)
