use Rattle.std.proofs.Common.{◌∙◌}
use Rattle.sem_kernel.proofs.Beginning.{booted-more}
use Rattle.sem_kernel.proofs.world.boot_kernels.Goals as goal

pub loop-id-preserved : goal.loop-id-preserved
loop-id-preserved c = c.in_ok-push.ensures.items
    ∙ booted-more c.args.setup.now c.loop-id.id c.loop-id.kernels.items c.in_ok-boot_sharing.field-0 c.loop-id.invariant
    (rw c.in_ok-shared.ensures at c.in_ok-boot_sharing.ensures)
