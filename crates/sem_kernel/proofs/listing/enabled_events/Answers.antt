use Rattle.std.proofs.Common.{ap, arith}
use Rattle.sem_msg.specs.Setup.{Setup}
use Rattle.sem_kernel.specs.Worlds.{world_of}
use Rattle.sem_kernel.proofs.Listings.{kernels-more, kernels-all}
use Rattle.sem_kernel.proofs.listing.enabled_events.Goals as goal

pub loop-kernel-preserved : goal.loop-kernel-preserved
loop-kernel-preserved c = kernels-more c.args.setup.now (world_of c.args.kernels.now c.args.fabric.now) c.loop-kernel.kernel c.loop-kernel.events.items
    c.append_enabled.new.out.items c.loop-kernel.invariant c.in_ok-append_enabled.ensures

pub returns-clause-ok : goal.returns-clause-ok
returns-clause-ok c = kernels-all c.args.setup.now (world_of c.args.kernels.now c.args.fabric.now) c.loop-kernel.kernel c.loop-kernel.events.items
    (omega (arith, ap (λ (S : Setup). S.kernels) c.setup.view_is)) c.loop-kernel.invariant
