use Rattle.std.proofs.Common.{◌<◌, sym, subst}
use Rattle.sem_msg.specs.Fabric.{FabricValue}
use Rattle.sem_node.proofs.KilledEntry.{put-below, put-place, put-done}
use Rattle.sem_node.proofs.killing.put.Goals as goal

pub enter-requires-clause-kernel : goal.enter-requires-clause-kernel
enter-requires-clause-kernel c = put-below c.args.kernel.now c.args.fabric.now c.args.vpe c.requires c.id-kernel_number.result c.id-kernel_number.ensures

pub enter-requires-clause-place : goal.enter-requires-clause-place
enter-requires-clause-place c = put-place c.args.kernel.now c.args.fabric.now c.args.vpe c.requires c.id-kernel_number.result c.id-kernel_number.ensures

pub next_place-placed-requires : goal.next_place-placed-requires
next_place-placed-requires c =
    subst (λ (x : FabricValue). c.id-kernel_number.result < x.kernels) (sym c.enter.ensures)
    (put-below c.args.kernel.now c.args.fabric.now c.args.vpe c.requires c.id-kernel_number.result c.id-kernel_number.ensures)

pub returns-clause-put : goal.returns-clause-put
returns-clause-put c =
    put-done c.args.kernel.now c.args.fabric.now c.args.vpe c.requires c.enter.new.self c.next_place-placed.new.fabric c.id-kernel_number.result
    c.replies.result c.enabled.result
    c.id-kernel_number.ensures c.enter.ensures c.next_place-placed.ensures.same c.replies.ensures c.enabled.ensures c.if-not-enabled.false
