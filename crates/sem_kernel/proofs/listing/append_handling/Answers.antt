use Rattle.std.proofs.Common.{sym, ◌∙◌}
use Rattle.sem_msg.specs.declared.event.Act.TheVariants.{Handle}
use Rattle.sem_machine.specs.Machine.{event}
use Rattle.sem_kernel.specs.Worlds.{world_of}
use Rattle.sem_kernel.proofs.Happened.{enabled-here}
use Rattle.sem_kernel.proofs.Listings.{one-enabled, one-disabled}
use Rattle.sem_kernel.proofs.Passing.{handle-told}
use Rattle.sem_kernel.proofs.listing.append_handling.Goals as goal

pub returns-in_ok-push : goal.returns-in_ok-push
returns-in_ok-push c =
    let k = c.index-kernels-kernel.result in
    let told = sym (enabled-here c.args.setup.now c.args.kernels.now c.args.fabric.now c.requires.together c.args.kernel c.requires.few k
    c.index-kernels-kernel.is Handle) ∙ (handle-told k c.args.fabric.now ∙ sym c.is_handling.ensures) in
    c.in_ok-push.ensures.items
    ∙ one-enabled c.args.setup.now (world_of c.args.kernels.now c.args.fabric.now) (event c.args.kernel Handle) c.args.out.now.items (told
    ∙ c.if-is_handling.true)

pub returns-else-is_handling : goal.returns-else-is_handling
returns-else-is_handling c =
    let k = c.index-kernels-kernel.result in
    let told = sym (enabled-here c.args.setup.now c.args.kernels.now c.args.fabric.now c.requires.together c.args.kernel c.requires.few k
    c.index-kernels-kernel.is Handle) ∙ (handle-told k c.args.fabric.now ∙ sym c.is_handling.ensures) in
    one-disabled c.args.setup.now (world_of c.args.kernels.now c.args.fabric.now) (event c.args.kernel Handle) c.args.out.now.items (told
    ∙ c.if-is_handling.false)
